use Rattle.std.proofs.Common.{◌≡◌, ◌<◌, ℕ, false, get_or}
use Rattle.ice_image.specs.Either.{configuration_of}
use Rattle.chipdb_reader.specs.declared.items.Function.{Function}
use Rattle.chipdb_reader.specs.Kept.{database_in, function_line}
use Rattle.fabric_model.specs.Plls.{is_unnamed_on}
use Rattle.fabric_plls.proofs.unnamed.has_unnamed.Given as goal

abbrev pub invariant-loop-function : goal.invariant-loop-function
invariant-loop-function l =
    (k : ℕ) (d : Function) → k < l.function-index → is_unnamed_on (database_in l.db) (configuration_of l.image) l.x l.y (function_line l.db.texts l.db.bits (get_or l.function-items k d)) ≡ false
