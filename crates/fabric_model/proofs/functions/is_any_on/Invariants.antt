use Rattle.std.proofs.Common.{◌≡◌, ◌<◌, ℕ, false, get_or}
use Rattle.ice_image.specs.Either.{configuration_of}
use Rattle.chipdb_reader.specs.declared.items.Function.{Function}
use Rattle.chipdb_reader.specs.Kept.{function_line}
use Rattle.fabric_model.specs.TilesOfKind.{begins_and_is_on}
use Rattle.fabric_model.proofs.functions.is_any_on.Given as goal

abbrev pub invariant-loop-function : goal.invariant-loop-function
invariant-loop-function l =
    (k : ℕ) (d : Function) → k < l.function-index → begins_and_is_on (configuration_of l.image) l.kind l.x l.y l.beginning (function_line l.db.texts l.db.bits (get_or l.function-items k d)) ≡ false
