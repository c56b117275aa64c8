use Rattle.std.proofs.Common.{◌≡◌, map, take}
use Rattle.chipdb_reader.specs.Kept.{database_in}
use Rattle.image_explain.specs.Explained.{extra_text}
use Rattle.image_explain.specs.Inside.{lists_of}
use Rattle.image_explain.proofs.extras.extra_names.Given as goal

abbrev pub invariant-loop-at : goal.invariant-loop-at
invariant-loop-at l = lists_of l.names.items ≡ map (extra_text (database_in l.db).extras) (take l.at-index l.places)
