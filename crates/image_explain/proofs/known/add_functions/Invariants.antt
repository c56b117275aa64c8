use Rattle.std.proofs.Common.{take}
use Rattle.std.specs.Prelude.{slice_get}
use Rattle.std.specs.List.{list_any}
use Rattle.chipdb_reader.specs.Kept.{database_in}
use Rattle.image_explain.specs.Inside.{Adds}
use Rattle.image_explain.specs.Items.{is_in_function}
use Rattle.image_explain.proofs.known.add_functions.Given as goal

abbrev pub invariant-loop-place : goal.invariant-loop-place
invariant-loop-place l = Adds (λ row col. list_any (λ place. is_in_function row col (slice_get (database_in l.db).functions place)) (take l.place-index l.places)) l.initial.known l.known
