use Rattle.std.proofs.Common.{take}
use Rattle.std.specs.Prelude.{slice_get}
use Rattle.std.specs.List.{list_any}
use Rattle.chipdb_reader.specs.Kept.{link_lines}
use Rattle.image_explain.specs.Inside.{Adds}
use Rattle.image_explain.specs.Items.{is_one_in}
use Rattle.image_explain.proofs.known.add_links.Given as goal

abbrev pub invariant-loop-place : goal.invariant-loop-place
invariant-loop-place l = Adds (λ row col. list_any (λ place. is_one_in row col (slice_get (link_lines l.db.bits l.links) place)) (take l.place-index l.places)) l.initial.known l.known
