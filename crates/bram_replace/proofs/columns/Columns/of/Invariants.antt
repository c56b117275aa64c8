use Rattle.std.proofs.Common.{◌≡◌}
use Rattle.std.specs.Ordering.{nat_cmp}
use Rattle.std.specs.Cmp.Lexicographic.{slice_cmp}
use Rattle.std.specs.BTreeMap.{get}
use Rattle.bram_replace.specs.Packed.{Finds, repeat_told, first_repeat}
use Rattle.bram_replace.proofs.columns.Columns.of.Given as goal

abbrev pub invariant-loop-place : goal.invariant-loop-place
invariant-loop-place l = record {
  finds : Finds l.file l.place (get (slice_cmp nat_cmp) l.first.places);
  told : repeat_told l.first.repeat ≡ first_repeat l.file l.place;
}
