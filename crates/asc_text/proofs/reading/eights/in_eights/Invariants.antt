use Rattle.std.proofs.Common.{◌≡◌, ◌-◌, ◌%◌, ◌≤◌, length, drop, map}
use Rattle.std.specs.List.{list_all}
use Rattle.bit_plane.specs.BitList.{word_of}
use Rattle.asc_text.specs.inside.RowNumbers.{is_bit, is_odd}
use Rattle.asc_text.proofs.reading.eights.in_eights.Given as goal

abbrev pub invariant-loop-place : goal.invariant-loop-place
invariant-loop-place l = record {
  following : l.start ≤ l.place;
  within : l.place ≤ length l.line;
  whole : (l.place - l.start) % 8 ≡ 0;
  ones : l.ones ≡ word_of (drop l.place (map is_odd l.line));
  bits : l.are_bits ≡ list_all is_bit (drop l.place l.line);
}

abbrev pub decreases-loop-place : goal.decreases-loop-place
decreases-loop-place l = l.place
