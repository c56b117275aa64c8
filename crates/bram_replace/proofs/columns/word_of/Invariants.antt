use Rattle.std.proofs.Common.{◌≡◌, ◌+◌, ◌-◌, ◌*◌, false, get_or}
use Rattle.std.specs.Prelude.{map}
use Rattle.std.specs.List.{range_with_len}
use Rattle.bit_plane.specs.BitList.{word_of}
use Rattle.bram_replace.proofs.columns.word_of.Given as goal

abbrev pub invariant-loop-place : goal.invariant-loop-place
invariant-loop-place l = l.word ≡ word_of (map (λ place. get_or l.bits (l.first + place * l.step) false) (range_with_len l.place (l.count - l.place)))
