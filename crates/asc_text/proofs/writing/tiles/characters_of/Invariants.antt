use Rattle.std.proofs.Common.{◌≡◌, ℕ, ◌<◌, length, get_or}
use Rattle.ice_image.specs.Bits.{number_bit}
use Rattle.asc_text.specs.Canonical.{bit_character}
use Rattle.asc_text.proofs.writing.tiles.characters_of.Given as goal

abbrev pub invariant-loop-col : goal.invariant-loop-col
invariant-loop-col l = record {
  size : length l.characters ≡ 64;
  written : (k : ℕ) → k < l.col → get_or l.characters k 0 ≡ bit_character (number_bit l.bits k);
}
