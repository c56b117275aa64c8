use Rattle.std.proofs.Common.{◌==◌, ap, ◌∙◌, length-set, arith}
use Rattle.std.proofs.lemmas.Nat.Bits.{shr_and_one}
use Rattle.asc_text.specs.Canonical.{bit_character}
use Rattle.asc_text.proofs.Pieces.{characters-more}
use Rattle.asc_text.proofs.writing.tiles.characters_of.Goals as goal

pub loop-col-preserved : goal.loop-col-preserved
loop-col-preserved c = record {
  size = length-set c.loop-col.characters c.loop-col.col c.bit_character.result ∙ c.loop-col.invariant.size;
  written = characters-more c.args.bits c.loop-col.col c.bit_character.result c.loop-col.characters (omega (arith, c.loop-col.invariant.size)) c.loop-col.invariant.written (c.bit_character.ensures ∙ ap (λ n. bit_character (n == 1)) (shr_and_one c.args.bits c.loop-col.col));
}
