use Rattle.std.proofs.Common.{arith}
use Rattle.asc_text.proofs.Packed.{eight-taken}
use Rattle.asc_text.proofs.reading.eights.eight_at.Goals as goal

pub returns-clause-ones : goal.returns-clause-ones
returns-clause-ones c = c.packed.ensures _ (eight-taken c.args.line.now c.args.start c.requires (λ i. omega (arith, c.type_inv.line i))) c.word_at-word.ensures

pub returns-clause-bits : goal.returns-clause-bits
returns-clause-bits c = c.are_bits.ensures _ (eight-taken c.args.line.now c.args.start c.requires (λ i. omega (arith, c.type_inv.line i))) c.word_at-word.ensures
