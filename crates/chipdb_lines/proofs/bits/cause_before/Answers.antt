use Rattle.std.proofs.Common.{◌≡◌, false, ap, ◌∙◌, refl}
use Rattle.std.specs.Prelude.{None, is_some}
use Rattle.chipdb_lines.specs.Words.{bit_of, bits_of, words_in}
use Rattle.chipdb_lines.proofs.TableBits.{none-by, some-by, some_bits-more, some_bits-nothing}
use Rattle.chipdb_lines.proofs.bits.cause_before.Goals as goal

pub returns-then-is_none : goal.returns-then-is_none
returns-then-is_none c =
    let none : bit_of c.in-Some.word.now ≡ None = none-by c.bit_of.result c.is_none.result _ _ c.is_none.ensures c.if-is_none.true c.bit_of.ensures in
    let first : is_some (bits_of (words_in c.loop-word.left.now)) ≡ false =
    ap (λ ws. is_some (bits_of ws)) c.in-Some.ensures.words ∙ some_bits-more c.in-Some.word.now (words_in c.in-Some.rest.now) ∙ rw none refl in
    rw (c.loop-word.invariant ∙ first) refl

pub loop-word-preserved : goal.loop-word-preserved
loop-word-preserved c =
    let named = some-by c.bit_of.result c.is_none.result _ _ c.is_none.ensures c.if-is_none.false c.bit_of.ensures in
    let is = named.1 in
    c.loop-word.invariant ∙ ap (λ ws. is_some (bits_of ws)) c.in-Some.ensures.words ∙ some_bits-more c.in-Some.word.now (words_in c.in-Some.rest.now) ∙ rw is refl

pub returns : goal.returns
returns c = rw (c.loop-word.invariant ∙ ap (λ ws. is_some (bits_of ws)) c.in_default.ensures.words ∙ some_bits-nothing) refl
