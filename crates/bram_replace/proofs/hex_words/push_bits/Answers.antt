use Rattle.std.proofs.Common.{◌-◌, ◌++◌, get_or, drop, sym, ap, ◌∙◌, arith, append-nil, append_assoc}
use Rattle.std.specs.Prelude.{flat_map, reverse}
use Rattle.bram_replace.specs.HexText.{byte_bits}
use Rattle.bram_replace.proofs.HexWords.{bits_in-none, bits_in-more, bits_in-all}
use Rattle.bram_replace.proofs.hex_words.push_bits.Goals as goal

pub loop-index-init : goal.loop-index-init
loop-index-init c = sym (ap (λ xs. c.args.bits.now.items ++ xs) (bits_in-none c.args.word.now) ∙ append-nil c.args.bits.now.items)

pub loop-index-preserved : goal.loop-index-preserved
loop-index-preserved c =
    let word = c.args.word.now in
    let i = c.loop-index.index in
    c.in_ok-push_digit.ensures
    ∙ ap (λ xs. xs ++ byte_bits (get_or word (i - 1) 0)) c.loop-index.invariant
    ∙ append_assoc c.args.bits.now.items (flat_map byte_bits (reverse (drop i word))) (byte_bits (get_or word (i - 1) 0))
    ∙ ap (λ xs. c.args.bits.now.items ++ xs) (sym (bits_in-more word i (omega arith) (omega arith)))

pub returns : goal.returns
returns c = c.loop-index.invariant ∙ ap (λ xs. c.args.bits.now.items ++ xs) (bits_in-all c.args.word.now c.loop-index.index (omega arith))
