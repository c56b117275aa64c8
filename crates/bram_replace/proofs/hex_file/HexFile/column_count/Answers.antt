use Rattle.std.proofs.Common.{◌≡◌, ◌*◌, ◌/◌, length, sym, ap, ◌∙◌, arith}
use Rattle.bram_replace.specs.HexText.{Contents}
use Rattle.bram_replace.proofs.Memory.{word_count-is, columns-few}
use Rattle.bram_replace.proofs.hex_file.HexFile.column_count.Goals as goal

pub returns-clause-small : goal.returns-clause-small
returns-clause-small c =
    let d = c.self.inside.digits in
    let bits = c.self.inside.bits.items in
    let count : c.word_count.result ≡ length bits / (4 * d) = c.word_count.ensures ∙ ap (λ (v : Contents). length v.words) (sym c.self.view_is) ∙ word_count-is d bits in
    rw count (omega (arith, columns-few d bits c.self.invariant.few_bits))
