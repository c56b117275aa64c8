use Rattle.std.proofs.Common.{◌≡◌, ◌*◌, ◌/◌, length, sym, ap, ◌∙◌, arith}
use Rattle.bram_replace.specs.HexText.{Contents}
use Rattle.bram_replace.proofs.Memory.{word_count-is}
use Rattle.bram_replace.proofs.hex_file.HexFile.word_count.Goals as goal

pub returns : goal.returns
returns c =
    let size : c.len.result ≡ length c.self.inside.bits.items = omega arith in
    ap (λ n. n / (4 * c.self.inside.digits)) size ∙ sym (word_count-is c.self.inside.digits c.self.inside.bits.items) ∙ ap (λ (v : Contents). length v.words) c.self.view_is
