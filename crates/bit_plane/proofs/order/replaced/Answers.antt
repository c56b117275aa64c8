use Rattle.std.proofs.Common.{◌≡◌, ◌*◌, ◌%◌, ◌/◌, ◌^◌, ap, ◌∙◌}
use Rattle.std.specs.Int.RustNames.{bit_xor}
use Rattle.std.proofs.Math.Nat.{mod-lt}
use Rattle.std.proofs.lemmas.Nat.{pow_pos}
use Rattle.bit_plane.specs.BitList.{word_bits}
use Rattle.bit_plane.proofs.Parts.{replaced_is, shifted_fits}
use Rattle.bit_plane.proofs.order.replaced.Goals as goal

pub returns : goal.returns
returns c =
    let change = bit_xor (c.args.word / 2 ^ c.args.at) c.args.bits in
    let moved : c.low.result * 2 ^ c.args.at % 2 ^ 64 ≡ change % 2 ^ c.args.count * 2 ^ c.args.at = ap (λ n. n * 2 ^ c.args.at % 2 ^ 64) c.low.ensures ∙ shifted_fits (change % 2 ^ c.args.count) c.args.at c.args.count (mod-lt change (pow_pos c.args.count)) c.requires.count in
    ap (λ n. word_bits 64 (bit_xor c.args.word n)) moved ∙ replaced_is c.args.word c.args.at c.args.count c.args.bits c.requires.count
