use Rattle.std.proofs.Common.{◌≡◌, ◌*◌, ◌%◌, ◌^◌, bit_or, ap, ◌∙◌}
use Rattle.std.proofs.Math.Nat.{mod-lt}
use Rattle.std.proofs.lemmas.Nat.{pow_pos}
use Rattle.bit_plane.specs.BitList.{word_bits}
use Rattle.bit_plane.proofs.Gained.{gained_is}
use Rattle.bit_plane.proofs.Parts.{shifted_fits}
use Rattle.bit_plane.proofs.order.gained.Goals as goal

pub returns : goal.returns
returns c =
    let moved : c.low.result * 2 ^ c.args.at % 2 ^ 64 ≡ c.args.bits % 2 ^ c.args.count * 2 ^ c.args.at = ap (λ n. n * 2 ^ c.args.at % 2 ^ 64) c.low.ensures ∙ shifted_fits (c.args.bits % 2 ^ c.args.count) c.args.at c.args.count (mod-lt c.args.bits (pow_pos c.args.count)) c.requires.count in
    ap (λ n. word_bits 64 (bit_or c.args.word n)) moved ∙ gained_is c.args.word c.args.at c.args.count c.args.bits c.requires.count
