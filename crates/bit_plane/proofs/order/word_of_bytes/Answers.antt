use Rattle.std.proofs.Common.{◌-◌, ap, ◌∙◌, arith}
use Rattle.std.specs.Int.{bit_at}
use Rattle.bit_plane.proofs.Turned.{reversed-number}
use Rattle.bit_plane.proofs.order.word_of_bytes.Goals as goal

pub returns : goal.returns
returns c =
    reversed-number c.args.bytes.now c.reversed.result c.requires (λ i. omega (arith, c.type_inv.bytes i)) (λ k within. c.reversed.ensures k within ∙ ap (λ n. bit_at n (63 - k)) c.from_be_bytes.ensures)
