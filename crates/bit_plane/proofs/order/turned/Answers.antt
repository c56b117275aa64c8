use Rattle.std.proofs.Common.{get_or, ap, ◌∙◌, arith}
use Rattle.bit_plane.proofs.Table.{turned_bytes, turned_at}
use Rattle.bit_plane.proofs.order.turned.Goals as goal

pub returns : goal.returns
returns c =
    ap (λ k. get_or turned_bytes k 0) c.from.ensures ∙ turned_at c.args.byte (omega (arith, c.ranges.byte))
