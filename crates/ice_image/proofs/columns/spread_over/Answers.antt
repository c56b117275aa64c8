use Rattle.std.proofs.Common.{slice_index, arith}
use Rattle.ice_image.proofs.Spread.{spread-more, spread-none}
use Rattle.ice_image.proofs.columns.spread_over.Goals as goal

pub loop-col-init : goal.loop-col-init
loop-col-init c = spread-none (slice_index c.args.columns.now) c.args.row_bits

pub loop-col-preserved : goal.loop-col-preserved
loop-col-preserved c =
    spread-more (slice_index c.args.columns.now) c.loop-col.col c.args.row_bits c.loop-col.spread c.loop-col.invariant (λ k within. c.requires k (omega arith))
