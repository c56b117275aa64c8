use Rattle.std.proofs.Common.{◌/◌, ◌%◌, false, get_or, ap, arith}
use Rattle.std.proofs.lemmas.List.{length-replicate}
use Rattle.bram_replace.specs.ReadModes.{by_columns}
use Rattle.bram_replace.specs.Rams.{listed}
use Rattle.bram_replace.proofs.Orders.{filled-all, filled-more, filled-size}
use Rattle.bram_replace.proofs.order.by_columns.Goals as goal

pub loop-index-init : goal.loop-index-init
loop-index-init c = record { size = length-replicate 4096 false; filled = λ k below. absurd (omega arith) }

pub loop-index-preserved : goal.loop-index-preserved
loop-index-preserved c =
    let i = c.loop-index.invariant in
    record {
      size = filled-size c.loop-index.columns c.loop-index.index _ i.size;
      filled = filled-more c.loop-index.columns c.loop-index.index _ (λ k. by_columns c.args.mode (listed c.args.bits.now) (k / 16) (k % 16)) (omega (arith, i.size)) i.filled
          (ap (λ n. get_or c.args.bits.now n false) c.kept_at.ensures.is);
    }

pub returns : goal.returns
returns c = filled-all c.loop-index.columns c.loop-index.index (by_columns c.args.mode (listed c.args.bits.now)) (omega arith) c.loop-index.invariant.filled
