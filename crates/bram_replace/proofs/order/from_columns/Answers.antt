use Rattle.std.proofs.Common.{◌/◌, ◌%◌, false, get_or, ap, arith}
use Rattle.std.proofs.lemmas.List.{length-replicate}
use Rattle.bram_replace.specs.ReadModes.{column_in, place_in}
use Rattle.bram_replace.specs.Rams.{listed}
use Rattle.bram_replace.proofs.Orders.{filled-all, filled-more, filled-size}
use Rattle.bram_replace.proofs.order.from_columns.Goals as goal

pub loop-index-init : goal.loop-index-init
loop-index-init c = record { size = length-replicate 4096 false; filled = λ k below. absurd (omega arith) }

pub loop-index-preserved : goal.loop-index-preserved
loop-index-preserved c =
    let i = c.loop-index.invariant in
    record {
      size = filled-size c.loop-index.bits c.loop-index.index _ i.size;
      filled = filled-more c.loop-index.bits c.loop-index.index _ (λ k. listed c.args.columns.now (place_in c.args.mode (k / 16) (k % 16)) (column_in c.args.mode (k / 16) (k % 16))) (omega (arith, i.size)) i.filled
          (ap (λ n. get_or c.args.columns.now n false) c.stands_at.ensures.is);
    }

pub returns : goal.returns
returns c = filled-all c.loop-index.bits c.loop-index.index (λ word bit. listed c.args.columns.now (place_in c.args.mode word bit) (column_in c.args.mode word bit)) (omega arith) c.loop-index.invariant.filled
