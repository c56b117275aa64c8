use Rattle.std.proofs.Common.{◌+◌, ◌*◌, ap₂, ◌∙◌, arith}
use Rattle.bram_replace.proofs.Putting.{word-bytes, line-there}
use Rattle.bram_replace.proofs.ram.put_line.Goals as goal

pub loop-index-preserved : goal.loop-index-preserved
loop-index-preserved c =
    let i = c.loop-index.invariant in
    let two = ap₂ (λ high low. 256 * high + low) c.from-high.ensures c.from-low.ensures in
    record {
      there = line-there c.loop-index.bits c.put_word.new.bits c.args.line.now c.args.row c.loop-index.index _ i.there c.put_word.ensures.before c.put_word.ensures.there
          (word-bytes c.ram_line_bytes-bytes.result c.args.line.now c.loop-index.index _ c.ram_line_bytes-bytes.ensures two);
      before = λ word bit few low. c.put_word.ensures.before word bit (omega arith) low ∙ i.before word bit few low;
    }
