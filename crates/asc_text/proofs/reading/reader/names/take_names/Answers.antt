use Rattle.asc_text.proofs.NameLines.{one-more-name}
use Rattle.asc_text.proofs.reading.reader.names.take_names.Goals as goal

pub loop-count-preserved : goal.loop-count-preserved
loop-count-preserved c s expected outside =
    one-more-name s c.args.text.now c.loop-count.left.now c.in-Some.rest.now c.loop-count.count (c.loop-count.invariant s expected outside) (c.in-Some.ensures s expected outside)
