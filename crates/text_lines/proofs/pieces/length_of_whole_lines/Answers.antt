use Rattle.text_lines.proofs.WholeLines.{whole-none, whole-at_lf}
use Rattle.text_lines.proofs.pieces.length_of_whole_lines.Goals as goal

pub returns-then-text-len-eq10-clause-whole : goal.returns-then-text-len-eq10-clause-whole
returns-then-text-len-eq10-clause-whole c = whole-at_lf c.args.text.now c.loop-len.len c.loop-len-test.true c.loop-len.invariant.0 c.if-text-len-eq10.true

pub returns-clause-whole : goal.returns-clause-whole
returns-clause-whole c = whole-none
