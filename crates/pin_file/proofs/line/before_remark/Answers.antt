use Rattle.std.proofs.Common.{sym}
use Rattle.pin_file.proofs.LineSteps.{before-remark, no-remark}
use Rattle.pin_file.proofs.line.before_remark.Goals as goal

pub returns-in-Some : goal.returns-in-Some
returns-in-Some c = before-remark c.args.line.now c.in-Some.offset (sym c.in-Some.ensures.offset)

pub returns-in-None : goal.returns-in-None
returns-in-None c = no-remark c.args.line.now (sym c.in-None.ensures.offset)
