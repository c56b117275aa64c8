use Rattle.text_lines.specs.Lines.{lines_of}
use Rattle.pin_file.proofs.PackageSteps.{Going-all, Going-first, Going-nothing, lack-told}
use Rattle.pin_file.proofs.pin_lines.PinLinesLineTaker.take_lines.Goals as goal

pub loop-line-init : goal.loop-line-init
loop-line-init c = Going-nothing c.args.text.now c.args.self.now

pub loop-line-preserved : goal.loop-line-preserved
loop-line-preserved c =
    Going-first c.args.text.now c.loop-line.left.now c.in-Some.line.content.now c.in-Some.line.rest.now c.args.self.now c.loop-line.self c.take_line.new.self
    c.loop-line.invariant c.in-Some.ensures.lines c.in_ok-take_line.ensures

pub returns-in_err-take_line-clause-refused : goal.returns-in_err-take_line-clause-refused
returns-in_err-take_line-clause-refused c = lack-told c.args.self.now (lines_of c.args.text.now) c.from_residual.result

pub returns-clause-taken : goal.returns-clause-taken
returns-clause-taken c = Going-all c.args.text.now c.loop-line.left.now c.args.self.now c.loop-line.self c.loop-line.invariant c.in_default.ensures.lines
