use Rattle.std.proofs.Common.{sym, ◌∙◌}
use Rattle.pin_file.proofs.PackageSteps.{above-nothing}
use Rattle.pin_file.proofs.pin_lines.PinLines.take_line.Goals as goal

pub returns : goal.returns
returns c = above-nothing c.args.self.now c.args.line.now (sym c.is_statement.ensures ∙ c.if-is_statement.false) c.if-self.false
