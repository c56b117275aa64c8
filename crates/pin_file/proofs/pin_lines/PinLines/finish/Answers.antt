use Rattle.pin_file.proofs.PackageSteps.{kept-is}
use Rattle.pin_file.proofs.pin_lines.PinLines.finish.Goals as goal

pub returns : goal.returns
returns c = λ name lines has. kept-is name lines c.args.self has
