use Rattle.std.proofs.Common.{refl}
use Rattle.pin_file.proofs.PackageSteps.{HasTaken-nothing}
use Rattle.pin_file.proofs.pin_lines.PinLines.new.Goals as goal

pub returns : goal.returns
returns c = HasTaken-nothing c.args.name.now _ c.in_ok-name.ensures.items refl c.new.ensures.unknown c.new.ensures.empty
