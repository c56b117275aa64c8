use Rattle.std.proofs.Common.{refl}
use Rattle.std.proofs.lemmas.Result.{on_ok_weaker}
use Rattle.pin_file.proofs.PackageSteps.{below-nothing, takes-pin}
use Rattle.pin_file.proofs.pin_lines.PinLines.take_pin.Goals as goal

pub returns-in-None : goal.returns-in-None
returns-in-None c = below-nothing c.args.self.now c.args.line.now c.requires.other c.in-None.ensures

pub returns-in-Some : goal.returns-in-Some
returns-in-Some c =
    on_ok_weaker c.add.result (λ places.
    takes-pin c.args.self.now _ c.args.line.now c.in-Some.pin.now c.in-Some.place c.requires.other c.requires.below refl refl c.add.ensures.known c.in-Some.ensures places) c.add.ensures.places
