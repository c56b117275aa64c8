use Rattle.std.proofs.Common.{subst}
use Rattle.std.proofs.lemmas.Result.{IfOk-weaker}
use Rattle.design_answers.specs.Pins.{HasPins}
use Rattle.design_answers.proofs.pins.package_pins.Goals as goal

pub returns-in-Some : goal.returns-in-Some
returns-in-Some c =
    IfOk-weaker c.finish.result _ _ (λ kept is package_name text has. is package_name text (subst (HasPins package_name text) c.in-Some.is has)) c.finish.ensures.pins
