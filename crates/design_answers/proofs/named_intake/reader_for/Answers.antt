use Rattle.std.proofs.Common.{[], subst, sym}
use Rattle.std.specs.Result.{result_ok}
use Rattle.design_answers.specs.Pins.{HasPins}
use Rattle.design_answers.proofs.NamedIntakes.{ok-kept}
use Rattle.design_answers.proofs.named_intake.reader_for.Goals as goal

pub returns : goal.returns
returns c =
    subst (HasPins c.args.package_name.now []) (sym c.ok.ensures.value)
    (subst (λ name. HasPins name [] (result_ok c.new.result)) c.as_bytes.ensures.value (ok-kept _ _ _ c.new.ensures.stands))
