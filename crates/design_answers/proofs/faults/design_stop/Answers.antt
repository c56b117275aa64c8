use Rattle.std.proofs.Common.{sym, ap, ap₂, ◌∙◌, ◌++◌}
use Rattle.tool_run.specs.Lines.{phrase_text}
use Rattle.design_answers.specs.Faults.{clock_text, pin_text, tile_text}
use Rattle.design_answers.proofs.faults.design_stop.Goals as goal

pub returns-in-PinMode : goal.returns-in-PinMode
returns-in-PinMode c =
    let fault = c.in-PinMode in
    rw fault.is
    (sym (c.at_tile.ensures ∙ ap₂ (λ part cause. tile_text fault.x fault.y ++ part ++ cause) (ap phrase_text c.decimal-pin.ensures ∙ ap pin_text c.from.ensures) c.pintype_phrase.ensures))

pub returns-in-TwoDrivers : goal.returns-in-TwoDrivers
returns-in-TwoDrivers c = rw c.in-TwoDrivers.is (sym c.at_net.ensures)

pub returns-in-Clock : goal.returns-in-Clock
returns-in-Clock c =
    let fault = c.in-Clock in
    rw fault.is
    (sym (c.at_tile-in-Clock.ensures ∙ ap₂ (λ part cause. tile_text fault.x fault.y ++ part ++ cause) c.user_phrase.ensures (ap phrase_text c.decimal-clock.ensures ∙ ap clock_text c.from-in-Clock.ensures)))
