use Rattle.std.proofs.Common.{◌≡◌, List, length, ap, ap₂, ◌∙◌}
use Rattle.std.specs.Prelude.{filter}
use Rattle.fabric_model.specs.declared.cell.LogicCell.{LogicCell}
use Rattle.fabric_model.specs.Fabric.{flip_count}
use Rattle.fabric_model.specs.Outputs.{outputs_of}
use Rattle.fabric_wiring.proofs.output_pins.outputs.Goals as goal

pub returns : goal.returns
unfolding outputs_of
returns g c =
    let flips : c.flip_count.result ≡ flip_count g.fabric =
    c.flip_count.ensures ∙ ap (λ (lcs : List LogicCell). length (filter (λ lc. lc.flip) lcs)) (c.deref.ensures.value ∙ c.requires.lcs) in
    let pins = c.deref-2.ensures.value ∙ c.requires.pins in
    let signals : c.in_ok-signals.signals ≡ record { flips = flip_count g.fabric; pins = g.fabric.pins; plls = c.in_ok-signals.signals.plls } =
    ap₂ (λ count found. record { flips = count; pins = found; plls = c.in_ok-signals.signals.plls }) (c.in_ok-signals.ensures.flips ∙ flips) (c.in_ok-signals.ensures.pins ∙ pins) in
    rw (signals, c.deref-4.ensures.value ∙ c.requires.pins) at c.outputs_among.ensures
