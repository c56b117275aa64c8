use Rattle.std.proofs.Common.{Some, None, false, get_or, sym, ap, ◌∙◌}
use Rattle.std.specs.Prelude.{if◌then◌else◌}
use Rattle.index_search.specs.Places.{or_else}
use Rattle.pin_file.specs.PortNames.{is_place}
use Rattle.pin_file.proofs.PinSteps.{pin_at-more}
use Rattle.pin_file.proofs.port_pins.PortPins.of.Goals as goal

pub loop-pin-preserved : goal.loop-pin-preserved
loop-pin-preserved c = λ place.
    let pin = get_or c.args.pins.now c.loop-pin.pin-index (record { place = record { x = 0; y = 0; pio = 0 }; enable = false; outside = false }) in
    c.in_ok-add.ensures place
    ∙ ap (λ found. or_else found (if is_place place pin.place then Some pin else None)) (c.loop-pin.invariant place)
    ∙ sym (pin_at-more c.args.pins.now c.loop-pin.pin-index _ place c.loop-pin-test.true)
