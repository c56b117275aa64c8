use Rattle.std.proofs.Common.{◌≡◌, map, take}
use Rattle.std.specs.Prelude.{flat_map, filter}
use Rattle.fabric_model.specs.Pins.{drives}
use Rattle.fabric_wiring.specs.Outputs.{output_of, outputs_from}
use Rattle.fabric_wiring.proofs.output_pins.outputs_among.Given as goal

abbrev pub invariant-loop-pin : goal.invariant-loop-pin
invariant-loop-pin l = map output_of l.outputs.items ≡ flat_map (outputs_from l.signals) (filter drives (take l.pin-index l.pins))
