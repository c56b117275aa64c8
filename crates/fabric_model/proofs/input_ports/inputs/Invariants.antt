use Rattle.std.proofs.Common.{◌≡◌, take}
use Rattle.fabric_model.specs.InputPorts.{inputs_among}
use Rattle.fabric_model.proofs.input_ports.inputs.Given as goal

abbrev pub invariant-loop-pin : goal.invariant-loop-pin
invariant-loop-pin l = l.inputs.items ≡ inputs_among (take l.pin-index l.pins)
