use Rattle.std.proofs.Common.{◌≡◌, ◌++◌, map, take}
use Rattle.fabric_model.specs.InputPorts.{inputs_among, pll_input}
use Rattle.fabric_model.proofs.input_ports.inputs_with.Given as goal

abbrev pub invariant-loop-port : goal.invariant-loop-port
invariant-loop-port l = l.inputs.items ≡ inputs_among l.pins ++ map pll_input (take l.port-index l.plls)
