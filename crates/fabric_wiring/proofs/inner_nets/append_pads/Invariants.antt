use Rattle.std.proofs.Common.{◌≡◌, ◌++◌, map, take}
use Rattle.std.specs.Prelude.{flat_map}
use Rattle.fabric_wiring.specs.Outputs.{pad_from}
use Rattle.fabric_wiring.specs.Drives.{drive_of}
use Rattle.fabric_wiring.proofs.inner_nets.append_pads.Given as goal

abbrev pub invariant-loop-pin : goal.invariant-loop-pin
invariant-loop-pin l = map drive_of l.drives.items ≡ map drive_of l.initial.drives.items ++ flat_map (pad_from l.signals) (take l.pin-index l.pins)
