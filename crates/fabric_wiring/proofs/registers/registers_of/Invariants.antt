use Rattle.std.proofs.Common.{◌≡◌, take, map}
use Rattle.std.specs.Prelude.{filter}
use Rattle.fabric_model.specs.declared.cell.LogicCell.{LogicCell}
use Rattle.fabric_model.specs.Registers.{register_of}
use Rattle.fabric_wiring.proofs.registers.registers_of.Given as goal

abbrev pub invariant-loop-lc : goal.invariant-loop-lc
invariant-loop-lc l = l.registers.items ≡ map (register_of l.inputs) (filter (λ (lc : LogicCell). lc.flip) (take l.lc-index l.lcs))
