use Rattle.std.proofs.Common.{arith}
use Rattle.fabric_model.specs.Drivers.{input_drives}
use Rattle.fabric_model.proofs.Numbered.{numbered-none, numbered-more}
use Rattle.fabric_wiring.proofs.registers.append_inputs.Goals as goal

pub loop-i-init : goal.loop-i-init
loop-i-init c = numbered-none input_drives c.args.registers.now _

pub loop-i-preserved : goal.loop-i-preserved
loop-i-preserved c = numbered-more input_drives c.args.registers.now c.loop-i.i _ _ _ _ (omega arith) c.loop-i.invariant (rw c.in_ok-place_of.ensures at c.in_ok-append_input.ensures)
