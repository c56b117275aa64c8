use Rattle.fabric_model.specs.Registers.{pin_registers_of}
use Rattle.fabric_parts.proofs.io.registers.pin_registers.Goals as goal

pub returns : goal.returns
unfolding pin_registers_of
returns c = rw (c.in_ok-signals.ensures.flips, c.in_ok-signals.ensures.pins) at c.registers.ensures
