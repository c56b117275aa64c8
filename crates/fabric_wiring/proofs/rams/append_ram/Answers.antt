use Rattle.std.proofs.Common.{arith}
use Rattle.fabric_model.specs.Drivers.{ram_drive}
use Rattle.fabric_model.proofs.Numbered.{numbered-none, numbered-more}
use Rattle.fabric_wiring.proofs.rams.append_ram.Goals as goal

pub loop-bit-init : goal.loop-bit-init
loop-bit-init c = numbered-none (ram_drive (c.args.place, c.args.ram.now)) c.args.ram.now.rdata _

pub loop-bit-preserved : goal.loop-bit-preserved
loop-bit-preserved c =
    numbered-more (ram_drive (c.args.place, c.args.ram.now)) c.args.ram.now.rdata c.loop-bit.bit _ _ _ _ (omega arith) c.loop-bit.invariant (rw c.read_data_rule-rule.ensures at c.in_ok-push_if.ensures)
