use Rattle.std.proofs.Common.{arith}
use Rattle.fabric_model.specs.Drivers.{ram_drives}
use Rattle.fabric_model.proofs.Numbered.{numbered-none, numbered-more}
use Rattle.fabric_wiring.proofs.rams.append_rams.Goals as goal

pub loop-i-init : goal.loop-i-init
loop-i-init c = numbered-none ram_drives c.args.rams.now _

pub loop-i-preserved : goal.loop-i-preserved
loop-i-preserved c = numbered-more ram_drives c.args.rams.now c.loop-i.i _ _ _ _ (omega arith) c.loop-i.invariant (rw c.in_ok-place_of.ensures at c.in_ok-append_ram.ensures)
