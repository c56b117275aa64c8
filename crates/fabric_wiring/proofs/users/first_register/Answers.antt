use Rattle.fabric_wiring.proofs.Clocked.{first_on-none}
use Rattle.fabric_wiring.proofs.users.first_register.Goals as goal

pub loop-register-init : goal.loop-register-init
loop-register-init c = first_on-none c.args.device
