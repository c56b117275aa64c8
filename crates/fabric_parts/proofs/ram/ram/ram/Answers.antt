use Rattle.fabric_model.specs.Rams.{ram_at}
use Rattle.fabric_parts.proofs.ram.ram.ram.Goals as goal

pub returns : goal.returns
unfolding ram_at
returns c = cc
