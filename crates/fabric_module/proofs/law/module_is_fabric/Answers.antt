use Rattle.fabric_module.proofs.IsFabric.{module-is-fabric}
use Rattle.fabric_module.proofs.law.module_is_fabric.Goals as goal

pub returns : goal.returns
returns c = module-is-fabric
