use Rattle.port_names.proofs.IsFabric.{named-is-fabric}
use Rattle.port_names.proofs.named_law.named_module_is_fabric.Goals as goal

pub returns : goal.returns
returns c = named-is-fabric
