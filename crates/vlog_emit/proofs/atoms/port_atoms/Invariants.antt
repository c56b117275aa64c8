use Rattle.std.proofs.Common.{◌≡◌, take}
use Rattle.fabric_module.specs.Rights.{port_atoms}
use Rattle.vlog_emit.specs.Each.{EachFabric}
use Rattle.vlog_emit.proofs.atoms.port_atoms.Given as goal

abbrev pub invariant-loop-net : goal.invariant-loop-net
invariant-loop-net l = EachFabric l.design (λ fabric. l.atoms ≡ port_atoms fabric (take l.net-index l.ports))
