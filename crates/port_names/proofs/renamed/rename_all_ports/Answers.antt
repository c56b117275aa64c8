use Rattle.std.proofs.Common.{arith}
use Rattle.port_names.specs.Listed.{given_by}
use Rattle.port_names.specs.Renamed.{renamed_port}
use Rattle.port_names.proofs.Given.{exchanged-next}
use Rattle.port_names.proofs.renamed.rename_all_ports.Goals as goal

pub loop-port-preserved : goal.loop-port-preserved
loop-port-preserved c =
    exchanged-next (renamed_port (given_by c.args.renaming.now)) c.args.ports.now c.loop-port.ports c.loop-port.port-index c.port-item.result c.rename_port.new.port (omega arith) c.loop-port.invariant
    c.in_ok-rename_port.ensures
