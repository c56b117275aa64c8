use Rattle.std.proofs.Common.{arith, ap, flat_map, subst, sym, take_all}
use Rattle.vlog_semantics.specs.Held.{Holds}
use Rattle.vlog_semantics.specs.Plans.{blank_output}
use Rattle.vlog_semantics.proofs.Filling.{flat_map-more}
use Rattle.vlog_semantics.proofs.build.blank_outputs.Goals as goal

pub loop-port-preserved : goal.loop-port-preserved
loop-port-preserved c =
    subst (Holds c.add_output.new.outputs) (sym (flat_map-more blank_output c.args.ports.now c.loop-port.port-index c.port-item.result (omega arith) c.port-item.is))
    (c.in_ok-add_output.ensures _ c.loop-port.invariant)

pub returns : goal.returns
returns c =
    subst (Holds c.loop-port.outputs) (ap (flat_map blank_output) (take_all c.loop-port.port-index c.args.ports.now (omega arith))) c.loop-port.invariant
