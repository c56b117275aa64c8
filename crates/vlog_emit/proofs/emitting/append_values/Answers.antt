use Rattle.std.proofs.Common.{◌<◌, sym, subst}
use Rattle.std.specs.Prelude.{All}
use Rattle.vlog_emit.specs.Each.{nets_in, IsSignalIn}
use Rattle.vlog_emit.proofs.Within.{order-within, outputs-within}
use Rattle.vlog_emit.proofs.emitting.append_values.Goals as goal

pub append_wires-requires-clause-within : goal.append_wires-requires-clause-within
append_wires-requires-clause-within c = subst (All (λ class. class < nets_in c.args.design.now)) (sym c.order.ensures.order) (order-within c.args.design.now c.order.ensures.design)

pub append_outputs-requires : goal.append_outputs-requires
append_outputs-requires c =
    subst (All (λ output. IsSignalIn c.args.design.now output.source)) (sym c.outputs.ensures.outputs) (outputs-within c.args.design.now c.outputs.ensures.design)
