use Rattle.std.proofs.Common.{true, false, ap, cond, get_or, ◌∙◌}
use Rattle.vlog_engine.specs.Lanes.{lane_bits}
use Rattle.vlog_engine.proofs.Steps.{flip-acts, flip-rests, in-each}
use Rattle.vlog_engine.proofs.changes.settle_change.Goals as goal

pub returns : goal.returns
returns g c lane next within =
    let at = g.V.Value.at in
    let settle = c.args.settle.now in
    flip-acts (at c.args.active lane) true (get_or (lane_bits at lane c.args.cells.now) settle.wire false) (at c.both-lanes.result lane) next settle.target (at c.every.result lane) settle.set
    (c.both-lanes.ensures lane within ∙ ap (λ e. cond (at c.args.active lane) e false) (c.cell_at.ensures.bits lane within)
    ∙ in-each (at c.args.active lane) (get_or (lane_bits at lane c.args.cells.now) settle.wire false)) (c.every.ensures lane within)

pub returns-then-is_none : goal.returns-then-is_none
returns-then-is_none g c lane next within =
    let at = g.V.Value.at in
    let settle = c.args.settle.now in
    flip-rests (at c.args.active lane) true (get_or (lane_bits at lane c.args.cells.now) settle.wire false) (at c.both-lanes.result lane) next settle.target settle.set
    (c.both-lanes.ensures lane within ∙ ap (λ e. cond (at c.args.active lane) e false) (c.cell_at.ensures.bits lane within)
    ∙ in-each (at c.args.active lane) (get_or (lane_bits at lane c.args.cells.now) settle.wire false)) (c.is_none.ensures c.if-is_none.true lane within)
