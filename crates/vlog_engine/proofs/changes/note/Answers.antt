use Rattle.std.proofs.Common.{ap, fold, sym, take, ◌∙◌}
use Rattle.vlog_engine.specs.Changes.{change_slot, changed_by}
use Rattle.vlog_engine.proofs.Steps.{fold-noted}
use Rattle.vlog_engine.proofs.changes.note.Goals as goal

pub returns-in-Some-clause-noted : goal.returns-in-Some-clause-noted
returns-in-Some-clause-noted g c lane next =
    let changes = c.args.changes.now in
    let step = change_slot g.V.Value.at lane in
    fold-noted step next changes c.args.count c.in-Some.change c.requires
    ∙ sym (ap (changed_by g.V.Value.at lane (fold step next (take c.args.count changes))) c.in-Some.is)
