use Rattle.std.proofs.Common.{subst, sym}
use Rattle.vlog_engine.specs.Groups.{IsGroup}
use Rattle.vlog_engine.specs.Triggers.{step_by}
use Rattle.vlog_engine.proofs.circuit.Circuit.group_by.Goals as goal

pub returns-in-Event-clause-group : goal.returns-in-Event-clause-group
returns-in-Event-clause-group c from first bits words plan earlier now made waves for =
    subst (λ cause. IsGroup (step_by cause earlier now) first bits words c.args.self.now.roots.items plan c.group.result.now) (sym c.in-Event.is)
    (c.group.ensures.group first bits words plan made)
