use Rattle.std.proofs.Common.{subst, sym}
use Rattle.vlog_engine.specs.Flips.{AreAt}
use Rattle.vlog_engine.proofs.flips.note_flips.Goals as goal

pub returns-then-group-clause-tracked : goal.returns-then-group-clause-tracked
returns-then-group-clause-tracked g c lane watched within known tracked =
    c.note_marked.ensures.tracked lane watched within (subst (λ list. AreAt c.args.trigger.now.group.now.first_place list watched) (sym c.deref.ensures.value) known.places) tracked
