use Rattle.std.proofs.Common.{[], subst, sym}
use Rattle.long_events.specs.inside.Reading.{Keeps}
use Rattle.long_events.proofs.Kept.{keeps-none}
use Rattle.long_events.proofs.reading.Reading.new.Goals as goal

pub returns-clause-keeps : goal.returns-clause-keeps
returns-clause-keeps c = subst (λ items. Keeps items 0 []) (sym c.new-steps.ensures.items) keeps-none
