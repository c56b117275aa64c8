use Rattle.std.proofs.Common.{◌++◌, ◌∷◌, [], Result, Ok, Err, subst, sym}
use Rattle.std.specs.Prelude.{OnOk}
use Rattle.long_events.specs.declared.step.Step.TheVariants.{End}
use Rattle.long_events.specs.Lists.{level_fault}
use Rattle.long_events.specs.inside.Reading.{Keeps}
use Rattle.long_events.proofs.Kept.{keeps-ended}
use Rattle.long_events.proofs.reading.Reading.take.Goals as goal

-- what two facts of a success give
both : {T E A B P : Type 0} (result : Result T E) → OnOk result A → OnOk result B → (A → B → P) → OnOk result P
both (Ok value) one other gives = gives one other
both (Err e) one other gives = tt

pub returns-in-Give-clause-refused : goal.returns-in-Give-clause-refused
returns-in-Give-clause-refused c = c.push.ensures.memory (level_fault c.args.line c.args.self.now.level (c.args.step ∷ []))

pub returns-in-End-clause-kept : goal.returns-in-End-clause-kept
returns-in-End-clause-kept c before keeps =
    let old = c.args.self.now in
    let new = c.close.new.self in
    rw c.in-End.is
    (both c.close.result c.close.ensures.steps c.close.ensures.level
    (λ steps level. subst (λ kept. Keeps kept new.level (before ++ End ∷ [])) (sym steps) (keeps-ended old.steps.items old.level new.level before level keeps)))
