use Rattle.std.proofs.Common.{◌≡◌, ◌∙◌, Some, sym, ap, arith}
use Rattle.vlog_semantics.specs.declared.event.Event.{Event}
use Rattle.long_events.specs.declared.step.Step.TheVariants.{Give, Toggle, Repeat, End}
use Rattle.long_events.proofs.Turning.{close-does, close-fits, close-stands, ended-does, give-does, give-stands, none-here, open-does, open-fits, open-stands, step-here, toggle-does, toggle-stands, toggled-does}
use Rattle.long_events.proofs.cursor.Cursor.turn.Goals as goal

pub returns-then-self-gt0-clause-does : goal.returns-then-self-gt0-clause-does
returns-then-self-gt0-clause-does c = toggled-does c.args.steps.now c.args.self.now c.if-self-gt0.true

pub open-requires-clause-deep : goal.open-requires-clause-deep
open-requires-clause-deep c =
    let at = step-here c.args.steps.now c.args.self.now (Repeat c.in-Some-Repeat.count) c.if-self-gt0.false (ap Some (sym c.in-Some-Repeat.field-0-is) ∙ c.in-Some-Repeat.ensures.is) in
    omega (arith, (open-fits c.args.steps.now c.args.self.now c.in-Some-Repeat.count at c.requires).1)

pub open-requires-clause-some : goal.open-requires-clause-some
open-requires-clause-some c =
    let at = step-here c.args.steps.now c.args.self.now (Repeat c.in-Some-Repeat.count) c.if-self-gt0.false (ap Some (sym c.in-Some-Repeat.field-0-is) ∙ c.in-Some-Repeat.ensures.is) in
    (open-fits c.args.steps.now c.args.self.now c.in-Some-Repeat.count at c.requires).0

pub close-requires-clause-open : goal.close-requires-clause-open
close-requires-clause-open c =
    close-fits c.args.steps.now c.args.self.now (step-here c.args.steps.now c.args.self.now End c.if-self-gt0.false (ap Some (sym c.in-Some-End.field-0-is) ∙ c.in-Some-End.ensures.is)) c.requires

pub returns-in-None-clause-does : goal.returns-in-None-clause-does
returns-in-None-clause-does c =
    let idle : c.args.self.now.toggles ≡ 0 = omega (arith, c.if-self-gt0.false) in
    let none = ended-does c.args.steps.now c.args.self.now idle (none-here c.args.steps.now c.args.self.now.place c.in-None.ensures.is) c.requires in
    (none, none)

pub returns-in-Some-Give-clause-stands : goal.returns-in-Some-Give-clause-stands
returns-in-Some-Give-clause-stands c =
    let event : Event = c.in-Some-Give.event in
    give-stands c.args.steps.now c.args.self.now event
    (step-here c.args.steps.now c.args.self.now (Give event) c.if-self-gt0.false (ap Some (sym c.in-Some-Give.field-0-is) ∙ c.in-Some-Give.ensures.is)) c.requires

pub returns-in-Some-Give-clause-does : goal.returns-in-Some-Give-clause-does
returns-in-Some-Give-clause-does c =
    let event : Event = c.in-Some-Give.event in
    give-does c.args.steps.now c.args.self.now event
    (step-here c.args.steps.now c.args.self.now (Give event) c.if-self-gt0.false (ap Some (sym c.in-Some-Give.field-0-is) ∙ c.in-Some-Give.ensures.is))

pub returns-in-Some-Toggle-clause-stands : goal.returns-in-Some-Toggle-clause-stands
returns-in-Some-Toggle-clause-stands c =
    let pin = c.in-Some-Toggle.pin in
    let count = c.in-Some-Toggle.count in
    toggle-stands c.args.steps.now c.args.self.now pin count
    (step-here c.args.steps.now c.args.self.now (Toggle pin count) c.if-self-gt0.false (ap Some (sym c.in-Some-Toggle.field-0-is) ∙ c.in-Some-Toggle.ensures.is)) c.requires

pub returns-in-Some-Toggle-clause-does : goal.returns-in-Some-Toggle-clause-does
returns-in-Some-Toggle-clause-does c =
    let pin = c.in-Some-Toggle.pin in
    let count = c.in-Some-Toggle.count in
    toggle-does c.args.steps.now c.args.self.now pin count
    (step-here c.args.steps.now c.args.self.now (Toggle pin count) c.if-self-gt0.false (ap Some (sym c.in-Some-Toggle.field-0-is) ∙ c.in-Some-Toggle.ensures.is))

pub returns-in-Some-Repeat-clause-stands : goal.returns-in-Some-Repeat-clause-stands
returns-in-Some-Repeat-clause-stands c =
    let count = c.in-Some-Repeat.count in
    rw c.open.ensures
    (open-stands c.args.steps.now c.args.self.now count
    (step-here c.args.steps.now c.args.self.now (Repeat count) c.if-self-gt0.false (ap Some (sym c.in-Some-Repeat.field-0-is) ∙ c.in-Some-Repeat.ensures.is)) c.requires)

pub returns-in-Some-Repeat-clause-does : goal.returns-in-Some-Repeat-clause-does
returns-in-Some-Repeat-clause-does c =
    let count = c.in-Some-Repeat.count in
    rw c.open.ensures
    (open-does c.args.steps.now c.args.self.now count
    (step-here c.args.steps.now c.args.self.now (Repeat count) c.if-self-gt0.false (ap Some (sym c.in-Some-Repeat.field-0-is) ∙ c.in-Some-Repeat.ensures.is)) c.requires)

pub returns-in-Some-End-clause-stands : goal.returns-in-Some-End-clause-stands
returns-in-Some-End-clause-stands c =
    rw c.close.ensures
    (close-stands c.args.steps.now c.args.self.now
    (step-here c.args.steps.now c.args.self.now End c.if-self-gt0.false (ap Some (sym c.in-Some-End.field-0-is) ∙ c.in-Some-End.ensures.is)) c.requires)

pub returns-in-Some-End-clause-does : goal.returns-in-Some-End-clause-does
returns-in-Some-End-clause-does c =
    rw c.close.ensures
    (close-does c.args.steps.now c.args.self.now
    (step-here c.args.steps.now c.args.self.now End c.if-self-gt0.false (ap Some (sym c.in-Some-End.field-0-is) ∙ c.in-Some-End.ensures.is)) c.requires)
