use Rattle.std.proofs.Common.{◌≡◌, ◌∙◌, ◌<◌, ◌++◌, List, append-nil, ap, arith, length, subst, sym}
use Rattle.std.specs.Prelude.{IfErr, OnOk}
use Rattle.std.proofs.lemmas.Result.{on_ok_weaker}
use Rattle.vlog_semantics.specs.Slots.{slot_of}
use Rattle.long_events.specs.declared.step.Step.{Step}
use Rattle.long_events.specs.Lists.{TellsLong, fault_on}
use Rattle.long_events.specs.Steps.{line_step}
use Rattle.long_events.specs.inside.Reading.{Keeps, outermost_after}
use Rattle.long_events.proofs.Said.{fault-empty, fault-own, fault-said, line-empty, line-says, tells-event}
use Rattle.long_events.proofs.Within.{step-counted}
use Rattle.long_events.proofs.reading.Reading.take_line.Goals as goal

pub returns-then-is_empty-clause-kept : goal.returns-then-is_empty-clause-kept
returns-then-is_empty-clause-kept c before keeps =
    let none : length c.args.content.now ≡ 0 = grind (arith, c.is_empty.ensures, c.if-is_empty.true) in
    let same : before ≡ before ++ line_step (slot_of c.args.pins.now) c.args.content.now = sym (append-nil before) ∙ ap (λ (more : List Step). before ++ more) (sym (line-empty (slot_of c.args.pins.now) c.args.content.now none)) in
    subst (λ steps. Keeps c.args.self.now.steps.items c.args.self.now.level steps) same keeps

pub returns-then-is_empty-clause-outermost : goal.returns-then-is_empty-clause-outermost
returns-then-is_empty-clause-outermost c =
    let none : length c.args.content.now ≡ 0 = grind (arith, c.is_empty.ensures, c.if-is_empty.true) in
    ap (outermost_after c.args.self.now c.args.line) (sym (line-empty (slot_of c.args.pins.now) c.args.content.now none))

pub returns-then-is_empty-clause-accepted : goal.returns-then-is_empty-clause-accepted
returns-then-is_empty-clause-accepted c =
    let none : length c.args.content.now ≡ 0 = grind (arith, c.is_empty.ensures, c.if-is_empty.true) in
    fault-empty (slot_of c.args.pins.now) c.args.line c.args.self.now.level c.args.content.now none

pub take-requires : goal.take-requires
take-requires c = step-counted (slot_of c.args.pins.now) c.args.line c.args.content.now c.in-Ok.step c.in-Ok.ensures

pub returns-in-Ok-clause-kept : goal.returns-in-Ok-clause-kept
returns-in-Ok-clause-kept c before keeps =
    let some : 0 < length c.args.content.now = grind (arith, c.is_empty.ensures, c.if-is_empty.false) in
    let says = line-says (slot_of c.args.pins.now) c.args.line c.args.content.now c.in-Ok.step some c.in-Ok.ensures in
    subst (λ (more : List Step). OnOk c.take.result (Keeps c.take.new.self.steps.items c.take.new.self.level (before ++ more))) (sym says) (c.take.ensures.kept before keeps)

pub returns-in-Ok-clause-outermost : goal.returns-in-Ok-clause-outermost
returns-in-Ok-clause-outermost c =
    let some : 0 < length c.args.content.now = grind (arith, c.is_empty.ensures, c.if-is_empty.false) in
    let says = line-says (slot_of c.args.pins.now) c.args.line c.args.content.now c.in-Ok.step some c.in-Ok.ensures in
    subst (λ (more : List Step). OnOk c.take.result (c.take.new.self.outermost ≡ outermost_after c.args.self.now c.args.line more)) (sym says) c.take.ensures.outermost

pub returns-in-Ok-clause-accepted : goal.returns-in-Ok-clause-accepted
returns-in-Ok-clause-accepted c =
    let some : 0 < length c.args.content.now = grind (arith, c.is_empty.ensures, c.if-is_empty.false) in
    let same = fault-said (slot_of c.args.pins.now) c.args.line c.args.self.now.level c.args.content.now c.in-Ok.step some c.in-Ok.ensures in
    on_ok_weaker c.take.result (λ fine. same ∙ fine) c.take.ensures.accepted

pub returns-in-Ok-clause-refused : goal.returns-in-Ok-clause-refused
returns-in-Ok-clause-refused c =
    let some : 0 < length c.args.content.now = grind (arith, c.is_empty.ensures, c.if-is_empty.false) in
    let same = fault-said (slot_of c.args.pins.now) c.args.line c.args.self.now.level c.args.content.now c.in-Ok.step some c.in-Ok.ensures in
    subst (λ found. IfErr c.take.result (TellsLong found)) (sym same) c.take.ensures.refused

pub returns-in-Err-clause-refused : goal.returns-in-Err-clause-refused
returns-in-Err-clause-refused c =
    let some : 0 < length c.args.content.now = grind (arith, c.is_empty.ensures, c.if-is_empty.false) in
    tells-event (fault_on (slot_of c.args.pins.now) c.args.line c.args.self.now.level c.args.content.now) c.in-Err.fault
    (fault-own (slot_of c.args.pins.now) c.args.line c.args.self.now.level c.args.content.now c.in-Err.fault some c.in-Err.ensures)
