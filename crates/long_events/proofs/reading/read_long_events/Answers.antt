use Rattle.std.proofs.Common.{◌≡◌, ◌∙◌, ◌<◌, ap, length, subst, sym, List, Option, Some, Result, Ok, Err, ℕ}
use Rattle.std.specs.Prelude.{All, IfErr, None}
use Rattle.std.proofs.lemmas.Result.{IfOk-weaker, err_from_is_err_and, on_ok_weaker}
use Rattle.vlog_run.specs.Events.{cut_lines}
use Rattle.vlog_semantics.specs.Run.{input_names, pin_of}
use Rattle.index_search.specs.Places.{or_else}
use Rattle.long_events.specs.declared.fault.LongFault.{LongFault}
use Rattle.long_events.specs.Lists.{TellsLong, count_fault, lines_fault, start_bits, steps_of}
use Rattle.long_events.specs.Moves.{events_from, moves_of}
use Rattle.long_events.specs.Streams.{events_left}
use Rattle.long_events.proofs.Faults.{told-count, told-lines}
use Rattle.long_events.proofs.Within.{long-within}
use Rattle.long_events.proofs.reading.read_long_events.Goals as goal

-- a refusal of the count, if no line is faulty
refusal : {T : Type 0} (result : Result T LongFault) (lines counted same : Option LongFault) → same ≡ counted → lines ≡ None → IfErr result (λ told. same ≡ Some told)
    → IfErr result (TellsLong (or_else lines counted))
refusal (Ok value) lines counted same is none refused = tt
refusal (Err told) lines counted same is none refused = told-count lines counted told none (sym is ∙ refused)

pub returns-in_err-steps-clause-refused : goal.returns-in_err-steps-clause-refused
returns-in_err-steps-clause-refused c =
    let lines = cut_lines c.args.bytes.now in
    let ports = c.args.module.now.ports in
    let told = c.in_err-steps.field-0.0 in
    let refused = subst (λ (find : List ℕ → Option ℕ). TellsLong (lines_fault find lines) told) c.in_ok-pins.ensures c.in_err-steps.ensures.refused in
    let p = err_from_is_err_and c.from_residual-in_err-steps.result c.from_residual-in_err-steps.ensures.1 in
    rw (p.1, p.2) (told-lines (lines_fault (pin_of ports) lines) (count_fault (moves_of (steps_of (pin_of ports) lines))) told refused)

pub returns-clause-inputs : goal.returns-clause-inputs
returns-clause-inputs c =
    let lines = cut_lines c.args.bytes.now in
    let ports = c.args.module.now.ports in
    let moves = c.in_ok-steps.ensures.moves ∙ ap (λ (find : List ℕ → Option ℕ). moves_of (steps_of find lines)) c.in_ok-pins.ensures in
    IfOk-weaker c.stream_of.result (λ stream. events_left stream ≡ events_from c.in_ok-bits.bits.items (moves_of c.in_ok-steps.steps.items))
    (λ stream. All (λ event. event.pin < length (input_names ports)) (events_left stream))
    (λ stream is. subst (λ list. All (λ event. event.pin < length (input_names ports)) list)
    (sym (is ∙ ap (λ bits. events_from bits (moves_of c.in_ok-steps.steps.items)) (c.in_ok-bits.ensures ∙ ap start_bits c.ports.ensures.ports) ∙ ap (events_from (start_bits ports)) moves)) (long-within ports c.args.bytes.now))
    c.stream_of.ensures.events

pub returns-clause-accepted : goal.returns-clause-accepted
returns-clause-accepted c =
    let lines = cut_lines c.args.bytes.now in
    let ports = c.args.module.now.ports in
    let moves = c.in_ok-steps.ensures.moves ∙ ap (λ (find : List ℕ → Option ℕ). moves_of (steps_of find lines)) c.in_ok-pins.ensures in
    let accepted : lines_fault (pin_of ports) lines ≡ None = subst (λ (find : List ℕ → Option ℕ). lines_fault find lines ≡ None) c.in_ok-pins.ensures c.in_ok-steps.ensures.accepted in
    on_ok_weaker c.stream_of.result
    (λ fine. ap (λ (first : Option LongFault). or_else first (count_fault (moves_of (steps_of (pin_of ports) lines)))) accepted ∙ sym (ap count_fault moves) ∙ fine)
    c.stream_of.ensures.accepted

pub returns-clause-refused : goal.returns-clause-refused
returns-clause-refused c =
    let lines = cut_lines c.args.bytes.now in
    let ports = c.args.module.now.ports in
    let moves = c.in_ok-steps.ensures.moves ∙ ap (λ (find : List ℕ → Option ℕ). moves_of (steps_of find lines)) c.in_ok-pins.ensures in
    let accepted : lines_fault (pin_of ports) lines ≡ None = subst (λ (find : List ℕ → Option ℕ). lines_fault find lines ≡ None) c.in_ok-pins.ensures c.in_ok-steps.ensures.accepted in
    refusal c.stream_of.result (lines_fault (pin_of ports) lines) (count_fault (moves_of (steps_of (pin_of ports) lines))) (count_fault (moves_of c.in_ok-steps.steps.items)) (ap count_fault moves) accepted c.stream_of.ensures.refused
