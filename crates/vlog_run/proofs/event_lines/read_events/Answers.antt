use Rattle.std.proofs.Common.{◌≡◌, ℕ, List, Option, ◌<◌, flat_map, ap, ◌∙◌, length, subst, sym}
use Rattle.std.specs.Prelude.{All, IfErr, IfOk, None, OnOk}
use Rattle.vlog_run.specs.Events.{TellsEvent, cut_lines, first_fault, line_event}
use Rattle.vlog_semantics.specs.Run.{input_names}
use Rattle.vlog_semantics.specs.Slots.{slot_of}
use Rattle.vlog_run.proofs.EventLines.{events-within}
use Rattle.std.proofs.lemmas.Result.{IfOk-weaker}
use Rattle.vlog_run.proofs.event_lines.read_events.Goals as goal

pub returns-clause-read : goal.returns-clause-read
returns-clause-read c =
    subst (λ (find : List ℕ → Option ℕ). IfOk c.read_lines.result (λ events. events.items ≡ flat_map (line_event find) (cut_lines c.args.bytes.now))) c.in_ok-pins.ensures c.read_lines.ensures.read

pub returns-clause-accepted : goal.returns-clause-accepted
returns-clause-accepted c =
    subst (λ (find : List ℕ → Option ℕ). OnOk c.read_lines.result (first_fault find (cut_lines c.args.bytes.now) ≡ None)) c.in_ok-pins.ensures c.read_lines.ensures.accepted

pub returns-clause-refused : goal.returns-clause-refused
returns-clause-refused c =
    subst (λ (find : List ℕ → Option ℕ). IfErr c.read_lines.result (TellsEvent (first_fault find (cut_lines c.args.bytes.now)))) c.in_ok-pins.ensures c.read_lines.ensures.refused

pub returns-clause-inputs : goal.returns-clause-inputs
returns-clause-inputs c =
    let ports = c.args.module.now.ports in
    IfOk-weaker c.read_lines.result (λ events. events.items ≡ flat_map (line_event (slot_of c.in_ok-pins.pins)) (cut_lines c.args.bytes.now))
    (λ events. All (λ event. event.pin < length (input_names ports)) events.items)
    (λ events is. subst (λ list. All (λ event. event.pin < length (input_names ports)) list)
    (sym (is ∙ ap (λ (find : List ℕ → Option ℕ). flat_map (line_event find) (cut_lines c.args.bytes.now)) c.in_ok-pins.ensures)) (events-within ports c.args.bytes.now))
    c.read_lines.ensures.read
