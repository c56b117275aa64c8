-- Runs whose changes are dumped.
use Rattle.std.proofs.Common.{◌≡◌, ◌∙◌, ℕ, suc, ◌+◌, ◌-◌, ◌≤◌, List, [], ◌∷◌, ◌++◌, length, Option, Ok, Err, refl, ap, sym, subst, append_assoc, arith}
use Rattle.std.proofs.KnownBytes.{Appends-nil}
use Rattle.ice_io.specs.declared.sink.PutFault.{PutFault}
use Rattle.text_lines.specs.Written.{text_of}
use Rattle.vlog_module.specs.Parts.{Parts}
use Rattle.vlog_semantics.specs.declared.event.Event.{Event}
use Rattle.vlog_semantics.specs.Entries.{Entry}
use Rattle.vlog_semantics.specs.Run.{followed, input_names, module_run, run_from, start}
use Rattle.vlog_run.specs.Showing.{input_count}
use Rattle.vlog_waves.specs.Variables.{values_in}
use Rattle.vlog_waves.specs.Waves.{event_lines, head_lines, run_lines, start_lines, waves_text}
use Rattle.vlog_waves.specs.declared.tracer.Tracer.{Tracer}
use Rattle.ice_io.specs.Put.{Sends}
use Rattle.vlog_waves.specs.inside.Tracing.{Traces, lines_after, lines_of_event}
use Rattle.ice_io.proofs.Sent.{Sends-front, Sends-next}
use Rattle.vlog_waves.proofs.Texts.{all-made, text_of-append, text_of-none}

-- ---- the whole text

-- the lines of events are those of the entries that they give
events-told : (m : Parts) (time : ℕ) (entry : Entry) (event : Event) (events : List Event)
    → event_lines m time entry (run_from m (followed m entry event) events) ≡ lines_after m time entry (event ∷ events)
unfolding run_from
events-told m time entry event [] = refl
events-told m time entry event (next ∷ events) =
    ap (λ lines. lines_of_event m time entry event ++ lines) (events-told m (suc time) (followed m entry event) next events)

-- the lines before the first event, and those of the events
pub waves-whole : (names : List (List ℕ × List ℕ)) (m : Parts) (events : List Event)
    → waves_text names m events ≡ text_of (head_lines names m ++ start_lines (values_in m (start m))) ++ text_of (lines_after m 1 (start m) events)
unfolding waves_text module_run run_from
waves-whole names m events =
    let first = start_lines (values_in m (start m)) in
    let told : run_lines m (module_run m events) ≡ first ++ lines_after m 1 (start m) events = by_case events in
    ap (λ lines. text_of (head_lines names m ++ lines)) told
    ∙ ap text_of (sym (append_assoc (head_lines names m) first (lines_after m 1 (start m) events)))
    ∙ text_of-append (head_lines names m ++ first) (lines_after m 1 (start m) events)
  where
    by_case : (events : List Event) → run_lines m (module_run m events) ≡ start_lines (values_in m (start m)) ++ lines_after m 1 (start m) events
    by_case [] = refl
    by_case (event ∷ events) = ap (λ lines. start_lines (values_in m (start m)) ++ lines) (events-told m 1 (start m) event events)

-- ---- event by event

-- the lines of events: those of the first one, and those after them
lines-cut : (m : Parts) (time : ℕ) (entry : Entry) (event : Event) (events : List Event)
    → text_of (lines_after m time entry (event ∷ events)) ≡ text_of (lines_of_event m time entry event) ++ text_of (lines_after m (suc time) (followed m entry event) events)
lines-cut m time entry event events = text_of-append (lines_of_event m time entry event) (lines_after m (suc time) (followed m entry event) events)

-- of all events some are left; the lines of the others are sent, and the runner is in the state after these
pub record Going (m : Parts) (entry : Entry) (held now : Option (List ℕ)) (before sent : ℕ) (tracer : Tracer) (all left : List Event) : Type 0 where
  pub last : Entry
  pub piece : List ℕ
  pub fewer : length left ≤ length all
  pub sends : Sends held now before piece (Ok sent)
  pub made : piece ++ text_of (lines_after m (length all - length left + 1) last left) ≡ text_of (lines_after m 1 entry all)
  pub traces : Traces tracer m last

pub going-begun : (m : Parts) (entry : Entry) (held : Option (List ℕ)) (before : ℕ) (tracer : Tracer) (all : List Event) → Traces tracer m entry → Going m entry held held before before tracer all all
going-begun m entry held before tracer all traces =
    let first : length all - length all + 1 ≡ 1 = omega arith in
    record {
      last = entry;
      piece = [];
      fewer = omega arith;
      sends = (Appends-nil held, (let same : before ≡ before + 0 = omega arith in same));
      made = ap (λ time. text_of (lines_after m time entry all)) first;
      traces = traces;
    }

-- the events that are left are one and the others
pub going-cut : (m : Parts) (entry : Entry) (held now : Option (List ℕ)) (before sent : ℕ) (tracer : Tracer) (all some : List Event) (event : Event) (left : List Event) → some ≡ event ∷ left
    → Going m entry held now before sent tracer all some → Going m entry held now before sent tracer all (event ∷ left)
going-cut m entry held now before sent tracer all some event left cut going = subst (λ rest. Going m entry held now before sent tracer all rest) cut going

-- the text of what was sent with the lines of one event more
whole-next : (m : Parts) (entry : Entry) (held now : Option (List ℕ)) (before sent : ℕ) (tracer : Tracer) (all : List Event) (event : Event) (left : List Event)
    → (going : Going m entry held now before sent tracer all (event ∷ left))
    → (going.piece ++ text_of (lines_of_event m (length all - length left) going.last event)) ++ text_of (lines_after m (length all - length left + 1) (followed m going.last event) left)
    ≡ text_of (lines_after m 1 entry all)
whole-next m entry held now before sent tracer all event left going =
    let fewer : suc (length left) ≤ length all = going.fewer in
    let time : length all - suc (length left) + 1 ≡ length all - length left = omega (arith, fewer) in
    let next : suc (length all - length left) ≡ length all - length left + 1 = omega arith in
    let line = text_of (lines_of_event m (length all - length left) going.last event) in
    let more = text_of (lines_after m (length all - length left + 1) (followed m going.last event) left) in
    append_assoc going.piece line more
    ∙ ap (λ (text : List ℕ). going.piece ++ text)
    (ap (λ n. line ++ text_of (lines_after m n (followed m going.last event) left)) (sym next)
    ∙ sym (lines-cut m (length all - length left) going.last event left)
    ∙ ap (λ n. text_of (lines_after m n going.last (event ∷ left))) (sym time))
    ∙ going.made

-- an event more, whose lines are sent
pub going-next : (m : Parts) (entry : Entry) (held now next : Option (List ℕ)) (before sent more : ℕ) (tracer after : Tracer) (all : List Event) (event : Event) (left : List Event) (line : List ℕ)
    → (going : Going m entry held now before sent tracer all (event ∷ left))
    → line ≡ text_of (lines_of_event m (length all - length left) going.last event)
    → Sends now next sent line (Ok more) → Traces after m (followed m going.last event)
    → Going m entry held next before more after all left
going-next m entry held now next before sent more tracer after all event left line going is sends traces =
    let fewer : suc (length left) ≤ length all = going.fewer in
    let rest = text_of (lines_after m (length all - length left + 1) (followed m going.last event) left) in
    record {
      last = followed m going.last event;
      piece = going.piece ++ line;
      fewer = omega (arith, fewer);
      sends = Sends-next held now next before sent going.piece line (Ok more) going.sends sends;
      made = ap (λ (text : List ℕ). (going.piece ++ text) ++ rest) is ∙ whole-next m entry held now before sent tracer all event left going;
      traces = traces;
    }

-- if sending the lines of an event failed, sending those of all events did
pub going-failed : (m : Parts) (entry : Entry) (held now next : Option (List ℕ)) (before sent : ℕ) (tracer : Tracer) (all : List Event) (event : Event) (left : List Event) (line : List ℕ) (fault : PutFault)
    → (going : Going m entry held now before sent tracer all (event ∷ left))
    → line ≡ text_of (lines_of_event m (length all - length left) going.last event)
    → Sends now next sent line (Err fault) → Sends held next before (text_of (lines_after m 1 entry all)) (Err fault)
going-failed m entry held now next before sent tracer all event left line fault going is sends =
    let rest = text_of (lines_after m (length all - length left + 1) (followed m going.last event) left) in
    let whole = ap (λ (text : List ℕ). (going.piece ++ text) ++ rest) is ∙ whole-next m entry held now before sent tracer all event left going in
    subst (λ text. Sends held next before text (Err fault)) whole
    (Sends-front held next before (going.piece ++ line) rest fault (Sends-next held now next before sent going.piece line (Err fault) going.sends sends))

-- all events are sent
pub going-ended : (m : Parts) (entry : Entry) (held now : Option (List ℕ)) (before sent : ℕ) (tracer : Tracer) (all : List Event)
    → Going m entry held now before sent tracer all [] → Sends held now before (text_of (lines_after m 1 entry all)) (Ok sent)
going-ended m entry held now before sent tracer all going =
    subst (λ text. Sends held now before text (Ok sent))
    (all-made (text_of (lines_after m 1 entry all)) going.piece (text_of (lines_after m (length all - 0 + 1) going.last [])) going.made text_of-none) going.sends

-- a runner has the inputs of its module
pub inputs-shown : (tracer : Tracer) (m : Parts) (entry : Entry) → Traces tracer m entry → input_count tracer.runner ≡ length (input_names m.ports)
inputs-shown tracer m entry traces = traces.shows.laid_out.input_count
