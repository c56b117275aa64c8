-- Runs whose lines are made piece by piece.
use Rattle.std.proofs.Common.{◌≡◌, ◌∙◌, ℕ, zero, suc, ◌+◌, ◌-◌, ◌*◌, ◌^◌, ◌<◌, ◌≤◌, Bool, List, [], ◌∷◌, ◌++◌, flat_map, fold, length, Result, Ok, Err, refl, sym, ap, ap₂, subst, append_assoc, append-nil, arith, length-append}
use Rattle.std.specs.Prelude.{IsOk, OnErr, bytes_eq, decimal, nat_lt, vec_capacity, vec_len}
use Rattle.std.proofs.lemmas.Bool.{cond_both}
use Rattle.std.proofs.lemmas.Fmt.{length-decimal-le}
use Rattle.std.proofs.Math.Nat.{mul-suc, suc-mul}
use Rattle.vlog_module.specs.Parts.{Parts}
use Rattle.vlog_semantics.specs.declared.event.Event.{Event}
use Rattle.vlog_semantics.specs.Entries.{Entry}
use Rattle.vlog_semantics.specs.Run.{followed, input_names, last_of, module_run, run_from, start}
use Rattle.vlog_run.specs.Showing.{Shows, input_count}
use Rattle.vlog_run.specs.Text.{entry_line}
use Rattle.vlog_run.specs.declared.runner.Runner.{Runner}
use Rattle.long_runs.specs.declared.form.LineForm.{LineForm}
use Rattle.long_runs.specs.declared.form.Shown.{Shown}
use Rattle.long_runs.specs.declared.form.Shown.TheVariants.{All, Changes, Last}
use Rattle.long_runs.specs.declared.printer.Printer.{Printer}
use Rattle.long_runs.specs.declared.seen.Seen.{Seen}
use Rattle.long_runs.specs.Shown.{changed_lines, head_text, is_countable, most_lines, numbered_line, shown_lines, shown_text}
use Rattle.long_runs.specs.inside.Printing.{HasRoom, IsSendable, Prints, end_text, event_text, events_text, rest_text, start_text}
use Rattle.long_runs.specs.inside.Values.{HasNames, Sees}
use Rattle.long_runs.proofs.Kept.{followed-names, same-length}

-- ---- the whole text

entries_after : Parts → Entry → List Event → List Entry
entries_after m entry [] = []
entries_after m entry (event ∷ events) = followed m entry event ∷ entries_after m (followed m entry event) events

run-after : (m : Parts) (entry : Entry) (events : List Event) → run_from m entry events ≡ entry ∷ entries_after m entry events
unfolding run_from entries_after
run-after m entry [] = refl
run-after m entry (event ∷ events) = ap (λ (entries : List Entry). entry ∷ entries) (run-after m (followed m entry event) events)

all-text : (registers : Bool) (m : Parts) (number : ℕ) (entry : Entry) (events : List Event)
    → flat_map (entry_line registers) (entries_after m entry events) ≡ events_text All registers m number entry events
unfolding entries_after
all-text registers m number entry [] = refl
all-text registers m number entry (event ∷ events) =
    ap (λ (text : List ℕ). entry_line registers (followed m entry event) ++ text) (all-text registers m (number + 1) (followed m entry event) events)

changes-text : (registers : Bool) (m : Parts) (number : ℕ) (entry : Entry) (events : List Event)
    → changed_lines registers number entry (entries_after m entry events) ≡ events_text Changes registers m number entry events
unfolding entries_after
changes-text registers m number entry [] = refl
changes-text registers m number entry (event ∷ events) =
    ap (λ (text : List ℕ). event_text Changes registers number entry (followed m entry event) ++ text) (changes-text registers m (number + 1) (followed m entry event) events)

last-text : (registers : Bool) (m : Parts) (number : ℕ) (entry : Entry) (events : List Event) → events_text Last registers m number entry events ≡ []
last-text registers m number entry [] = refl
last-text registers m number entry (event ∷ events) = last-text registers m (number + 1) (followed m entry event) events

last-after : (m : Parts) (entry : Entry) (events : List Event) → last_of entry (entries_after m entry events) ≡ fold (followed m) entry events
unfolding entries_after last_of
last-after m entry [] = refl
last-after m entry (event ∷ events) = last-after m (followed m entry event) events

-- what is shown of a run: the start, the events, and the end
pub shown-whole : (shown : Shown) (registers : Bool) (m : Parts) (entry : Entry) (events : List Event)
    → shown_lines shown registers (run_from m entry events)
    ≡ start_text shown registers entry ++ (events_text shown registers m 1 entry events ++ end_text shown registers (fold (followed m) entry events))
shown-whole All registers m entry events =
    ap (shown_lines All registers) (run-after m entry events)
    ∙ ap (λ (text : List ℕ). entry_line registers entry ++ text) (all-text registers m 1 entry events ∙ sym (append-nil (events_text All registers m 1 entry events)))
shown-whole Changes registers m entry events =
    ap (shown_lines Changes registers) (run-after m entry events)
    ∙ ap (λ (text : List ℕ). numbered_line 0 (entry_line registers entry) ++ text)
    (changes-text registers m 1 entry events ∙ sym (append-nil (events_text Changes registers m 1 entry events)))
shown-whole Last registers m entry events =
    ap (shown_lines Last registers) (run-after m entry events)
    ∙ ap (entry_line registers) (last-after m entry events)
    ∙ ap (λ (text : List ℕ). text ++ entry_line registers (fold (followed m) entry events)) (sym (last-text registers m 1 entry events))

-- ---- how long it is

one-more : (count room : ℕ) → (count + 1) * room ≡ suc count * room
one-more count room = (let more : count + 1 ≡ suc count = omega arith in ap (λ n. n * room) more)

pub decimal-short : (number : ℕ) → number < 2 ^ 64 → length (decimal number) ≤ 20
decimal-short number few =
    let within : number < 10 ^ 20 = omega (arith, few) in
    length-decimal-le 20 number (omega arith) within few

numbered-short : (number : ℕ) (line : List ℕ) → number < 2 ^ 64 → length (numbered_line number line) ≤ 32 + length line
numbered-short number line few =
    let more : length (32 ∷ line) ≡ suc (length line) = refl in
    omega (arith, length-append (decimal number) (32 ∷ line), more, decimal-short number few)

-- a number, a space and a line are added
pub numbered-made : (number : ℕ) (line text one two : List ℕ) → one ≡ text ++ (decimal number ++ 32 ∷ []) → two ≡ one ++ line → two ≡ text ++ numbered_line number line
numbered-made number line text one two first second =
    second
    ∙ ap (λ (front : List ℕ). front ++ line) first
    ∙ append_assoc text (decimal number ++ 32 ∷ []) line
    ∙ ap (λ (behind : List ℕ). text ++ behind) (append_assoc (decimal number) (32 ∷ []) line)

pub event-short : (shown : Shown) (registers : Bool) (number : ℕ) (before entry : Entry) → number < 2 ^ 64 → length (event_text shown registers number before entry) ≤ 32 + length (entry_line registers entry)
event-short All registers number before entry few = omega arith
event-short Changes registers number before entry few =
    let line = entry_line registers entry in
    let none : length {A = ℕ} [] ≤ 32 + length line = omega arith in
    cond_both (bytes_eq (entry_line registers before) line) [] (numbered_line number line) (λ (text : List ℕ). length text ≤ 32 + length line)
    (λ same. none) (λ other. numbered-short number line few)
event-short Last registers number before entry few = omega arith

end-short : (shown : Shown) (registers : Bool) (entry : Entry) → length (end_text shown registers entry) ≤ 32 + length (entry_line registers entry)
end-short All registers entry = omega arith
end-short Changes registers entry = omega arith
end-short Last registers entry = omega arith

pub start-short : (shown : Shown) (registers : Bool) (entry : Entry) → length (start_text shown registers entry) ≤ 32 + length (entry_line registers entry)
start-short All registers entry = omega arith
start-short Changes registers entry = numbered-short 0 (entry_line registers entry) (omega arith)
start-short Last registers entry = omega arith

events-short : (shown : Shown) (registers : Bool) (m : Parts) (number room : ℕ) (entry : Entry) (events : List Event) → HasNames m entry → 32 + length (entry_line registers entry) ≡ room
    → number + length events ≤ 2 ^ 64 → length (events_text shown registers m number entry events) ≤ length events * room
events-short shown registers m number room entry [] names is few = omega arith
events-short shown registers m number room entry (event ∷ events) names is few =
    let next = followed m entry event in
    let next_names : HasNames m next = followed-names m entry event names in
    let size : 32 + length (entry_line registers next) ≡ room = omega (arith, is, same-length m registers entry next names next_names) in
    let many : number + suc (length events) ≤ 2 ^ 64 = few in
    let text = event_text shown registers number entry next in
    let rest = events_text shown registers m (number + 1) next events in
    let here : number < 2 ^ 64 = omega (arith, many) in
    let later : length rest ≤ length events * room = events-short shown registers m (number + 1) room next events next_names size (omega (arith, many)) in
    omega (arith, length-append text rest, event-short shown registers number entry next here, size, later, suc-mul (length events) room)

-- the lines of entries of one run are as long as the line of an entry
end-size : (shown : Shown) (registers : Bool) (m : Parts) (room : ℕ) (entry : Entry) (events : List Event) → HasNames m entry → 32 + length (entry_line registers entry) ≡ room
    → length (end_text shown registers (fold (followed m) entry events)) ≤ room
end-size shown registers m room entry [] names is = omega (arith, is, end-short shown registers entry)
end-size shown registers m room entry (event ∷ events) names is =
    let next = followed m entry event in
    let next_names : HasNames m next = followed-names m entry event names in
    end-size shown registers m room next events next_names (omega (arith, is, same-length m registers entry next names next_names))

-- there are no more lines than bytes
lines-few : (lines room bound : ℕ) → 32 ≤ room → lines * room < bound → lines < bound
lines-few lines zero bound some few = absurd (omega (arith, some))
lines-few lines (suc room) bound some few = omega (arith, few, mul-suc lines room)

-- what is shown of a start, of events and of the end
pub whole-short : (shown : Shown) (registers : Bool) (m : Parts) (room : ℕ) (entry : Entry) (events : List Event) → HasNames m entry → 32 + length (entry_line registers entry) ≡ room
    → most_lines shown (length events) * room < 2 ^ 64
    → length (start_text shown registers entry) + length (events_text shown registers m 1 entry events ++ end_text shown registers (fold (followed m) entry events)) ≤ most_lines shown (length events) * room
whole-short All registers m room entry events names is few =
    let many : length events + 1 < 2 ^ 64 = lines-few (length events + 1) room (2 ^ 64) (omega (arith, is)) few in
    let size = events-short All registers m 1 room entry events names is (omega (arith, many)) in
    omega (arith, size, is, start-short All registers entry, ap length (append-nil (events_text All registers m 1 entry events)), suc-mul (length events) room, one-more (length events) room)
whole-short Changes registers m room entry events names is few =
    let many : length events + 1 < 2 ^ 64 = lines-few (length events + 1) room (2 ^ 64) (omega (arith, is)) few in
    let size = events-short Changes registers m 1 room entry events names is (omega (arith, many)) in
    omega (arith, size, is, start-short Changes registers entry, ap length (append-nil (events_text Changes registers m 1 entry events)), suc-mul (length events) room, one-more (length events) room)
whole-short Last registers m room entry events names is few =
    let none : events_text Last registers m 1 entry events ≡ [] = last-text registers m 1 entry events in
    let end = end_text Last registers (fold (followed m) entry events) in
    let whole : length (events_text Last registers m 1 entry events ++ end) ≡ length end = ap (λ (text : List ℕ). length (text ++ end)) none in
    omega (arith, whole, end-size Last registers m room entry events names is)

-- ---- a printer at the start

-- what a printer has and shows is the whole text, but for the head
pub text-whole : (printer : Printer) (m : Parts) (events : List Event) (head : List ℕ) → head ≡ head_text m printer.form
    → printer.text.items ≡ start_text printer.form.shown printer.form.registers (start m) → printer.count ≡ length events
    → head ++ (printer.text.items ++ rest_text printer m (start m) events) ≡ shown_text m events printer.form
unfolding shown_text module_run
text-whole printer m events head headed started counted =
    let shown = printer.form.shown in
    let registers = printer.form.registers in
    let number : printer.count - length events + 1 ≡ 1 = omega (arith, counted) in
    let end = end_text shown registers (fold (followed m) (start m) events) in
    ap₂ (λ (front text : List ℕ). front ++ (text ++ rest_text printer m (start m) events)) headed started
    ∙ ap (λ n. head_text m printer.form ++ (start_text shown registers (start m) ++ (events_text shown registers m n (start m) events ++ end))) number
    ∙ ap (λ (lines : List ℕ). head_text m printer.form ++ lines) (sym (shown-whole shown registers m (start m) events))

-- it can be counted in 64 bits
pub whole-sendable : (printer : Printer) (m : Parts) (events : List Event) (head : ℕ) → Prints printer m (start m)
    → printer.text.items ≡ start_text printer.form.shown printer.form.registers (start m) → printer.count ≡ length events
    → head + most_lines printer.form.shown (length events) * printer.line_room < 2 ^ 64 → IsSendable printer (head + vec_len printer.text) events
whole-sendable printer m events head prints started counted few =
    let shown = printer.form.shown in
    let registers = printer.form.registers in
    let number : printer.count - length events + 1 ≡ 1 = omega (arith, counted) in
    let end = end_text shown registers (fold (followed m) (start m) events) in
    let rest = ap (λ n. length (events_text shown registers m n (start m) events ++ end)) number in
    let short = whole-short shown registers m printer.line_room (start m) events prints.names prints.line (omega (arith, few)) in
    record { m = m; entry = start m; prints = prints; few = omega (arith, few, rest, short, ap length started, printer.text.ok.0) }

-- a printer has the inputs of its module
pub inputs-shown : (printer : Printer) (m : Parts) (entry : Entry) → Prints printer m entry → input_count printer.runner ≡ length (input_names m.ports)
inputs-shown printer m entry prints = prints.shows.laid_out.input_count

-- the test whether the text can be counted
pub countable-is : (m : Parts) (form : LineForm) (events count size room : ℕ) (head : List ℕ) → head ≡ head_text m form → size ≡ length head → count ≡ events
    → 32 + length (entry_line form.registers (start m)) ≡ room → nat_lt (size + most_lines form.shown count * room) (2 ^ 64) ≡ is_countable m events form
unfolding is_countable
countable-is m form events count size room head headed sized counted line =
    ap (λ (n : ℕ). nat_lt (size + most_lines form.shown n * room) (2 ^ 64)) counted
    ∙ ap₂ (λ (front line : ℕ). nat_lt (front + most_lines form.shown events * line) (2 ^ 64)) (sized ∙ ap length headed) (sym line)

-- ---- piece by piece

-- some text of the rest was made, and these events are left
pub record Going (old now : Printer) (m : Parts) (entry : Entry) (all left : List Event) : Type 0 where
  pub last : Entry
  pub prints : Prints now m last
  pub made : rest_text old m entry all ≡ now.text.items ++ rest_text now m last left

-- what is left to show depends on the form and on the number of events alone
same-rest : (one other : Printer) (m : Parts) (entry : Entry) (events : List Event) → other.form ≡ one.form → other.count ≡ one.count → rest_text other m entry events ≡ rest_text one m entry events
same-rest one other m entry events form count =
    ap₂ (λ (how : LineForm) (many : ℕ). events_text how.shown how.registers m (many - length events + 1) entry events ++ end_text how.shown how.registers (fold (followed m) entry events)) form count

-- the first event of what is left, and the others
rest-next : (printer : Printer) (m : Parts) (entry : Entry) (event : Event) (events : List Event) → suc (length events) ≤ printer.count
    → rest_text printer m entry (event ∷ events)
    ≡ event_text printer.form.shown printer.form.registers (printer.count - length events) entry (followed m entry event) ++ rest_text printer m (followed m entry event) events
rest-next printer m entry event events fewer =
    let shown = printer.form.shown in
    let registers = printer.form.registers in
    let next = followed m entry event in
    let number : printer.count - suc (length events) + 1 ≡ printer.count - length events = omega (arith, fewer) in
    let end = end_text shown registers (fold (followed m) next events) in
    ap (λ n. (event_text shown registers n entry next ++ events_text shown registers m (n + 1) next events) ++ end) number
    ∙ append_assoc (event_text shown registers (printer.count - length events) entry next) (events_text shown registers m (printer.count - length events + 1) next events) end

pub going-begun : (old now : Printer) (m : Parts) (entry : Entry) (all : List Event) → now.text.items ≡ [] → now.form ≡ old.form → now.count ≡ old.count → Prints now m entry → Going old now m entry all all
going-begun old now m entry all empty form count prints = record {
  last = entry;
  prints = prints;
  made = sym (ap (λ (text : List ℕ). text ++ rest_text now m entry all) empty ∙ same-rest old now m entry all form count);
}

pub going-next : (old now next : Printer) (m : Parts) (entry : Entry) (all : List Event) (event : Event) (left : List Event) (number : ℕ) → (going : Going old now m entry all (event ∷ left))
    → suc (length left) ≤ now.count → number ≡ now.count - length left → next.form ≡ now.form → next.count ≡ now.count
    → next.text.items ≡ now.text.items ++ event_text now.form.shown now.form.registers number going.last (followed m going.last event)
    → Prints next m (followed m going.last event) → Going old next m entry all left
going-next old now next m entry all event left number going fewer is form count text prints =
    let last = followed m going.last event in
    let line : ℕ → List ℕ = λ n. event_text now.form.shown now.form.registers n going.last last in
    record {
      last = last;
      prints = prints;
      made = going.made
          ∙ ap (λ (rest : List ℕ). now.text.items ++ rest) (rest-next now m going.last event left fewer)
          ∙ sym (append_assoc now.text.items (line (now.count - length left)) (rest_text now m last left))
          ∙ ap₂ (λ n (rest : List ℕ). (now.text.items ++ line n) ++ rest) (sym is) (sym (same-rest now next m last left form count))
          ∙ ap (λ (made : List ℕ). made ++ rest_text next m last left) (sym text);
    }

pub going-ended : (old now : Printer) (m : Parts) (entry : Entry) (all : List Event) (text : List ℕ) → (going : Going old now m entry all []) → text ≡ now.text.items ++ end_text now.form.shown now.form.registers going.last
    → rest_text old m entry all ≡ text ++ []
going-ended old now m entry all text going is = going.made ∙ sym is ∙ sym (append-nil text)

-- ---- printers

-- a printer whose text is empty, but has the room that it had
pub prints-kept : (old now : Printer) (m : Parts) (entry : Entry) → now.runner ≡ old.runner → now.form ≡ old.form → now.seen ≡ old.seen → now.line_room ≡ old.line_room
    → vec_capacity old.text ≤ vec_capacity now.text → Prints old m entry → Prints now m entry
prints-kept old now m entry runner form seen room capacity prints = record {
  shows = subst (λ (one : Runner). Shows one m entry) (sym runner) prints.shows;
  names = prints.names;
  seen = λ changes.
      subst (λ (one : Seen). Sees one now.form.registers entry) (sym seen)
      (subst (λ (how : LineForm). Sees old.seen how.registers entry) (sym form) (prints.seen (sym (ap (λ (how : LineForm). how.shown) form) ∙ changes)));
  line = ap (λ (how : LineForm). 32 + length (entry_line how.registers entry)) form ∙ prints.line ∙ sym room;
  room = omega (arith, prints.room, room, capacity);
}

-- a call that can't fail, since its errors have a cause that isn't there
pub ok-where : {T E P : Type 0} (result : Result T E) → OnErr result P → (P → ⊥) → IsOk result
ok-where (Ok value) cause none = refl
ok-where (Err e) cause none = absurd (none cause)

-- there is room for a line
pub room-here : (printer : Printer) (m : Parts) (entry : Entry) → Prints printer m entry → vec_len printer.text < 65536
    → HasRoom (vec_len printer.text) (vec_capacity printer.text) printer.runner printer.form.registers
room-here printer m entry prints short =
    record { m = m; entry = entry; shows = prints.shows; fits = omega (arith, prints.line, prints.room, short) }

-- there is room for the line of an event with a number
pub room-next : (printer : Printer) (next : Runner) (m : Parts) (entry : Entry) (event : Event) → Prints printer m entry → vec_len printer.text < 65536
    → Shows next m (followed m entry event) → HasRoom (vec_len printer.text + 32) (vec_capacity printer.text) next printer.form.registers
room-next printer next m entry event prints short shows =
    let size = same-length m printer.form.registers entry (followed m entry event) prints.names (followed-names m entry event prints.names) in
    record { m = m; entry = followed m entry event; shows = shows; fits = omega (arith, prints.line, prints.room, short, size) }

-- the printer after an event
pub prints-next : (old now : Printer) (m : Parts) (entry : Entry) (event : Event) → Prints old m entry → now.form ≡ old.form → now.line_room ≡ old.line_room
    → vec_capacity old.text ≤ vec_capacity now.text → Shows now.runner m (followed m entry event)
    → (now.form.shown ≡ Changes → Sees now.seen now.form.registers (followed m entry event)) → Prints now m (followed m entry event)
prints-next old now m entry event prints form room capacity shows seen =
    let size = same-length m old.form.registers entry (followed m entry event) prints.names (followed-names m entry event prints.names) in
    record {
      shows = shows;
      names = followed-names m entry event prints.names;
      seen = seen;
      line = ap (λ (how : LineForm). 32 + length (entry_line how.registers (followed m entry event))) form ∙ ap (λ n. 32 + n) (sym size) ∙ prints.line ∙ sym room;
      room = omega (arith, prints.room, room, capacity);
    }
