-- Runs whose lines are made piece by piece.
use Rattle.std.specs.Prelude.{◌≡◌, ◌≤◌, ◌<◌, ◌+◌, ◌-◌, ◌^◌, ℕ, Bool, true, List, [], ◌∷◌, ◌++◌, bytes_eq, fold, length, vec_capacity, if◌then◌else◌}
use Rattle.vlog_module.specs.Parts.{Parts}
use Rattle.vlog_semantics.specs.declared.event.Event.{Event}
use Rattle.vlog_semantics.specs.Entries.{Entry}
use Rattle.vlog_semantics.specs.Run.{followed}
use Rattle.vlog_run.specs.Showing.{Shows, input_count}
use Rattle.vlog_run.specs.Text.{entry_line}
use Rattle.vlog_run.specs.declared.runner.Runner.{Runner}
use Rattle.long_runs.specs.declared.form.Shown.{Shown}
use Rattle.long_runs.specs.declared.form.Shown.TheVariants.{All, Changes, Last}
use Rattle.long_runs.specs.declared.printer.Printer.{Printer}
use Rattle.long_runs.specs.Shown.{numbered_line}
use Rattle.long_runs.specs.inside.Values.{HasNames, Sees}

-- ---- lines

-- what is shown of an event: its line after a line before
abbrev pub event_text : Shown → Bool → ℕ → Entry → Entry → List ℕ
event_text All registers number before entry = entry_line registers entry
event_text Changes registers number before entry =
    if bytes_eq (entry_line registers before) (entry_line registers entry) then [] else numbered_line number (entry_line registers entry)
event_text Last registers number before entry = []

-- what is shown of events after an entry, the first of which has this number
abbrev pub events_text : Shown → Bool → Parts → ℕ → Entry → List Event → List ℕ
events_text shown registers m number before [] = []
events_text shown registers m number before (event ∷ events) =
    event_text shown registers number before (followed m before event) ++ events_text shown registers m (number + 1) (followed m before event) events

-- what is shown of the start, and what after all events
abbrev pub start_text : Shown → Bool → Entry → List ℕ
start_text All registers entry = entry_line registers entry
start_text Changes registers entry = numbered_line 0 (entry_line registers entry)
start_text Last registers entry = []

abbrev pub end_text : Shown → Bool → Entry → List ℕ
end_text Last registers entry = entry_line registers entry
end_text _ registers entry = []

-- ---- printers

-- the runner has the state of an entry, there is enough room for a line, and if changes are shown, the values are the entry's
pub record Prints (printer : Printer) (m : Parts) (entry : Entry) : Type 0 where
  pub shows : Shows printer.runner m entry
  pub names : HasNames m entry
  pub seen : printer.form.shown ≡ Changes → Sees printer.seen printer.form.registers entry
  pub line : 32 + length (entry_line printer.form.registers entry) ≡ printer.line_room
  pub room : 65536 + printer.line_room ≤ vec_capacity printer.text

-- some entry is printed
pub record IsPrinting (printer : Printer) : Type 0 where
  pub m : Parts
  pub entry : Entry
  pub prints : Prints printer m entry

-- there is room for a line of the runner
pub record HasRoom (length_now capacity : ℕ) (runner : Runner) (registers : Bool) : Type 0 where
  pub m : Parts
  pub entry : Entry
  pub shows : Shows runner m entry
  pub fits : length_now + length (entry_line registers entry) ≤ capacity

-- what a printer shows of events after an entry, and of the end; the events are the last ones of all
abbrev pub rest_text : Printer → Parts → Entry → List Event → List ℕ
rest_text printer m before events =
    events_text printer.form.shown printer.form.registers m (printer.count - length events + 1) before events
    ++ end_text printer.form.shown printer.form.registers (fold (followed m) before events)

-- some entry is printed, and what is shown of events after it, after the first `before` bytes of a text, can be counted in 64 bits
pub record IsSendable (printer : Printer) (before : ℕ) (events : List Event) : Type 0 where
  pub m : Parts
  pub entry : Entry
  pub prints : Prints printer m entry
  pub few : before + length (rest_text printer m entry events) < 2 ^ 64

-- a piece of that was made, and these events are left
pub record Makes (old new : Printer) (m : Parts) (before : Entry) (events left : List Event) (more : Bool) : Type 0 where
  pub last : Entry
  pub prints : Prints new m last
  pub fewer : more ≡ true → length left < length events
  pub made : rest_text old m before events ≡ new.text.items ++ (if more then rest_text new m last left else [])

-- the printer is as it was, but for the run
pub record StaysFormed (old new : Printer) : Type 0 where
  pub form : new.form ≡ old.form
  pub count : new.count ≡ old.count
  pub inputs : input_count new.runner ≡ input_count old.runner
