-- All lines without the names are the text of a run.
use Rattle.std.proofs.Common.{◌≡◌, Bool, false, List, [], ◌∷◌, refl}
use Rattle.std.specs.Prelude.{flat_map}
use Rattle.vlog_module.specs.Parts.{Parts}
use Rattle.vlog_semantics.specs.declared.event.Event.{Event}
use Rattle.vlog_semantics.specs.Entries.{Entry}
use Rattle.vlog_semantics.specs.Run.{module_run}
use Rattle.vlog_run.specs.Text.{entry_line, run_text}
use Rattle.long_runs.specs.declared.form.Shown.TheVariants.{All}
use Rattle.long_runs.specs.Shown.{shown_lines, shown_text}

all-shown : (registers : Bool) (entries : List Entry) → shown_lines All registers entries ≡ flat_map (entry_line registers) entries
all-shown registers [] = refl
all-shown registers (entry ∷ entries) = refl

pub shown-plain : (m : Parts) (events : List Event) (registers : Bool) → shown_text m events (record { shown = All; registers = registers; head = false }) ≡ run_text m events registers
unfolding shown_text run_text
shown-plain m events registers = all-shown registers (module_run m events)
