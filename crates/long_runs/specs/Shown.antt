-- The lines of a run that are shown. Which lines these are is this project's choice.
use Rattle.std.specs.Prelude.{◌≡◌, ℕ, ◌+◌, ◌*◌, ◌^◌, Bool, false, List, [], ◌∷◌, ◌++◌, bytes_eq, decimal, flat_map, length, nat_lt, if◌then◌else◌}
use Rattle.std.specs.List.{join_with_byte}
use Rattle.vlog_module.specs.Parts.{Parts}
use Rattle.vlog_semantics.specs.declared.event.Event.{Event}
use Rattle.vlog_semantics.specs.Entries.{Entry}
use Rattle.vlog_semantics.specs.ModuleSlots.{register_names, word_names}
use Rattle.vlog_semantics.specs.Named.{names_of}
use Rattle.vlog_semantics.specs.Run.{last_of, module_run, output_start, start}
use Rattle.vlog_run.specs.Text.{entry_line}
use Rattle.long_runs.specs.declared.fault.LinesFault.{LinesFault}
use Rattle.long_runs.specs.declared.fault.LinesFault.TheVariants as fault
use Rattle.long_runs.specs.declared.form.LineForm.{LineForm}
use Rattle.long_runs.specs.declared.form.Shown.{Shown}
use Rattle.long_runs.specs.declared.form.Shown.TheVariants.{All, Changes, Last}

-- ---- the names

-- the outputs in the order of the ports, and the registers behind them in the order in which a line has them
abbrev pub shown_names : Parts → Bool → List (List ℕ)
shown_names m registers =
    names_of (flat_map output_start m.ports) ++ (if registers then register_names m.items ++ word_names m.items else [])

-- the names, a space between two
unfoldable pub head_line : Parts → Bool → List ℕ
head_line m registers = join_with_byte 32 (shown_names m registers) ++ 10 ∷ []

-- ---- the lines

-- a line with a number and a space before it
abbrev pub numbered_line : ℕ → List ℕ → List ℕ
numbered_line number line = decimal number ++ 32 ∷ line

-- the lines of entries that differ from the line of the entry before, each with its number; the first entry here has this number
abbrev pub changed_lines : Bool → ℕ → Entry → List Entry → List ℕ
changed_lines registers number before [] = []
changed_lines registers number before (entry ∷ entries) =
    (if bytes_eq (entry_line registers before) (entry_line registers entry) then [] else numbered_line number (entry_line registers entry))
    ++ changed_lines registers (number + 1) entry entries

-- the lines of a run that are shown: all of them, as `run_text` has them; the first one, and then those that differ from the one before; or
-- the last one
abbrev pub shown_lines : Shown → Bool → List Entry → List ℕ
shown_lines shown registers [] = []
shown_lines All registers (entry ∷ entries) = flat_map (entry_line registers) (entry ∷ entries)
shown_lines Changes registers (entry ∷ entries) = numbered_line 0 (entry_line registers entry) ++ changed_lines registers 1 entry entries
shown_lines Last registers (entry ∷ entries) = entry_line registers (last_of entry entries)

-- the names, if they are asked for
abbrev pub head_text : Parts → LineForm → List ℕ
head_text m form = if form.head then head_line m form.registers else []

-- the text of a run, perhaps with the names before it
unfoldable pub shown_text : Parts → List Event → LineForm → List ℕ
shown_text m events form = head_text m form ++ shown_lines form.shown form.registers (module_run m events)

-- ---- how long it may be

-- the most lines of a run with so many events that are shown
abbrev pub most_lines : Shown → ℕ → ℕ
most_lines Last events = 1
most_lines shown events = events + 1

-- the most bytes of the text of a run with so many events: the names, and for each line 32 for its number and a line, which are all as long
-- as the first one
abbrev pub most_bytes : Parts → ℕ → LineForm → ℕ
most_bytes m events form = length (head_text m form) + most_lines form.shown events * (32 + length (entry_line form.registers (start m)))

-- whether that many bytes can be counted in 64 bits
unfoldable pub is_countable : Parts → ℕ → LineForm → Bool
is_countable m events form = nat_lt (most_bytes m events form) (2 ^ 64)

-- lines can't be prepared because they may be too long, or because memory is out
abbrev pub TellsLines : Bool → LinesFault → Type 0
TellsLines countable fault.Long = countable ≡ false
TellsLines countable (fault.Memory e) = Unit {0}
