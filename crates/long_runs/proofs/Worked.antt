-- Worked values of the definitions.
use Rattle.std.proofs.Common.{◌≡◌, ℕ, Bool, true, false, List, [], ◌∷◌, refl}
use Rattle.std.specs.Prelude.{codes}
use Rattle.std.specs.Fmt.{digits}
use Rattle.vlog_module.specs.declared.atoms.Atom.TheVariants.{Bit, Whole}
use Rattle.vlog_module.specs.declared.item.Item.TheVariants.{Register, Word, Assign, FlipFlop}
use Rattle.vlog_module.specs.Parts.{Parts}
use Rattle.vlog_semantics.specs.declared.event.Event.{Event}
use Rattle.vlog_semantics.specs.Run.{acted, changed, followed, last_of, module_run, run_from, settled, start, waved}
use Rattle.vlog_run.specs.Text.{entry_line, run_text}
use Rattle.long_runs.specs.declared.form.LineForm.{LineForm}
use Rattle.long_runs.specs.declared.form.Shown.{Shown}
use Rattle.long_runs.specs.declared.form.Shown.TheVariants.{All, Changes, Last}
use Rattle.long_runs.specs.Shown.{head_line, shown_text}

event : ℕ → Bool → Event
event pin bit = record { pin = pin; bit = bit }

form : Shown → Bool → Bool → LineForm
form shown registers head = record { shown = shown; registers = registers; head = head }

-- the register turns at rising edges of `c`, and one output is the clock
turning : Parts
turning = record {
  name = codes "m";
  ports = record { name = codes "c"; output = false } ∷ record { name = codes "q"; output = true } ∷ record { name = codes "p"; output = true } ∷ [];
  items = Register (codes "r") false ∷ Word (codes "w") 0 ∷ Register (codes "s") true ∷ Assign (codes "q") (Whole (codes "r")) ∷ Assign (codes "p") (Bit true)
      ∷ FlipFlop false (codes "c") (Bit true) (Bit false) false (codes "r") (record { word = 21845; ins = Whole (codes "r") ∷ Bit false ∷ Bit false ∷ Bit false ∷ [] }) ∷ [];
}

four : List Event
four = event 0 true ∷ event 0 false ∷ event 0 false ∷ event 0 true ∷ []

-- the third and the last event change nothing that is shown
changes : shown_text turning four (form Changes false true) ≡ codes "q p\n0 01\n1 11\n4 01\n"
unfolding digits shown_text head_line module_run run_from followed changed acted waved start settled entry_line turning four form event
changes = refl

registers : shown_text turning (event 0 false ∷ event 0 true ∷ []) (form Changes true true) ≡ codes "q p r s w\n0 01 01 0000\n2 11 11 0000\n"
unfolding digits shown_text head_line module_run run_from followed changed acted waved start settled entry_line turning form event
registers = refl

last : shown_text turning (event 0 true ∷ []) (form Last true false) ≡ codes "11 11 0000\n"
unfolding shown_text module_run run_from last_of followed changed acted waved start settled entry_line turning form event
last = refl

-- without events the line of the start is the last one
last_start : shown_text turning [] (form Last false true) ≡ codes "q p\n01\n"
unfolding shown_text head_line module_run run_from last_of followed changed acted waved start settled entry_line turning form event
last_start = refl

-- all lines are the text of the run
all_lines : shown_text turning four (form All true false) ≡ run_text turning four true
unfolding shown_text run_text module_run run_from followed changed acted waved start settled entry_line turning four form event
all_lines = refl

all_told : shown_text turning (event 0 true ∷ []) (form All true false) ≡ codes "01 01 0000\n11 11 0000\n"
unfolding shown_text module_run run_from followed changed acted waved start settled entry_line turning form event
all_told = refl
