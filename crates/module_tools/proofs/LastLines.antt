-- The last line of a run alone.
use Rattle.std.proofs.Common.{◌≡◌, ℕ, ◌++◌, [], ◌∷◌, false, ap, ap₂, fold, List, refl, sym, ◌∙◌}
use Rattle.clap.specs.Words.{Text}
use Rattle.index_search.specs.Places.{or_else}
use Rattle.vlog_module.specs.declared.modules.Port.{Port}
use Rattle.vlog_module.specs.Parts.{Parts}
use Rattle.vlog_semantics.specs.declared.event.Event.{Event}
use Rattle.vlog_semantics.specs.Run.{followed, last_of, module_run, run_from, start}
use Rattle.vlog_semantics.proofs.Runs.{last-run}
use Rattle.vlog_run.specs.Events.{events_of}
use Rattle.vlog_run.specs.Text.{entry_line}
use Rattle.vlog_sweep.specs.Sweep.{last_text}
use Rattle.vlog_sweep.specs.declared.list.EventList.{EventList}
use Rattle.long_runs.specs.declared.form.Shown.TheVariants.{Last}
use Rattle.long_runs.specs.Shown.{shown_text}
use Rattle.module_tools.specs.Vlogsweep.{EventFile, file_refusal, file_text, first_refusal, heading_of, last_form, outputs_in, plain_form}

-- the line after all events is what is shown of a run if the last line alone is
pub last_shown : (m : Parts) (events : List Event) → entry_line false (fold (followed m) (start m) events) ≡ shown_text m events (outputs_in Last)
unfolding shown_text module_run run_from last_of
last_shown m [] = refl
last_shown m (event ∷ events) = ap (entry_line false) (sym (last-run m (start m) (followed m (start m) event) events))

-- a list that was read from a file has the file's heading and last line
pub last_read : (m : Parts) (list : EventList) (name : Text) (bytes : List ℕ) → list.heading.items ≡ heading_of name → list.events.items ≡ events_of m.ports bytes
    → last_text m list ≡ file_text last_form m (record { name = name; bytes = bytes })
last_read m list name bytes heading events =
    ap₂ (λ head items. head ++ entry_line false (fold (followed m) (start m) items)) heading events
    ∙ ap (λ line. heading_of name ++ line) (last_shown m (events_of m.ports bytes))

-- which list is refused first doesn't depend on the lines that are shown
pub refusal_same : (ports : List Port) (files : List EventFile) → first_refusal last_form ports files ≡ first_refusal plain_form ports files
refusal_same ports [] = refl
refusal_same ports (file ∷ files) = ap (λ later. or_else (file_refusal plain_form ports file) later) (refusal_same ports files)
