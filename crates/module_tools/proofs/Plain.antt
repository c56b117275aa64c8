-- All lines that are shown are the text of a run.
use Rattle.std.proofs.Common.{◌≡◌, false, List}
use Rattle.vlog_module.specs.Parts.{Parts}
use Rattle.vlog_semantics.specs.declared.event.Event.{Event}
use Rattle.vlog_run.specs.Text.{run_text}
use Rattle.long_runs.proofs.Plain.{shown-plain}
use Rattle.long_runs.specs.declared.form.Shown.TheVariants.{All}
use Rattle.long_runs.specs.Shown.{shown_text}
use Rattle.module_tools.specs.Vlogsweep.{outputs_in}

pub shown_plain : (m : Parts) (events : List Event) → shown_text m events (outputs_in All) ≡ run_text m events false
shown_plain m events = shown-plain m events false
