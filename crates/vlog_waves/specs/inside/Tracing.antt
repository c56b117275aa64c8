-- Runs whose changes are dumped.
use Rattle.std.specs.Prelude.{◌≡◌, ℕ, suc, List, [], ◌∷◌, ◌++◌}
use Rattle.vlog_module.specs.Parts.{Parts}
use Rattle.vlog_semantics.specs.declared.event.Event.{Event}
use Rattle.vlog_semantics.specs.Entries.{Entry}
use Rattle.vlog_semantics.specs.Run.{followed}
use Rattle.vlog_run.specs.Showing.{Shows}
use Rattle.vlog_waves.specs.Variables.{values_in}
use Rattle.vlog_waves.specs.Waves.{changed_lines, time_line}
use Rattle.vlog_waves.specs.declared.tracer.Tracer.{Tracer}
use Rattle.vlog_waves.specs.inside.Values.{Fits, values_held}

-- the runner has the state of an entry, and the entry's values were dumped last
pub record Traces (tracer : Tracer) (m : Parts) (entry : Entry) : Type 0 where
  pub shows : Shows tracer.runner m entry
  pub fits : Fits m tracer.values
  pub held : values_held tracer.values ≡ values_in m entry

-- the lines of an event
abbrev pub lines_of_event : Parts → ℕ → Entry → Event → List (List ℕ)
lines_of_event m time before event = time_line time ∷ changed_lines 0 (values_in m before) (values_in m (followed m before event))

-- the lines of the events after an entry
abbrev pub lines_after : Parts → ℕ → Entry → List Event → List (List ℕ)
lines_after m time before [] = []
lines_after m time before (event ∷ events) = lines_of_event m time before event ++ lines_after m (suc time) (followed m before event) events
