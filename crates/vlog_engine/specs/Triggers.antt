-- What makes the edges of a step.
use Rattle.std.specs.Prelude.{◌≡◌, ◌<◌, ℕ, List, Bool}
use Rattle.vlog_engine.specs.declared.edges.Cause.{Cause}
use Rattle.vlog_engine.specs.declared.edges.Cause.TheVariants.{Event, Registers}
use Rattle.vlog_engine.specs.StepKinds.{Step}
use Rattle.vlog_engine.specs.StepKinds.Step.{at_event, at_wave}

-- the step of a lane whose cells have these bits, and had those at an earlier moment
abbrev pub step_by : Cause → List Bool → List Bool → Step
step_by (Event event) earlier now = at_event event
step_by (Registers first end) earlier now = at_wave first end earlier now

-- an event is that of one of so many inputs
abbrev pub HasPin : ℕ → Cause → Type 0
HasPin count (Event event) = event.pin < count
HasPin count (Registers first end) = Unit {0}

-- the registers are all that stand from cell `from` up to cell `first`
abbrev pub IsCauseOf : ℕ → ℕ → Cause → Type 0
IsCauseOf from first (Event event) = Unit {0}
IsCauseOf from first (Registers start end) = (start ≡ from) × (end ≡ first)
