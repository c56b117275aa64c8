-- The two kinds of steps: the first step of an event, and a wave.
use Rattle.std.specs.Prelude.{ℕ, ◌<◌, List, Bool, slice_set}
use Rattle.vlog_semantics.specs.declared.event.Event.{Event}
use Rattle.vlog_semantics.specs.declared.plan.Edge.{Edge}
use Rattle.vlog_semantics.specs.Steps.{SlotEdges, is_between, is_edge_of, slots_between, slots_by}

pub data Step : Type 0 where
  -- an event changes its input
  at_event : Event → Step
  -- a wave after two moments with these bits, of registers that stand from cell `first` up to cell `end`
  at_wave : (first end : ℕ) (earlier now : List Bool) → Step

-- the edges of a step
unfoldable pub slots_of : Step → SlotEdges
slots_of (at_event event) = slots_by event
slots_of (at_wave first end earlier now) = slots_between first end earlier now

-- whether a step may be this edge: the items with another one are left out
abbrev pub picks : Step → Edge → Bool
picks (at_event event) edge = is_edge_of event edge
picks (at_wave first end earlier now) edge = is_between first end edge.clock

-- the input of an event gets its bit; a wave leaves the inputs as they are
unfoldable pub pinned : Step → List Bool → List Bool
pinned (at_event event) cells = slice_set cells event.pin event.bit
pinned (at_wave first end earlier now) cells = cells

-- the input of an event comes before this cell
abbrev pub IsPinnedBelow : ℕ → Step → Type 0
IsPinnedBelow first (at_event event) = event.pin < first
IsPinnedBelow first (at_wave from end earlier now) = Unit {0}
