-- Streams of events.
use Rattle.std.specs.Prelude.{List}
use Rattle.vlog_semantics.specs.declared.event.Event.{Event}
use Rattle.long_events.specs.declared.stream.EventStream.{EventStream}
use Rattle.long_events.specs.Moves.{events_from}
use Rattle.long_events.specs.inside.Cursors.{moves_left}

-- the events that a stream hasn't given yet
unfoldable pub events_left : EventStream → List Event
events_left stream = events_from stream.bits.items (moves_left stream.steps.items stream.cursor)
