use Rattle.std.proofs.Common.{◌≡◌, ◌+◌, ◌*◌, ◌^◌, ◌<◌, ◌≤◌, length}
use Rattle.std.specs.Prelude.{All}
use Rattle.vlog_module.specs.Parts.{Parts}
use Rattle.vlog_semantics.specs.Entries.{Entry}
use Rattle.vlog_run.specs.Showing.{input_count}
use Rattle.long_events.specs.Streams.{events_left}
use Rattle.vlog_waves.specs.inside.Tracing.{Traces}
use Rattle.vlog_waves.specs.inside.Values.{event_room}
use Rattle.vlog_waves.proofs.Tracing.{Going}
use Rattle.vlog_waves.proofs.sending.write_events.Given as goal

abbrev pub invariant-loop-event : goal.invariant-loop-event
invariant-loop-event g l = record {
  going : (m : Parts) (entry : Entry) → Traces l.initial.tracer m entry → l.ports ≡ m.ports
      → Going m entry (g.K.Sink.held l.initial.sink) (g.K.Sink.held l.sink) l.before l.sent l.tracer (events_left l.initial.events) (events_left l.events);
  most : l.sent + length (events_left l.events) * event_room l.initial.tracer.values < 2 ^ 64;
  within : All (λ event. event.pin < input_count l.initial.tracer.runner) (events_left l.events);
  fewer : length (events_left l.events) ≤ length (events_left l.initial.events);
  inputs : input_count l.tracer.runner ≡ input_count l.initial.tracer.runner;
  room : event_room l.tracer.values ≡ event_room l.initial.tracer.values;
  faults : g.K.Sink.faults l.initial.sink ≤ g.K.Sink.faults l.sink;
}

abbrev pub decreases-loop-event : goal.decreases-loop-event
decreases-loop-event g l = length (events_left l.events)
