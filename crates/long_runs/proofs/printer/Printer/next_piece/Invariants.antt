use Rattle.std.proofs.Common.{◌≤◌, ◌<◌, length}
use Rattle.std.specs.Prelude.{All}
use Rattle.vlog_module.specs.Parts.{Parts}
use Rattle.vlog_semantics.specs.Entries.{Entry}
use Rattle.vlog_run.specs.Showing.{input_count}
use Rattle.long_events.specs.Streams.{events_left}
use Rattle.long_runs.specs.inside.Printing.{IsPrinting, Prints, StaysFormed}
use Rattle.long_runs.proofs.Printed.{Going}
use Rattle.long_runs.proofs.printer.Printer.next_piece.Given as goal

abbrev pub invariant-loop-events : goal.invariant-loop-events
invariant-loop-events l = record {
  going : (m : Parts) (entry : Entry) → Prints l.fn.self m entry → Going l.fn.self l.self m entry (events_left l.fn.events) (events_left l.events);
  printing : IsPrinting l.self;
  inputs : All (λ event. event.pin < input_count l.self.runner) (events_left l.events);
  counted : length (events_left l.events) ≤ l.self.count;
  formed : StaysFormed l.fn.self l.self;
  moved : 0 < length l.self.text.items → length (events_left l.events) < length (events_left l.fn.events);
  fewer : length (events_left l.events) ≤ length (events_left l.fn.events);
}

abbrev pub decreases-loop-events : goal.decreases-loop-events
decreases-loop-events l = length (events_left l.events)
