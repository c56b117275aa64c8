use Rattle.std.proofs.Common.{◌+◌, ◌++◌, ◌≤◌, ◌<◌, length}
use Rattle.std.specs.Prelude.{All, if◌then◌else◌}
use Rattle.vlog_module.specs.Parts.{Parts}
use Rattle.vlog_semantics.specs.Entries.{Entry}
use Rattle.vlog_run.specs.Showing.{input_count}
use Rattle.long_events.specs.Streams.{events_left}
use Rattle.long_runs.specs.inside.Printing.{Prints, rest_text}
use Rattle.long_runs.proofs.Sent.{Adding}
use Rattle.long_runs.proofs.texts.push_rest.Given as goal

abbrev pub invariant-loop-more : goal.invariant-loop-more
invariant-loop-more l = record {
  going : (m : Parts) (entry : Entry) → Prints l.initial.printer m entry
      → Adding m l.text.items l.printer (events_left l.events) l.more (l.initial.text.items ++ rest_text l.initial.printer m entry (events_left l.initial.events));
  inputs : All (λ event. event.pin < input_count l.printer.runner) (events_left l.events);
  counted : length (events_left l.events) ≤ l.printer.count;
}

abbrev pub decreases-loop-more : goal.decreases-loop-more
decreases-loop-more l = if l.more then length (events_left l.events) + 1 else 0
