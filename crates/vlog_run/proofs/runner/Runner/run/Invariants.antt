use Rattle.std.proofs.Common.{◌≡◌, take}
use Rattle.vlog_module.specs.Parts.{Parts}
use Rattle.vlog_semantics.specs.Entries.{Entry}
use Rattle.vlog_run.specs.Showing.{Shows, input_count}
use Rattle.vlog_semantics.proofs.Runs.{last_entry}
use Rattle.vlog_run.proofs.runner.Runner.run.Given as goal

abbrev pub invariant-loop-event : goal.invariant-loop-event
invariant-loop-event l = record {
  shows : (m : Parts) (entry : Entry) → Shows l.initial.self m entry → Shows l.self m (last_entry m entry (take l.event-index l.events));
  inputs : input_count l.self ≡ input_count l.initial.self;
}
