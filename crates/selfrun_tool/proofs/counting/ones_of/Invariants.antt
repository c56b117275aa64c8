use Rattle.std.proofs.Common.{◌≡◌, ◌<◌, ◌+◌, ◌*◌, ◌^◌, take}
use Rattle.vlog_semantics.specs.Run.{run_from, start}
use Rattle.vlog_run.specs.Showing.{Shows}
use Rattle.vlog_semantics.proofs.Runs.{last_entry}
use Rattle.selfrun_tool.specs.Counted.{ones_in}
use Rattle.selfrun_tool.specs.Inside.{module_bits}
use Rattle.selfrun_tool.proofs.counting.ones_of.Given as goal

abbrev pub invariant-loop-event : goal.invariant-loop-event
invariant-loop-event l = record {
  shows : Shows l.runner l.module (last_entry l.module (start l.module) (take l.event-index l.events));
  ones_are : l.ones ≡ ones_in (module_bits (run_from l.module (start l.module) (take l.event-index l.events)));
  small : l.ones < (l.event-index + 1) * 2 ^ 64;
}
