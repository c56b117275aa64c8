use Rattle.std.proofs.Common.{◌≡◌, ◌<◌, ℕ, fold, take}
use Rattle.vlog_module.specs.Parts.{Parts}
use Rattle.vlog_semantics.specs.Entries.{Entry}
use Rattle.vlog_lanes.specs.Showing.{Shows, input_count}
use Rattle.vlog_lanes.proofs.Called.{called}
use Rattle.vlog_lanes.proofs.lanes.Lanes.run.Given as goal

abbrev pub invariant-loop-call : goal.invariant-loop-call
invariant-loop-call l = record {
  shows : (lane : ℕ) (m : Parts) (entry : Entry) → lane < 64 → Shows l.initial.self lane m entry → Shows l.self lane m (fold (called m lane) entry (take l.call-index l.calls));
  inputs : input_count l.self ≡ input_count l.initial.self;
}
