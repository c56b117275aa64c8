-- When a runner has the state of an entry.
use Rattle.std.specs.Prelude.{ℕ}
use Rattle.vlog_module.specs.Parts.{Parts}
use Rattle.vlog_engine.specs.Boards.{Shows as LaneShows, input_count as lane_inputs}
use Rattle.vlog_run.specs.declared.runner.Runner.{Runner}
use Rattle.vlog_semantics.specs.Entries.{Entry}

-- the runner's only lane has the state of the entry
abbrev pub Shows : Runner → Parts → Entry → Type 0
Shows runner m entry = LaneShows runner.board 0 m entry

-- how many inputs a runner has
abbrev pub input_count : Runner → ℕ
input_count runner = lane_inputs runner.board
