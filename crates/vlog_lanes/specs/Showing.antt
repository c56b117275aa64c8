-- When a lane has the state of an entry.
use Rattle.std.specs.Prelude.{ℕ}
use Rattle.vlog_module.specs.Parts.{Parts}
use Rattle.vlog_engine.specs.Boards.{Shows as LaneShows, input_count as lane_inputs}
use Rattle.vlog_semantics.specs.Entries.{Entry}
use Rattle.vlog_lanes.specs.declared.lanes.Lanes.{Lanes}

abbrev pub Shows : Lanes → ℕ → Parts → Entry → Type 0
Shows lanes lane m entry = LaneShows lanes.board lane m entry

-- how many inputs the module has
abbrev pub input_count : Lanes → ℕ
input_count lanes = lane_inputs lanes.board
