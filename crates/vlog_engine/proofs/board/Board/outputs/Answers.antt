use Rattle.std.proofs.Common.{ap, ◌∙◌}
use Rattle.vlog_engine.specs.Lanes.{lane_bits}
use Rattle.vlog_engine.proofs.board.Board.outputs.Goals as goal

pub returns : goal.returns
returns g c lane m entry shows = ap (lane_bits g.V.Value.at lane) c.deref.ensures.value ∙ shows.shown.outputs_are
