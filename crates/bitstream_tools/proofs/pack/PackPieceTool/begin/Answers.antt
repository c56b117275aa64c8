use Rattle.tool_inputs.proofs.UnderLayouts.{stops_under}
use Rattle.bitstream_tools.proofs.pack.PackPieceTool.begin.Goals as goal

pub returns-in-Err-clause-stops : goal.returns-in-Err-clause-stops
returns-in-Err-clause-stops c = λ texts. stops_under _ _ c.in-Err.stop c.in-Err.ensures.stops
