use Rattle.tool_inputs.proofs.UnderLayouts.{stops_under}
use Rattle.tool_inputs.proofs.design_input.DesignInput.begin.Goals as goal

pub returns-in-Err-clause-stops : goal.returns-in-Err-clause-stops
returns-in-Err-clause-stops c = λ answer. stops_under _ answer c.in-Err.stop c.in-Err.ensures.stops
