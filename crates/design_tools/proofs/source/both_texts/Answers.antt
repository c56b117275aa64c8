use Rattle.std.proofs.Common.{ap₂, sym}
use Rattle.tool_run.specs.Tasks.{Both}
use Rattle.design_tools.proofs.source.both_texts.Goals as goal

pub returns : goal.returns
returns c = λ db image of. ap₂ Both (sym c.in_ok-target.ensures.text) (sym (c.in_ok-beside.ensures db image of))
