use Rattle.std.proofs.Common.{get_or, []}
use Rattle.std.proofs.lemmas.Result.{IfErr-weaker}
use Rattle.tool_inputs.specs.DesignInput.{answer_to_both}
use Rattle.design_tools.specs.Vlog.{listed, written}
use Rattle.design_tools.proofs.writing.WritingPieceTool.begin.Goals as goal

pub returns-clause-stops : goal.returns-clause-stops
returns-clause-stops c =
    IfErr-weaker c.begin.result _ _
    (λ stop stops texts.
    let answer = written c.args.self.now.options c.args.self.now.name.text.now (listed c.args.self.now.has_list (get_or texts 1 [])) in
    stops (answer_to_both answer (get_or texts 0 []) (get_or texts 1 [])))
    c.begin.ensures.stops
