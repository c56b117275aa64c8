use Rattle.std.proofs.Common.{◌∙◌, sym}
use Rattle.std.specs.Prelude.{None, map, string_bytes}
use Rattle.tool_run.specs.Tasks.{at_once}
use Rattle.tool_run.proofs.Same.{Does-same}
use Rattle.tool_inputs.proofs.CommandLines.{helped-no, helped-yes}
use Rattle.selfrun_tool.specs.declared.request.TheConstants.{SELFRUN_HELP}
use Rattle.selfrun_tool.specs.Selfrun.{selfrun_name, selfrun_request}
use Rattle.selfrun_tool.proofs.Answer.{one-answer}
use Rattle.selfrun_tool.proofs.running.run_selfrun.Goals as goal

pub returns-then-asks_for_help-clause-one_answer : goal.returns-then-asks_for_help-clause-one_answer
returns-then-asks_for_help-clause-one_answer g c = one-answer (selfrun_request (map string_bytes c.args.args.now))

pub returns-then-asks_for_help-clause-does : goal.returns-then-asks_for_help-clause-does
returns-then-asks_for_help-clause-does g c answer given =
    let args = map string_bytes c.args.args.now in
    Does-same _ _ _ _ _ _ (helped-yes selfrun_name SELFRUN_HELP.now args (at_once selfrun_name None answer) (sym c.asks_for_help.ensures ∙ c.if-asks_for_help.true)) c.answer_at_once.ensures

pub returns-clause-one_answer : goal.returns-clause-one_answer
returns-clause-one_answer g c = one-answer (selfrun_request (map string_bytes c.args.args.now))

pub returns-clause-does : goal.returns-clause-does
returns-clause-does g c answer given =
    let args = map string_bytes c.args.args.now in
    Does-same _ _ _ _ _ _ (helped-no selfrun_name SELFRUN_HELP.now args (at_once selfrun_name None answer) (sym c.asks_for_help.ensures ∙ c.if-asks_for_help.false))
    (c.do_args.ensures answer given)
