use Rattle.std.proofs.Common.{sym, ◌∙◌}
use Rattle.std.specs.Prelude.{map, string_bytes}
use Rattle.tool_run.proofs.CommandLines.{helped-tool_name}
use Rattle.tool_inputs.specs.Outcomes.{asked, outcome}
use Rattle.tool_inputs.proofs.Outcomes.{asked-tool_name}
use Rattle.tool_inputs.proofs.running.run_tool.Goals as goal

pub returns-in-Err : goal.returns-in-Err
returns-in-Err g c =
    let tool = g.T.CommandLine.manual in
    let args = map string_bytes c.args.args.now in
    c.give_up.ensures (outcome tool args)
    (helped-tool_name tool.name tool.help args (asked tool args) (asked-tool_name tool args g.met.T.CommandLine.speaks) ∙ sym c.words-words.ensures.name)
