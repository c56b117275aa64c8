use Rattle.std.proofs.Common.{◌∙◌, sym}
use Rattle.clap.specs.Words.{found_of}
use Rattle.clap.proofs.WalkLemmas.{first_value-rows}
use Rattle.tool_run.proofs.CommandLines.{text_of-map}
use Rattle.tool_inputs.proofs.commands.value.Goals as goal

pub returns : goal.returns
returns c = sym (text_of-map c.get_str.result) ∙ c.get_str.ensures ∙ first_value-rows (found_of c.args.matches.now) c.args.id.now
