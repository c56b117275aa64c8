use Rattle.std.proofs.Common.{◌≡◌, ◌∙◌, ap, sym}
use Rattle.std.specs.Prelude.{None, Some, option_map}
use Rattle.clap.specs.Words.{first_of, found_of, rows_of}
use Rattle.clap.proofs.WalkLemmas.{first_value-rows}
use Rattle.tool_inputs.specs.Commands.{is_true}
use Rattle.tool_inputs.proofs.commands.has_flag.Goals as goal

pub returns-in-Some : goal.returns-in-Some
returns-in-Some c =
    let found : Some c.in-Some.text.now ≡ first_of c.args.id.now (rows_of (found_of c.args.matches.now)) =
    ap (option_map (λ text. text.now)) (sym c.in-Some.is) ∙ c.get_str.ensures ∙ first_value-rows (found_of c.args.matches.now) c.args.id.now in
    c.eq.ensures ∙ ap is_true found

pub returns-in-None : goal.returns-in-None
returns-in-None c =
    let found : None ≡ first_of c.args.id.now (rows_of (found_of c.args.matches.now)) =
    ap (option_map (λ text. text.now)) (sym c.in-None.is) ∙ c.get_str.ensures ∙ first_value-rows (found_of c.args.matches.now) c.args.id.now in
    ap is_true found
