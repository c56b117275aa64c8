use Rattle.std.proofs.Common.{sym, ap, subst, ◌∙◌}
use Rattle.std.specs.Prelude.{Option, Some, map, string_bytes}
use Rattle.tool_run.proofs.Same.{Does-same}
use Rattle.icestorm_cli.specs.Tools.{IsOutcomeOf}
use Rattle.icestorm_cli.specs.declared.tool.Tool.{Tool}
use Rattle.icestorm_cli.proofs.Runs.{run-kept}
use Rattle.icestorm_cli.proofs.running.run.Goals as goal

pub returns-in-Some-Vlogrun-clause-run_of_fabric : goal.returns-in-Some-Vlogrun-clause-run_of_fabric
returns-in-Some-Vlogrun-clause-run_of_fabric g c named = run-kept (map string_bytes c.args.args.now) _ _ _ _ c.run_vlogrun.ensures

pub returns-in-Some-Selfrun-clause-does : goal.returns-in-Some-Selfrun-clause-does
returns-in-Some-Selfrun-clause-does g c task is =
    let args = map string_bytes c.args.args.now in
    let named = sym c.in-Some-Selfrun.ensures ∙ ap Some c.in-Some-Selfrun.field-0-is in
    let given = subst (λ (tool : Option Tool). IsOutcomeOf tool args task) named is in
    Does-same _ _ _ _ _ _ (sym given.2) (c.run_selfrun.ensures.does given.0 given.1)
