use Rattle.fabric_tools.proofs.plan_naming.NamedPlanningPieceTool.close.Goals as goal

pub returns-clause-closed : goal.returns-clause-closed
returns-clause-closed c = λ layout texts bytes taken. c.close.ensures.closed c.args.self.now.package_name.now layout texts bytes taken
