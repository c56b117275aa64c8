use Rattle.fabric_tools.proofs.plan_naming.NamedPlanningPieceTool.feed.Goals as goal

pub returns-clause-taken : goal.returns-clause-taken
returns-clause-taken c = λ layout texts bytes taken. c.feed.ensures.taken c.args.self.now.package_name.now layout texts bytes taken
