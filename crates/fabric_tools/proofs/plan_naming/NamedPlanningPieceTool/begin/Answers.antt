use Rattle.std.proofs.lemmas.Result.{IfErr-weaker}
use Rattle.pin_file.specs.Packages.{package_of}
use Rattle.design_answers.specs.Pins.{database_text, pin_text, texts_without_pins}
use Rattle.fabric_tools.specs.Plan.{planned_named}
use Rattle.fabric_tools.proofs.plan_naming.NamedPlanningPieceTool.begin.Goals as goal

pub returns-clause-stops : goal.returns-clause-stops
returns-clause-stops c =
    IfErr-weaker c.begin.result _ _
    (λ stop stops texts.
    let tool = c.args.self.now in
    stops (texts_without_pins texts) (planned_named tool.all_pins (package_of tool.package_name.now (database_text texts)) (pin_text texts)))
    c.begin.ensures.stops
