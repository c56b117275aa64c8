use Rattle.std.proofs.Common.{[]}
use Rattle.std.specs.Prelude.{get_or}
use Rattle.std.proofs.lemmas.Result.{IfErr-weaker}
use Rattle.pin_file.specs.Packages.{package_of}
use Rattle.design_answers.specs.Pins.{database_text, pin_text, texts_without_pins}
use Rattle.design_tools.specs.Vlog.{listed, written_named}
use Rattle.design_tools.proofs.naming.NamingPieceTool.begin.Goals as goal

pub returns-clause-stops : goal.returns-clause-stops
returns-clause-stops c =
    IfErr-weaker c.begin.result _ _
    (λ stop stops texts.
    let tool = c.args.self.now in
    stops (texts_without_pins texts) (written_named tool.options tool.name.text.now (listed tool.has_list (get_or (texts_without_pins texts) 1 [])) (package_of tool.package_name.now (database_text texts)) (pin_text texts)))
    c.begin.ensures.stops
