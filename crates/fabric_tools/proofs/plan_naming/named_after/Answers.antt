use Rattle.std.proofs.Common.{◌∙◌, subst, sym}
use Rattle.std.proofs.lemmas.Result.{IfErr-weaker, IfOk-weaker}
use Rattle.ice_image.specs.Configuration.{Configuration}
use Rattle.chipdb_reader.specs.Database.{Database}
use Rattle.pin_file.specs.Packages.{package_of}
use Rattle.tool_run.specs.Stops.{StopsWith}
use Rattle.tool_run.specs.Tasks.{Answer}
use Rattle.design_answers.specs.Pins.{database_text, pin_text, texts_without_pins}
use Rattle.fabric_tools.specs.Plan.{planned_named}
use Rattle.design_answers.proofs.NamedIntakes.{taken-all}
use Rattle.fabric_tools.proofs.plan_naming.named_after.Goals as goal

pub returns-in-Ok-clause-bytes : goal.returns-in-Ok-clause-bytes
returns-in-Ok-clause-bytes c =
    IfOk-weaker c.named_text_of.result _ _
    (λ bytes is package_name layout texts taken.
    let all = taken-all package_name layout texts c.args.intake taken in
    let answer : Database → Configuration → Answer = planned_named c.args.all_pins (package_of package_name (database_text texts)) (pin_text texts) in
    c.in-Ok.ensures.read layout (texts_without_pins texts) answer all.input ∙ is package_name (database_text texts) (pin_text texts) all.pins all.file)
    c.named_text_of.ensures.bytes

pub returns-in-Ok-clause-stops : goal.returns-in-Ok-clause-stops
returns-in-Ok-clause-stops c =
    IfErr-weaker c.named_text_of.result _ _
    (λ stop stops package_name layout texts taken.
    let all = taken-all package_name layout texts c.args.intake taken in
    let answer : Database → Configuration → Answer = planned_named c.args.all_pins (package_of package_name (database_text texts)) (pin_text texts) in
    subst (λ (told : Answer). StopsWith told stop) (sym (c.in-Ok.ensures.read layout (texts_without_pins texts) answer all.input))
    (stops package_name (database_text texts) (pin_text texts) all.pins all.file))
    c.named_text_of.ensures.stops

pub returns-clause-stops : goal.returns-clause-stops
returns-clause-stops c = λ package_name layout texts taken.
    let all = taken-all package_name layout texts c.args.intake taken in
    c.in-Err.ensures.stops layout (texts_without_pins texts) (planned_named c.args.all_pins (package_of package_name (database_text texts)) (pin_text texts)) all.input
