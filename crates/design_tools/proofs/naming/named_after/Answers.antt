use Rattle.std.proofs.Common.{◌≡◌, [], ℕ, List}
use Rattle.std.specs.Prelude.{Option, get_or}
use Rattle.std.proofs.lemmas.Result.{IfErr-weaker, IfOk-weaker}
use Rattle.asc_text.specs.declared.file.Symbol.{Symbol}
use Rattle.ice_image.specs.Configuration.{Configuration}
use Rattle.chipdb_reader.specs.Database.{Database}
use Rattle.pin_file.specs.Packages.{package_of}
use Rattle.tool_run.specs.Stops.{StopsWith}
use Rattle.tool_run.specs.Tasks.{Answer, Both}
use Rattle.design_answers.specs.Pins.{database_text, pin_text, texts_without_pins}
use Rattle.design_answers.proofs.NamedIntakes.{taken-all}
use Rattle.design_tools.specs.Vlog.{listed, written_named}
use Rattle.design_tools.proofs.Sources.{told-of}
use Rattle.design_tools.proofs.naming.named_after.Goals as goal

pub returns-in-Ok-clause-bytes : goal.returns-in-Ok-clause-bytes
returns-in-Ok-clause-bytes c =
    IfOk-weaker c.named_texts_of.result _ _
    (λ made is package_name layout texts taken.
    let all = taken-all package_name layout texts c.args.intake taken in
    let rest : List (List ℕ) = texts_without_pins texts in
    let answer : Option (List Symbol) → Database → Configuration → Answer = λ symbols. written_named c.args.options c.args.name.now symbols (package_of package_name (database_text texts)) (pin_text texts) in
    told-of layout rest answer c.in-Ok.source c.args.has_list (λ (told : Answer). told ≡ Both made.target.items made.beside.items)
    (c.in-Ok.ensures.read layout rest (answer (listed c.args.has_list (get_or rest 1 []))) all.input) (c.in-Ok.ensures.symbols layout rest all.input)
    (is package_name (database_text texts) (pin_text texts) all.pins all.file))
    c.named_texts_of.ensures.bytes

pub returns-in-Ok-clause-stops : goal.returns-in-Ok-clause-stops
returns-in-Ok-clause-stops c =
    IfErr-weaker c.named_texts_of.result _ _
    (λ stop stops package_name layout texts taken.
    let all = taken-all package_name layout texts c.args.intake taken in
    let rest : List (List ℕ) = texts_without_pins texts in
    let answer : Option (List Symbol) → Database → Configuration → Answer = λ symbols. written_named c.args.options c.args.name.now symbols (package_of package_name (database_text texts)) (pin_text texts) in
    told-of layout rest answer c.in-Ok.source c.args.has_list (λ (told : Answer). StopsWith told stop)
    (c.in-Ok.ensures.read layout rest (answer (listed c.args.has_list (get_or rest 1 []))) all.input) (c.in-Ok.ensures.symbols layout rest all.input)
    (stops package_name (database_text texts) (pin_text texts) all.pins all.file))
    c.named_texts_of.ensures.stops

pub returns-clause-stops : goal.returns-clause-stops
returns-clause-stops c = λ package_name layout texts taken.
    let all = taken-all package_name layout texts c.args.intake taken in
    let rest : List (List ℕ) = texts_without_pins texts in
    c.in-Err.ensures.stops layout rest
    (written_named c.args.options c.args.name.now (listed c.args.has_list (get_or rest 1 [])) (package_of package_name (database_text texts)) (pin_text texts)) all.input
