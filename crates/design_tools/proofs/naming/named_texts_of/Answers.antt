use Rattle.std.proofs.Common.{◌≡◌, subst}
use Rattle.std.proofs.lemmas.Result.{IfErr-weaker, IfOk-weaker}
use Rattle.ice_image.specs.Either.{configuration_of}
use Rattle.chipdb_reader.specs.Kept.{database_in}
use Rattle.pin_file.specs.Packages.{package_of}
use Rattle.tool_run.specs.Stops.{StopsWith}
use Rattle.tool_run.specs.Tasks.{Both}
use Rattle.design_tools.specs.Sources.{symbols_in}
use Rattle.design_tools.specs.Vlog.{written_named}
use Rattle.design_tools.proofs.Written.{stops_named}
use Rattle.design_tools.proofs.naming.named_texts_of.Goals as goal

pub returns-in-Ok-clause-bytes : goal.returns-in-Ok-clause-bytes
returns-in-Ok-clause-bytes c =
    let db = database_in c.args.source.now.db in
    let image = configuration_of c.args.source.now.image in
    IfOk-weaker c.named_design_texts.result _ _
    (λ made is package_name text pin_text has collects.
    subst (λ options. written_named options c.args.name.now (symbols_in c.args.source.now.symbols) (package_of package_name text) pin_text db image ≡ Both made.target.items made.beside.items) c.in-Ok.ensures.options
    (is package_name text pin_text db image has collects c.in-Ok.ensures.design))
    c.named_design_texts.ensures.bytes

pub returns-in-Ok-clause-stops : goal.returns-in-Ok-clause-stops
returns-in-Ok-clause-stops c =
    let db = database_in c.args.source.now.db in
    let image = configuration_of c.args.source.now.image in
    IfErr-weaker c.named_design_texts.result _ _
    (λ stop stops package_name text pin_text has collects.
    subst (λ options. StopsWith (written_named options c.args.name.now (symbols_in c.args.source.now.symbols) (package_of package_name text) pin_text db image) stop) c.in-Ok.ensures.options
    (stops package_name text pin_text db image has collects c.in-Ok.ensures.design))
    c.named_design_texts.ensures.stops

pub returns-in-Err-clause-stops : goal.returns-in-Err-clause-stops
returns-in-Err-clause-stops c = λ package_name text pin_text has collects.
    stops_named c.args.options c.args.name.now (symbols_in c.args.source.now.symbols) (package_of package_name text) pin_text (database_in c.args.source.now.db) (configuration_of c.args.source.now.image) _ _ _ _ _
    c.in-Err.ensures.refused c.design_stop.ensures
