use Rattle.std.proofs.Common.{◌≡◌, ◌∙◌, subst}
use Rattle.std.proofs.lemmas.Result.{IfErr-weaker, IfOk-weaker}
use Rattle.pin_file.specs.Feeding.{kept_in}
use Rattle.tool_run.specs.Stops.{StopsWith}
use Rattle.tool_run.specs.Tasks.{Both}
use Rattle.design_tools.specs.Sources.{symbols_in}
use Rattle.design_tools.specs.Vlog.{written_named}
use Rattle.design_tools.proofs.naming.named_design_texts.Goals as goal

pub texts_by_pins-requires-clause-ports : goal.texts_by_pins-requires-clause-ports
texts_by_pins-requires-clause-ports c = c.deref.ensures.value ∙ c.in_ok-ports.ensures

pub returns-clause-bytes : goal.returns-clause-bytes
returns-clause-bytes c =
    IfOk-weaker c.texts_by_pins.result _ _
    (λ made is package_name text pin_text db image has collects of.
    let options = c.args.design.now.parts.options in
    subst (λ chosen. written_named options c.args.name.now (symbols_in c.args.symbols.now) chosen pin_text db image ≡ Both made.target.items made.beside.items) (c.in_ok-pins.ensures package_name text has)
    (subst (λ told. written_named options c.args.name.now (symbols_in c.args.symbols.now) (kept_in c.in_ok-pins.pins) told db image ≡ Both made.target.items made.beside.items) (c.in_ok-text.ensures pin_text collects) (is db image of)))
    c.texts_by_pins.ensures.bytes

pub returns-clause-stops : goal.returns-clause-stops
returns-clause-stops c =
    IfErr-weaker c.texts_by_pins.result _ _
    (λ stop stops package_name text pin_text db image has collects of.
    let options = c.args.design.now.parts.options in
    subst (λ chosen. StopsWith (written_named options c.args.name.now (symbols_in c.args.symbols.now) chosen pin_text db image) stop) (c.in_ok-pins.ensures package_name text has)
    (subst (λ told. StopsWith (written_named options c.args.name.now (symbols_in c.args.symbols.now) (kept_in c.in_ok-pins.pins) told db image) stop) (c.in_ok-text.ensures pin_text collects) (stops db image of)))
    c.texts_by_pins.ensures.stops
