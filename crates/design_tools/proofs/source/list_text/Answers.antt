use Rattle.std.proofs.Common.{◌∙◌, List, ap, sym}
use Rattle.std.specs.Prelude.{Option, Vec}
use Rattle.std.specs.declared.alloc.Global.{Global}
use Rattle.std.proofs.lemmas.Result.{IfOk-weaker}
use Rattle.asc_text.specs.declared.file.Symbol.{Symbol}
use Rattle.fabric_model.specs.Fabric.{fabric_with}
use Rattle.wire_names.specs.Lists.{names_text}
use Rattle.symbol_names.specs.Symbols.{symbol_names}
use Rattle.design_tools.specs.Sources.{symbols_in}
use Rattle.design_tools.specs.Vlog.{list_text}
use Rattle.design_tools.proofs.source.list_text.Goals as goal

pub returns-in_ok-symbol_names-in-Some : goal.returns-in_ok-symbol_names-in-Some
returns-in_ok-symbol_names-in-Some c =
    IfOk-weaker c.text-in-Some.result _ _
    (λ list is db image of.
    let m = c.args.«module».now in
    let joins = (fabric_with c.args.design.now.parts.options db image).joins in
    is
    ∙ ap names_text (c.in_ok-symbol_names-in-Some.ensures db image of)
    ∙ ap (λ (symbols : List Symbol). names_text (symbol_names m joins symbols)) c.deref.ensures.value
    ∙ ap (λ (symbols : Option (Vec Symbol Global)). list_text (symbols_in symbols) joins m) (sym c.in-Some.is))
    c.text-in-Some.ensures
