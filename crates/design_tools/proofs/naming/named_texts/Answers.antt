use Rattle.std.proofs.Common.{◌∙◌, ap, subst, sym}
use Rattle.std.proofs.lemmas.Result.{IfOk-weaker}
use Rattle.vlog_module.specs.Names.{IsName}
use Rattle.fabric_model.specs.Fabric.{fabric_with}
use Rattle.fabric_module.specs.Written.{module_of}
use Rattle.design_tools.specs.Sources.{symbols_in}
use Rattle.design_tools.proofs.Written.{named_done}
use Rattle.design_tools.proofs.naming.named_texts.Goals as goal

pub name_ports-requires-clause-written : goal.name_ports-requires-clause-written
name_ports-requires-clause-written c = λ db image of.
    c.in_ok-written.ensures.made db image of
    ∙ ap (module_of (fabric_with c.args.design.now.parts.options db image) c.args.design.now.order) (sym c.in_ok-written.ensures.name)

pub name_ports-requires-clause-name : goal.name_ports-requires-clause-name
name_ports-requires-clause-name c = subst IsName (sym c.in_ok-written.ensures.name) c.requires.name

pub returns : goal.returns
returns c =
    IfOk-weaker c.both_texts.result _ _
    (λ made shown db image is. named_done c.args.named.now c.args.name.now (symbols_in c.args.symbols.now) db image c.args.design.now c.in_ok-written.written.name c.in_ok-module.module made.target.items made.beside.items is
    c.in_ok-written.ensures.name (c.in_ok-module.ensures.made db image is) (shown db image is))
    c.both_texts.ensures
