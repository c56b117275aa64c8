use Rattle.std.proofs.Common.{ap, ◌∙◌}
use Rattle.std.proofs.lemmas.Result.{IfOk-weaker}
use Rattle.port_names.specs.Named.{port_renaming}
use Rattle.port_names.proofs.Written.{written-fresh, named-is, named-runs}
use Rattle.port_names.proofs.ports.name_ports.Goals as goal

pub rename_ports-requires : goal.rename_ports-requires
rename_ports-requires c =
    written-fresh c.args.design.now c.args.written.name c.requires.name c.args.named.now c.requires.accepted
    c.args.written c.requires.written c.deref.result.now (c.deref.ensures.value ∙ (c.in_ok-names.ensures ∙ ap (port_renaming c.args.named.now) c.pins.ensures.pins)) c.pins.ensures.design

pub returns-clause-made : goal.returns-clause-made
returns-clause-made c =
    IfOk-weaker c.rename_ports.result _ _
    (λ made is db image of. named-is c.args.design.now c.args.written.name c.requires.name c.args.named.now c.requires.accepted
    c.args.written c.requires.written c.deref.result.now (c.deref.ensures.value ∙ (c.in_ok-names.ensures ∙ ap (port_renaming c.args.named.now) c.pins.ensures.pins)) made is db image of)
    c.rename_ports.ensures

pub returns-clause-runs : goal.returns-clause-runs
returns-clause-runs c =
    IfOk-weaker c.rename_ports.result _ _
    (λ made is db image of. named-runs c.args.design.now c.args.written.name c.requires.name c.args.named.now c.requires.accepted
    c.args.written c.requires.written c.deref.result.now (c.deref.ensures.value ∙ (c.in_ok-names.ensures ∙ ap (port_renaming c.args.named.now) c.pins.ensures.pins)) made is db image of)
    c.rename_ports.ensures
