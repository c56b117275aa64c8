use Rattle.std.proofs.Common.{◌∷◌, ◌++◌, [], ap, arith, sym, ◌∙◌}
use Rattle.vlog_module.specs.declared.item.Item.{Item}
use Rattle.vlog_semantics.specs.Named.{names_of}
use Rattle.vlog_semantics.specs.Plans.{wires_of}
use Rattle.vlog_semantics.specs.Slots.{slot_of}
use Rattle.vlog_semantics.proofs.Holding.{on-ok, wire-same}
use Rattle.vlog_semantics.proofs.build.add_wire.Goals as goal

pub returns-in_ok-push-in-Wire-clause-wires : goal.returns-in_ok-push-in-Wire-clause-wires
returns-in_ok-push-in-Wire-clause-wires c entries holds =
    let words = slot_of c.args.words.now in
    on-ok c.add.result
    (c.in_ok-push-in-Wire.ensures.items
    ∙ ap (λ list. c.args.wires.now.items ++ list)
    (wire-same c.args.bits.now words entries c.in-Wire.name c.in-Wire.right c.len-slot.result c.rule_of-rule.result holds (omega (arith, c.len-slot.ensures, c.args.bits.now.values.ok.0)) c.rule_of-rule.ensures)
    ∙ ap (λ (item : Item). c.args.wires.now.items ++ wires_of words (names_of entries) (item ∷ [])) (sym c.in-Wire.is))
