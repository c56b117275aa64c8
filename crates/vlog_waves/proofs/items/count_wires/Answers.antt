use Rattle.std.proofs.Common.{List, ap, arith, drop_of_length-le, length}
use Rattle.vlog_module.specs.declared.item.Item.{Item}
use Rattle.vlog_semantics.specs.ModuleSlots.{wire_names}
use Rattle.vlog_waves.specs.declared.items.Kind.TheVariants.{Wire}
use Rattle.vlog_waves.proofs.Declared.{count-next}
use Rattle.vlog_waves.proofs.items.count_wires.Goals as goal

pub loop-item-preserved : goal.loop-item-preserved
loop-item-preserved c =
    let items : List Item = c.args.items.now in
    let place = c.loop-item.item-index in
    let item : Item = c.item-item.result in
    record {
      all = omega (arith, c.loop-item.invariant.all, count-next Wire items place item (omega arith) c.item-item.is, c.count_wire-count.ensures.is);
      few = omega (arith, c.loop-item.invariant.few, c.count_wire-count.ensures.few);
    }

pub returns : goal.returns
returns c =
    let none = ap (λ (rest : List Item). length (wire_names rest)) (drop_of_length-le c.args.items.now {i = c.loop-item.item-index} (omega arith)) in
    omega (arith, c.loop-item.invariant.all, none)
