use Rattle.std.proofs.Common.{◌+◌, List, ◌++◌, arith, drop}
use Rattle.text_lines.specs.Written.{text_of}
use Rattle.vlog_module.specs.declared.item.Item.{Item}
use Rattle.vlog_waves.specs.Variables.{of_kind}
use Rattle.vlog_waves.specs.Waves.{variable_lines}
use Rattle.vlog_waves.specs.inside.Declared.{kind_of, shown_by, shown_of_kind}
use Rattle.vlog_waves.proofs.Declared.{count-next, items-end, items-next}
use Rattle.vlog_waves.proofs.Texts.{all-made, part-made}
use Rattle.vlog_waves.proofs.declarations.push_items.Goals as goal

pub push_item-requires : goal.push_item-requires
push_item-requires c =
    omega (arith, c.requires, c.loop-item.invariant.all, count-next c.args.kind c.args.items.now c.loop-item.item-index c.item-item.result (omega arith) c.item-item.is)

pub loop-item-preserved : goal.loop-item-preserved
loop-item-preserved c =
    let items : List Item = c.args.items.now in
    let names = c.args.names.now in
    let kind = c.args.kind in
    let place = c.loop-item.item-index in
    let item : Item = c.item-item.result in
    let number = c.loop-item.next in
    let next = c.in_ok-next.next in
    record {
      made = part-made (c.args.text.now.items ++ text_of (variable_lines c.args.number (of_kind (kind_of kind) (shown_of_kind names kind items)))) c.loop-item.text.items
          (text_of (variable_lines number (of_kind (kind_of kind) (shown_of_kind names kind (drop place items)))))
          (text_of (variable_lines number (of_kind (kind_of kind) (shown_by names kind item))))
          (text_of (variable_lines next (of_kind (kind_of kind) (shown_of_kind names kind (drop (place + 1) items)))))
          c.push_item.new.text.items c.loop-item.invariant.made (items-next names kind number next items place item (omega arith) c.item-item.is c.in_ok-next.ensures.next) c.in_ok-next.ensures.text;
      all = omega (arith, c.loop-item.invariant.all, count-next kind items place item (omega arith) c.item-item.is, c.in_ok-next.ensures.next);
    }

pub returns : goal.returns
returns c =
    let items : List Item = c.args.items.now in
    let names = c.args.names.now in
    let kind = c.args.kind in
    all-made (c.args.text.now.items ++ text_of (variable_lines c.args.number (of_kind (kind_of kind) (shown_of_kind names kind items)))) c.loop-item.text.items
    (text_of (variable_lines c.loop-item.next (of_kind (kind_of kind) (shown_of_kind names kind (drop c.loop-item.item-index items)))))
    c.loop-item.invariant.made (items-end names kind c.loop-item.next items c.loop-item.item-index (omega arith))
