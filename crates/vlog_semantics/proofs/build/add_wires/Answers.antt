use Rattle.std.proofs.Common.{◌∷◌, ◌++◌, [], ℕ, Bool, List, append_assoc, append-nil, ap, arith, flat_map, subst, sym, take, take_all, ◌∙◌}
use Rattle.std.proofs.lemmas.List.{map-append}
use Rattle.vlog_semantics.specs.Held.{Holds}
use Rattle.vlog_semantics.specs.Named.{names_of}
use Rattle.vlog_semantics.specs.Plans.{wires_of}
use Rattle.vlog_semantics.specs.ModuleSlots.{wire_start}
use Rattle.vlog_semantics.specs.Slots.{slot_of}
use Rattle.vlog_semantics.proofs.Filling.{flat_map-more}
use Rattle.vlog_semantics.proofs.Wires.{wires_of-more}
use Rattle.vlog_semantics.proofs.build.add_wires.Goals as goal

pub loop-item-init : goal.loop-item-init
loop-item-init c = record {
  bits = λ entries holds. subst (Holds c.args.bits.now) (sym (append-nil entries)) holds;
  wires = λ entries holds. sym (append-nil c.args.wires.now.items);
}

pub loop-item-preserved : goal.loop-item-preserved
loop-item-preserved c =
    let items = c.args.items.now in
    let i = c.loop-item.item-index in
    let done = flat_map wire_start (take i items) in
    let here = wire_start c.item-item.result in
    let words = slot_of c.args.words.now in
    record {
      bits = λ entries holds.
          subst (Holds c.add_wire.new.bits)
          (append_assoc entries done here ∙ ap (λ rest. entries ++ rest) (sym (flat_map-more wire_start items i c.item-item.result (omega arith) c.item-item.is)))
          (c.in_ok-add_wire.ensures.bits (entries ++ done) (c.loop-item.invariant.bits entries holds));
      wires = λ entries holds.
          let names = names_of entries in
          c.in_ok-add_wire.ensures.wires (entries ++ done) (c.loop-item.invariant.bits entries holds)
          ∙ ap (λ list. list ++ wires_of words (names_of (entries ++ done)) (c.item-item.result ∷ [])) (c.loop-item.invariant.wires entries holds)
          ∙ append_assoc c.args.wires.now.items (wires_of words names (take i items)) (wires_of words (names_of (entries ++ done)) (c.item-item.result ∷ []))
          ∙ ap (λ all. c.args.wires.now.items ++ (wires_of words names (take i items) ++ wires_of words all (c.item-item.result ∷ []))) (map-append (λ (e : List ℕ × Bool). e.0) entries done)
          ∙ ap (λ rest. c.args.wires.now.items ++ rest) (sym (wires_of-more words names items i c.item-item.result (omega arith) c.item-item.is));
    }

pub returns-clause-bits : goal.returns-clause-bits
returns-clause-bits c entries holds =
    subst (λ rest. Holds c.loop-item.bits (entries ++ flat_map wire_start rest)) (take_all c.loop-item.item-index c.args.items.now (omega arith)) (c.loop-item.invariant.bits entries holds)

pub returns-clause-wires : goal.returns-clause-wires
returns-clause-wires c entries holds =
    c.loop-item.invariant.wires entries holds
    ∙ ap (λ rest. c.args.wires.now.items ++ wires_of (slot_of c.args.words.now) (names_of entries) rest) (take_all c.loop-item.item-index c.args.items.now (omega arith))
