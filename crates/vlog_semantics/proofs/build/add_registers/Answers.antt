use Rattle.std.proofs.Common.{◌≡◌, ◌+◌, ◌++◌, ℕ, Bool, List, append_assoc, append-nil, ap, arith, flat_map, length, subst, sym, take, take_all, ◌∙◌, length-append}
use Rattle.std.proofs.lemmas.List.{length-map, map-append}
use Rattle.vlog_semantics.specs.Held.{Holds}
use Rattle.vlog_semantics.specs.Named.{names_of}
use Rattle.vlog_semantics.specs.Numbered.{numbered}
use Rattle.vlog_semantics.specs.Run.{register_start}
use Rattle.vlog_semantics.specs.Slots.{Finds}
use Rattle.vlog_semantics.proofs.Filling.{flat_map-more}
use Rattle.vlog_semantics.proofs.build.add_registers.Goals as goal

pub loop-item-init : goal.loop-item-init
loop-item-init c = record {
  bits = λ entries holds. subst (Holds c.args.bits.now) (sym (append-nil entries)) holds;
  registers = λ entries holds none. none;
}

pub loop-item-preserved : goal.loop-item-preserved
loop-item-preserved c =
    let items = c.args.items.now in
    let i = c.loop-item.item-index in
    let done = flat_map register_start (take i items) in
    let here = register_start c.item-item.result in
    let more = flat_map-more register_start items i c.item-item.result (omega arith) c.item-item.is in
    record {
      bits = λ entries holds.
          subst (Holds c.add_register.new.bits) (append_assoc entries done here ∙ ap (λ rest. entries ++ rest) (sym more))
          (c.in_ok-add_register.ensures.bits (entries ++ done) (c.loop-item.invariant.bits entries holds));
      registers = λ entries holds none.
          let size : length (entries ++ done) ≡ length entries + length (names_of done) =
          length-append entries done ∙ ap (λ n. length entries + n) (sym (length-map done (λ (e : List ℕ × Bool). e.0))) in
          subst (λ names. Finds c.add_register.new.registers (numbered (length entries) names))
          (sym (map-append (λ (e : List ℕ × Bool). e.0) done here) ∙ ap names_of (sym more))
          (c.in_ok-add_register.ensures.registers (entries ++ done) (length entries) (names_of done) (c.loop-item.invariant.bits entries holds) (c.loop-item.invariant.registers entries holds none) size);
    }

pub returns-clause-bits : goal.returns-clause-bits
returns-clause-bits c entries holds =
    subst (λ rest. Holds c.loop-item.bits (entries ++ flat_map register_start rest)) (take_all c.loop-item.item-index c.args.items.now (omega arith)) (c.loop-item.invariant.bits entries holds)

pub returns-clause-registers : goal.returns-clause-registers
returns-clause-registers c entries holds none =
    subst (λ rest. Finds c.loop-item.registers (numbered (length entries) (names_of (flat_map register_start rest)))) (take_all c.loop-item.item-index c.args.items.now (omega arith)) (c.loop-item.invariant.registers entries holds none)
