use Rattle.std.proofs.Common.{◌≡◌, List, ◌++◌, ap, arith, flat_map, fold, length, subst, sym, ◌∙◌}
use Rattle.std.specs.Prelude.{All}
use Rattle.vlog_module.specs.declared.item.Item.{Item}
use Rattle.vlog_module.specs.declared.modules.Port.{Port}
use Rattle.vlog_module.specs.WellFormed.{IsShaped}
use Rattle.vlog_semantics.specs.Held.{Holds}
use Rattle.vlog_semantics.specs.ModuleSlots.{wire_start}
use Rattle.vlog_semantics.specs.Named.{names_of}
use Rattle.vlog_semantics.specs.Numbered.{numbered}
use Rattle.vlog_semantics.specs.Plans.{wires_of}
use Rattle.vlog_semantics.specs.Run.{input_start, memory_start, register_start, start_step, word_start}
use Rattle.vlog_semantics.specs.Slots.{Finds, slot_of}
use Rattle.vlog_semantics.proofs.Beginning.{all-shaped, begun-made}
use Rattle.vlog_semantics.proofs.names.names_of.Goals as goal

pub add_wires-requires : goal.add_wires-requires
add_wires-requires c = subst (All IsShaped) (sym c.items-items.ensures.items) (all-shaped c.args.module.now c.items-items.ensures.well_formed)

pub returns : goal.returns
returns c =
    let m = c.args.module.now in
    let items_are = c.items-items.ensures.items in
    let items = c.items-items.result.now in
    let inputs = flat_map input_start c.ports-2.result.now in
    let known = flat_map register_start items in
    let bits = c.in_ok-add_registers.ensures.bits inputs c.in_ok-bits.ensures in
    let registers = c.in_ok-add_registers.ensures.registers inputs c.in_ok-bits.ensures c.new-registers.ensures in
    let inputs_are = c.ports-2.ensures.ports in
    begun-made m c.in_ok-pins.pins c.in_ok-bits.bits c.add_registers.new.bits c.add_registers.new.registers c.add_wires.new.bits c.in_ok-words.words c.in_ok-memories.memories c.add_wires.new.wires c.len-input_count.result c.len-first_wire.result
    (subst (λ (ports : List Port). Holds c.in_ok-pins.pins (flat_map input_start ports)) c.ports.ensures.ports c.in_ok-pins.ensures)
    (subst (λ (ports : List Port). Holds c.in_ok-bits.bits (flat_map input_start ports)) inputs_are c.in_ok-bits.ensures)
    (omega (arith, c.len-input_count.ensures, c.in_ok-bits.bits.values.ok.0))
    (subst (λ (list : List Item). Holds c.add_registers.new.bits (flat_map input_start m.ports ++ flat_map register_start list)) items_are
    (subst (λ (ports : List Port). Holds c.add_registers.new.bits (flat_map input_start ports ++ known)) inputs_are bits))
    (subst (λ (list : List Item). Finds c.add_registers.new.registers (numbered (length (flat_map input_start m.ports)) (names_of (flat_map register_start list)))) items_are
    (subst (λ (ports : List Port). Finds c.add_registers.new.registers (numbered (length (flat_map input_start ports)) (names_of known))) inputs_are registers))
    (omega (arith, c.len-first_wire.ensures, c.add_registers.new.bits.values.ok.0))
    (subst (λ (list : List Item). Holds c.in_ok-words.words (flat_map word_start list)) items_are c.in_ok-words.ensures)
    (subst (λ (list : List Item). Holds c.in_ok-memories.memories (fold start_step (flat_map memory_start list) list)) items_are c.in_ok-memories.ensures)
    (subst (λ (list : List Item). Holds c.add_wires.new.bits (flat_map input_start m.ports ++ flat_map register_start list ++ flat_map wire_start list)) items_are
    (subst (λ (ports : List Port). Holds c.add_wires.new.bits (flat_map input_start ports ++ known ++ flat_map wire_start items)) inputs_are (c.in_ok-add_wires.ensures.bits (inputs ++ known) bits)))
    (subst (λ (list : List Item). c.add_wires.new.wires.items ≡ wires_of (slot_of c.in_ok-words.words.slots) (names_of (flat_map input_start m.ports ++ flat_map register_start list)) list) items_are
    (subst (λ (ports : List Port). c.add_wires.new.wires.items ≡ wires_of (slot_of c.in_ok-words.words.slots) (names_of (flat_map input_start ports ++ known)) items) inputs_are
    (c.in_ok-add_wires.ensures.wires (inputs ++ known) bits ∙ ap (λ before. before ++ wires_of (slot_of c.in_ok-words.words.slots) (names_of (inputs ++ known)) items) c.new-wires.ensures.items)))
