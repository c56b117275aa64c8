-- Entries of a module, and the values in slots that they stand for.
use Rattle.std.proofs.Common.{◌≡◌, ℕ, zero, suc, ◌<◌, Bool, true, false, cond, List, [], ◌∷◌, ◌++◌, append_assoc, append-nil, ap, ap₂, flat_map, fold, length, get_or, set, refl, sym, subst, ◌∙◌}
use Rattle.std.specs.Prelude.{map}
use Rattle.std.specs.List.{filter_map}
use Rattle.std.proofs.lemmas.List.{get_or_append_left, length-map, map-append, set-append_left}
use Rattle.vlog_module.specs.Maps.{value_in}
use Rattle.vlog_module.specs.Parts.{Parts}
use Rattle.vlog_semantics.specs.declared.event.Event.{Event}
use Rattle.vlog_semantics.specs.declared.plan.Plan.{Plan}
use Rattle.vlog_semantics.specs.Entries.{Entry}
use Rattle.vlog_semantics.specs.ModuleSlots.{IsNamed, IsPlan, memory_names, module_wires, places_of, register_names, wave_slots, wire_names, wire_start, word_names}
use Rattle.vlog_semantics.specs.Named.{names_of, values_of}
use Rattle.vlog_semantics.specs.Numbered.{numbered}
use Rattle.vlog_semantics.specs.Plans.{Places, flip_steps, outputs_of, read_of, settle_of, wires_of, write_of}
use Rattle.vlog_semantics.specs.Run.{Edges, acted, changed, edges_between, edges_by, followed, input_bit, input_names, input_start, is_same_bit, memory_start, memory_step, readable, register_start, register_step, settled, start, start_step, wire_step, with_input, word_start, word_step}
use Rattle.vlog_semantics.specs.Steps.{SlotEdges, flip_slot, flips_after, memories_after, operand_value, put_written, read_slot, settle_slot, settle_slots, settled_slots, slots_by, wire_slot, words_after, written_by}
use Rattle.vlog_semantics.specs.Values.{Readable}
use Rattle.vlog_semantics.proofs.Beginning.{names-starts, same-places}
use Rattle.vlog_semantics.proofs.Clocked.{EdgesAgree, entry_places, flips-same, names-flips, with_registers}
use Rattle.vlog_semantics.proofs.Edges.{AreApart, event-agrees, wave-agrees}
use Rattle.vlog_semantics.proofs.EntrySlots.{places-same, registers-apart}
use Rattle.vlog_semantics.proofs.Memories.{names-reads, names-writes, reads-same, writes-same}
use Rattle.vlog_semantics.proofs.Outputs.{outputs-same}
use Rattle.vlog_semantics.proofs.Settling.{names-rests, rests-same}
use Rattle.vlog_semantics.proofs.Wires.{names-settled, settle-same}

-- the maps of an entry have the names of the module
pub record AreNamed (m : Parts) (inputs registers : List (List ℕ × Bool)) (words : List (List ℕ × ℕ)) (memories : List (List ℕ × List ℕ)) : Type 0 where
  pub inputs_are : names_of inputs ≡ input_names m.ports
  pub registers_are : names_of registers ≡ register_names m.items
  pub words_are : names_of words ≡ word_names m.items
  pub memories_are : names_of memories ≡ memory_names m.items

-- ---- a settled entry

-- the entry whose wires have their values, and whose registers are as they were
abbrev pub unsettled : Parts → List (List ℕ × Bool) → List (List ℕ × Bool) → List (List ℕ × ℕ) → List (List ℕ × List ℕ) → Entry
unsettled m inputs registers words memories = record {
  inputs = inputs;
  registers = registers;
  words = words;
  memories = memories;
  wires = fold (wire_step (inputs ++ registers) words) [] m.items;
  outputs = [];
}

unsettled-named : (m : Parts) (inputs registers : List (List ℕ × Bool)) (words : List (List ℕ × ℕ)) (memories : List (List ℕ × List ℕ))
    → AreNamed m inputs registers words memories → IsNamed m (unsettled m inputs registers words memories)
unsettled-named m inputs registers words memories named = record {
  inputs = named.inputs_are;
  registers = named.registers_are;
  words = named.words_are;
  memories = named.memories_are;
  wires = names-settled (inputs ++ registers) words [] m.items;
}

pub settled-named : (m : Parts) (inputs registers : List (List ℕ × Bool)) (words : List (List ℕ × ℕ)) (memories : List (List ℕ × List ℕ))
    → AreNamed m inputs registers words memories → IsNamed m (settled m inputs registers words memories)
unfolding settled
settled-named m inputs registers words memories named = record {
  inputs = named.inputs_are;
  registers = names-rests (readable (unsettled m inputs registers words memories)) registers m.items ∙ named.registers_are;
  words = named.words_are;
  memories = named.memories_are;
  wires = names-settled (inputs ++ registers) words [] m.items;
}

-- the wires get their values, whatever they had before
wired-bits : (m : Parts) (inputs registers : List (List ℕ × Bool)) (words : List (List ℕ × ℕ)) (memories : List (List ℕ × List ℕ)) (old : List Bool)
    → AreNamed m inputs registers words memories → length old ≡ length (wire_names m.items)
    → fold (wire_slot (values_of words)) (values_of (inputs ++ registers) ++ old) (module_wires m) ≡ values_of (readable (unsettled m inputs registers words memories)).bits
wired-bits m inputs registers words memories old named size =
    let known : List (List ℕ × Bool) = inputs ++ registers in
    let names : input_names m.ports ++ register_names m.items ≡ names_of (known ++ []) =
    sym (ap names_of (append-nil known) ∙ map-append (λ (e : List ℕ × Bool). e.0) inputs registers ∙ ap₂ (λ a b. a ++ b) named.inputs_are named.registers_are) in
    ap₂ (λ list wires. fold (wire_slot (values_of words)) (values_of list ++ old) wires) (sym (append-nil known))
    (ap₂ (λ find all. wires_of find all m.items) (ap (λ all. value_in (numbered 0 all)) (sym named.words_are)) names)
    ∙ settle-same known words [] m.items old size

-- asynchronous sets and resets of registers
rested-bits : (m : Parts) (plan : Plan) (inputs registers : List (List ℕ × Bool)) (words : List (List ℕ × ℕ)) (memories : List (List ℕ × List ℕ))
    → AreNamed m inputs registers words memories → IsPlan m plan
    → settle_slots plan.settles.items (values_of (readable (unsettled m inputs registers words memories)).bits) ≡ values_of (readable (settled m inputs registers words memories)).bits
unfolding settled
rested-bits m plan inputs registers words memories named planned =
    let entry : Entry = unsettled m inputs registers words memories in
    let bits : List Bool = values_of (readable entry).bits in
    ap₂ (fold (settle_slot bits)) (registers-apart entry)
    (planned.settles ∙ ap (λ (at : Places). filter_map (settle_of at) m.items) (sym (places-same m entry (unsettled-named m inputs registers words memories named))))
    ∙ rests-same entry registers m.items refl
    ∙ sym (registers-apart (settled m inputs registers words memories))

-- wires and then asynchronous sets and resets, whatever the wires had before
pub settled-bits : (m : Parts) (plan : Plan) (inputs registers : List (List ℕ × Bool)) (words : List (List ℕ × ℕ)) (memories : List (List ℕ × List ℕ)) (old : List Bool)
    → AreNamed m inputs registers words memories → IsPlan m plan → length old ≡ length (wire_names m.items)
    → settled_slots plan (module_wires m) (values_of words) (values_of (inputs ++ registers) ++ old) ≡ values_of (readable (settled m inputs registers words memories)).bits
settled-bits m plan inputs registers words memories old named planned size =
    ap (settle_slots plan.settles.items) (wired-bits m inputs registers words memories old named size)
    ∙ rested-bits m plan inputs registers words memories named planned

-- the outputs get their values
pub settled-outputs : (m : Parts) (plan : Plan) (inputs registers : List (List ℕ × Bool)) (words : List (List ℕ × ℕ)) (memories : List (List ℕ × List ℕ))
    → AreNamed m inputs registers words memories → IsPlan m plan
    → map (operand_value (values_of (readable (settled m inputs registers words memories)).bits) (values_of words)) plan.outputs.items ≡ values_of (settled m inputs registers words memories).outputs
unfolding settled
settled-outputs m plan inputs registers words memories named planned =
    let entry : Entry = settled m inputs registers words memories in
    let from : Readable = readable entry in
    let places : places_of m ≡ entry_places entry = sym (places-same m entry (settled-named m inputs registers words memories named)) in
    ap (map (operand_value (values_of from.bits) (values_of words))) (planned.outputs ∙ ap (λ (at : Places). values_of (outputs_of at.bits at.words m.ports m.items)) places)
    ∙ outputs-same from m.ports m.items

-- ---- the start

pub start-named : (m : Parts) → AreNamed m (flat_map input_start m.ports) (flat_map register_start m.items) (flat_map word_start m.items) (fold start_step (flat_map memory_start m.items) m.items)
start-named m = record {
  inputs_are = refl;
  registers_are = refl;
  words_are = refl;
  memories_are = names-starts (flat_map memory_start m.items) m.items;
}

-- ---- an event

pub names-input : (inputs : List (List ℕ × Bool)) (pin : ℕ) (bit : Bool) → names_of (with_input inputs pin bit) ≡ names_of inputs
names-input [] pin bit = refl
names-input (input ∷ inputs) zero bit = refl
names-input (input ∷ inputs) (suc pin) bit = ap (λ names. input.0 ∷ names) (names-input inputs pin bit)

pub values-input : (inputs : List (List ℕ × Bool)) (pin : ℕ) (bit : Bool) → values_of (with_input inputs pin bit) ≡ set (values_of inputs) pin bit
values-input [] pin bit = refl
values-input (input ∷ inputs) zero bit = refl
values-input (input ∷ inputs) (suc pin) bit = ap (λ values. input.1 ∷ values) (values-input inputs pin bit)

pub acted-named : (m : Parts) (entry : Entry) (edges : Edges) (inputs : List (List ℕ × Bool)) → names_of inputs ≡ names_of entry.inputs → IsNamed m entry
    → AreNamed m inputs (fold (register_step edges entry) entry.registers m.items) (fold (word_step edges entry) entry.words m.items)
    (fold (memory_step edges entry) entry.memories m.items)
acted-named m entry edges inputs same named = record {
  inputs_are = same ∙ named.inputs;
  registers_are = names-flips entry edges entry.registers m.items ∙ named.registers;
  words_are = names-reads entry edges entry.words m.items ∙ named.words;
  memories_are = names-writes entry edges entry.memories m.items ∙ named.memories;
}

pub words-acted : (m : Parts) (plan : Plan) (entry : Entry) (edges : Edges) (slots : SlotEdges) → EdgesAgree entry edges slots → IsNamed m entry → IsPlan m plan
    → words_after plan slots (values_of (readable entry).bits) (values_of entry.words) (values_of entry.memories) ≡ values_of (fold (word_step edges entry) entry.words m.items)
words-acted m plan entry edges slots agree named planned =
    ap (fold (read_slot slots (values_of (readable entry).bits) (values_of entry.words) (values_of entry.memories)) (values_of entry.words))
    (planned.reads ∙ ap (λ (at : Places). filter_map (read_of at) m.items) (sym (places-same m entry named)))
    ∙ reads-same entry edges slots entry.words m.items agree refl

pub memories-acted : (m : Parts) (plan : Plan) (entry : Entry) (edges : Edges) (slots : SlotEdges) → EdgesAgree entry edges slots → IsNamed m entry → IsPlan m plan
    → memories_after plan slots (values_of (readable entry).bits) (values_of entry.words) (values_of entry.memories) ≡ values_of (fold (memory_step edges entry) entry.memories m.items)
memories-acted m plan entry edges slots agree named planned =
    ap (λ writes. fold put_written (values_of entry.memories) (map (written_by slots (values_of (readable entry).bits) (values_of entry.words) (values_of entry.memories)) writes))
    (planned.writes ∙ ap (λ (at : Places). filter_map (write_of at) m.items) (sym (places-same m entry named)))
    ∙ writes-same entry edges slots entry.memories m.items agree refl

flips-acted : (m : Parts) (plan : Plan) (entry : Entry) (edges : Edges) (slots : SlotEdges) → EdgesAgree entry edges slots → IsNamed m entry → IsPlan m plan
    → flips_after plan slots (values_of (readable entry).bits) (values_of entry.words)
    ≡ values_of entry.inputs ++ (values_of (fold (register_step edges entry) entry.registers m.items) ++ values_of entry.wires)
flips-acted m plan entry edges slots agree named planned =
    ap₂ (fold (flip_slot slots (values_of (readable entry).bits) (values_of entry.words))) (registers-apart entry)
    (planned.flips ∙ ap (λ (at : Places). flat_map (flip_steps at) m.items) (sym (places-same m entry named)))
    ∙ flips-same entry edges slots entry.registers m.items agree refl

-- inputs, registers and wires as one list
joined : (inputs registers wires : List (List ℕ × Bool)) → values_of inputs ++ (values_of registers ++ values_of wires) ≡ values_of (inputs ++ registers) ++ values_of wires
joined inputs registers wires =
    sym (append_assoc (values_of inputs) (values_of registers) (values_of wires))
    ∙ ap (λ list. list ++ values_of wires) (sym (map-append (λ (e : List ℕ × Bool). e.1) inputs registers))

-- inputs and registers after the first step of an event, before the wires
registers-changed : (m : Parts) (plan : Plan) (entry : Entry) (event : Event) → EdgesAgree entry (edges_by m event) (slots_by event) → IsNamed m entry → IsPlan m plan
    → event.pin < length (input_names m.ports)
    → set (flips_after plan (slots_by event) (values_of (readable entry).bits) (values_of entry.words)) event.pin event.bit
    ≡ values_of (with_input entry.inputs event.pin event.bit ++ fold (register_step (edges_by m event) entry) entry.registers m.items) ++ values_of entry.wires
registers-changed m plan entry event agree named planned within =
    let next : List (List ℕ × Bool) = fold (register_step (edges_by m event) entry) entry.registers m.items in
    let here : event.pin < length (values_of entry.inputs) =
    subst (λ n. event.pin < n) (ap length (sym named.inputs) ∙ length-map entry.inputs (λ (e : List ℕ × Bool). e.0) ∙ sym (length-map entry.inputs (λ (e : List ℕ × Bool). e.1))) within in
    ap (λ list. set list event.pin event.bit) (flips-acted m plan entry (edges_by m event) (slots_by event) agree named planned)
    ∙ set-append_left (values_of entry.inputs) (values_of next ++ values_of entry.wires) event.pin event.bit here
    ∙ ap (λ list. list ++ (values_of next ++ values_of entry.wires)) (sym (values-input entry.inputs event.pin event.bit))
    ∙ joined (with_input entry.inputs event.pin event.bit) next entry.wires

-- an input's bit is that of its slot
pub input-slot : (m : Parts) (entry : Entry) (pin : ℕ) → IsNamed m entry → pin < length (input_names m.ports) → get_or (values_of (readable entry).bits) pin false ≡ input_bit entry pin
input-slot m entry pin named within =
    let here : pin < length (values_of entry.inputs) =
    subst (λ n. pin < n) (ap length (sym named.inputs) ∙ length-map entry.inputs (λ (e : List ℕ × Bool). e.0) ∙ sym (length-map entry.inputs (λ (e : List ℕ × Bool). e.1))) within in
    ap (λ list. get_or list pin false) (registers-apart entry)
    ∙ get_or_append_left (values_of entry.inputs) (values_of entry.registers ++ values_of entry.wires) false pin here

-- ---- what the slots have after a step

-- the slots have what an entry has, if the bits before the wires are `bits`
pub record Acted (m : Parts) (plan : Plan) (next : Entry) (bits : List Bool) (words : List ℕ) (memories : List (List ℕ)) : Type 0 where
  pub bits_are : settled_slots plan (module_wires m) words bits ≡ values_of (readable next).bits
  pub words_are : words ≡ values_of next.words
  pub memories_are : memories ≡ values_of next.memories
  pub outputs_are : map (operand_value (settled_slots plan (module_wires m) words bits) words) plan.outputs.items ≡ values_of next.outputs
  pub named : IsNamed m next

acted-from : (m : Parts) (plan : Plan) (entry : Entry) (edges : Edges) (slots : SlotEdges) (inputs : List (List ℕ × Bool)) (bits : List Bool)
    → EdgesAgree entry edges slots → names_of inputs ≡ names_of entry.inputs → IsNamed m entry → IsPlan m plan
    → bits ≡ values_of (inputs ++ fold (register_step edges entry) entry.registers m.items) ++ values_of entry.wires
    → Acted m plan (acted m edges inputs entry) bits (words_after plan slots (values_of (readable entry).bits) (values_of entry.words) (values_of entry.memories))
    (memories_after plan slots (values_of (readable entry).bits) (values_of entry.words) (values_of entry.memories))
unfolding acted settled
acted-from m plan entry edges slots inputs bits agree same named planned bits_are =
    let registers : List (List ℕ × Bool) = fold (register_step edges entry) entry.registers m.items in
    let words : List (List ℕ × ℕ) = fold (word_step edges entry) entry.words m.items in
    let memories : List (List ℕ × List ℕ) = fold (memory_step edges entry) entry.memories m.items in
    let are : AreNamed m inputs registers words memories = acted-named m entry edges inputs same named in
    let size : length (values_of entry.wires) ≡ length (wire_names m.items) =
    length-map entry.wires (λ (e : List ℕ × Bool). e.1) ∙ sym (length-map entry.wires (λ (e : List ℕ × Bool). e.0)) ∙ ap length named.wires in
    let words_are = words-acted m plan entry edges slots agree named planned in
    let settled_are : settled_slots plan (module_wires m) (words_after plan slots (values_of (readable entry).bits) (values_of entry.words) (values_of entry.memories)) bits
    ≡ values_of (readable (acted m edges inputs entry)).bits =
    ap₂ (settled_slots plan (module_wires m)) words_are bits_are ∙ settled-bits m plan inputs registers words memories (values_of entry.wires) are planned size in
    record {
      bits_are = settled_are;
      words_are = words_are;
      memories_are = memories-acted m plan entry edges slots agree named planned;
      outputs_are = ap₂ (λ b w. map (operand_value b w) plan.outputs.items) settled_are words_are
          ∙ settled-outputs m plan inputs registers words memories are planned;
      named = settled-named m inputs registers words memories are;
    }

-- the first step of an event
pub stepped-from : (m : Parts) (plan : Plan) (entry : Entry) (event : Event) → IsNamed m entry → IsPlan m plan → event.pin < length (input_names m.ports)
    → Acted m plan (acted m (edges_by m event) (with_input entry.inputs event.pin event.bit) entry)
    (set (flips_after plan (slots_by event) (values_of (readable entry).bits) (values_of entry.words)) event.pin event.bit)
    (words_after plan (slots_by event) (values_of (readable entry).bits) (values_of entry.words) (values_of entry.memories))
    (memories_after plan (slots_by event) (values_of (readable entry).bits) (values_of entry.words) (values_of entry.memories))
stepped-from m plan entry event named planned within =
    let agree = event-agrees m entry event named within in
    acted-from m plan entry (edges_by m event) (slots_by event) (with_input entry.inputs event.pin event.bit)
    (set (flips_after plan (slots_by event) (values_of (readable entry).bits) (values_of entry.words)) event.pin event.bit)
    agree (names-input entry.inputs event.pin event.bit) named planned (registers-changed m plan entry event agree named planned within)

-- a wave
pub waved-from : (m : Parts) (plan : Plan) (before entry : Entry) → AreApart m → IsNamed m before → IsNamed m entry → IsPlan m plan
    → Acted m plan (acted m (edges_between before entry) entry.inputs entry)
    (flips_after plan (wave_slots m (values_of (readable before).bits) (values_of (readable entry).bits)) (values_of (readable entry).bits) (values_of entry.words))
    (words_after plan (wave_slots m (values_of (readable before).bits) (values_of (readable entry).bits)) (values_of (readable entry).bits) (values_of entry.words) (values_of entry.memories))
    (memories_after plan (wave_slots m (values_of (readable before).bits) (values_of (readable entry).bits)) (values_of (readable entry).bits) (values_of entry.words) (values_of entry.memories))
waved-from m plan before entry apart named_before named planned =
    let edges = edges_between before entry in
    let slots = wave_slots m (values_of (readable before).bits) (values_of (readable entry).bits) in
    let agree = wave-agrees m before entry apart named_before named in
    acted-from m plan entry edges slots entry.inputs (flips_after plan slots (values_of (readable entry).bits) (values_of entry.words)) agree refl named planned
    (flips-acted m plan entry edges slots agree named planned ∙ joined entry.inputs (fold (register_step edges entry) entry.registers m.items) entry.wires)

pub followed-changed : (m : Parts) (entry : Entry) (event : Event) → is_same_bit event.bit (input_bit entry event.pin) ≡ false → changed m entry event ≡ followed m entry event
unfolding followed
followed-changed m entry event differs = sym (ap (λ b. cond b entry (changed m entry event)) differs)

pub followed-same : (m : Parts) (entry : Entry) (event : Event) → is_same_bit event.bit (input_bit entry event.pin) ≡ true → entry ≡ followed m entry event
unfolding followed
followed-same m entry event same = sym (ap (λ b. cond b entry (changed m entry event)) same)

-- ---- what the slots have at the start

pub record Started (m : Parts) (plan : Plan) (bits : List Bool) (words : List ℕ) : Type 0 where
  pub bits_are : settled_slots plan (module_wires m) words bits ≡ values_of (readable (start m)).bits
  pub outputs_are : map (operand_value (settled_slots plan (module_wires m) words bits) words) plan.outputs.items ≡ values_of (start m).outputs
  pub named : IsNamed m (start m)

pub started-values : (m : Parts) (plan : Plan) (bits : List Bool) (words : List ℕ)
    → bits ≡ values_of (flat_map input_start m.ports ++ flat_map register_start m.items ++ flat_map wire_start m.items) → words ≡ values_of (flat_map word_start m.items)
    → IsPlan m plan → Started m plan bits words
unfolding start settled
started-values m plan bits words bits_are words_are planned =
    let inputs : List (List ℕ × Bool) = flat_map input_start m.ports in
    let registers : List (List ℕ × Bool) = flat_map register_start m.items in
    let wires : List (List ℕ × Bool) = flat_map wire_start m.items in
    let word_map : List (List ℕ × ℕ) = flat_map word_start m.items in
    let memories : List (List ℕ × List ℕ) = fold start_step (flat_map memory_start m.items) m.items in
    let size : length (values_of wires) ≡ length (wire_names m.items) = length-map wires (λ (e : List ℕ × Bool). e.1) ∙ sym (length-map wires (λ (e : List ℕ × Bool). e.0)) in
    let settled_bits : settled_slots plan (module_wires m) words bits ≡ values_of (readable (start m)).bits =
    ap₂ (settled_slots plan (module_wires m)) words_are (bits_are ∙ map-append (λ (e : List ℕ × Bool). e.1) (inputs ++ registers) wires)
    ∙ settled-bits m plan inputs registers word_map memories (values_of wires) (start-named m) planned size in
    record {
      bits_are = settled_bits;
      outputs_are = ap₂ (λ b w. map (operand_value b w) plan.outputs.items) settled_bits words_are ∙ settled-outputs m plan inputs registers word_map memories (start-named m) planned;
      named = settled-named m inputs registers word_map memories (start-named m);
    }
