-- What slots show is what follows in the module.
use Rattle.std.proofs.Common.{◌≡◌, ◌<◌, ℕ, Bool, true, false, List, ◌++◌, ap, ap₂, flat_map, get_or, length, refl, set, subst, sym, ◌∙◌}
use Rattle.std.specs.Prelude.{map}
use Rattle.std.proofs.lemmas.List.{length-map, map-append}
use Rattle.vlog_module.specs.Parts.{Parts}
use Rattle.vlog_semantics.specs.declared.event.Event.{Event}
use Rattle.vlog_semantics.specs.declared.layout.Start.{Start}
use Rattle.vlog_semantics.specs.declared.plan.Plan.{Plan}
use Rattle.vlog_semantics.specs.Entries.{Entry}
use Rattle.vlog_semantics.specs.Laying.{Begins, ShowsEntry, bit_count, word_count}
use Rattle.vlog_semantics.specs.ModuleSlots.{IsNamed, IsPlan, module_wires, register_names, wave_slots, wire_names, wire_start, word_names}
use Rattle.vlog_semantics.specs.Named.{names_of, values_of}
use Rattle.vlog_semantics.specs.Run.{acted, edges_between, edges_by, followed, input_names, input_start, is_same_bit, readable, register_start, settled, start, with_input, word_start}
use Rattle.vlog_semantics.specs.Steps.{SlotEdges, flips_after, memories_after, operand_value, settled_slots, slots_by, words_after}
use Rattle.vlog_semantics.proofs.Edges.{AreApart}
use Rattle.vlog_semantics.proofs.Entering.{Acted, Started, followed-same, input-slot, started-values, stepped-from, waved-from}

-- ---- how many slots there are

count-names : {A : Type 0} (entries : List (List ℕ × A)) (names : List (List ℕ)) → names_of entries ≡ names → length (values_of entries) ≡ length names
count-names {A = A} entries names are = length-map entries (λ (e : List ℕ × A). e.1) ∙ sym (length-map entries (λ (e : List ℕ × A). e.0)) ∙ ap length are

pub bits-count : (m : Parts) (entry : Entry) → IsNamed m entry → length (values_of (readable entry).bits) ≡ bit_count m
bits-count m entry named =
    count-names (readable entry).bits (input_names m.ports ++ register_names m.items ++ wire_names m.items)
    (map-append (λ (e : List ℕ × Bool). e.0) (entry.inputs ++ entry.registers) entry.wires
    ∙ ap₂ (λ a b. a ++ b) (map-append (λ (e : List ℕ × Bool). e.0) entry.inputs entry.registers ∙ ap₂ (λ a b. a ++ b) named.inputs named.registers) named.wires)

pub words-count : (m : Parts) (entry : Entry) → IsNamed m entry → length (values_of entry.words) ≡ word_count m
words-count m entry named = count-names entry.words (word_names m.items) named.words

-- ---- an event

-- if the input has the bit already, nothing changes
pub shown-same : (m : Parts) (entry : Entry) (event : Event) (bits : List Bool) (words : List ℕ) (memories : List (List ℕ)) (outputs : List Bool)
    → ShowsEntry m entry bits words memories outputs → event.pin < length (input_names m.ports) → is_same_bit event.bit (get_or bits event.pin false) ≡ true
    → ShowsEntry m (followed m entry event) bits words memories outputs
shown-same m entry event bits words memories outputs shown within same =
    subst (λ next. ShowsEntry m next bits words memories outputs)
    (followed-same m entry event
    (ap (is_same_bit event.bit) (sym (ap (λ list. get_or list event.pin false) shown.bits_are ∙ input-slot m entry event.pin shown.named within)) ∙ same)) shown

-- the slots show an entry after a step, if they have what the plan computes, from the bits before the wires
abbrev pub ShowsStep : Parts → Plan → Entry → List Bool → List ℕ → List (List ℕ) → Type 0
ShowsStep m plan next bits words memories =
    ShowsEntry m next (settled_slots plan (module_wires m) words bits) words memories (map (operand_value (settled_slots plan (module_wires m) words bits) words) plan.outputs.items)

shown-acted : (m : Parts) (plan : Plan) (next : Entry) (bits : List Bool) (words : List ℕ) (memories : List (List ℕ)) → Acted m plan next bits words memories → ShowsStep m plan next bits words memories
shown-acted m plan next bits words memories after = record {
  named = after.named;
  bits_are = after.bits_are;
  words_are = after.words_are;
  memories_are = after.memories_are;
  outputs_are = after.outputs_are;
}

-- the first step of an event that changes its input: the items of the plan give what the items of the module give
pub shown-stepped : (m : Parts) (plan : Plan) (entry : Entry) (event : Event) (bits : List Bool) (words : List ℕ) (memories : List (List ℕ)) (outputs : List Bool)
    → IsPlan m plan → ShowsEntry m entry bits words memories outputs → event.pin < length (input_names m.ports)
    → ShowsStep m plan (acted m (edges_by m event) (with_input entry.inputs event.pin event.bit) entry)
    (set (flips_after plan (slots_by event) bits words) event.pin event.bit) (words_after plan (slots_by event) bits words memories) (memories_after plan (slots_by event) bits words memories)
shown-stepped m plan entry event bits words memories outputs planned shown within =
    let next : Entry = acted m (edges_by m event) (with_input entry.inputs event.pin event.bit) entry in
    let slots : SlotEdges = slots_by event in
    let Shown : List Bool → List ℕ → List (List ℕ) → Type 0 = λ b w k. ShowsStep m plan next (set (flips_after plan slots b w) event.pin event.bit) (words_after plan slots b w k) (memories_after plan slots b w k) in
    subst (λ b. Shown b words memories) (sym shown.bits_are)
    (subst (λ w. Shown (values_of (readable entry).bits) w memories) (sym shown.words_are)
    (subst (λ k. Shown (values_of (readable entry).bits) (values_of entry.words) k) (sym shown.memories_are)
    (shown-acted m plan next _ _ _ (stepped-from m plan entry event shown.named planned within))))

-- a wave: the items of the plan give what the items of the module give
pub shown-waved : (m : Parts) (plan : Plan) (before entry : Entry) (earlier bits : List Bool) (words : List ℕ) (memories : List (List ℕ)) (outputs : List Bool)
    → AreApart m → IsPlan m plan → IsNamed m before → earlier ≡ values_of (readable before).bits → ShowsEntry m entry bits words memories outputs
    → ShowsStep m plan (acted m (edges_between before entry) entry.inputs entry)
    (flips_after plan (wave_slots m earlier bits) bits words)
    (words_after plan (wave_slots m earlier bits) bits words memories)
    (memories_after plan (wave_slots m earlier bits) bits words memories)
shown-waved m plan before entry earlier bits words memories outputs apart planned named earlier_is shown =
    let next : Entry = acted m (edges_between before entry) entry.inputs entry in
    let slots : List Bool → List Bool → SlotEdges = wave_slots m in
    let Shown : List Bool → List Bool → List ℕ → List (List ℕ) → Type 0 =
    λ e b w k. ShowsStep m plan next (flips_after plan (slots e b) b w) (words_after plan (slots e b) b w k) (memories_after plan (slots e b) b w k) in
    subst (λ e. Shown e bits words memories) (sym earlier_is)
    (subst (λ b. Shown (values_of (readable before).bits) b words memories) (sym shown.bits_are)
    (subst (λ w. Shown (values_of (readable before).bits) (values_of (readable entry).bits) w memories) (sym shown.words_are)
    (subst (λ k. Shown (values_of (readable before).bits) (values_of (readable entry).bits) (values_of entry.words) k) (sym shown.memories_are)
    (shown-acted m plan next _ _ _ (waved-from m plan before entry apart named shown.named planned)))))

-- ---- the start

pub shown-start : (m : Parts) (first : Start) → Begins m first
    → ShowsEntry m (start m) (settled_slots first.layout.plan (module_wires m) first.words.items first.bits.items) first.words.items first.memories.items
    (map (operand_value (settled_slots first.layout.plan (module_wires m) first.words.items first.bits.items) first.words.items) first.layout.plan.outputs.items)
unfolding start settled
shown-start m first begins =
    let after : Started m first.layout.plan first.bits.items first.words.items =
    started-values m first.layout.plan first.bits.items first.words.items begins.bits begins.words begins.laid_out.plan in
    record { named = after.named; bits_are = after.bits_are; words_are = begins.words; memories_are = begins.memories; outputs_are = after.outputs_are }

-- the values in the slots at the start are in the slots of the module
pub start-bits : (m : Parts) (bits : List Bool) → bits ≡ values_of (flat_map input_start m.ports ++ flat_map register_start m.items ++ flat_map wire_start m.items) → length bits ≡ bit_count m
start-bits m bits are = ap length are
    ∙ count-names (flat_map input_start m.ports ++ flat_map register_start m.items ++ flat_map wire_start m.items) (input_names m.ports ++ register_names m.items ++ wire_names m.items)
    (map-append (λ (e : List ℕ × Bool). e.0) (flat_map input_start m.ports ++ flat_map register_start m.items) (flat_map wire_start m.items)
    ∙ ap (λ known. known ++ wire_names m.items) (map-append (λ (e : List ℕ × Bool). e.0) (flat_map input_start m.ports) (flat_map register_start m.items)))

pub start-words : (m : Parts) (words : List ℕ) → words ≡ values_of (flat_map word_start m.items) → length words ≡ word_count m
start-words m words are = ap length are ∙ count-names (flat_map word_start m.items) (word_names m.items) refl
