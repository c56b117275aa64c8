-- What the names of a module have at the start.
use Rattle.std.proofs.Common.{◌≡◌, ℕ, Bool, List, [], ◌∷◌, ◌++◌, Option, Vec, Global, ap, ap₂, flat_map, fold, length, get_or, refl, sym, ◌∙◌}
use Rattle.std.specs.Prelude.{All}
use Rattle.std.proofs.lemmas.List.{length-map, map-append}
use Rattle.std.proofs.lemmas.Option.{slice_get-get_or}
use Rattle.vlog_module.specs.declared.item.Item.{Item}
use Rattle.vlog_module.specs.Maps.{value_in}
use Rattle.vlog_module.specs.Parts.{Parts}
use Rattle.vlog_module.specs.WellFormed.{IsModule, IsShaped}
use Rattle.vlog_semantics.specs.declared.named.Named.{Named}
use Rattle.vlog_semantics.specs.declared.plan.Wire.{Wire}
use Rattle.vlog_semantics.specs.declared.slots.Slots.{Slots}
use Rattle.vlog_semantics.specs.Begun.{IsBegun}
use Rattle.vlog_semantics.specs.Held.{Holds}
use Rattle.vlog_semantics.specs.ModuleSlots.{places_of, register_names, wire_start}
use Rattle.vlog_semantics.specs.Named.{names_of}
use Rattle.vlog_semantics.specs.Numbered.{numbered}
use Rattle.vlog_semantics.specs.Plans.{Places, wires_of}
use Rattle.vlog_semantics.specs.Run.{input_names, input_start, memory_start, put_word, register_start, start_step, word_start}
use Rattle.vlog_semantics.specs.Slots.{Finds, slot_of}
use Rattle.vlog_semantics.proofs.Holding.{found-same, held-length}
use Rattle.vlog_semantics.proofs.Lookups.{names-put}
use Rattle.vlog_module.specs.declared.item.Item.TheVariants.{Start}
use Rattle.vlog_semantics.specs.Run.{words_of}
use Rattle.std.specs.Prelude.{slice_set}

-- the tables and lists of a module have their lengths
pub all-shaped : (m : Parts) → IsModule m → All IsShaped m.items
all-shaped m whole k d within = (whole.begun.allowed k (get_or m.items k d) (slice_get-get_or m.items k d within)).shaped

-- start words leave the names
pub names-starts : (memories : List (List ℕ × List ℕ)) (items : List Item) → names_of (fold start_step memories items) ≡ names_of memories
names-starts memories [] = refl
names-starts memories (Start memory k word ∷ items) =
    names-starts (put_word memories memory k word) items ∙ names-put memories memory (slice_set (words_of memories memory) k word)
names-starts memories (other ∷ items) = names-starts memories items

pub same-places : (a b : Places) → a.pins ≡ b.pins → a.bits ≡ b.bits → a.registers ≡ b.registers → a.words ≡ b.words → a.memories ≡ b.memories → a ≡ b
same-places a b pins bits registers words memories =
    ap₂ (λ f g. f g)
    (ap₂ (λ (f : (List ℕ → Option ℕ) → (List ℕ → Option ℕ) → Places) (g : List ℕ → Option ℕ). f g)
    (ap₂ (λ (f : (List ℕ → Option ℕ) → (List ℕ → Option ℕ) → (List ℕ → Option ℕ) → Places) (g : List ℕ → Option ℕ). f g)
    (ap₂ (λ (p q : List ℕ → Option ℕ). λ (r s t : List ℕ → Option ℕ). let all : Places = record { pins = p; bits = q; registers = r; words = s; memories = t } in all) pins bits)
    registers) words) memories

-- the slots are those of the module
pub begun-places : (m : Parts) (pins bits registers words memories : Slots)
    → Finds pins (numbered 0 (names_of (flat_map input_start m.ports)))
    → Finds bits (numbered 0 (names_of (flat_map input_start m.ports ++ flat_map register_start m.items ++ flat_map wire_start m.items)))
    → Finds registers (numbered (length (flat_map input_start m.ports)) (names_of (flat_map register_start m.items)))
    → Finds words (numbered 0 (names_of (flat_map word_start m.items)))
    → Finds memories (numbered 0 (names_of (fold start_step (flat_map memory_start m.items) m.items)))
    → (let found : Places = record { pins = slot_of pins; bits = slot_of bits; registers = slot_of registers; words = slot_of words; memories = slot_of memories } in found) ≡ places_of m
begun-places m pins bits registers words memories finds_pins finds_bits finds_registers finds_words finds_memories =
    let inputs : List (List ℕ × Bool) = flat_map input_start m.ports in
    let known : List (List ℕ × Bool) = flat_map register_start m.items in
    let wires : List (List ℕ × Bool) = flat_map wire_start m.items in
    same-places _ (places_of m)
    (found-same pins (numbered 0 (names_of inputs)) finds_pins)
    (found-same bits (numbered 0 (names_of (inputs ++ known ++ wires))) finds_bits
    ∙ ap (λ names. value_in (numbered 0 names)) (map-append (λ (e : List ℕ × Bool). e.0) (inputs ++ known) wires ∙ ap (λ names. names ++ names_of wires) (map-append (λ (e : List ℕ × Bool). e.0) inputs known)))
    (found-same registers (numbered (length inputs) (names_of known)) finds_registers
    ∙ ap (λ n. value_in (numbered n (names_of known))) (sym (length-map inputs (λ (e : List ℕ × Bool). e.0))))
    (found-same words (numbered 0 (names_of (flat_map word_start m.items))) finds_words)
    (found-same memories (numbered 0 (names_of (fold start_step (flat_map memory_start m.items) m.items))) finds_memories
    ∙ ap (λ names. value_in (numbered 0 names)) (names-starts (flat_map memory_start m.items) m.items))

-- the names of a module, as they are collected
pub begun-made : (m : Parts) (pins inputs bits : Named Bool) (registers : Slots) (all : Named Bool) (words : Named ℕ) (memories : Named (List ℕ)) (wires : Vec Wire Global) (input_count first_wire : ℕ)
    → Holds pins (flat_map input_start m.ports) → Holds inputs (flat_map input_start m.ports) → input_count ≡ length inputs.values.items
    → Holds bits (flat_map input_start m.ports ++ flat_map register_start m.items)
    → Finds registers (numbered (length (flat_map input_start m.ports)) (names_of (flat_map register_start m.items)))
    → first_wire ≡ length bits.values.items
    → Holds words (flat_map word_start m.items)
    → Holds memories (fold start_step (flat_map memory_start m.items) m.items)
    → Holds all (flat_map input_start m.ports ++ flat_map register_start m.items ++ flat_map wire_start m.items)
    → wires.items ≡ wires_of (slot_of words.slots) (names_of (flat_map input_start m.ports ++ flat_map register_start m.items)) m.items
    → IsBegun m (record {
      places = record { pins = pins.slots; bits = all.slots; registers = registers; words = words.slots; memories = memories.slots };
      input_count = input_count;
      first_wire = first_wire;
      bits = all.values;
      words = words.values;
      memories = memories.values;
      wires = wires;
    })
begun-made m pins inputs bits registers all words memories wires input_count first_wire holds_pins holds_inputs inputs_are holds_bits finds_registers wires_from holds_words holds_memories holds_all wires_are =
    let ins : List (List ℕ × Bool) = flat_map input_start m.ports in
    let known : List (List ℕ × Bool) = flat_map register_start m.items in
    let names : names_of (ins ++ known) ≡ input_names m.ports ++ register_names m.items = map-append (λ (e : List ℕ × Bool). e.0) ins known in
    record {
      places = begun-places m pins.slots all.slots registers words.slots memories.slots holds_pins.slots holds_all.slots finds_registers holds_words.slots holds_memories.slots;
      input_count = inputs_are ∙ held-length inputs ins holds_inputs ∙ sym (length-map ins (λ (e : List ℕ × Bool). e.0));
      first_wire = wires_from ∙ held-length bits (ins ++ known) holds_bits ∙ sym (length-map (ins ++ known) (λ (e : List ℕ × Bool). e.0)) ∙ ap length names;
      bits = holds_all.values;
      words = holds_words.values;
      memories = holds_memories.values;
      wires = wires_are ∙ ap₂ (λ find all_names. wires_of find all_names m.items) (found-same words.slots (numbered 0 (names_of (flat_map word_start m.items))) holds_words.slots) names;
    }
