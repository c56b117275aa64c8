-- The cells of the bits of inputs and wires.
use Rattle.std.proofs.Common.{◌≡◌, ℕ, ◌+◌, ◌≤◌, Bool, List, ◌++◌, ap, ap₂, arith, drop, length, length-append, sym, take, ◌∙◌}
use Rattle.std.proofs.lemmas.List.{drop-map, drop_at, length-map, map-append, take-map, take_at}
use Rattle.vlog_module.specs.Parts.{Parts}
use Rattle.vlog_semantics.specs.declared.layout.SlotLayout.{SlotLayout}
use Rattle.vlog_semantics.specs.Entries.{Entry}
use Rattle.vlog_semantics.specs.Laying.{IsLaidOut}
use Rattle.vlog_semantics.specs.ModuleSlots.{IsNamed, register_names}
use Rattle.vlog_semantics.specs.Named.{names_of, values_of}
use Rattle.vlog_semantics.specs.Run.{input_names, readable}
use Rattle.vlog_semantics.proofs.EntrySlots.{registers-apart}
use Rattle.vlog_engine.specs.Lanes.{lane_bits}

-- as many values as names
pub values-named : {A : Type 0} (entries : List (List ℕ × A)) (names : List (List ℕ)) → names_of entries ≡ names → length (values_of entries) ≡ length names
values-named {A = A} entries names are = length-map entries (λ (e : List ℕ × A). e.1) ∙ sym (length-map entries (λ (e : List ℕ × A). e.0)) ∙ ap length are

-- the inputs come first
pub record InputsAt (layout : SlotLayout) (entry : Entry) (bits : List Bool) : Type 0 where
  pub within : layout.input_count ≤ length bits
  pub are : take layout.input_count bits ≡ values_of entry.inputs

pub inputs-read : (m : Parts) (entry : Entry) (layout : SlotLayout) (list : List Bool) → IsLaidOut m layout → IsNamed m entry → list ≡ values_of (readable entry).bits → InputsAt layout entry list
inputs-read m entry layout list laid named values =
    let inputs : List Bool = values_of entry.inputs in
    let rest : List Bool = values_of entry.registers ++ values_of entry.wires in
    let bits : list ≡ inputs ++ rest = values ∙ registers-apart entry in
    let count : length inputs ≡ layout.input_count = values-named entry.inputs (input_names m.ports) named.inputs ∙ sym laid.input_count in
    record {
      within = omega (arith, count, ap length bits, length-append inputs rest);
      are = ap (take layout.input_count) bits ∙ take_at inputs rest layout.input_count count;
    }

-- the wires come after the registers
pub record WiresAt (layout : SlotLayout) (entry : Entry) (bits : List Bool) : Type 0 where
  pub within : layout.first_wire ≤ length bits
  pub are : drop layout.first_wire bits ≡ values_of entry.wires

pub wires-read : (m : Parts) (entry : Entry) (layout : SlotLayout) (list : List Bool) → IsLaidOut m layout → IsNamed m entry → list ≡ values_of (readable entry).bits → WiresAt layout entry list
wires-read m entry layout list laid named values =
    let before : List Bool = values_of (entry.inputs ++ entry.registers) in
    let wires : List Bool = values_of entry.wires in
    let bits : list ≡ before ++ wires = values ∙ map-append (λ (e : List ℕ × Bool). e.1) (entry.inputs ++ entry.registers) entry.wires in
    let count : length before ≡ layout.first_wire =
    ap length (map-append (λ (e : List ℕ × Bool). e.1) entry.inputs entry.registers)
    ∙ length-append (values_of entry.inputs) (values_of entry.registers)
    ∙ ap₂ (λ a b. a + b) (values-named entry.inputs (input_names m.ports) named.inputs) (values-named entry.registers (register_names m.items) named.registers)
    ∙ sym (length-append (input_names m.ports) (register_names m.items)) ∙ sym laid.first_wire in
    record {
      within = omega (arith, count, ap length bits, length-append before wires);
      are = ap (drop layout.first_wire) bits ∙ drop_at before wires layout.first_wire count;
    }

-- a part of the cells
pub lane-part : {V : Type 0} (at : V → ℕ → Bool) (lane : ℕ) (part values : List V) (from end : ℕ) → part ≡ drop from (take end values)
    → lane_bits at lane part ≡ drop from (take end (lane_bits at lane values))
lane-part at lane part values from end is =
    ap (lane_bits at lane) is ∙ sym (drop-map (λ value. at value lane) from (take end values)) ∙ ap (drop from) (sym (take-map (λ value. at value lane) end values))
