-- What slots have is what the entry has.
use Rattle.std.proofs.Common.{◌≡◌, ◌≤◌, ◌+◌, append_assoc, arith, drop, length-append, take, ℕ, Bool, false, List, [], ◌∷◌, ◌++◌, Option, Some, None, ap, ap₂, get_or, length, refl, sym, ◌∙◌}
use Rattle.std.specs.Prelude.{◌||◌, bytes_eq, cond, is_some, true}
use Rattle.std.specs.Option.{option_map}
use Rattle.std.proofs.lemmas.List.{drop_at, length-map, take_at}
use Rattle.vlog_module.specs.Maps.{value_in}
use Rattle.vlog_module.specs.Parts.{Parts}
use Rattle.vlog_semantics.specs.declared.layout.SlotLayout.{SlotLayout}
use Rattle.vlog_semantics.specs.Entries.{Entry}
use Rattle.vlog_semantics.specs.Found.{places_in}
use Rattle.vlog_semantics.specs.Laying.{IsLaidOut}
use Rattle.vlog_semantics.specs.ModuleSlots.{IsNamed, memory_names, register_names, word_names}
use Rattle.vlog_semantics.specs.Named.{has_name, names_of, values_of}
use Rattle.vlog_semantics.specs.Plans.{Places}
use Rattle.vlog_semantics.specs.Run.{input_names, readable}
use Rattle.vlog_semantics.specs.Steps.{word_in}
use Rattle.vlog_semantics.proofs.Clocked.{entry_places}
use Rattle.vlog_semantics.proofs.EntrySlots.{places-same, registers-apart}
use Rattle.vlog_semantics.proofs.Lookups.{value_in-slot, value_in-slots}

-- how names are resolved
found-places : (m : Parts) (entry : Entry) (layout : SlotLayout) → IsLaidOut m layout → IsNamed m entry → entry_places entry ≡ places_in layout.places
found-places m entry layout laid named = places-same m entry named ∙ sym laid.places

pub register-read : (m : Parts) (entry : Entry) (layout : SlotLayout) (bits : List Bool) (name : List ℕ) → IsLaidOut m layout → IsNamed m entry → bits ≡ values_of (readable entry).bits
    → value_in entry.registers name ≡ option_map (λ slot. get_or bits slot false) ((places_in layout.places).registers name)
register-read m entry layout bits name laid named are =
    value_in-slot (values_of entry.inputs) entry.registers (values_of entry.wires) name false (length entry.inputs) (length-map entry.inputs (λ (e : List ℕ × Bool). e.1))
    ∙ ap₂ (λ list (at : Places). option_map (λ slot. get_or list slot false) (at.registers name)) (sym (are ∙ registers-apart entry)) (found-places m entry layout laid named)

pub word-read : (m : Parts) (entry : Entry) (layout : SlotLayout) (words : List ℕ) (name : List ℕ) → IsLaidOut m layout → IsNamed m entry → words ≡ values_of entry.words
    → value_in entry.words name ≡ option_map (λ slot. get_or words slot 0) ((places_in layout.places).words name)
word-read m entry layout words name laid named are =
    value_in-slots entry.words name 0
    ∙ ap₂ (λ list (at : Places). option_map (λ slot. get_or list slot 0) (at.words name)) (sym are) (found-places m entry layout laid named)

map-in : (memories : List (List ℕ)) (address : ℕ) (found : Option ℕ) → option_map (λ words. get_or words address 0) (option_map (λ place. get_or memories place []) found) ≡ option_map (λ place. word_in memories place address) found
map-in memories address (Some place) = refl
map-in memories address None = refl

pub memory-read : (m : Parts) (entry : Entry) (layout : SlotLayout) (memories : List (List ℕ)) (name : List ℕ) (address : ℕ) → IsLaidOut m layout → IsNamed m entry → memories ≡ values_of entry.memories
    → option_map (λ words. get_or words address 0) (value_in entry.memories name) ≡ option_map (λ place. word_in memories place address) ((places_in layout.places).memories name)
memory-read m entry layout memories name address laid named are =
    ap (option_map (λ words. get_or words address 0)) (value_in-slots entry.memories name [])
    ∙ map-in (values_of entry.memories) address ((entry_places entry).memories name)
    ∙ ap₂ (λ list (at : Places). option_map (λ place. word_in list place address) (at.memories name)) (sym are) (found-places m entry layout laid named)

-- the registers of one bit come between the inputs and the wires
pub record RegistersAt (layout : SlotLayout) (entry : Entry) (bits : List Bool) : Type 0 where
  pub ordered : layout.input_count ≤ layout.first_wire
  pub within : layout.first_wire ≤ length bits
  pub are : drop layout.input_count (take layout.first_wire bits) ≡ values_of entry.registers

pub registers-read : (m : Parts) (entry : Entry) (layout : SlotLayout) (list : List Bool) → IsLaidOut m layout → IsNamed m entry → list ≡ values_of (readable entry).bits → RegistersAt layout entry list
registers-read m entry layout list laid named values =
    let inputs : List Bool = values_of entry.inputs in
    let registers : List Bool = values_of entry.registers in
    let wires : List Bool = values_of entry.wires in
    let bits : list ≡ (inputs ++ registers) ++ wires = values ∙ registers-apart entry ∙ sym (append_assoc inputs registers wires) in
    let count : length inputs ≡ layout.input_count =
    length-map entry.inputs (λ (e : List ℕ × Bool). e.1) ∙ sym (length-map entry.inputs (λ (e : List ℕ × Bool). e.0)) ∙ ap length named.inputs ∙ sym laid.input_count in
    let known : length registers ≡ length (register_names m.items) =
    length-map entry.registers (λ (e : List ℕ × Bool). e.1) ∙ sym (length-map entry.registers (λ (e : List ℕ × Bool). e.0)) ∙ ap length named.registers in
    let end : length (inputs ++ registers) ≡ layout.first_wire =
    length-append inputs registers ∙ ap₂ (λ a b. a + b) (count ∙ laid.input_count) known ∙ sym (length-append (input_names m.ports) (register_names m.items)) ∙ sym laid.first_wire in
    record {
      ordered = omega (arith, count, end, length-append inputs registers);
      within = omega (arith, end, ap length bits, length-append (inputs ++ registers) wires);
      are = ap (λ all. drop layout.input_count (take layout.first_wire all)) bits
          ∙ ap (drop layout.input_count) (take_at (inputs ++ registers) wires layout.first_wire end)
          ∙ drop_at inputs registers layout.input_count count;
    }

-- ---- which names have values

pub has-value : {A : Type 0} (entries : List (List ℕ × A)) (name : List ℕ) → is_some (value_in entries name) ≡ has_name (names_of entries) name
has-value [] name = refl
has-value {A = A} (entry ∷ entries) name =
    elim (bytes_eq entry.0 name) as (λ b. is_some (cond b (Some entry.1) (value_in entries name)) ≡ (b || has_name (names_of entries) name)) [
      | true ↦ refl
      | false ↦ has-value entries name
    ]

is_some-map : {A B : Type 0} (f : A → B) (found : Option A) → is_some (option_map f found) ≡ is_some found
is_some-map f (Some x) = refl
is_some-map f None = refl

pub register-declared : (m : Parts) (entry : Entry) (name : List ℕ) (result : Option Bool) → IsNamed m entry → result ≡ value_in entry.registers name → is_some result ≡ has_name (register_names m.items) name
register-declared m entry name result named is = ap is_some is ∙ has-value entry.registers name ∙ ap (λ names. has_name names name) named.registers

pub word-declared : (m : Parts) (entry : Entry) (name : List ℕ) (result : Option ℕ) → IsNamed m entry → result ≡ value_in entry.words name → is_some result ≡ has_name (word_names m.items) name
word-declared m entry name result named is = ap is_some is ∙ has-value entry.words name ∙ ap (λ names. has_name names name) named.words

pub memory-declared : (m : Parts) (entry : Entry) (name : List ℕ) (address : ℕ) (result : Option ℕ) → IsNamed m entry
    → result ≡ option_map (λ words. get_or words address 0) (value_in entry.memories name) → is_some result ≡ has_name (memory_names m.items) name
memory-declared m entry name address result named is =
    ap is_some is ∙ is_some-map (λ words. get_or words address 0) (value_in entry.memories name) ∙ has-value entry.memories name ∙ ap (λ names. has_name names name) named.memories
