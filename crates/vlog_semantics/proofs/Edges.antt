-- Edges over slots are edges over names.
use Rattle.std.proofs.Common.{◌≡◌, ◌≢◌, ◌≤◌, ◌<◌, ℕ, ◌+◌, Bool, true, false, List, [], ◌∷◌, ◌++◌, Option, Some, None, arith, ap, ap₂, get_or, length, length-append, refl, take, subst, sym, ◌∙◌}
use Rattle.std.specs.Prelude.{◌&&◌, ◌==◌, bytes_eq, cond, ltb, unwrap_or}
use Rattle.std.specs.Option.{option_map}
use Rattle.std.proofs.lemmas.List.{get_or-take, length-map}
use Rattle.std.proofs.lemmas.Bool.{le-leb, lt-leb, lt-ltb, ne_eqb}
use Rattle.index_search.specs.Places.{or_else}
use Rattle.vlog_module.specs.Maps.{value_in}
use Rattle.vlog_module.specs.Parts.{Parts}
use Rattle.vlog_semantics.specs.declared.event.Event.{Event}
use Rattle.vlog_semantics.specs.Entries.{Entry}
use Rattle.vlog_semantics.specs.ModuleSlots.{IsNamed, register_names, wave_slots}
use Rattle.vlog_semantics.specs.Named.{names_of, values_of}
use Rattle.vlog_semantics.specs.Numbered.{numbered}
use Rattle.vlog_semantics.specs.Plans.{clock_slot}
use Rattle.vlog_semantics.specs.Run.{Edges, edges_between, edges_by, has_edge, input_names, is_edge, is_pin, pin_of, readable, register_bit}
use Rattle.vlog_semantics.specs.Steps.{SlotEdges, is_between, slots_between, slots_by}
use Rattle.vlog_semantics.proofs.Clocked.{EdgesAgree, at_slot, entry_places}
use Rattle.vlog_semantics.proofs.EntrySlots.{registers-apart}
use Rattle.vlog_semantics.proofs.Lookups.{value_in-slot}

-- the number of a name is one of those that are given
numbered-from : (from : ℕ) (names : List (List ℕ)) (name : List ℕ) (slot : ℕ) → value_in (numbered from names) name ≡ Some slot → (from ≤ slot) × (slot < from + length names)
numbered-from from [] name slot is = cc
numbered-from from (first ∷ names) name slot is =
    let rest : value_in (numbered (from + 1) names) name ≡ Some slot → (from ≤ slot) × (slot < from + length (first ∷ names)) =
    λ there. let later = numbered-from (from + 1) names name slot there in (omega (arith, later.0), omega (arith, later.1)) in
    (elim (bytes_eq first name) as (λ b. cond b (Some from) (value_in (numbered (from + 1) names) name) ≡ Some slot → (from ≤ slot) × (slot < from + length (first ∷ names))) [
      | true ↦ λ here. let same : from ≡ slot = ap (λ o. unwrap_or o 0) here in (omega (arith, same), omega (arith, same))
      | false ↦ rest
    ]) is

-- the inputs and the registers of a module have names of their own
abbrev pub AreApart : Parts → Type 0
AreApart m = (name : List ℕ) (pin : ℕ) → pin_of m.ports name ≡ Some pin → value_in (numbered (length (input_names m.ports)) (register_names m.items)) name ≡ None

-- ---- an event

register-rests : (event : Event) (falling : Bool) (first : ℕ) (found : Option ℕ) → event.pin < first → ((slot : ℕ) → found ≡ Some slot → first ≤ slot)
    → at_slot (slots_by event) falling found ≡ false
register-rests event falling first None within from = refl
register-rests event falling first (Some slot) within from =
    let beyond : first ≤ slot = from slot refl in
    ap (λ same. same && is_edge falling event.bit) (ne_eqb slot event.pin (λ (same : slot ≡ event.pin). omega (arith, beyond, within, same)))

event-at : (event : Event) (falling : Bool) (first : ℕ) (pin register : Option ℕ) → event.pin < first → ((slot : ℕ) → register ≡ Some slot → first ≤ slot)
    → at_slot (slots_by event) falling (or_else pin register) ≡ (is_pin event.pin pin && is_edge falling event.bit)
event-at event falling first (Some pin) register within from = refl
event-at event falling first None register within from = register-rests event falling first register within from

pub event-agrees : (m : Parts) (entry : Entry) (event : Event) → IsNamed m entry → event.pin < length (input_names m.ports) → EdgesAgree entry (edges_by m event) (slots_by event)
event-agrees m entry event named within falling clock =
    let count : length entry.inputs ≡ length (input_names m.ports) = sym (length-map entry.inputs (λ (e : List ℕ × Bool). e.0)) ∙ ap length named.inputs in
    event-at event falling (length entry.inputs) ((entry_places entry).pins clock) ((entry_places entry).registers clock)
    (omega (arith, within, count))
    (λ slot is. (numbered-from (length entry.inputs) (names_of entry.registers) clock slot is).0)
    ∙ ap (λ names. is_pin event.pin (value_in (numbered 0 names) clock) && is_edge falling event.bit) named.inputs

-- ---- a wave

-- the bit of a register by its slot
pub bit-at : (entry : Entry) (name : List ℕ) → register_bit entry name ≡ unwrap_or (option_map (λ slot. get_or (values_of (readable entry).bits) slot false) ((entry_places entry).registers name)) false
bit-at entry name =
    ap (λ found. unwrap_or found false)
    (value_in-slot (values_of entry.inputs) entry.registers (values_of entry.wires) name false (length entry.inputs) (length-map entry.inputs (λ (e : List ℕ × Bool). e.1))
    ∙ ap (λ list. option_map (λ slot. get_or list slot false) ((entry_places entry).registers name)) (sym (registers-apart entry)))

pub no-edge : (falling : Bool) → has_edge falling false false ≡ false
no-edge true = refl
no-edge false = refl

between : (first end slot : ℕ) → first ≤ slot → slot < end → is_between first end slot ≡ true
between first end slot from below = ap₂ (λ a b. a && b) (le-leb first slot from) (lt-ltb slot end below)

wave-at : (falling : Bool) (first end : ℕ) (before after : List Bool) (pin register : Option ℕ)
    → ((slot : ℕ) → pin ≡ Some slot → slot < first) → ((slot : ℕ) → register ≡ Some slot → (first ≤ slot) × (slot < end)) → ((slot : ℕ) → pin ≡ Some slot → register ≡ None)
    → at_slot (slots_between first end before after) falling (or_else pin register)
    ≡ has_edge falling (unwrap_or (option_map (λ slot. get_or before slot false) register) false) (unwrap_or (option_map (λ slot. get_or after slot false) register) false)
wave-at falling first end before after None None low here apart = sym (no-edge falling)
wave-at falling first end before after None (Some slot) low here apart =
    let range = here slot refl in
    ap (λ b. b && has_edge falling (get_or (take end before) slot false) (get_or (take end after) slot false)) (between first end slot range.0 range.1)
    ∙ ap₂ (λ one other. has_edge falling one other) (get_or-take end before slot false range.1) (get_or-take end after slot false range.1)
wave-at falling first end before after (Some pin) register low here apart =
    ap (λ b. (b && ltb pin end) && has_edge falling (get_or (take end before) pin false) (get_or (take end after) pin false)) (lt-leb first pin (low pin refl))
    ∙ sym (ap (λ found. has_edge falling (unwrap_or (option_map (λ slot. get_or before slot false) found) false) (unwrap_or (option_map (λ slot. get_or after slot false) found) false)) (apart pin refl) ∙ no-edge falling)

pub wave-agrees : (m : Parts) (before after : Entry) → AreApart m → IsNamed m before → IsNamed m after
    → EdgesAgree after (edges_between before after) (wave_slots m (values_of (readable before).bits) (values_of (readable after).bits))
wave-agrees m before after apart named_before named falling clock =
    let first : ℕ = length (input_names m.ports) in
    let end : ℕ = length (input_names m.ports ++ register_names m.items) in
    let bits : List Bool = values_of (readable before).bits in
    let next : List Bool = values_of (readable after).bits in
    let found : Option ℕ = value_in (numbered first (register_names m.items)) clock in
    let place : (entry : Entry) → IsNamed m entry → (entry_places entry).registers clock ≡ found =
    λ entry names. ap₂ (λ n list. value_in (numbered n list) clock) (sym (length-map entry.inputs (λ (e : List ℕ × Bool). e.0)) ∙ ap length names.inputs) names.registers in
    let pin : (entry_places after).pins clock ≡ pin_of m.ports clock = ap (λ list. value_in (numbered 0 list) clock) named.inputs in
    ap₂ (λ p r. at_slot (slots_between first end bits next) falling (or_else p r)) pin (place after named)
    ∙ wave-at falling first end bits next (pin_of m.ports clock) found
    (λ slot is. let below = (numbered-from 0 (input_names m.ports) clock slot is).1 in omega (arith, below))
    (λ slot is.
    let range = numbered-from first (register_names m.items) clock slot is in
    (range.0, omega (arith, range.1, length-append (input_names m.ports) (register_names m.items))))
    (λ slot is. apart clock slot is)
    ∙ ap₂ (λ one other. has_edge falling one other)
    (sym (bit-at before clock ∙ ap (λ o. unwrap_or (option_map (λ slot. get_or bits slot false) o) false) (place before named_before)))
    (sym (bit-at after clock ∙ ap (λ o. unwrap_or (option_map (λ slot. get_or next slot false) o) false) (place after named)))
