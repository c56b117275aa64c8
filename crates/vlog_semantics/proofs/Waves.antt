-- The waves of a module, by the edges of its plan.
use Rattle.std.proofs.Common.{◌≡◌, ℕ, suc, ◌+◌, Bool, true, false, cond, flat_map, List, [], ◌∷◌, Option, Some, None, ap, ap₂, filter, get_or, length, refl, sym, ◌∙◌}
use Rattle.std.specs.Prelude.{◌||◌, bytes_eq, is_some, unwrap_or}
use Rattle.std.specs.List.{cons_option, filter_map, list_any}
use Rattle.std.specs.Option.{option_map}
use Rattle.index_search.specs.Places.{or_else}
use Rattle.vlog_module.specs.declared.item.Item.{Item}
use Rattle.vlog_module.specs.Maps.{value_in}
use Rattle.vlog_module.specs.Parts.{Parts}
use Rattle.vlog_semantics.specs.declared.plan.Edge.{Edge}
use Rattle.vlog_semantics.specs.declared.plan.Plan.{Plan}
use Rattle.vlog_semantics.specs.Entries.{Entry}
use Rattle.vlog_semantics.specs.ModuleSlots.{IsNamed, IsPlan, places_of, register_names, wave_slots}
use Rattle.vlog_semantics.specs.Named.{has_name, names_of, values_of}
use Rattle.vlog_semantics.specs.Numbered.{numbered}
use Rattle.vlog_semantics.specs.Plans.{Places, clock_slot, edge_of, register_edge, wave_edge}
use Rattle.vlog_semantics.specs.Run.{clock_of, edges_between, has_edge, has_its_edge, input_names, is_at_edge, is_on_register, is_register_of, pin_of, readable, register_bit, register_start, wave_bound}
use Rattle.vlog_semantics.specs.Steps.{is_at}
use Rattle.vlog_semantics.proofs.Clocked.{at_slot, entry_places}
use Rattle.vlog_semantics.proofs.Edges.{AreApart, bit-at, no-edge, wave-agrees}
use Rattle.vlog_semantics.proofs.EntrySlots.{places-same}
use Rattle.vlog_semantics.proofs.Reading.{has-value}

-- ---- how many waves there are at most

numbered-some : (from : ℕ) (names : List (List ℕ)) (name : List ℕ) → is_some (value_in (numbered from names) name) ≡ has_name names name
numbered-some from [] name = refl
numbered-some from (first ∷ names) name =
    elim (bytes_eq first name) as (λ b. is_some (cond b (Some from) (value_in (numbered (from + 1) names) name)) ≡ (b || has_name names name)) [
      | true ↦ refl
      | false ↦ numbered-some (from + 1) names name
    ]

edge-some : (falling : Bool) (slot : Option ℕ) → is_some (edge_of falling slot) ≡ is_some slot
edge-some falling (Some slot) = refl
edge-some falling None = refl

clock-some : (m : Parts) (clock : Option (Bool × List ℕ)) → is_some (register_edge (places_of m) clock) ≡ is_register_of m clock
clock-some m None = refl
clock-some m (Some clock) =
    edge-some clock.0 ((places_of m).registers clock.1)
    ∙ numbered-some (length (input_names m.ports)) (register_names m.items) clock.1
    ∙ sym (has-value (flat_map register_start m.items) clock.1)

count-found : {A B : Type 0} (find : A → Option B) (test : A → Bool) → ((item : A) → is_some (find item) ≡ test item) → (items : List A) → length (filter_map find items) ≡ length (filter test items)
count-found find test same [] = refl
count-found {A} {B} find test same (item ∷ items) =
    let rest = count-found find test same items in
    let by : (found : Option B) (b : Bool) → is_some found ≡ b → length (cons_option found (filter_map find items)) ≡ length (cond b (item ∷ filter test items) (filter test items)) =
    λ found. elim found as (λ (f : Option B). (b : Bool) → is_some f ≡ b → length (cons_option f (filter_map find items)) ≡ length (cond b (item ∷ filter test items) (filter test items))) [
      | Some x ↦ λ b is. ap suc rest ∙ ap (λ v. length (cond v (item ∷ filter test items) (filter test items))) is
      | None ↦ λ b is. rest ∙ ap (λ v. length (cond v (item ∷ filter test items) (filter test items))) is
    ] in
    by (find item) (test item) (same item)

pub waves-count : (m : Parts) (plan : Plan) → IsPlan m plan → length plan.clocks.items ≡ wave_bound m
waves-count m plan planned = ap length planned.clocks ∙ count-found (wave_edge (places_of m)) (is_on_register m) (λ item. clock-some m (clock_of item)) m.items

-- ---- whether a wave comes

some-none : {A : Type 0} (value : A) → Some value ≡ None → ⊥
some-none value is = cc

module _ (m : Parts) (before entry : Entry) (apart : AreApart m) (named_before : IsNamed m before) (named : IsNamed m entry) where
  abbrev bits : List Bool
  bits = values_of (readable before).bits

  abbrev next : List Bool
  next = values_of (readable entry).bits

  -- the edge that is found for a clock, if one is
  abbrev found_at : Option Edge → Bool
  found_at (Some edge) = is_at (wave_slots m bits next) edge
  found_at None = false

  -- the bit of a name that is no register
  no-bit : (one : Entry) (name : List ℕ) → IsNamed m one → (places_of m).registers name ≡ None → register_bit one name ≡ false
  no-bit one name names none =
      bit-at one name
      ∙ ap₂ (λ (at : Places) (list : List Bool). unwrap_or (option_map (λ slot. get_or list slot false) (at.registers name)) false) (places-same m one names) refl
      ∙ ap (λ found. unwrap_or (option_map (λ slot. get_or (values_of (readable one).bits) slot false) found) false) none

  clock-at : (falling : Bool) (name : List ℕ) (register : Option ℕ) → (places_of m).registers name ≡ register → edges_between before entry falling name ≡ found_at (edge_of falling register)
  clock-at falling name None is = ap₂ (λ one other. has_edge falling one other) (no-bit before name named_before is) (no-bit entry name named is) ∙ no-edge falling
  clock-at falling name (Some slot) is =
      let none : (pin : Option ℕ) → (places_of m).pins name ≡ pin → pin ≡ None =
      λ pin. elim pin as (λ (p : Option ℕ). (places_of m).pins name ≡ p → p ≡ None) [
        | None ↦ λ here. refl
        | Some place ↦ λ here. absurd (some-none slot (sym is ∙ apart name place here))
      ] in
      sym (wave-agrees m before entry apart named_before named falling name)
      ∙ ap (λ (at : Places). at_slot (wave_slots m bits next) falling (clock_slot at name)) (places-same m entry named)
      ∙ ap₂ (λ p r. at_slot (wave_slots m bits next) falling (or_else p r)) (none ((places_of m).pins name) refl) is

  clock-edge : (clock : Option (Bool × List ℕ)) → is_at_edge (edges_between before entry) clock ≡ found_at (register_edge (places_of m) clock)
  clock-edge None = refl
  clock-edge (Some clock) = clock-at clock.0 clock.1 ((places_of m).registers clock.1) refl

  any-found : (items : List Item) → list_any (has_its_edge (edges_between before entry)) items ≡ list_any (is_at (wave_slots m bits next)) (filter_map (wave_edge (places_of m)) items)
  any-found [] = refl
  any-found (item ∷ items) =
      let by : (found : Option Edge) → (found_at found || list_any (is_at (wave_slots m bits next)) (filter_map (wave_edge (places_of m)) items))
      ≡ list_any (is_at (wave_slots m bits next)) (cons_option found (filter_map (wave_edge (places_of m)) items)) =
      λ found. elim found as (λ (f : Option Edge). (found_at f || list_any (is_at (wave_slots m bits next)) (filter_map (wave_edge (places_of m)) items))
      ≡ list_any (is_at (wave_slots m bits next)) (cons_option f (filter_map (wave_edge (places_of m)) items))) [
        | Some edge ↦ refl
        | None ↦ refl
      ] in
      ap₂ (λ one rest. one || rest) (clock-edge (clock_of item)) (any-found items) ∙ by (wave_edge (places_of m) item)

  -- a wave comes if an edge of the plan is one
  pub wave-comes : (plan : Plan) → IsPlan m plan → list_any (has_its_edge (edges_between before entry)) m.items ≡ list_any (is_at (wave_slots m bits next)) plan.clocks.items
  wave-comes plan planned = any-found m.items ∙ ap (list_any (is_at (wave_slots m bits next))) (sym planned.clocks)
