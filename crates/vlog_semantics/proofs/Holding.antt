-- What names with their values hold.
use Rattle.std.proofs.Common.{◌≡◌, ℕ, ◌+◌, Bool, List, [], ◌∷◌, ◌++◌, Option, Some, None, Result, Ok, Err, Vec, Global, length, get_or, set, refl, sym, ap, ap₂, ◌∙◌, subst, arith}
use Rattle.std.specs.Prelude.{OnOk, unwrap_or}
use Rattle.std.specs.Option.{option_map, option_map_or}
use Rattle.std.proofs.lemmas.List.{map_push, length-map}
use Rattle.vlog_module.specs.Maps.{value_in}
use Rattle.vlog_semantics.specs.declared.named.Named.{Named}
use Rattle.vlog_semantics.specs.declared.slots.Slots.{Slots}
use mathlib.Core.Path.{fun_ext}
use Rattle.vlog_module.specs.declared.item.Right.{Right}
use Rattle.vlog_module.specs.declared.item.Item.TheVariants.{Wire as WireItem}
use Rattle.vlog_semantics.specs.declared.plan.Rule.{Rule}
use Rattle.vlog_semantics.specs.declared.plan.Wire.{Wire}
use Rattle.vlog_semantics.specs.Plans.{rule_of, wires_of}
use Rattle.vlog_semantics.specs.Entries.{put}
use Rattle.vlog_semantics.specs.Held.{Holds}
use Rattle.vlog_semantics.specs.Named.{names_of}
use Rattle.vlog_semantics.specs.Numbered.{numbered}
use Rattle.vlog_semantics.specs.Run.{put_word, words_of}
use Rattle.vlog_semantics.specs.Steps.{set_word}
use Rattle.vlog_semantics.specs.Slots.{Finds, slot_of}
use Rattle.vlog_semantics.proofs.Lookups.{names-put, numbered-push, put-slots, value_in-slots}

-- one more name
pub Holds-push : {A : Type 0} (named : Named A) (entries : List (List ℕ × A)) (name : List ℕ) (value : A) (slots : Slots) (values : Vec A Global) (slot : ℕ)
    → Holds named entries → slot ≡ length named.values.items
    → ((known : List (List ℕ × ℕ)) → Finds named.slots known → Finds slots (known ++ (name, slot) ∷ []))
    → values.items ≡ named.values.items ++ value ∷ []
    → Holds (record { slots = slots; values = values }) (entries ++ (name, value) ∷ [])
Holds-push {A = A} named entries name value slots values slot holds at added pushed =
    let size : slot ≡ length (names_of entries) = at ∙ ap length holds.values ∙ length-map entries (λ (e : List ℕ × A). e.1) ∙ sym (length-map entries (λ (e : List ℕ × A). e.0)) in
    record {
      slots = subst (Finds slots)
          (ap (λ n. numbered 0 (names_of entries) ++ (name, n) ∷ []) (size ∙ omega arith)
          ∙ sym (numbered-push 0 (names_of entries) name)
          ∙ ap (numbered 0) (sym (map_push (λ (e : List ℕ × A). e.0) entries (name, value))))
          (added (numbered 0 (names_of entries)) holds.slots);
      values = pushed ∙ ap (λ list. list ++ value ∷ []) holds.values ∙ sym (map_push (λ (e : List ℕ × A). e.1) entries (name, value));
    }

-- a name gets a value
pub Holds-put : {A : Type 0} (named : Named A) (entries : List (List ℕ × A)) (name : List ℕ) (value : A) (found : Option ℕ) (values : Vec A Global)
    → Holds named entries → found ≡ slot_of named.slots name
    → values.items ≡ option_map_or (λ slot. set named.values.items slot value) found named.values.items
    → Holds (record { slots = named.slots; values = values }) (put entries name value)
unfolding Finds
Holds-put {A = A} named entries name value found values holds at is =
    record {
      slots = λ q. holds.slots q ∙ ap (λ names. value_in (numbered 0 names) q) (sym (names-put entries name value));
      values = is
          ∙ ap₂ (λ slot list. option_map_or (λ s. set list s value) slot list) (at ∙ holds.slots name) holds.values
          ∙ sym (put-slots entries name value);
    }

pub on-ok : {A E : Type 0} (result : Result A E) {P : Type 0} → P → OnOk result P
on-ok (Ok value) holds = holds
on-ok (Err e) holds = tt

-- as many values as names
pub held-length : {A : Type 0} (named : Named A) (entries : List (List ℕ × A)) → Holds named entries → length named.values.items ≡ length entries
held-length {A = A} named entries holds = ap length holds.values ∙ length-map entries (λ (e : List ℕ × A). e.1)

-- the next slot is that of the next name
pub Finds-next : (slots : Slots) (from : ℕ) (names : List (List ℕ)) (name : List ℕ) (slot : ℕ) → slot ≡ from + length names
    → Finds slots (numbered from names ++ (name, slot) ∷ []) → Finds slots (numbered from (names ++ name ∷ []))
Finds-next slots from names name slot at finds =
    subst (Finds slots) (ap (λ n. numbered from names ++ (name, n) ∷ []) at ∙ sym (numbered-push from names name)) finds

-- a word of a memory gets its value
pub Holds-put_word : (named : Named (List ℕ)) (entries : List (List ℕ × List ℕ)) (name : List ℕ) (k word : ℕ) (found : Option ℕ) (values : Vec (List ℕ) Global)
    → Holds named entries → found ≡ slot_of named.slots name
    → values.items ≡ option_map_or (λ slot. set_word named.values.items slot k word) found named.values.items
    → Holds (record { slots = named.slots; values = values }) (put_word entries name k word)
unfolding Finds
Holds-put_word named entries name k word found values holds at is =
    let old : value_in entries name ≡ option_map (λ slot. get_or named.values.items slot []) found =
    value_in-slots entries name [] ∙ ap₂ (λ list f. option_map (λ (slot : ℕ). get_or list slot []) f) (sym holds.values) (sym (at ∙ holds.slots name)) in
    let chosen : (f : Option ℕ) → value_in entries name ≡ option_map (λ slot. get_or named.values.items slot []) f
    → option_map_or (λ slot. set_word named.values.items slot k word) f named.values.items ≡ option_map_or (λ slot. set named.values.items slot (set (words_of entries name) k word)) f named.values.items =
    λ f. elim f as (λ v. value_in entries name ≡ option_map (λ slot. get_or named.values.items slot []) v
    → option_map_or (λ slot. set_word named.values.items slot k word) v named.values.items ≡ option_map_or (λ slot. set named.values.items slot (set (words_of entries name) k word)) v named.values.items) [
      | Some slot ↦ λ read. ap (λ (w : Option (List ℕ)). set named.values.items slot (set (unwrap_or w []) k word)) (sym read)
      | None ↦ λ read. refl
    ] in
    Holds-put named entries name (set (words_of entries name) k word) found values holds at (is ∙ chosen found old)

-- the same slots, as functions
pub found-same : (slots : Slots) (entries : List (List ℕ × ℕ)) → Finds slots entries → slot_of slots ≡ value_in entries
unfolding Finds
found-same slots entries finds = fun_ext finds

-- a wire over slots
pub wire-same : (bits : Named Bool) (words : List ℕ → Option ℕ) (entries : List (List ℕ × Bool)) (name : List ℕ) (right : Right) (slot : ℕ) (rule : Rule)
    → Holds bits entries → slot ≡ length bits.values.items → rule ≡ rule_of (slot_of bits.slots) words right
    → (let wire : Wire = record { slot = slot; rule = rule } in wire ∷ []) ≡ wires_of words (names_of entries) (WireItem name right ∷ [])
wire-same bits words entries name right slot rule holds at is =
    let size : slot ≡ length (names_of entries) = at ∙ held-length bits entries holds ∙ sym (length-map entries (λ (e : List ℕ × Bool). e.0)) in
    let same : rule ≡ rule_of (value_in (numbered 0 (names_of entries))) words right = is ∙ ap (λ find. rule_of find words right) (found-same bits.slots (numbered 0 (names_of entries)) holds.slots) in
    ap₂ (λ (s : ℕ) (r : Rule). let wire : Wire = record { slot = s; rule = r } in wire ∷ []) size same
