-- The values of names by their slots.
use Rattle.std.proofs.Common.{◌≡◌, ℕ, ◌+◌, Bool, true, false, cond, List, [], ◌∷◌, ◌++◌, Option, Some, None, length, get_or, set, refl, sym, ap, ◌∙◌, arith, append_assoc, append-nil}
use Rattle.std.specs.Prelude.{bytes_eq, map, is_some}
use Rattle.std.specs.Option.{option_map, option_map_or}
use Rattle.std.specs.Map.{lookup}
use Rattle.std.proofs.lemmas.List.{get_or_at, set_at, length_push}
use Rattle.std.proofs.lemmas.Slice.Eq.{bytes_eq-Decides}
use Rattle.index_search.proofs.Places.{or_else-none}
use Rattle.index_search.specs.Places.{or_else}
use Rattle.vlog_module.specs.Maps.{value_in}
use Rattle.vlog_semantics.specs.Entries.{put}
use Rattle.vlog_semantics.specs.Numbered.{numbered}

-- ---- one more name

pub value_in-push : {A : Type 0} (entries : List (List ℕ × A)) (name : List ℕ) (value : A) (q : List ℕ)
    → value_in (entries ++ (name, value) ∷ []) q ≡ or_else (value_in entries q) (cond (bytes_eq name q) (Some value) None)
value_in-push [] name value q = refl
value_in-push (entry ∷ entries) name value q =
    elim (bytes_eq entry.0 q) as (λ b. cond b (Some entry.1) (value_in (entries ++ (name, value) ∷ []) q) ≡ or_else (cond b (Some entry.1) (value_in entries q)) (cond (bytes_eq name q) (Some value) None)) [
      | true ↦ refl
      | false ↦ value_in-push entries name value q
    ]

pub lookup-push : {K A : Type 0} (test : K → Bool) (entries : List (K × A)) (key : K) (value : A)
    → lookup test (entries ++ (key, value) ∷ []) ≡ or_else (lookup test entries) (cond (test key) (Some value) None)
lookup-push test [] key value = refl
lookup-push test (entry ∷ entries) key value =
    elim (test entry.0) as (λ b. cond b (Some entry.1) (lookup test (entries ++ (key, value) ∷ [])) ≡ or_else (cond b (Some entry.1) (lookup test entries)) (cond (test key) (Some value) None)) [
      | true ↦ refl
      | false ↦ lookup-push test entries key value
    ]

or_else-known : {A : Type 0} (found other : Option A) → is_some found ≡ true → or_else found other ≡ found
or_else-known (Some value) other is = refl
or_else-known None other is = cc

-- a name that is there already keeps its value
pub value_in-known : {A : Type 0} (entries : List (List ℕ × A)) (name : List ℕ) (value : A) (q : List ℕ) → is_some (value_in entries name) ≡ true
    → value_in (entries ++ (name, value) ∷ []) q ≡ value_in entries q
value_in-known {A = A} entries name value q is =
    let here : (b : Bool) → bytes_eq name q ≡ b → or_else (value_in entries q) (cond (bytes_eq name q) (Some value) None) ≡ value_in entries q =
    λ b. elim b as (λ v. bytes_eq name q ≡ v → or_else (value_in entries q) (cond (bytes_eq name q) (Some value) None) ≡ value_in entries q) [
      | true ↦ λ same. or_else-known (value_in entries q) (cond (bytes_eq name q) (Some value) None) (ap (λ n. is_some (value_in entries n)) (sym ((bytes_eq-Decides name q).0 same)) ∙ is)
      | false ↦ λ other. ap (λ v. or_else (value_in entries q) (cond v (Some value) None)) other ∙ or_else-none (value_in entries q)
    ] in
    value_in-push entries name value q ∙ here (bytes_eq name q) refl

-- ---- values by slots, with other values before and after

-- what a slot has
pub value_in-slot : {A : Type 0} (before : List A) (entries : List (List ℕ × A)) (after : List A) (name : List ℕ) (d : A) (from : ℕ) → length before ≡ from
    → value_in entries name ≡ option_map (λ slot. get_or (before ++ (map (λ entry. entry.1) entries ++ after)) slot d) (value_in (numbered from (map (λ entry. entry.0) entries)) name)
value_in-slot before [] after name d from is = refl
value_in-slot {A = A} before (entry ∷ entries) after name d from is =
    let values : List A = map (λ (e : List ℕ × A). e.1) entries ++ after in
    let all : List A = before ++ entry.1 ∷ values in
    let next : (before ++ entry.1 ∷ []) ++ values ≡ all = append_assoc before (entry.1 ∷ []) values in
    let rest = value_in-slot (before ++ entry.1 ∷ []) entries after name d (from + 1) (length_push before entry.1 ∙ ap (λ n. n + 1) is) in
    let found : Option ℕ = value_in (numbered (from + 1) (map (λ (e : List ℕ × A). e.0) entries)) name in
    elim (bytes_eq entry.0 name) as (λ b. cond b (Some entry.1) (value_in entries name) ≡ option_map (λ slot. get_or all slot d) (cond b (Some from) found)) [
      | true ↦ ap (λ (v : A). Some v) (sym (get_or_at before entry.1 values d from is))
      | false ↦ rest ∙ ap (λ list. option_map (λ slot. get_or list slot d) found) next
    ]

-- a slot gets a value
pub put-slot : {A : Type 0} (before : List A) (entries : List (List ℕ × A)) (after : List A) (name : List ℕ) (value : A) (from : ℕ) → length before ≡ from
    → before ++ (map (λ entry. entry.1) (put entries name value) ++ after)
    ≡ option_map_or (λ slot. set (before ++ (map (λ entry. entry.1) entries ++ after)) slot value) (value_in (numbered from (map (λ entry. entry.0) entries)) name) (before ++ (map (λ entry. entry.1) entries ++ after))
put-slot before [] after name value from is = refl
put-slot {A = A} before (entry ∷ entries) after name value from is =
    let values : List A = map (λ (e : List ℕ × A). e.1) entries ++ after in
    let all : List A = before ++ entry.1 ∷ values in
    let next : (before ++ entry.1 ∷ []) ++ values ≡ all = append_assoc before (entry.1 ∷ []) values in
    let rest = put-slot (before ++ entry.1 ∷ []) entries after name value (from + 1) (length_push before entry.1 ∙ ap (λ n. n + 1) is) in
    let found : Option ℕ = value_in (numbered (from + 1) (map (λ (e : List ℕ × A). e.0) entries)) name in
    elim (bytes_eq entry.0 name) as (λ b. before ++ (map (λ (e : List ℕ × A). e.1) (cond b ((entry.0, value) ∷ entries) (entry ∷ put entries name value)) ++ after)
    ≡ option_map_or (λ slot. set all slot value) (cond b (Some from) found) all) [
      | true ↦ sym (set_at before entry.1 values value from is)
      | false ↦ sym (append_assoc before (entry.1 ∷ []) (map (λ (e : List ℕ × A). e.1) (put entries name value) ++ after))
          ∙ rest ∙ ap (λ list. option_map_or (λ slot. set list slot value) found list) next
    ]

-- no name goes or comes
pub names-put : {A : Type 0} (entries : List (List ℕ × A)) (name : List ℕ) (value : A) → map (λ entry. entry.0) (put entries name value) ≡ map (λ entry. entry.0) entries
names-put [] name value = refl
names-put {A = A} (entry ∷ entries) name value =
    elim (bytes_eq entry.0 name) as (λ b. map (λ (e : List ℕ × A). e.0) (cond b ((entry.0, value) ∷ entries) (entry ∷ put entries name value)) ≡ entry.0 ∷ map (λ (e : List ℕ × A). e.0) entries) [
      | true ↦ refl
      | false ↦ ap (λ rest. entry.0 ∷ rest) (names-put entries name value)
    ]

-- ---- all names

pub value_in-slots : {A : Type 0} (entries : List (List ℕ × A)) (name : List ℕ) (d : A)
    → value_in entries name ≡ option_map (λ slot. get_or (map (λ entry. entry.1) entries) slot d) (value_in (numbered 0 (map (λ entry. entry.0) entries)) name)
value_in-slots {A = A} entries name d =
    value_in-slot [] entries [] name d 0 refl
    ∙ ap (λ values. option_map (λ slot. get_or values slot d) (value_in (numbered 0 (map (λ (entry : List ℕ × A). entry.0) entries)) name)) (append-nil (map (λ (entry : List ℕ × A). entry.1) entries))

pub put-slots : {A : Type 0} (entries : List (List ℕ × A)) (name : List ℕ) (value : A)
    → map (λ entry. entry.1) (put entries name value)
    ≡ option_map_or (λ slot. set (map (λ entry. entry.1) entries) slot value) (value_in (numbered 0 (map (λ entry. entry.0) entries)) name) (map (λ entry. entry.1) entries)
put-slots {A = A} entries name value =
    sym (append-nil (map (λ (entry : List ℕ × A). entry.1) (put entries name value)))
    ∙ put-slot [] entries [] name value 0 refl
    ∙ ap (λ values. option_map_or (λ slot. set values slot value) (value_in (numbered 0 (map (λ (entry : List ℕ × A). entry.0) entries)) name) values) (append-nil (map (λ (entry : List ℕ × A). entry.1) entries))

-- one more name has the next number
pub numbered-push : (from : ℕ) (names : List (List ℕ)) (name : List ℕ) → numbered from (names ++ name ∷ []) ≡ numbered from names ++ (name, from + length names) ∷ []
numbered-push from [] name = ap (λ n. (name, n) ∷ []) (omega arith)
numbered-push from (first ∷ names) name =
    ap (λ rest. (first, from) ∷ rest) (numbered-push (from + 1) names name ∙ ap (λ n. numbered (from + 1) names ++ (name, n) ∷ []) (omega arith))
