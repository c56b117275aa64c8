-- Lists of names with their values.
use Rattle.std.proofs.Common.{◌≡◌, ℕ, zero, suc, ◌+◌, ◌<◌, true, false, List, [], ◌∷◌, ◌++◌, length, map, get_or, refl, sym, ap, ◌∙◌, subst, arith, inl, inr, append_assoc}
use Rattle.std.specs.Prelude.{All, Contains, Some, None, flat_map, bytes_eq}
use Rattle.std.proofs.lemmas.Bool.{cases_Bool}
use Rattle.std.proofs.lemmas.List.{length_push}
use Rattle.std.proofs.lemmas.List.Elements.{All-nil, All-cons, All-head, All-tail, All-contains, All-contains_itself}
use Rattle.std.proofs.Math.Seq.{get_or-append_seam}
use Rattle.shared_lemmas.proofs.Bytes.{same_bytes, bytes_eq-same}
use Rattle.vlog_module.specs.Maps.{value_in}
use Rattle.vlog_semantics.specs.Named.{names_of, values_of}
use Rattle.fabric_model.specs.Fabric.{numbered_from, numbered}
use Rattle.fabric_model.proofs.Apart.{AreApart}
use Rattle.fabric_model.proofs.Within.{All-numbered, places-below}
use Rattle.fabric_model.proofs.Settling.{numbered-read}

-- ---- names

-- two items have different names
abbrev pub NamesDiffer : {X : Type 0} → (X → List ℕ) → X → X → Type 0
NamesDiffer name one two = bytes_eq (name one) (name two) ≡ false

-- items whose names are apart
abbrev pub Apart : {X : Type 0} → (X → List ℕ) → List X → Type 0
Apart name xs = AreApart (NamesDiffer name) xs

-- two items with one name are one
pub named-one : {X : Type 0} (name : X → List ℕ) (xs : List X) (a b : X) → Apart name xs → Contains xs a → Contains xs b → bytes_eq (name a) (name b) ≡ true → a ≡ b
named-one name [] a b apart (k, within, here) of_b same = absurd (omega (arith, within))
named-one name (x ∷ xs) a b apart (zero, in_a, at_a) (zero, in_b, at_b) same = sym at_a ∙ at_b
named-one name (x ∷ xs) a b apart (zero, in_a, at_a) (suc k, in_b, at_b) same =
    let other : bytes_eq (name x) (name b) ≡ false = All-contains (λ y. bytes_eq (name x) (name y) ≡ false) xs b apart.0 (k, omega (arith, in_b), at_b) in
    let never : true ≡ false = sym same ∙ subst (λ y. bytes_eq (name y) (name b) ≡ false) at_a other in absurd cc
named-one name (x ∷ xs) a b apart (suc k, in_a, at_a) (zero, in_b, at_b) same =
    let other : bytes_eq (name x) (name a) ≡ false = All-contains (λ y. bytes_eq (name x) (name y) ≡ false) xs a apart.0 (k, omega (arith, in_a), at_a) in
    let turned : bytes_eq (name x) (name a) ≡ true = bytes_eq-same (name x) (name a) (ap name at_b ∙ sym (same_bytes (name a) (name b) same)) in
    let never : true ≡ false = sym turned ∙ other in absurd cc
named-one name (x ∷ xs) a b apart (suc j, in_a, at_a) (suc k, in_b, at_b) same =
    named-one name xs a b apart.1 (j, omega (arith, in_a), at_a) (k, omega (arith, in_b), at_b) same

-- ---- places

pub flat_map-every : {X A : Type 0} (one two : X → List A) → ((x : X) → one x ≡ two x) → (xs : List X) → flat_map one xs ≡ flat_map two xs
flat_map-every one two same [] = refl
flat_map-every one two same (x ∷ xs) = rw (same x, flat_map-every one two same xs) refl

-- an item with its place is one of the items, its place is one of theirs, and its name stands there
pub item-there : {X : Type 0} (xs : List X) (place : ℕ × X) → Contains (numbered xs) place → Contains xs place.1
item-there {X} xs place there = All-contains (λ (pair : ℕ × X). Contains xs pair.1) (numbered xs) place (All-numbered (Contains xs) 0 xs (All-contains_itself xs)) there

pub place-there : {X : Type 0} (xs : List X) (place : ℕ × X) → Contains (numbered xs) place → place.0 < length xs
place-there {X} xs place there =
    let below : place.0 < 0 + length xs = All-contains (λ (pair : ℕ × X). pair.0 < 0 + length xs) (numbered xs) place (places-below 0 xs) there in omega (arith, below)

pub flat_map-numbered : {X A : Type 0} (given : X → List A) (place : ℕ) (xs : List X)
    → flat_map (λ (pair : ℕ × X). given pair.1) (numbered_from place xs) ≡ flat_map given xs
unfolding numbered_from
flat_map-numbered given place [] = refl
flat_map-numbered given place (x ∷ xs) = ap (λ list. given x ++ list) (flat_map-numbered given (suc place) xs)

pub map-numbered : {X A : Type 0} (given : X → A) (place : ℕ) (xs : List X) → map (λ (pair : ℕ × X). given pair.1) (numbered_from place xs) ≡ map given xs
unfolding numbered_from
map-numbered given place [] = refl
map-numbered given place (x ∷ xs) = ap (λ list. given x ∷ list) (map-numbered given (suc place) xs)

-- the name at the place of an item is the item's
pub name-there : {X : Type 0} (name : X → List ℕ) (xs : List X) (place : ℕ × X) → Contains (numbered xs) place → get_or (map name xs) place.0 [] ≡ name place.1
name-there {X} name xs place there =
    ap (λ list. get_or list place.0 []) (sym (map-numbered name 0 xs))
    ∙ numbered-read (λ (p : ℕ × X). name p.1) [] xs place there

pub map-map : {A B C : Type 0} (first : A → B) (second : B → C) (xs : List A) → map second (map first xs) ≡ map (λ x. second (first x)) xs
map-map first second [] = refl
map-map first second (x ∷ xs) = ap (λ list. second (first x) ∷ list) (map-map first second xs)

-- ---- lists of names with values, from items with their places

-- an item's name with the value at its place
abbrev pub entry_at : {X A : Type 0} → (X → List ℕ) → List A → A → ℕ × X → List ℕ × A
entry_at name values d place = (name place.1, get_or values place.0 d)

entries-from : {X A : Type 0} (name : X → List ℕ) (d : A) (front : List A) (from : ℕ) (xs : List X) (entries : List (List ℕ × A)) → length front ≡ from
    → names_of entries ≡ map name xs → entries ≡ map (entry_at name (front ++ values_of entries) d) (numbered_from from xs)
unfolding numbered_from
entries-from name d front from [] [] size named = refl
entries-from name d front from [] (entry ∷ entries) size named = absurd cc
entries-from name d front from (x ∷ xs) [] size named = absurd cc
entries-from {X} {A} name d front from (x ∷ xs) (entry ∷ entries) size named =
    let key : entry.0 ≡ name x = cc in
    let keys : names_of entries ≡ map name xs = cc in
    let value : get_or (front ++ entry.1 ∷ values_of entries) from d ≡ entry.1 =
    subst (λ n. get_or (front ++ entry.1 ∷ values_of entries) n d ≡ entry.1) size (get_or-append_seam front entry.1 (values_of entries) d) in
    let first : entry ≡ (name x, get_or (front ++ entry.1 ∷ values_of entries) from d) = λ i. (key i, sym value i) in
    let all : (front ++ entry.1 ∷ []) ++ values_of entries ≡ front ++ entry.1 ∷ values_of entries = append_assoc front (entry.1 ∷ []) (values_of entries) in
    let longer : length (front ++ entry.1 ∷ []) ≡ suc from = omega (arith, length_push front entry.1) in
    let rest = entries-from name d (front ++ entry.1 ∷ []) (suc from) xs entries longer keys in
    let moved : entries ≡ map (entry_at name (front ++ entry.1 ∷ values_of entries) d) (numbered_from (suc from) xs) =
    subst (λ values. entries ≡ map (entry_at name values d) (numbered_from (suc from) xs)) all rest in
    λ i. first i ∷ moved i

-- entries with the names of items have their values by the places of the items
pub entries-are : {X A : Type 0} (name : X → List ℕ) (d : A) (xs : List X) (values : List A) (entries : List (List ℕ × A))
    → names_of entries ≡ map name xs → values_of entries ≡ values → entries ≡ map (entry_at name values d) (numbered xs)
entries-are name d xs values entries named valued =
    subst (λ list. entries ≡ map (entry_at name list d) (numbered xs)) valued (entries-from name d [] 0 xs entries refl named)

pub made-names : {X A : Type 0} (name : X → List ℕ) (value : ℕ × X → A) (xs : List X)
    → names_of (map (λ (place : ℕ × X). (name place.1, value place)) (numbered xs)) ≡ map name xs
made-names name value xs =
    map-map (λ place. (name place.1, value place)) (λ entry. entry.0) (numbered xs) ∙ map-numbered name 0 xs

pub made-values : {X A : Type 0} (name : X → List ℕ) (value : ℕ × X → A) (xs : List X)
    → values_of (map (λ (place : ℕ × X). (name place.1, value place)) (numbered xs)) ≡ map value (numbered xs)
made-values name value xs = map-map (λ place. (name place.1, value place)) (λ entry. entry.1) (numbered xs)

-- ---- looking up

pub value_in-front : {A : Type 0} (first second : List (List ℕ × A)) (q : List ℕ) (value : A) → value_in first q ≡ Some value → value_in (first ++ second) q ≡ Some value
value_in-front [] second q value found = absurd cc
value_in-front (entry ∷ first) second q value found =
    elim (cases_Bool (bytes_eq entry.0 q)) [
      | inl here ↦ rw here (rw here at found)
      | inr away ↦ rw away (value_in-front first second q value (rw away at found))
    ]

pub value_in-after : {A : Type 0} (first second : List (List ℕ × A)) (q : List ℕ) → All (λ name. bytes_eq name q ≡ false) (names_of first)
    → value_in (first ++ second) q ≡ value_in second q
value_in-after [] second q absent = refl
value_in-after (entry ∷ first) second q absent =
    rw (All-head (λ name. bytes_eq name q ≡ false) entry.0 (names_of first) absent)
    (value_in-after first second q (All-tail (λ name. bytes_eq name q ≡ false) entry.0 (names_of first) absent))

-- a name that none of the names is has no value
pub value_in-none : {A : Type 0} (entries : List (List ℕ × A)) (q : List ℕ) → All (λ name. bytes_eq name q ≡ false) (names_of entries) → value_in entries q ≡ None
value_in-none [] q absent = refl
value_in-none (entry ∷ entries) q absent =
    rw (All-head (λ name. bytes_eq name q ≡ false) entry.0 (names_of entries) absent)
    (value_in-none entries q (All-tail (λ name. bytes_eq name q ≡ false) entry.0 (names_of entries) absent))

-- none of the names of items is that name
pub names-absent : {X : Type 0} (name : X → List ℕ) (xs : List X) (q : List ℕ) → ((x : X) → bytes_eq (name x) q ≡ false) → All (λ n. bytes_eq n q ≡ false) (map name xs)
names-absent name [] q away = All-nil (λ n. bytes_eq n q ≡ false)
names-absent name (x ∷ xs) q away = All-cons (λ n. bytes_eq n q ≡ false) (name x) (map name xs) (away x) (names-absent name xs q away)

pub All-pick : {X : Type 0} (name : X → List ℕ) (P : List ℕ → Type 0) (xs : List X) (place : ℕ) → All (λ x. P (name x)) xs → place < length xs → P (get_or (map name xs) place [])
All-pick name P [] place all within = absurd (omega arith)
All-pick name P (x ∷ xs) zero all within = All-head (λ y. P (name y)) x xs all
All-pick name P (x ∷ xs) (suc place) all within = All-pick name P xs place (All-tail (λ y. P (name y)) x xs all) (omega arith)

-- the name at a place has the value at that place
pub value_in-at : {X A : Type 0} (name : X → List ℕ) (d : A) (xs : List X) (entries : List (List ℕ × A)) (place : ℕ)
    → Apart name xs → names_of entries ≡ map name xs → place < length xs → value_in entries (get_or (map name xs) place []) ≡ Some (get_or (values_of entries) place d)
value_in-at name d [] entries place apart named within = absurd (omega arith)
value_in-at name d (x ∷ xs) [] place apart named within = absurd cc
value_in-at name d (x ∷ xs) (entry ∷ entries) zero apart named within =
    let key : entry.0 ≡ name x = cc in rw (bytes_eq-same entry.0 (name x) key) refl
value_in-at name d (x ∷ xs) (entry ∷ entries) (suc place) apart named within =
    let key : entry.0 ≡ name x = cc in
    let keys : names_of entries ≡ map name xs = cc in
    let away : bytes_eq (name x) (get_or (map name xs) place []) ≡ false = All-pick name (λ n. bytes_eq (name x) n ≡ false) xs place apart.0 (omega arith) in
    let apart_key : bytes_eq entry.0 (get_or (map name xs) place []) ≡ false = subst (λ n. bytes_eq n (get_or (map name xs) place []) ≡ false) (sym key) away in
    rw apart_key (value_in-at name d xs entries place apart.1 keys (omega arith))
