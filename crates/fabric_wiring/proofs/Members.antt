-- What lists have that are made of others.
use Rattle.std.proofs.Common.{◌≡◌, ℕ, zero, suc, ◌<◌, Bool, true, false, cond, inl, inr, List, [], ◌∷◌, ◌++◌, map, length, get_or, refl, ap, ◌∙◌, subst, arith}
use Rattle.std.specs.Prelude.{Contains, filter, flat_map, option_to_list, slice_get, Option, Some, None, ◌==◌}
use Rattle.std.specs.List.{list_any}
use Rattle.std.proofs.lemmas.List.Folds.{list_any_at}
use Rattle.std.proofs.lemmas.List.Elements.{All-contains, All-contains_itself, All-filter, Contains-get_or}
use Rattle.std.proofs.lemmas.Option.{slice_get_within, get_or_from_slice_get}
use Rattle.graph_order.specs.Wiring.{has}
use Rattle.graph_order.proofs.OneOrder.{has-none, has-first, has-after, has-cases}
use Rattle.fabric_model.proofs.Facts.{has-left, has-right, has-either}

-- ---- numbers

-- a number that isn't in the second list
pub has-alone : (one two : List ℕ) (n : ℕ) → has two n ≡ false → has (one ++ two) n ≡ has one n
unfolding has
has-alone [] two n away = away
has-alone (first ∷ one) two n away = ap (λ found. cond (first == n) true found) (has-alone one two n away)

-- a number that an item of a list gives
pub has-flat_map : {A : Type 0} (give : A → List ℕ) (list : List A) (n : ℕ) → has (flat_map give list) n ≡ true
    → (item : A) × Contains list item × (has (give item) n ≡ true)
has-flat_map give [] n found = absurd (has-none n found)
has-flat_map give (item ∷ list) n found =
    elim (has-either (give item) (flat_map give list) n found) [
      | inl here ↦ (item, (0, omega arith, refl), here)
      | inr after ↦ let more = has-flat_map give list n after in (more.0, (suc more.1.0, omega (arith, more.1.1), more.1.2), more.2)
    ]

pub has-among : {A : Type 0} (give : A → List ℕ) (list : List A) (place : ℕ) (d : A) (n : ℕ) → place < length list → has (give (get_or list place d)) n ≡ true
    → has (flat_map give list) n ≡ true
has-among give [] place d n less found = absurd (omega (arith, less))
has-among give (item ∷ list) zero d n less found = has-left (give item) (flat_map give list) n found
has-among give (item ∷ list) (suc k) d n less found =
    has-right (give item) (flat_map give list) n (has-among give list k d n (omega (arith, less)) found)

-- a number in a changed list comes from one in the list
pub has-changed : (change : ℕ → ℕ) (list : List ℕ) (n : ℕ) → has (map change list) n ≡ true → (m : ℕ) × (has list m ≡ true) × (change m ≡ n)
has-changed change [] n found = absurd (has-none n found)
has-changed change (first ∷ rest) n found =
    elim (has-cases (change first) (map change rest) n found) [
      | inl here ↦ (first, has-first first rest, here)
      | inr after ↦ let more = has-changed change rest n after in (more.0, has-after first rest more.0 more.1, more.2)
    ]

-- a number that is there
pub has-option : (option : Option ℕ) (n : ℕ) → has (option_to_list option) n ≡ true → option ≡ Some n
has-option None n found = absurd (has-none n found)
has-option (Some m) n found =
    elim (has-cases m [] n found) [ inl here ↦ ap (λ k. Some k) here | inr after ↦ absurd (has-none n after) ]

-- a number that stands in a list
pub has-there : (list : List ℕ) (n : ℕ) → Contains list n → has list n ≡ true
has-there [] n (k, within, here) = absurd (omega (arith, within))
has-there (first ∷ rest) n (zero, within, here) = subst (λ k. has (first ∷ rest) k ≡ true) here (has-first first rest)
has-there (first ∷ rest) n (suc k, within, here) = has-after first rest n (has-there rest n (k, omega (arith, within), here))

-- ---- items

-- an item that passes a test
pub any-there : {A : Type 0} (test : A → Bool) (list : List A) (item : A) → Contains list item → test item ≡ true → list_any test list ≡ true
any-there test list item there passes = list_any_at test list there.0 item there.1 (ap test there.2 ∙ passes)

-- what is found at a place of a list
pub slice-there : {A : Type 0} (list : List A) (place : ℕ) (item : A) → slice_get list place ≡ Some item → Contains list item
slice-there list place item found =
    subst (Contains list) (get_or_from_slice_get list place item item found) (Contains-get_or list place item (slice_get_within list place item found))

-- what passes a filter
pub filter-there : {A : Type 0} (test : A → Bool) (list : List A) (item : A) → Contains (filter test list) item → Contains list item
filter-there test list item there =
    All-contains (Contains list) (filter test list) item (All-filter test (Contains list) list (All-contains_itself list)) there
