-- Lists in which items are apart, and names that are looked up in them.
use Rattle.std.proofs.Common.{◌≡◌, ℕ, zero, suc, false, List, [], ◌∷◌, ◌++◌, map, refl, sym, ap, ◌∙◌, subst, arith}
use Rattle.std.specs.Prelude.{All, Contains, Some, flat_map, bytes_eq, not, if◌then◌else◌, IsTrue}
use Rattle.std.specs.List.{IsDistinct}
use Rattle.std.proofs.lemmas.List.Elements.{All-nil, All-cons, All-head, All-tail, All-contains, All-weaker, All-from_recursion, recursion_from_All}
use Rattle.vlog_module.specs.Maps.{value_in}
use Rattle.vlog_semantics.specs.Named.{has_name}
use Rattle.fabric_model.proofs.Apart.{AreApart}

-- ---- what holds of each item

pub All-front : {A : Type 0} (P : A → Type 0) (xs ys : List A) → All P (xs ++ ys) → All P xs
All-front P [] ys all = All-nil P
All-front P (x ∷ xs) ys all = All-cons P x xs (All-head P x (xs ++ ys) all) (All-front P xs ys (All-tail P x (xs ++ ys) all))

pub All-after : {A : Type 0} (P : A → Type 0) (xs ys : List A) → All P (xs ++ ys) → All P ys
All-after P [] ys all = all
All-after P (x ∷ xs) ys all = All-after P xs ys (All-tail P x (xs ++ ys) all)

-- what holds of all that items give
pub All-each : {X A : Type 0} (P : A → Type 0) (f : X → List A) (xs : List X) → All P (flat_map f xs) → All (λ x. All P (f x)) xs
All-each P f [] all = All-nil (λ x. All P (f x))
All-each P f (x ∷ xs) all =
    All-cons (λ y. All P (f y)) x xs (All-front P (f x) (flat_map f xs) all) (All-each P f xs (All-after P (f x) (flat_map f xs) all))

-- ---- items that are apart

-- what two items give is apart
abbrev pub PartsDiffer : {X A : Type 0} → (A → A → Type 0) → (X → List A) → X → X → Type 0
PartsDiffer R f a b = All (λ m. All (R m) (f b)) (f a)

module _ {A : Type 0} (R : A → A → Type 0) where
  across-both : (xs ys : List A) → AreApart R (xs ++ ys) → All (λ x. All (R x) ys) xs
  across-both [] ys apart = All-nil (λ x. All (R x) ys)
  across-both (x ∷ xs) ys apart = All-cons (λ z. All (R z) ys) x xs (All-after (R x) xs ys apart.0) (across-both xs ys apart.1)

  -- the first of two lists whose items are all apart
  pub apart-front : (xs ys : List A) → AreApart R (xs ++ ys) → AreApart R xs
  apart-front [] ys apart = tt
  apart-front (x ∷ xs) ys apart = (All-front (R x) xs ys apart.0, apart-front xs ys apart.1)

  apart-after : (xs ys : List A) → AreApart R (xs ++ ys) → AreApart R ys
  apart-after [] ys apart = apart
  apart-after (x ∷ xs) ys apart = apart-after xs ys apart.1

  -- if all that items give is distinct
  pub parts-apart : {X : Type 0} (f : X → List A) (xs : List X) → AreApart R (flat_map f xs) → AreApart (PartsDiffer R f) xs
  parts-apart f [] apart = tt
  parts-apart f (x ∷ xs) apart =
      let each : All (λ m. All (λ y. All (R m) (f y)) xs) (f x) =
      All-weaker (λ m. All (R m) (flat_map f xs)) (λ m. All (λ y. All (R m) (f y)) xs) (λ m all. All-each (R m) f xs all) (f x) (across-both (f x) (flat_map f xs) apart) in
      (λ k d less j e low. each j e low k d less, parts-apart f xs (apart-after (f x) (flat_map f xs) apart))

-- two items of a list that aren't the same
pub two-apart : {X : Type 0} (S : X → X → Type 0) → ((a b : X) → S a b → S b a) → (xs : List X) (a b : X) → AreApart S xs → Contains xs a → Contains xs b → (a ≡ b → ⊥) → S a b
two-apart S turn [] a b apart (k, within, here) of_b other = absurd (omega (arith, within))
two-apart S turn (x ∷ xs) a b apart (zero, in_a, at_a) (zero, in_b, at_b) other = absurd (other (sym at_a ∙ at_b))
two-apart S turn (x ∷ xs) a b apart (zero, in_a, at_a) (suc k, in_b, at_b) other =
    subst (λ y. S y b) at_a (All-contains (S x) xs b apart.0 (k, omega (arith, in_b), at_b))
two-apart S turn (x ∷ xs) a b apart (suc j, in_a, at_a) (zero, in_b, at_b) other =
    turn b a (subst (λ y. S y a) at_b (All-contains (S x) xs a apart.0 (j, omega (arith, in_a), at_a)))
two-apart S turn (x ∷ xs) a b apart (suc j, in_a, at_a) (suc k, in_b, at_b) other =
    two-apart S turn xs a b apart.1 (j, omega (arith, in_a), at_a) (k, omega (arith, in_b), at_b) other

-- what holds of the items before a map
pub apart-before : {X A : Type 0} (R : A → A → Type 0) (f : X → A) (xs : List X) → AreApart R (map f xs) → AreApart (λ a b. R (f a) (f b)) xs
apart-before R f [] apart = tt
apart-before R f (x ∷ xs) apart = (before-map (R (f x)) f xs apart.0, apart-before R f xs apart.1)
  where
    before-map : {X A : Type 0} (P : A → Type 0) (f : X → A) (xs : List X) → All P (map f xs) → All (λ x. P (f x)) xs
    before-map P f [] all = All-nil (λ x. P (f x))
    before-map P f (x ∷ xs) all = All-cons (λ y. P (f y)) x xs (All-head P (f x) (map f xs) all) (before-map P f xs (All-tail P (f x) (map f xs) all))

-- ---- names

-- two names aren't the same
abbrev pub Differ : List ℕ → List ℕ → Type 0
Differ one two = bytes_eq one two ≡ false

pub apart-names : (names : List (List ℕ)) → IsDistinct bytes_eq names → AreApart Differ names
unfolding IsDistinct
apart-names [] distinct = tt
apart-names (name ∷ names) distinct = (All-from_recursion (Differ name) names distinct.0, apart-names names distinct.1)

pub distinct-names : (names : List (List ℕ)) → AreApart Differ names → IsDistinct bytes_eq names
unfolding IsDistinct
distinct-names [] apart = tt
distinct-names (name ∷ names) apart = (recursion_from_All (Differ name) names apart.0, distinct-names names apart.1)

-- a name that none of these is
pub has_name-none : (names : List (List ℕ)) (name : List ℕ) → All (λ other. bytes_eq other name ≡ false) names → IsTrue (not (has_name names name))
has_name-none [] name away = refl
has_name-none (first ∷ names) name away =
    rw (All-head (λ other. bytes_eq other name ≡ false) first names away)
    (has_name-none names name (All-tail (λ other. bytes_eq other name ≡ false) first names away))

-- what comes after has no such name
pub value_in-only : {A : Type 0} (first second : List (List ℕ × A)) (name : List ℕ) → All (λ (entry : List ℕ × A). bytes_eq entry.0 name ≡ false) second
    → value_in (first ++ second) name ≡ value_in first name
value_in-only [] [] name away = refl
value_in-only {A} [] (entry ∷ second) name away =
    rw (All-head (λ (other : List ℕ × A). bytes_eq other.0 name ≡ false) entry second away)
    (value_in-only [] second name (All-tail (λ (other : List ℕ × A). bytes_eq other.0 name ≡ false) entry second away))
value_in-only (entry ∷ first) second name away = ap (λ rest. if bytes_eq entry.0 name then Some entry.1 else rest) (value_in-only first second name away)

-- what comes first has no such name
pub value_in-later : {A : Type 0} (first second : List (List ℕ × A)) (name : List ℕ) → All (λ (entry : List ℕ × A). bytes_eq entry.0 name ≡ false) first
    → value_in (first ++ second) name ≡ value_in second name
value_in-later [] second name away = refl
value_in-later {A} (entry ∷ first) second name away =
    rw (All-head (λ (other : List ℕ × A). bytes_eq other.0 name ≡ false) entry first away)
    (value_in-later first second name (All-tail (λ (other : List ℕ × A). bytes_eq other.0 name ≡ false) entry first away))
