-- Two lists whose items are alike, place by place.
use Rattle.std.proofs.Common.{◌≡◌, ℕ, zero, suc, Bool, List, [], ◌∷◌, ◌++◌, length, map, refl, ap, ap₂, subst, arith, inl, inr}
use Rattle.std.specs.Prelude.{Contains, filter, flat_map}
use Rattle.std.specs.List.{AllZip, list_any}
use Rattle.std.proofs.lemmas.Bool.{cases_Bool}
use Rattle.fabric_model.specs.Fabric.{numbered_from}

pub pairs-same : {A : Type 0} (R : A → A → Type 0) → ((x : A) → R x x) → (xs : List A) → AllZip R xs xs
pairs-same R same [] = tt
pairs-same R same (x ∷ xs) = (same x, pairs-same R same xs)

module _ {A B : Type 0} (R : A → B → Type 0) where
  pub pairs-append : (xs : List A) (ys : List B) (us : List A) (vs : List B) → AllZip R xs ys → AllZip R us vs → AllZip R (xs ++ us) (ys ++ vs)
  pairs-append [] [] us vs first second = second
  pairs-append [] (y ∷ ys) us vs first second = absurd first
  pairs-append (x ∷ xs) [] us vs first second = absurd first
  pairs-append (x ∷ xs) (y ∷ ys) us vs first second = (first.0, pairs-append xs ys us vs first.1 second)

  -- what two functions make of one list
  pub pairs-made : {X : Type 0} (one : X → A) (two : X → B) → ((x : X) → R (one x) (two x)) → (xs : List X) → AllZip R (map one xs) (map two xs)
  pairs-made one two each [] = tt
  pairs-made one two each (x ∷ xs) = (each x, pairs-made one two each xs)

  pub pairs-flat_map : {X Y : Type 0} (Q : X → Y → Type 0) (one : X → List A) (two : Y → List B) → ((x : X) (y : Y) → Q x y → AllZip R (one x) (two y))
      → (xs : List X) (ys : List Y) → AllZip Q xs ys → AllZip R (flat_map one xs) (flat_map two ys)
  pairs-flat_map Q one two each [] [] alike = tt
  pairs-flat_map Q one two each [] (y ∷ ys) alike = absurd alike
  pairs-flat_map Q one two each (x ∷ xs) [] alike = absurd alike
  pairs-flat_map Q one two each (x ∷ xs) (y ∷ ys) alike =
      pairs-append (one x) (two y) (flat_map one xs) (flat_map two ys) (each x y alike.0) (pairs-flat_map Q one two each xs ys alike.1)

  -- what they give for each item of it
  pub pairs-each : {X : Type 0} (one : X → List A) (two : X → List B) → ((x : X) → AllZip R (one x) (two x)) → (xs : List X) → AllZip R (flat_map one xs) (flat_map two xs)
  pairs-each one two each [] = tt
  pairs-each one two each (x ∷ xs) = pairs-append (one x) (two x) (flat_map one xs) (flat_map two xs) (each x) (pairs-each one two each xs)

  -- items with their places
  pub pairs-numbered : (place : ℕ) (xs : List A) (ys : List B) → AllZip R xs ys
      → AllZip (λ (one : ℕ × A) (two : ℕ × B). (one.0 ≡ two.0) × R one.1 two.1) (numbered_from place xs) (numbered_from place ys)
  unfolding numbered_from
  pairs-numbered place [] [] alike = tt
  pairs-numbered place [] (y ∷ ys) alike = absurd alike
  pairs-numbered place (x ∷ xs) [] alike = absurd alike
  pairs-numbered place (x ∷ xs) (y ∷ ys) alike = ((refl, alike.0), pairs-numbered (suc place) xs ys alike.1)

  -- what is given for each of them is the same
  pub pairs-give : {X : Type 0} (one : A → X) (two : B → X) → ((x : A) (y : B) → R x y → one x ≡ two y) → (xs : List A) (ys : List B) → AllZip R xs ys → map one xs ≡ map two ys
  pairs-give one two each [] [] alike = refl
  pairs-give one two each [] (y ∷ ys) alike = absurd alike
  pairs-give one two each (x ∷ xs) [] alike = absurd alike
  pairs-give {X} one two each (x ∷ xs) (y ∷ ys) alike =
      ap₂ (λ (first : X) (rest : List X). first ∷ rest) (each x y alike.0) (pairs-give one two each xs ys alike.1)

  pub pairs-length : (xs : List A) (ys : List B) → AllZip R xs ys → length xs ≡ length ys
  pairs-length [] [] alike = refl
  pairs-length [] (y ∷ ys) alike = absurd alike
  pairs-length (x ∷ xs) [] alike = absurd alike
  pairs-length (x ∷ xs) (y ∷ ys) alike = ap (λ n. suc n) (pairs-length xs ys alike.1)

  module _ (one : A → Bool) (two : B → Bool) (each : (x : A) (y : B) → R x y → one x ≡ two y) where
    pub pairs-any : (xs : List A) (ys : List B) → AllZip R xs ys → list_any one xs ≡ list_any two ys
    pairs-any [] [] alike = refl
    pairs-any [] (y ∷ ys) alike = absurd alike
    pairs-any (x ∷ xs) [] alike = absurd alike
    pairs-any (x ∷ xs) (y ∷ ys) alike = rw (each x y alike.0, pairs-any xs ys alike.1) refl

    pub pairs-filter : (xs : List A) (ys : List B) → AllZip R xs ys → AllZip R (filter one xs) (filter two ys)
    pairs-filter [] [] alike = tt
    pairs-filter [] (y ∷ ys) alike = absurd alike
    pairs-filter (x ∷ xs) [] alike = absurd alike
    pairs-filter (x ∷ xs) (y ∷ ys) alike =
        let rest = pairs-filter xs ys alike.1 in
        elim (cases_Bool (two y)) [
          | inl passes ↦ rw (each x y alike.0, passes) (alike.0, rest)
          | inr fails ↦ rw (each x y alike.0, fails) rest
        ]

  -- an item of the second list is like one of the first
  pub pairs-first : (xs : List A) (ys : List B) (y : B) → AllZip R xs ys → Contains ys y → (x : A) × Contains xs x × R x y
  pairs-first [] [] y alike (k, within, here) = absurd (omega (arith, within))
  pairs-first [] (z ∷ ys) y alike there = absurd alike
  pairs-first (x ∷ xs) [] y alike there = absurd alike
  pairs-first (x ∷ xs) (z ∷ ys) y alike (zero, within, here) = (x, (0, omega arith, refl), subst (R x) here alike.0)
  pairs-first (x ∷ xs) (z ∷ ys) y alike (suc k, within, here) =
      let found = pairs-first xs ys y alike.1 (k, omega (arith, within), here) in
      (found.0, (suc found.1.0, omega (arith, found.1.1), found.1.2), found.2)

  -- and the other way round
  pub pairs-flip : (xs : List A) (ys : List B) → AllZip R xs ys → AllZip (λ (y : B) (x : A). R x y) ys xs
  pairs-flip [] [] alike = tt
  pairs-flip [] (y ∷ ys) alike = absurd alike
  pairs-flip (x ∷ xs) [] alike = absurd alike
  pairs-flip (x ∷ xs) (y ∷ ys) alike = (alike.0, pairs-flip xs ys alike.1)
