-- Lists whose entries are all different, by a test.
use Rattle.std.proofs.Common.{◌≡◌, ℕ, zero, suc, ◌<◌, ◌≤◌, ◌==◌, Bool, true, false, ◌||◌, List, [], ◌∷◌, length, get_or, refl, sym, ◌∙◌, inl, inr, arith}
use Rattle.std.specs.List.{AllByRecursion, IsDistinct, list_any}
use Rattle.std.proofs.Math.Dec.{eqb}
use Rattle.std.proofs.lemmas.Bool.Decides.{nat_tests, eqb_tells}
use Rattle.std.proofs.lemmas.Map.Steps.{length-le_from_distinct_below}
use Rattle.plane_map.specs.Layout.{occurs, are_distinct, are_below}

-- the entry at a place occurs
pub get_or-occurs : (xs : List ℕ) (i : ℕ) → i < length xs → occurs (get_or xs i 0) xs ≡ true
get_or-occurs [] i h = absurd (omega arith)
get_or-occurs (x ∷ xs) zero h = grind (arith, nat_tests)
get_or-occurs (x ∷ xs) (suc i) h = grind (arith, nat_tests, get_or-occurs xs i)

-- different places have different entries
pub get_or-distinct : (xs : List ℕ) → are_distinct xs ≡ true → (i j : ℕ) → i < length xs → j < length xs → get_or xs i 0 ≡ get_or xs j 0 → i ≡ j
get_or-distinct [] d i j hi hj e = absurd (omega arith)
get_or-distinct (x ∷ xs) d zero zero hi hj e = refl
get_or-distinct (x ∷ xs) d zero (suc j) hi hj e = grind (arith, nat_tests, get_or-occurs xs j)
get_or-distinct (x ∷ xs) d (suc i) zero hi hj e = grind (arith, nat_tests, get_or-occurs xs i)
get_or-distinct (x ∷ xs) d (suc i) (suc j) hi hj e = grind (arith, nat_tests, get_or-distinct xs, i)

-- each entry is below the number
pub get_or-below : (n : ℕ) (xs : List ℕ) → are_below n xs ≡ true → (i : ℕ) → i < length xs → get_or xs i 0 < n
get_or-below n [] b i h = absurd (omega arith)
get_or-below n (x ∷ xs) b zero h = grind (arith, nat_tests)
get_or-below n (x ∷ xs) b (suc i) h = grind (arith, nat_tests, get_or-below n xs)

-- what occurs stands somewhere
pub occurs-get_or : (n : ℕ) (xs : List ℕ) → occurs n xs ≡ true → (k : ℕ) × (k < length xs) × (get_or xs k 0 ≡ n)
occurs-get_or n [] o = absurd (cc)
occurs-get_or n (x ∷ xs) o = elim (eqb_tells n x) [
  | inl e ↦ (0, omega arith, sym e.1)
  | inr e ↦
      let rest : occurs n xs ≡ true = grind (arith, nat_tests, e) in
      let found = occurs-get_or n xs rest in
      (suc found.0, omega arith, found.2)
]

-- the library's words for the same tests
occurs-list_any : (n : ℕ) (xs : List ℕ) → list_any (eqb n) xs ≡ occurs n xs
occurs-list_any n [] = refl
occurs-list_any n (x ∷ xs) = (λ i. (n == x) || occurs-list_any n xs i)

occurs-apart : (n : ℕ) (xs : List ℕ) → occurs n xs ≡ false → AllByRecursion (λ y. eqb n y ≡ false) xs
occurs-apart n [] o = tt
occurs-apart n (x ∷ xs) o = (grind (arith, nat_tests), occurs-apart n xs (grind (arith, nat_tests)))

distinct-list : (xs : List ℕ) → are_distinct xs ≡ true → IsDistinct eqb xs
unfolding IsDistinct
distinct-list [] d = tt
distinct-list (x ∷ xs) d = (occurs-apart x xs (grind (arith, nat_tests)), distinct-list xs (grind (arith, nat_tests)))

-- what occurs is below the number
occurs-below : (n : ℕ) (xs : List ℕ) → are_below n xs ≡ true → (q : ℕ) → occurs q xs ≡ true → q < n
occurs-below n xs b q o = let found = occurs-get_or q xs o in omega (arith, get_or-below n xs b found.0 found.1, found.2)

-- there are at most n different numbers below n
distinct-length : (n : ℕ) (xs : List ℕ) → are_distinct xs ≡ true → are_below n xs ≡ true → length xs ≤ n
distinct-length n xs d b = length-le_from_distinct_below xs n (distinct-list xs d) (λ q h. occurs-below n xs b q (sym (occurs-list_any q xs) ∙ h))

-- if there are exactly n of them, each number below n occurs
all-occur : (n : ℕ) (xs : List ℕ) → length xs ≡ n → are_distinct xs ≡ true → are_below n xs ≡ true → (m : ℕ) → m < n → (o : Bool) → occurs m xs ≡ o → o ≡ true
all-occur n xs l d b m h true e = refl
all-occur n xs l d b m h false e =
    let apart : are_distinct (m ∷ xs) ≡ true = grind (arith, nat_tests) in
    let low : are_below n (m ∷ xs) ≡ true = grind (arith, nat_tests) in
    absurd (omega (arith, distinct-length n (m ∷ xs) apart low))

-- and stands somewhere
pub get_or-onto : (n : ℕ) (xs : List ℕ) → length xs ≡ n → are_distinct xs ≡ true → are_below n xs ≡ true → (m : ℕ) → m < n → (k : ℕ) × (k < n) × (get_or xs k 0 ≡ m)
get_or-onto n xs l d b m h =
    let found = occurs-get_or m xs (all-occur n xs l d b m h _ refl) in
    (found.0, omega (arith, found.1), found.2)
