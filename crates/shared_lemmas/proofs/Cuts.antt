-- The rest of a list after its first items are dropped.
use Rattle.std.proofs.Common.{◌≡◌, ℕ, zero, suc, ◌+◌, ◌<◌, ◌≤◌, List, [], ◌∷◌, length, get_or, drop, ap, arith, length-drop}

-- if an item is left, the list has it at that place, and the rest is what follows it
pub drop_cons : {A : Type 0} (xs : List A) (k : ℕ) (d x : A) (more : List A) → drop k xs ≡ x ∷ more → (k < length xs) × (get_or xs k d ≡ x) × (more ≡ drop (k + 1) xs)
drop_cons [] zero d x more left = absurd cc
drop_cons [] (suc k) d x more left = absurd cc
drop_cons (first ∷ xs) zero d x more left = (omega arith, cc, cc)
drop_cons (first ∷ xs) (suc k) d x more left =
    let found = drop_cons xs k d x more left in
    let later : suc k + 1 ≡ suc (k + 1) = omega arith in
    (omega (arith, found.0), found.1, rw later found.2)

-- nothing is left
pub drop_none : {A : Type 0} (xs : List A) (k : ℕ) → drop k xs ≡ [] → length xs ≤ k
drop_none xs k none = omega (arith, length-drop k xs, ap length none)

-- if nothing is left and the place is within the list, it is the end of the list
pub drop_end : {A : Type 0} (xs : List A) (k : ℕ) → drop k xs ≡ [] → k ≤ length xs → k ≡ length xs
drop_end xs k none within = omega (arith, drop_none xs k none)
