-- Tests that are joined by `and`, `or` and `if`, and what they say of their parts.
use Rattle.std.proofs.Common.{◌≡◌, Bool, true, false, ◌&&◌, ◌||◌, if◌then◌else◌, refl, sym}
use Rattle.std.proofs.lemmas.Bool.{and_parts, or_parts}

-- two tests are equal if each passes when the other does
pub same_test : (a b : Bool) → (a ≡ true → b ≡ true) → (b ≡ true → a ≡ true) → a ≡ b
same_test true b there back = sym (there refl)
same_test false true there back = back refl
same_test false false there back = refl

-- both pass, so the first does
pub first_true : (a b : Bool) → (a && b) ≡ true → a ≡ true
first_true a b both = (and_parts a b both).0

-- and the second
pub second_true : (a b : Bool) → (a && b) ≡ true → b ≡ true
second_true a b both = (and_parts a b both).1

-- none passes, so the first doesn't
pub first_false : (a b : Bool) → (a || b) ≡ false → a ≡ false
first_false a b none = (or_parts a b none).0

-- nor the second
pub second_false : (a b : Bool) → (a || b) ≡ false → b ≡ false
second_false a b none = (or_parts a b none).1

-- no test passes whose last part doesn't
pub and_none : (a b : Bool) → (a && (b && false)) ≡ false
and_none true true = refl
and_none true false = refl
and_none false b = refl

-- a test that is made only if another passes
pub if_both : (a b : Bool) → (if a then b else false) ≡ true → (a ≡ true) × (b ≡ true)
if_both true b both = (refl, both)
if_both false b both = absurd cc
