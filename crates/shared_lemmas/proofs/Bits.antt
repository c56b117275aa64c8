-- Bits that are compared one by one.
use Rattle.std.proofs.Common.{◌≡◌, Bool, true, List, refl}
use Rattle.std.specs.Prelude.{◌↔◌, IsTrue}
use Rattle.std.specs.Bool.{beq}
use Rattle.std.specs.Cmp.{booleans_Decides}
use Rattle.std.specs.Cmp.Lexicographic.{pointwise}
use Rattle.std.proofs.lemmas.Slice.Eq.{slice_eq-Decides}
use Rattle.shared_lemmas.proofs.Tests.{same_test}

-- bits that are found equal are
pub same_bits : (xs ys : List Bool) → pointwise beq xs ys ≡ true → xs ≡ ys
same_bits xs ys = (slice_eq-Decides booleans_Decides xs ys (pointwise beq xs ys) refl).0

-- bits equal themselves
pub pointwise-same : (xs : List Bool) → pointwise beq xs xs ≡ true
pointwise-same xs = (slice_eq-Decides booleans_Decides xs xs (pointwise beq xs xs) refl).1 refl

-- the test whether bits are equal
pub pointwise-told : (result : Bool) (xs ys : List Bool) → IsTrue result ↔ (xs ≡ ys) → result ≡ pointwise beq xs ys
pointwise-told result xs ys tells =
    let both = slice_eq-Decides booleans_Decides xs ys (pointwise beq xs ys) refl in
    same_test result (pointwise beq xs ys) (λ passes. both.1 (tells.0 passes)) (λ passes. tells.1 (both.0 passes))
