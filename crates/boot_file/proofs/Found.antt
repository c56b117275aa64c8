-- The first of some numbers in a row that passes a test.
use Rattle.std.proofs.Common.{◌≡◌, ℕ, zero, suc, ◌+◌, ◌<◌, Bool, true, false, refl, sym, ap, subst, arith}
use Rattle.std.specs.Prelude.{Some, None, find}
use Rattle.std.specs.List.{range_with_len}

-- no number passes
pub find-none : (test : ℕ → Bool) (from count : ℕ) → ((k : ℕ) → k < count → test (from + k) ≡ false) → find test (range_with_len from count) ≡ None
find-none test from zero fails = refl
find-none test from (suc count) fails =
    let here : test from ≡ false = subst (λ n. test n ≡ false) (omega arith) (fails 0 (omega arith)) in
    rw here (find-none test (from + 1) count (λ k within. subst (λ n. test n ≡ false) (omega arith) (fails (k + 1) (omega arith))))

-- a number passes, and none before it
pub find-first : (test : ℕ → Bool) (from count k place : ℕ) → k < count → from + k ≡ place → test place ≡ true
    → ((j : ℕ) → j < k → test (from + j) ≡ false) → find test (range_with_len from count) ≡ Some place
find-first test from zero k place within at passes before = absurd (omega arith)
find-first test from (suc count) zero place within at passes before =
    let here : from ≡ place = omega arith in
    let e : test from ≡ true = subst (λ n. test n ≡ true) (sym here) passes in
    rw e (ap Some here)
find-first test from (suc count) (suc k) place within at passes before =
    let here : test from ≡ false = subst (λ n. test n ≡ false) (omega arith) (before 0 (omega arith)) in
    rw here (find-first test (from + 1) count k place (omega arith) (omega arith) passes
    (λ j below. subst (λ n. test n ≡ false) (omega arith) (before (j + 1) (omega arith))))
