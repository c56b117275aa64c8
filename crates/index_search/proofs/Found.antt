-- What the search of places below a bound says if it finds nothing, or something.
use Rattle.std.proofs.Common.{◌≡◌, ℕ, zero, suc, ◌<◌, Bool, true, false, refl, ap, ◌∙◌, subst, inl, inr, arith}
use Rattle.std.specs.Prelude.{Option, Some, None}
use Rattle.std.proofs.lemmas.Bool.{cases_lt, or_parts}
use Rattle.index_search.specs.Places.{least_below, first_below, any_below, or_else, or_here}

-- ---- the first that gives something

pub or_else-first : {A : Type 0} (first other : Option A) → or_else first other ≡ None → first ≡ None
or_else-first (Some value) other none = none
or_else-first None other none = refl

pub or_else-other : {A : Type 0} (first other : Option A) → or_else first other ≡ None → other ≡ None
or_else-other (Some value) other none = absurd cc
or_else-other None other none = none

-- neither of two values
pub or_else-neither : {A : Type 0} (first other : Option A) → or_else first other ≡ None → (first ≡ None) × (other ≡ None)
or_else-neither first other none = (or_else-first first other none, or_else-other first other none)

-- if nothing is found, no place gives anything
pub first_below-clear : {A : Type 0} (n k : ℕ) (given : ℕ → Option A) → first_below n given ≡ None → k < n → given k ≡ None
unfolding first_below
first_below-clear zero k given none within = absurd (omega arith)
first_below-clear (suc n) k given none within =
    elim (cases_lt k n) [
      | inl less ↦ first_below-clear n k given (or_else-first (first_below n given) (given n) none) less
      | inr more ↦ let e : n ≡ k = omega arith in subst (λ place. given place ≡ None) e (or_else-other (first_below n given) (given n) none)
    ]

-- ---- whether any place passes

-- if none is said to pass, none does
pub any_below-clear : (n k : ℕ) (test : ℕ → Bool) → any_below n test ≡ false → k < n → test k ≡ false
unfolding any_below
any_below-clear zero k test none within = absurd (omega arith)
any_below-clear (suc n) k test none within =
    let parts = or_parts (any_below n test) (test n) none in
    elim (cases_lt k n) [
      | inl less ↦ any_below-clear n k test parts.0 less
      | inr more ↦ let e : n ≡ k = omega arith in subst (λ place. test place ≡ false) e parts.1
    ]

-- ---- the least place

or_here-first : (first : Option ℕ) (passes : Bool) (here : ℕ) → or_here first passes here ≡ None → first ≡ None
or_here-first (Some earlier) passes here none = none
or_here-first None passes here none = refl

or_here-here : (first : Option ℕ) (passes : Bool) (here : ℕ) → or_here first passes here ≡ None → passes ≡ false
or_here-here (Some earlier) passes here none = absurd cc
or_here-here None true here none = absurd cc
or_here-here None false here none = refl

-- if no place is found, none passes
pub least_below-clear : (n k : ℕ) (test : ℕ → Bool) → least_below n test ≡ None → k < n → test k ≡ false
unfolding least_below
least_below-clear zero k test none within = absurd (omega arith)
least_below-clear (suc n) k test none within =
    elim (cases_lt k n) [
      | inl less ↦ least_below-clear n k test (or_here-first (least_below n test) (test n) n none) less
      | inr more ↦ let e : n ≡ k = omega arith in subst (λ place. test place ≡ false) e (or_here-here (least_below n test) (test n) n none)
    ]

-- a place that is found passes, and none before it does
pub record IsLeast (n : ℕ) (test : ℕ → Bool) (place : ℕ) : Type 0 where
  pub within : place < n
  pub passes : test place ≡ true
  pub before : (k : ℕ) → k < place → test k ≡ false

or_here-place : (n : ℕ) (test : ℕ → Bool) (first : Option ℕ) (passes : Bool) (place : ℕ) → least_below n test ≡ first → test n ≡ passes
    → ((k : ℕ) → least_below n test ≡ Some k → IsLeast n test k) → or_here first passes n ≡ Some place → IsLeast (suc n) test place
or_here-place n test (Some earlier) passes place is here known found =
    let e : earlier ≡ place = cc in
    let least = known place (is ∙ ap (λ k. Some k) e) in
    record { within = omega (arith, least.within); passes = least.passes; before = least.before }
or_here-place n test None true place is here known found =
    let e : n ≡ place = cc in
    record { within = omega arith; passes = subst (λ k. test k ≡ true) e here; before = λ k below. least_below-clear n k test is (omega arith) }
or_here-place n test None false place is here known found = absurd cc

pub least_below-place : (n : ℕ) (test : ℕ → Bool) (place : ℕ) → least_below n test ≡ Some place → IsLeast n test place
unfolding least_below
least_below-place zero test place found = absurd cc
least_below-place (suc n) test place found = or_here-place n test (least_below n test) (test n) place refl refl (λ k. least_below-place n test k) found
