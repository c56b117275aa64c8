-- Laws of tests, values and lists at all places below a bound.
use Rattle.std.proofs.Common.{◌≡◌, ℕ, zero, suc, ◌+◌, ◌<◌, Bool, true, false, ◌||◌, cond, List, [], ◌++◌, append_assoc, append-nil, refl, sym, ap, ◌∙◌, inl, inr, arith, add-one}
use Rattle.std.specs.Prelude.{Option, Some, None}
use Rattle.std.proofs.lemmas.Bool.{cases_eq, cases_Bool}
use Rattle.std.proofs.Math.Bool.{or-false, or-true, or_assoc}
use Rattle.index_search.specs.Places.{any_below, least_below, last_below, first_below, gathered_below, or_here, or_else}

-- whether some place passes

-- one place more
pub any_below-more : (n : ℕ) (test : ℕ → Bool) → any_below (n + 1) test ≡ (any_below n test || test n)
unfolding any_below
any_below-more n test = rw add-one refl

-- no place passes
pub any_below-none : (n : ℕ) (test : ℕ → Bool) → ((k : ℕ) → k < n → test k ≡ false) → any_below n test ≡ false
unfolding any_below
any_below-none zero test none = refl
any_below-none (suc n) test none = rw (any_below-none n test (λ k lt. none k (omega arith)), none n (omega arith)) refl

-- tests that agree below the bound
pub any_below-same : (n : ℕ) (test other : ℕ → Bool) → ((k : ℕ) → k < n → test k ≡ other k) → any_below n test ≡ any_below n other
unfolding any_below
any_below-same zero test other same = refl
any_below-same (suc n) test other same = rw (any_below-same n test other (λ k lt. same k (omega arith)), same n (omega arith)) refl

-- a place that passes is some place
pub any_below-at : (n k : ℕ) (test : ℕ → Bool) → k < n → test k ≡ true → any_below n test ≡ true
unfolding any_below
any_below-at zero k test lt here = absurd (omega arith)
any_below-at (suc n) k test lt here =
    elim (cases_eq k n) [
      | inl last ↦
          let passes : test n ≡ true = ap test (sym last) ∙ here in
          rw passes (or-true (any_below n test))
      | inr before ↦ rw (any_below-at n k test (omega arith) here) refl
    ]

-- if some place passes, here is one
pub any_below-place : (n : ℕ) (test : ℕ → Bool) → any_below n test ≡ true → (k : ℕ) × (k < n) × (test k ≡ true)
unfolding any_below
any_below-place zero test some = absurd cc
any_below-place (suc n) test some =
    elim (cases_Bool (test n)) [
      | inl here ↦ (n, omega arith, here)
      | inr not_here ↦
          let earlier : any_below n test ≡ true = sym (or-false (any_below n test)) ∙ (rw not_here at some) in
          let found = any_below-place n test earlier in
          (found.0, omega (arith, found.1), found.2)
    ]

-- the places of a sum are those below its first part, and those from there on
pub any_below-sum : (n m : ℕ) (test : ℕ → Bool) → any_below (n + m) test ≡ (any_below n test || any_below m (λ k. test (n + k)))
unfolding any_below
any_below-sum n zero test =
    let same : n + 0 ≡ n = omega arith in
    rw same (sym (or-false (any_below n test)))
any_below-sum n (suc m) test =
    let next : n + suc m ≡ suc (n + m) = omega arith in
    rw (next, any_below-sum n m test) (or_assoc (any_below n test) (any_below m (λ k. test (n + k))) (test (n + m)))

-- the least place that passes

-- one place more
pub least_below-more : (n : ℕ) (test : ℕ → Bool) → least_below (n + 1) test ≡ or_here (least_below n test) (test n) n
unfolding least_below
least_below-more n test = rw add-one refl

-- no place passes, so there is no least one
pub least_below-none : (n : ℕ) (test : ℕ → Bool) → ((k : ℕ) → k < n → test k ≡ false) → least_below n test ≡ None
unfolding least_below
least_below-none zero test none = refl
least_below-none (suc n) test none = rw (least_below-none n test (λ k lt. none k (omega arith)), none n (omega arith)) refl

-- tests that agree below the bound
pub least_below-same : (n : ℕ) (test other : ℕ → Bool) → ((k : ℕ) → k < n → test k ≡ other k) → least_below n test ≡ least_below n other
unfolding least_below
least_below-same zero test other same = refl
least_below-same (suc n) test other same = rw (least_below-same n test other (λ k lt. same k (omega arith)), same n (omega arith)) refl

-- the first place that passes is the least one
pub least_below-first : (n k : ℕ) (test : ℕ → Bool) → k < n → ((j : ℕ) → j < k → test j ≡ false) → test k ≡ true → least_below n test ≡ Some k
unfolding least_below
least_below-first zero k test lt none here = absurd (omega arith)
least_below-first (suc n) k test lt none here =
    elim (cases_eq k n) [
      | inl last ↦
          let earlier : least_below n test ≡ None = least_below-none n test (λ j below. none j (omega arith)) in
          let passes : test n ≡ true = ap test (sym last) ∙ here in
          rw (earlier, passes) (ap (λ p. Some p) (sym last))
      | inr before ↦ rw (least_below-first n k test (omega arith) none here) refl
    ]

-- the greatest place that passes

-- one place more
pub last_below-more : (n : ℕ) (test : ℕ → Bool) → last_below (n + 1) test ≡ cond (test n) (Some n) (last_below n test)
unfolding last_below
last_below-more n test = rw add-one refl

-- no place passes, so there is no greatest one
pub last_below-none : (n : ℕ) (test : ℕ → Bool) → ((k : ℕ) → k < n → test k ≡ false) → last_below n test ≡ None
unfolding last_below
last_below-none zero test none = refl
last_below-none (suc n) test none = rw (none n (omega arith)) (last_below-none n test (λ k lt. none k (omega arith)))

-- tests that agree below the bound
pub last_below-same : (n : ℕ) (test other : ℕ → Bool) → ((k : ℕ) → k < n → test k ≡ other k) → last_below n test ≡ last_below n other
unfolding last_below
last_below-same zero test other same = refl
last_below-same (suc n) test other same = rw (last_below-same n test other (λ k lt. same k (omega arith)), same n (omega arith)) refl

-- a place that passes, with none after it that does, is the greatest one
pub last_below-is : (n k : ℕ) (test : ℕ → Bool) → k < n → test k ≡ true → ((j : ℕ) → k < j → j < n → test j ≡ false) → last_below n test ≡ Some k
unfolding last_below
last_below-is zero k test lt here none = absurd (omega arith)
last_below-is (suc n) k test lt here none =
    elim (cases_eq k n) [
      | inl last ↦
          let passes : test n ≡ true = ap test (sym last) ∙ here in
          rw passes (ap (λ p. Some p) (sym last))
      | inr before ↦ rw (none n (omega arith) (omega arith)) (last_below-is n k test (omega arith) here (λ j above below. none j above (omega arith)))
    ]

-- the greatest place that passes is below the bound, passes, and has none after it that does
pub last_below-place : (n k : ℕ) (test : ℕ → Bool) → last_below n test ≡ Some k → (k < n) × (test k ≡ true) × ((j : ℕ) → k < j → j < n → test j ≡ false)
unfolding last_below
last_below-place zero k test is = absurd cc
last_below-place (suc n) k test is =
    elim (cases_Bool (test n)) [
      | inl here ↦
          let found : Some n ≡ Some k = rw here at is in
          let same : n ≡ k = cc in
          (omega arith, ap test (sym same) ∙ here, λ j above below. absurd (omega arith))
      | inr not_here ↦
          let earlier : last_below n test ≡ Some k = rw not_here at is in
          let facts = last_below-place n k test earlier in (
            omega (arith, facts.0),
            facts.1,
            λ j above below. elim (cases_eq j n) [
              | inl last ↦ ap test last ∙ not_here
              | inr before ↦ facts.2 j above (omega arith)
            ],
          )
    ]

-- what the first place gives that gives something

-- no other value
pub or_else-none : {A : Type 0} (value : Option A) → or_else value None ≡ value
or_else-none (Some value) = refl
or_else-none None = refl

-- the order of three values
or_else-assoc : {A : Type 0} (a b c : Option A) → or_else (or_else a b) c ≡ or_else a (or_else b c)
or_else-assoc (Some value) b c = refl
or_else-assoc None b c = refl

-- one place more
pub first_below-more : {A : Type 0} (n : ℕ) (given : ℕ → Option A) → first_below (n + 1) given ≡ or_else (first_below n given) (given n)
unfolding first_below
first_below-more n given = rw add-one refl

-- no place gives anything
pub first_below-none : {A : Type 0} (n : ℕ) (given : ℕ → Option A) → ((k : ℕ) → k < n → given k ≡ None) → first_below n given ≡ None
unfolding first_below
first_below-none zero given none = refl
first_below-none (suc n) given none = rw (first_below-none n given (λ k lt. none k (omega arith)), none n (omega arith)) refl

-- values that agree below the bound
pub first_below-same : {A : Type 0} (n : ℕ) (given other : ℕ → Option A) → ((k : ℕ) → k < n → given k ≡ other k) → first_below n given ≡ first_below n other
unfolding first_below
first_below-same zero given other same = refl
first_below-same (suc n) given other same = rw (first_below-same n given other (λ k lt. same k (omega arith)), same n (omega arith)) refl

-- the value of a place before which no place gives anything
pub first_below-first : {A : Type 0} (n k : ℕ) (given : ℕ → Option A) (value : A) → k < n → ((j : ℕ) → j < k → given j ≡ None) → given k ≡ Some value → first_below n given ≡ Some value
unfolding first_below
first_below-first zero k given value lt none here = absurd (omega arith)
first_below-first (suc n) k given value lt none here =
    elim (cases_eq k n) [
      | inl last ↦
          let earlier : first_below n given ≡ None = first_below-none n given (λ j below. none j (omega arith)) in
          let gives : given n ≡ Some value = ap given (sym last) ∙ here in
          rw (earlier, gives) refl
      | inr before ↦ rw (first_below-first n k given value (omega arith) none here) refl
    ]

-- the places of a sum are those below its first part, and those from there on
pub first_below-sum : {A : Type 0} (n m : ℕ) (given : ℕ → Option A) → first_below (n + m) given ≡ or_else (first_below n given) (first_below m (λ k. given (n + k)))
unfolding first_below
first_below-sum n zero given =
    let same : n + 0 ≡ n = omega arith in
    rw same (sym (or_else-none (first_below n given)))
first_below-sum n (suc m) given =
    let next : n + suc m ≡ suc (n + m) = omega arith in
    rw (next, first_below-sum n m given) (or_else-assoc (first_below n given) (first_below m (λ k. given (n + k))) (given (n + m)))

-- what the places give, one after the other

-- one place more
pub gathered_below-more : {A : Type 0} (n : ℕ) (given : ℕ → List A) → gathered_below (n + 1) given ≡ gathered_below n given ++ given n
unfolding gathered_below
gathered_below-more n given = rw add-one refl

-- no place gives anything
pub gathered_below-none : {A : Type 0} (n : ℕ) (given : ℕ → List A) → ((k : ℕ) → k < n → given k ≡ []) → gathered_below n given ≡ []
unfolding gathered_below
gathered_below-none zero given none = refl
gathered_below-none (suc n) given none = rw (gathered_below-none n given (λ k lt. none k (omega arith)), none n (omega arith)) refl

-- lists that agree below the bound
pub gathered_below-same : {A : Type 0} (n : ℕ) (given other : ℕ → List A) → ((k : ℕ) → k < n → given k ≡ other k) → gathered_below n given ≡ gathered_below n other
unfolding gathered_below
gathered_below-same zero given other same = refl
gathered_below-same (suc n) given other same = rw (gathered_below-same n given other (λ k lt. same k (omega arith)), same n (omega arith)) refl

-- the places of a sum are those below its first part, and those from there on
pub gathered_below-sum : {A : Type 0} (n m : ℕ) (given : ℕ → List A) → gathered_below (n + m) given ≡ gathered_below n given ++ gathered_below m (λ k. given (n + k))
unfolding gathered_below
gathered_below-sum n zero given =
    let same : n + 0 ≡ n = omega arith in
    rw same (sym (append-nil (gathered_below n given)))
gathered_below-sum n (suc m) given =
    let next : n + suc m ≡ suc (n + m) = omega arith in
    rw (next, gathered_below-sum n m given) (append_assoc (gathered_below n given) (gathered_below m (λ k. given (n + k))) (given (n + m)))
