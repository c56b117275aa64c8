-- Searches over all places below a bound, for example over the lines of a text.
use Rattle.std.specs.Prelude.{ℕ, zero, suc, Bool, true, false, ◌||◌, List, [], ◌++◌, Option, Some, None, if◌then◌else◌}

-- whether the test passes at some place below the bound
unfoldable pub any_below : ℕ → (ℕ → Bool) → Bool
any_below zero test = false
any_below (suc n) test = any_below n test || test n

-- the place known so far; if none is known, this place if the test passes here
abbrev pub or_here : Option ℕ → Bool → ℕ → Option ℕ
or_here (Some earlier) passes here = Some earlier
or_here None true here = Some here
or_here None false here = None

-- the least place below the bound at which the test passes
unfoldable pub least_below : ℕ → (ℕ → Bool) → Option ℕ
least_below zero test = None
least_below (suc n) test = or_here (least_below n test) (test n) n

-- the greatest place below the bound at which the test passes
unfoldable pub last_below : ℕ → (ℕ → Bool) → Option ℕ
last_below zero test = None
last_below (suc n) test = if test n then Some n else last_below n test

-- a value, or another one if the first is missing
abbrev pub or_else : {A : Type 0} → Option A → Option A → Option A
or_else (Some value) other = Some value
or_else None other = other

-- what the first place gives, among the places below the bound that give something
unfoldable pub first_below : {A : Type 0} → ℕ → (ℕ → Option A) → Option A
first_below zero given = None
first_below (suc n) given = or_else (first_below n given) (given n)

-- what all places below the bound give, one list after the other
unfoldable pub gathered_below : {A : Type 0} → ℕ → (ℕ → List A) → List A
gathered_below zero given = []
gathered_below (suc n) given = gathered_below n given ++ given n
