-- Lines in which each `repeat` has its `end`.
use Rattle.std.specs.Prelude.{ℕ, zero, suc, ◌+◌, Bool, false, ◌&&◌, ◌==◌, List, [], ◌∷◌, Option, Some, None, drop, fold, nat_lt, option_and_then, if◌then◌else◌}
use Rattle.long_events.specs.declared.step.Step.{Step}
use Rattle.long_events.specs.declared.step.Step.TheVariants.{Give, Toggle, Repeat, End}

-- whether so many `repeat`s before these lines have their `end`s in them, and each `repeat` in them has its own; at most eight are open at
-- a time, and none repeats nothing
unfoldable pub nests : ℕ → List Step → Bool
nests level [] = level == 0
nests level (Give event ∷ steps) = nests level steps
nests level (Toggle pin count ∷ steps) = nests level steps
nests level (Repeat count ∷ steps) = nat_lt 0 count && (nat_lt level 8 && nests (suc level) steps)
nests zero (End ∷ steps) = false
nests (suc level) (End ∷ steps) = nests level steps

-- how many `repeat`s are open after a step, or none if it isn't allowed there
abbrev pub step_level : ℕ → Step → Option ℕ
step_level level (Give event) = Some level
step_level level (Toggle pin count) = Some level
step_level level (Repeat count) = if nat_lt 0 count && nat_lt level 8 then Some (suc level) else None
step_level zero End = None
step_level (suc level) End = Some level

-- how many are open after these steps, if each is allowed where it stands
abbrev pub reached : Option ℕ → List Step → Option ℕ
reached level steps = fold (λ (at : Option ℕ) step. option_and_then (λ (count : ℕ). step_level count step) at) level steps

-- the places after each `end` whose `repeat` isn't among these lines, the first of which has this place
unfoldable pub closings : ℕ → List Step → List ℕ
closings place [] = []
closings place (Give event ∷ steps) = closings (place + 1) steps
closings place (Toggle pin count ∷ steps) = closings (place + 1) steps
closings place (Repeat count ∷ steps) = drop 1 (closings (place + 1) steps)
closings place (End ∷ steps) = (place + 1) ∷ closings (place + 1) steps
