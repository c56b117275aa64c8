-- Names with numbers: their indexes, from a first number on.
use Rattle.std.specs.Prelude.{ℕ, ◌+◌, List, [], ◌∷◌}

-- each name with its number; the first name has the number `from`
abbrev pub numbered : ℕ → List (List ℕ) → List (List ℕ × ℕ)
numbered from [] = []
numbered from (name ∷ names) = (name, from) ∷ numbered (from + 1) names
