-- Lists of names that have each name once.
use Rattle.std.specs.Prelude.{ℕ, Bool, List, [], ◌∷◌, ◌++◌, bytes_eq, if◌then◌else◌}
use Rattle.std.specs.List.{list_any}

-- whether a name is among others
abbrev pub has_name : List (List ℕ) → List ℕ → Bool
has_name names name = list_any (λ other. bytes_eq other name) names

-- names with one more, if it isn't listed yet
abbrev pub with_name : List (List ℕ) → List ℕ → List (List ℕ)
with_name names name = if has_name names name then names else names ++ name ∷ []
