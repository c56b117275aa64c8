-- Finite maps from names: lists of names, each with its value. If a name is listed twice, its first value counts.
use Rattle.std.specs.Prelude.{ℕ, List, [], ◌∷◌, Option, Some, None, bytes_eq, if◌then◌else◌}

-- the value of a name, if the name is listed
abbrev pub value_in : {A : Type 0} → List (List ℕ × A) → List ℕ → Option A
value_in [] name = None
value_in (entry ∷ entries) name = if bytes_eq entry.0 name then Some entry.1 else value_in entries name
