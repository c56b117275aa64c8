-- Lists of names and values.
use Rattle.std.specs.Prelude.{ℕ, Bool, List, bytes_eq, map}
use Rattle.std.specs.List.{list_any}

abbrev pub names_of : {A : Type 0} → List (List ℕ × A) → List (List ℕ)
names_of entries = map (λ entry. entry.0) entries

abbrev pub values_of : {A : Type 0} → List (List ℕ × A) → List A
values_of entries = map (λ entry. entry.1) entries

-- whether a name is in a list
abbrev pub has_name : List (List ℕ) → List ℕ → Bool
has_name names name = list_any (λ other. bytes_eq other name) names
