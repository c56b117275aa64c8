-- Items of lists with their indexes.
use Rattle.std.specs.Prelude.{ℕ, suc, List, [], ◌∷◌}

-- the items of a list with their indexes, counted from a number on
unfoldable pub numbered_from : {A : Type 0} → ℕ → List A → List (ℕ × A)
numbered_from place [] = []
numbered_from place (item ∷ items) = (place, item) ∷ numbered_from (suc place) items

-- the items of a list with their indexes
abbrev pub numbered : {A : Type 0} → List A → List (ℕ × A)
numbered items = numbered_from 0 items
