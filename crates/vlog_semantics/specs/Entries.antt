-- The state of a module between two events: finite maps from its names to their values.
use Rattle.std.specs.Prelude.{ℕ, Bool, List, [], ◌∷◌, bytes_eq, if◌then◌else◌}

-- the values of all names by kind, in the order in which the names are declared
pub record Entry : Type 0 where
  pub inputs : List (List ℕ × Bool)
  -- the registers of one bit
  pub registers : List (List ℕ × Bool)
  -- the registers of 16 bits
  pub words : List (List ℕ × ℕ)
  -- the words of each memory, by their addresses
  pub memories : List (List ℕ × List ℕ)
  pub wires : List (List ℕ × Bool)
  pub outputs : List (List ℕ × Bool)

-- a name gets a new value; a map without the name stays as it is
abbrev pub put : {A : Type 0} → List (List ℕ × A) → List ℕ → A → List (List ℕ × A)
put [] name value = []
put (entry ∷ entries) name value = if bytes_eq entry.0 name then (entry.0, value) ∷ entries else entry ∷ put entries name value
