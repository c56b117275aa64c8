-- What reading takes from a source, if its bytes are known.
use Rattle.std.specs.Prelude.{◌≡◌, ℕ, ◌≤◌, ◌==◌, min, if◌then◌else◌, List, Option, length}
use Rattle.std.specs.Io.KnownBytes.{Consumes, IsAtEnd}

-- n bytes were taken from the front of what was left
abbrev pub TakesCount : Option (List ℕ) → Option (List ℕ) → ℕ → Type 0
TakesCount old new n = (bytes : List ℕ) × Consumes old new bytes × (length bytes ≡ n)

-- at most n bytes were taken from the front of what was left
abbrev pub TakesAtMost : Option (List ℕ) → Option (List ℕ) → ℕ → Type 0
TakesAtMost old new n = (bytes : List ℕ) × Consumes old new bytes × (length bytes ≤ n)

-- these bytes were all that was left
abbrev pub TakesAll : Option (List ℕ) → Option (List ℕ) → List ℕ → Type 0
TakesAll old new bytes = Consumes old new bytes × IsAtEnd new

-- for how many bytes room is made at a time, if there is memory for so many more: for all of these, and for 65,536 at most, and so many if
-- there is none
abbrev pub turn_of : ℕ → ℕ
turn_of spare = if spare == 0 then 65536 else min spare 65536
