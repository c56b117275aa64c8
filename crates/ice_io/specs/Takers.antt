-- What has taken bytes that come piece by piece.
use Rattle.std.specs.Prelude.{ℕ, List, Option, ◌++◌}
use Rattle.std.specs.Io.KnownBytes.{Consumes}

-- after whatever was taken before, these bytes were taken
abbrev pub TakesMore : {Setting T : Type 0} → (Setting → T → List ℕ → Type 0) → T → T → List ℕ → Type 0
TakesMore {Setting} has_taken old new bytes = (setting : Setting) (before : List ℕ) → has_taken setting old before → has_taken setting new (before ++ bytes)

-- all that was read from a source was taken
abbrev pub TakesRead : {Setting T : Type 0} → Option (List ℕ) → Option (List ℕ) → (Setting → T → List ℕ → Type 0) → T → T → Type 0
TakesRead left new_left has_taken old new = (bytes : List ℕ) × Consumes left new_left bytes × TakesMore has_taken old new bytes

-- of what was read from a source, the first bytes were taken
abbrev pub TakesFront : {Setting T : Type 0} → Option (List ℕ) → Option (List ℕ) → (Setting → T → List ℕ → Type 0) → T → T → Type 0
TakesFront left new_left has_taken old new =
    (bytes : List ℕ) × (rest : List ℕ) × Consumes left new_left (bytes ++ rest) × TakesMore has_taken old new bytes
