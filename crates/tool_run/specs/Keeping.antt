-- What has kept the texts of needs.
use Rattle.std.specs.Prelude.{ℕ, List, ◌++◌}

-- after whatever texts were kept before, these were kept
abbrev pub KeepsTexts : {Setting K : Type 0} → (Setting → K → List (List ℕ) → Type 0) → K → K → List (List ℕ) → Type 0
KeepsTexts {Setting} has_kept old new texts =
    (setting : Setting) (before : List (List ℕ)) → has_kept setting old before → has_kept setting new (before ++ texts)
