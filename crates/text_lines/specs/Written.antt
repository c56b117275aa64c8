-- A text of lines.
use Rattle.std.specs.Prelude.{ℕ, ◌≤◌, List, [], ◌∷◌, ◌++◌, flat_map, All}

-- the lines, each with LF at its end
unfoldable pub text_of : List (List ℕ) → List ℕ
text_of lines = flat_map (λ line. line ++ 10 ∷ []) lines

-- a line without a byte below the space: LF and CR are such bytes
abbrev pub IsPlain : List ℕ → Type 0
IsPlain line = All (λ byte. 32 ≤ byte) line
