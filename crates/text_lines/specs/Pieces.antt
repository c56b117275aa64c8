-- The lines of a text that comes in pieces.
use Rattle.std.specs.Prelude.{◌≡◌, ℕ, ◌+◌, List, [], ◌∷◌, ◌++◌, length, ◌==◌, if◌then◌else◌}
use Rattle.text_lines.specs.Lines.{lines_of}

-- how many lines LF has ended
abbrev pub ended_lines : List ℕ → ℕ
ended_lines [] = 0
ended_lines (byte ∷ bytes) = (if byte == 10 then 1 else 0) + ended_lines bytes

-- LF has ended every line of the text, so whatever follows it begins a new line
pub record HasWholeLines (text : List ℕ) : Type 0 where
  pub lines : (rest : List ℕ) → lines_of (text ++ rest) ≡ lines_of text ++ lines_of rest
  pub count : ended_lines text ≡ length (lines_of text)

-- a text cut after its last LF: the lines that have ended, and the bytes of a line that hasn't
pub record IsCut (text front unended : List ℕ) : Type 0 where
  pub parts : text ≡ front ++ unended
  pub whole : HasWholeLines front
  pub rest : ended_lines unended ≡ 0
