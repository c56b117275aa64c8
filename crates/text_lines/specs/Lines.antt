-- The lines of a text. LF ends a line, and a CR just before it belongs to the end. The last line needs no LF; a CR at its end is then a
-- byte of it. Source: Project IceStorm, 'iCE40 ASCII format'; that a CR may come before LF is this project's choice.
use Rattle.std.specs.Prelude.{ℕ, Bool, false, ◌&&◌, ◌||◌, List, [], ◌∷◌, get_or, ◌==◌, if◌then◌else◌}

-- puts a byte in front of the first piece
abbrev pub with_byte : ℕ → List (List ℕ) → List (List ℕ)
with_byte byte [] = (byte ∷ []) ∷ []
with_byte byte (piece ∷ pieces) = (byte ∷ piece) ∷ pieces

-- whether LF comes next
abbrev pub is_at_lf : List ℕ → Bool
is_at_lf [] = false
is_at_lf (byte ∷ bytes) = byte == 10

-- the lines without their ends; a text that ends with LF has no line after it
unfoldable pub lines_of : List ℕ → List (List ℕ)
lines_of [] = []
lines_of (byte ∷ bytes) =
    if byte == 10 then [] ∷ lines_of bytes
    else if (byte == 13) && is_at_lf bytes then lines_of bytes
    else with_byte byte (lines_of bytes)

-- the lines with their ends, which together are the text
unfoldable pub whole_lines_of : List ℕ → List (List ℕ)
whole_lines_of [] = []
whole_lines_of (byte ∷ bytes) =
    if byte == 10 then (byte ∷ []) ∷ whole_lines_of bytes
    else with_byte byte (whole_lines_of bytes)

-- the line at an index, counted from 0; an empty line if the index is past the last one
abbrev pub line_at : List (List ℕ) → ℕ → List ℕ
line_at lines index = get_or lines index []

-- space and tab
abbrev pub is_blank : ℕ → Bool
is_blank byte = (byte == 32) || (byte == 9)

-- puts a byte in front of the trimmed rest; a blank is dropped if the rest is empty
abbrev pub before_rest : ℕ → List ℕ → List ℕ
before_rest byte [] = if is_blank byte then [] else byte ∷ []
before_rest byte (next ∷ rest) = byte ∷ next ∷ rest

-- a line without the blanks at its end
unfoldable pub trimmed : List ℕ → List ℕ
trimmed [] = []
trimmed (byte ∷ bytes) = before_rest byte (trimmed bytes)
