-- The front of a bitstream, which is everything before its preamble, and the comment in it (Project IceStorm, 'Bitstream File Format
-- Documentation'). Which pieces of a comment are lines is this project's choice.
use Rattle.std.specs.Prelude.{ℕ, Bool, not, ◌&&◌, ◌||◌, List, [], ◌∷◌, length, take, drop, get_or, filter, bytes_eq, nat_lt, nat_le, ◌==◌, if◌then◌else◌, Option, Some, None}
use Rattle.std.specs.List.{list_all}
use Rattle.text_lines.specs.Lines.{with_byte}
use Rattle.index_search.specs.Places.{least_below}

abbrev pub preamble : List ℕ
preamble = 0x7E ∷ 0xAA ∷ 0x99 ∷ 0x7E ∷ []

-- whether the preamble is at an offset
abbrev pub is_preamble_at : List ℕ → ℕ → Bool
is_preamble_at bytes offset = bytes_eq (take 4 (drop offset bytes)) preamble

-- the first offset of the preamble
unfoldable pub preamble_offset : List ℕ → Option ℕ
preamble_offset bytes = least_below (length bytes) (is_preamble_at bytes)

-- the pieces between bytes 00 and FF
unfoldable pub pieces_of : List ℕ → List (List ℕ)
pieces_of [] = [] ∷ []
pieces_of (byte ∷ bytes) = if (byte == 0) || (byte == 0xFF) then [] ∷ pieces_of bytes else with_byte byte (pieces_of bytes)

-- whether a piece may be a line of a comment
abbrev pub is_comment_line : List ℕ → Bool
is_comment_line line =
    nat_lt 0 (length line) && list_all (λ byte. nat_le 0x20 byte && nat_le byte 0x7E) line && not (get_or line 0 0 == 0x2E)

-- the comment of a front: it has one if it begins with FF 00
unfoldable pub comment_of : List ℕ → Option (List (List ℕ))
comment_of front =
    if bytes_eq (take 2 front) (0xFF ∷ 0 ∷ []) then Some (filter is_comment_line (pieces_of (drop 2 front))) else None
