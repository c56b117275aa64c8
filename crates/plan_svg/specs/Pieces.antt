-- Texts that are put together of pieces.
use Rattle.std.specs.Prelude.{ℕ, ◌%◌, Bool, List, [], ◌∷◌, flat_map, decimal, if◌then◌else◌}
use Rattle.hex.specs.Hex.{encode_lower}
use Rattle.asc_text.specs.Canonical.{two_bytes}
use Rattle.plan_svg.specs.declared.pieces.Piece.{Piece}
use Rattle.plan_svg.specs.declared.pieces.Piece.TheVariants.{Text, Letter, Number, Word}

-- the four hexadecimal digits of the lowest 16 bits of a number
abbrev pub word_digits : ℕ → List ℕ
word_digits word = encode_lower (two_bytes (word % 65536))

-- the bytes of a piece
abbrev pub spelled : Piece → List ℕ
spelled (Text bytes) = bytes.now
spelled (Letter letter) = letter ∷ []
spelled (Number number) = decimal number
spelled (Word word) = word_digits word

-- pieces, one after the other
abbrev pub joined : List Piece → List ℕ
joined pieces = flat_map spelled pieces

-- a word if a test passes
abbrev pub word_if : Bool → List ℕ → List ℕ
word_if passes word = if passes then word else []
