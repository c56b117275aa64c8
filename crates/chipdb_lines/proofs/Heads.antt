-- Words that miss.
use Rattle.std.proofs.Common.{◌≡◌, ℕ, ◌≤◌, true, List, [], ◌∷◌, length, refl, sym, inl, inr, arith, true≢false, lit≤}
use Rattle.std.specs.Prelude.{Option, Some, None, Ok, Err, position}
use Rattle.std.specs.List.{position_or_len, after_first}
use Rattle.std.proofs.lemmas.Bool.{cases_lt, lt-ltb}
use Rattle.std.proofs.Math.ListN.{drop_of_length-le}
use Rattle.plane_map.specs.declared.tile.TileKind.{TileKind}
use Rattle.plane_map.specs.declared.tile.TileKind.TheVariants.{Io, Logic, RamB, RamT}
use Rattle.plane_map.specs.Layout.{columns_of}
use Rattle.text_lines.specs.Words.{number_of}
use Rattle.chipdb_lines.specs.declared.chip.Chip.{Chip}
use Rattle.chipdb_lines.specs.declared.cause.DbCause.TheVariants.{Number}
use Rattle.chipdb_lines.specs.Words.{bit_by, has_none, is_bracket}
use Rattle.chipdb_lines.specs.Statements.{keyword_of, link_of_words, passed, statement_of}

-- words of which there are none
pub none-words : (words : List (List ℕ)) → has_none words ≡ true → words ≡ []
none-words [] none = refl
none-words (word ∷ words) none = absurd (true≢false (sym none))

-- the words of a statement of links without a bit
pub link_without_bits : (chip : Chip) (x y dst : List ℕ) (bits : List (List ℕ)) → has_none bits ≡ true → link_of_words chip (x ∷ y ∷ dst ∷ bits) ≡ Err Number
unfolding link_of_words
link_without_bits chip x y dst bits none = rw (none-words bits none) refl

-- a tile has few columns of bits
pub columns_small : (kind : TileKind) → columns_of kind ≤ 256
columns_small Io = lit≤ tt
columns_small Logic = lit≤ tt
columns_small RamB = lit≤ tt
columns_small RamT = lit≤ tt

-- a bit without its column
bit-without_column : (row : Option ℕ) → bit_by row None ≡ None
bit-without_column (Some row) = refl
bit-without_column None = refl

-- nothing follows a bracket that is missing
pub bit-without_bracket : (inside : List ℕ) (row : Option ℕ) → position is_bracket inside ≡ None → bit_by row (number_of (after_first is_bracket inside)) ≡ None
unfolding number_of
bit-without_bracket inside row none =
    elim (cases_lt (position_or_len is_bracket inside) (length inside)) [
      | inl lt ↦ let chosen : position is_bracket inside ≡ Some (position_or_len is_bracket inside) = rw (lt-ltb (position_or_len is_bracket inside) (length inside) lt) refl in absurd cc
      | inr le ↦
          let after : after_first is_bracket inside ≡ [] = drop_of_length-le inside (omega arith) in
          rw after (bit-without_column row)
    ]

-- a statement without a word
pub statement-without_words : (chip : Option Chip) (words : List (List ℕ)) → words ≡ [] → statement_of chip words ≡ Ok passed
unfolding statement_of keyword_of
statement-without_words (Some chip) words none = rw none refl
statement-without_words None words none = rw none refl
