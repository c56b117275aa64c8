-- Lists of bits as spans of one long list.
use Rattle.std.specs.Prelude.{◌≡◌, ℕ, ◌+◌, ◌≤◌, List, ◌++◌, length, take, drop}
use Rattle.plane_map.specs.declared.tile.RowCol.{RowCol}
use Rattle.chipdb_lines.specs.declared.bits.Span.{Span}

-- the bits of a span
abbrev pub bits_in : List RowCol → Span → List RowCol
bits_in bits span = take span.count (drop span.start bits)

-- a span inside `count` bits; it has at most 64
pub record IsSpanOf (count : ℕ) (span : Span) : Type 0 where
  pub inside : span.start + span.count ≤ count
  pub few : span.count ≤ 64

-- the old bits, perhaps with more at their end
abbrev pub Extends : List RowCol → List RowCol → Type 0
Extends old new = (more : List RowCol) × (new ≡ old ++ more)

-- exactly the bits of a span were added
pub record AddsSpan (old new : List RowCol) (span : Span) : Type 0 where
  pub starts : span.start ≡ length old
  pub ends : length new ≡ span.start + span.count
  pub few : span.count ≤ 64
  pub grown : Extends old new
