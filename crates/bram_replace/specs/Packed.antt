-- Columns as four numbers. Only contracts within this crate cite this.
use Rattle.std.specs.Prelude.{◌≡◌, ℕ, ◌+◌, Bool, List, [], ◌∷◌, map}
use Rattle.std.specs.List.{range_with_len}
use Rattle.std.specs.Prelude.{Option, Some, None, nat_le, if◌then◌else◌}
use Rattle.std.specs.Option.{option_map}
use Rattle.bram_replace.specs.declared.columns.Repeat.{Repeat}
use Rattle.bram_replace.specs.declared.fault.BramFault.{BramFault}
use Rattle.bram_replace.specs.declared.fault.BramFault.TheVariants.{SameColumns}
use Rattle.index_search.specs.Places.{least_below, first_below}
use Rattle.bit_plane.specs.BitList.{word_of}
use Rattle.bram_replace.specs.HexText.{Contents}
use Rattle.bram_replace.specs.Columns.{column_at, column_from, is_repeat, is_same}

-- `count` bits as a number, the first the bit of value 1
abbrev pub word_from : ℕ → (ℕ → Bool) → ℕ
word_from count bit = word_of (map bit (range_with_len 0 count))

-- 256 bits as four numbers of 64 bits
unfoldable pub packed : (ℕ → Bool) → List ℕ
packed bit =
    word_from 64 (λ place. bit (0 + place)) ∷ word_from 64 (λ place. bit (64 + place))
    ∷ word_from 64 (λ place. bit (128 + place)) ∷ word_from 64 (λ place. bit (192 + place)) ∷ []

-- a look-up finds the first of the first `count` columns that is equal to these bits
abbrev pub Finds : Contents → ℕ → (List ℕ → Option ℕ) → Type 0
Finds file count found = (bit : ℕ → Bool) → found (packed bit) ≡ least_below count (λ column. is_same (column_at file column) (column_from bit))

-- of two repeats the one whose first column is earlier
abbrev pub earlier : Repeat → Option Repeat → Repeat
earlier repeat None = repeat
earlier repeat (Some other) = if nat_le other.first repeat.first then other else repeat

-- a repeat as a refusal
abbrev pub repeat_told : Option Repeat → Option BramFault
repeat_told None = None
repeat_told (Some repeat) = Some (SameColumns repeat.first repeat.second)

-- the refusal of a column that is equal to a later one among the first `count` columns
abbrev pub repeat_among : Contents → ℕ → ℕ → Option BramFault
repeat_among file count first = option_map (SameColumns first) (least_below count (is_repeat file first))

-- the refusal of the first such column among the first `count` columns
abbrev pub first_repeat : Contents → ℕ → Option BramFault
first_repeat file count = first_below count (repeat_among file count)
