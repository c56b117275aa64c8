-- A plane or a tile as its rows of bits, row 0 first, each row its bits from column 0 on.
use Rattle.std.specs.Prelude.{◌≡◌, ℕ, zero, suc, ◌<◌, Bool, false, List, [], ◌∷◌, ◌++◌, length, get_or, set, take, drop, replicate}

abbrev pub Rows : Type 0
Rows = List (List Bool)

-- row y, or no bits after the last row
abbrev pub row_at : Rows → ℕ → List Bool
row_at rows y = get_or rows y []

-- the bit of column x in row y, and 0 outside
abbrev pub bit_at : Rows → ℕ → ℕ → Bool
bit_at rows x y = get_or (row_at rows y) x false

-- the rows with another row y
abbrev pub with_row : Rows → ℕ → List Bool → Rows
with_row rows y row = set rows y row

-- the rows with another bit of column x in row y, and no other change
abbrev pub with_bit : Rows → ℕ → ℕ → Bool → Rows
with_bit rows x y bit = with_row rows y (set (row_at rows y) x bit)

-- `height` rows, each of `width` bits
pub record IsGrid (width height : ℕ) (rows : Rows) : Type 0 where
  pub height_is : length rows ≡ height
  pub width_is : (y : ℕ) → y < height → length (row_at rows y) ≡ width

-- all bits 0
unfoldable pub blank : ℕ → ℕ → Rows
blank width height = replicate height (replicate width false)

-- all the bits, row after row: position p is column p % width of row p / width
unfoldable pub flat : Rows → List Bool
flat [] = []
flat (row ∷ rows) = row ++ flat rows

-- bits cut into `height` rows of `width` bits
unfoldable pub rows_of : ℕ → ℕ → List Bool → Rows
rows_of width zero bits = []
rows_of width (suc height) bits = take width bits ∷ rows_of width height (drop width bits)

-- the bits of a row, from the bit of each column
unfoldable pub row_from : ℕ → (ℕ → Bool) → List Bool
row_from zero bit = []
row_from (suc width) bit = row_from width bit ++ bit width ∷ []

-- the rows, from the bit of each column and row
unfoldable pub rows_from : ℕ → ℕ → (ℕ → ℕ → Bool) → Rows
rows_from width zero bit = []
rows_from width (suc height) bit = rows_from width height bit ++ row_from width (λ x. bit x height) ∷ []
