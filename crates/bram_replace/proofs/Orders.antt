-- The order in which a RAM keeps the memory of a read mode.
use Rattle.std.proofs.Common.{◌≡◌, ℕ, zero, suc, ◌+◌, ◌*◌, ◌/◌, ◌%◌, ◌^◌, ◌<◌, Bool, false, List, get_or, set, length, sym, ap₂, ◌∙◌, subst, inl, inr, arith}
use Rattle.std.proofs.lemmas.Bool.{cases_eq}
use Rattle.std.proofs.lemmas.List.{length-set, get_or-set_same, get_or-set_other}
use Rattle.bram_replace.specs.ReadModes.{ColumnsAreWords, RamBits, by_columns, column_in, mode_width, place_in, reversed}
use Rattle.bram_replace.specs.Rams.{AreAlike, kept_at, listed}

-- ---- where the bits of columns are

-- a bit of a column at a place is a bit of a word of the RAM
record IsKept (mode place column : ℕ) : Type 0 where
  word : (256 * (column / mode_width mode) + place) / 2 ^ mode < 256
  bit : 2 ^ mode * (column % mode_width mode) + reversed mode ((256 * (column / mode_width mode) + place) % 2 ^ mode) < 16

kept : (mode place column : ℕ) → mode < 4 → place < 256 → column < 16 → IsKept mode place column
kept zero place column small few low = record { word = omega arith; bit = omega arith }
kept (suc zero) place column small few low = record { word = omega arith; bit = omega arith }
kept (suc (suc zero)) place column small few low = record { word = omega arith; bit = omega arith }
kept (suc (suc (suc zero))) place column small few low = record { word = omega arith; bit = omega arith }
kept (suc (suc (suc (suc more)))) place column small few low = absurd (omega arith)

pub kept-within : (mode place column : ℕ) → mode < 4 → place < 256 → column < 16 → kept_at mode place column < 4096
kept-within mode place column small few low = let k = kept mode place column small few low in omega (arith, k.word, k.bit)

pub width-some : (mode : ℕ) → mode < 4 → 0 < mode_width mode
width-some zero small = omega arith
width-some (suc zero) small = omega arith
width-some (suc (suc zero)) small = omega arith
width-some (suc (suc (suc zero))) small = omega arith
width-some (suc (suc (suc (suc more)))) small = absurd (omega arith)

pub by_columns-same : (mode : ℕ) (bits others : RamBits) → mode < 4 → AreAlike 256 bits others → AreAlike 256 (by_columns mode bits) (by_columns mode others)
by_columns-same mode bits others small alike place column few low = let k = kept mode place column small few low in alike _ _ k.word k.bit

pub column-within : (mode word bit : ℕ) → mode < 4 → word < 256 → bit < 16 → column_in mode word bit < 16
column-within zero word bit small few low = omega arith
column-within (suc zero) word bit small few low = omega arith
column-within (suc (suc zero)) word bit small few low = omega arith
column-within (suc (suc (suc zero))) word bit small few low = omega arith
column-within (suc (suc (suc (suc more)))) word bit small few low = absurd (omega arith)

pub stands-within : (mode word bit : ℕ) → mode < 4 → word < 256 → bit < 16 → 16 * place_in mode word bit + column_in mode word bit < 4096
stands-within mode word bit small few low = omega (arith, column-within mode word bit small few low)

-- ---- and back

-- a bit of a word of the RAM is the bit of its column at its place
record IsBack (mode word bit : ℕ) : Type 0 where
  word_is : (256 * (column_in mode word bit / mode_width mode) + place_in mode word bit) / 2 ^ mode ≡ word
  bit_is : 2 ^ mode * (column_in mode word bit % mode_width mode) + reversed mode ((256 * (column_in mode word bit / mode_width mode) + place_in mode word bit) % 2 ^ mode) ≡ bit

back : (mode word bit : ℕ) → mode < 4 → word < 256 → bit < 16 → IsBack mode word bit
back zero word bit small few low = record { word_is = omega arith; bit_is = omega arith }
back (suc zero) word bit small few low = record { word_is = omega arith; bit_is = omega arith }
back (suc (suc zero)) word bit small few low = record { word_is = omega arith; bit_is = omega arith }
back (suc (suc (suc zero))) word bit small few low = record { word_is = omega arith; bit_is = omega arith }
back (suc (suc (suc (suc more)))) word bit small few low = absurd (omega arith)

pub by_columns-back : (mode : ℕ) (bits : RamBits) (word bit : ℕ) → mode < 4 → word < 256 → bit < 16 → by_columns mode bits (place_in mode word bit) (column_in mode word bit) ≡ bits word bit
by_columns-back mode bits word bit small few low = let b = back mode word bit small few low in ap₂ bits b.word_is b.bit_is

-- the bit of a word that a bit of a column is, and its place and column
abbrev word_of : ℕ → ℕ → ℕ → ℕ
word_of mode place column = (256 * (column / mode_width mode) + place) / 2 ^ mode

abbrev bit_of : ℕ → ℕ → ℕ → ℕ
bit_of mode place column = 2 ^ mode * (column % mode_width mode) + reversed mode ((256 * (column / mode_width mode) + place) % 2 ^ mode)

record IsThere (mode place column : ℕ) : Type 0 where
  place_is : place_in mode (word_of mode place column) (bit_of mode place column) ≡ place
  column_is : column_in mode (word_of mode place column) (bit_of mode place column) ≡ column

there : (mode place column : ℕ) → mode < 4 → place < 256 → column < 16 → IsThere mode place column
there zero place column small few low = record { place_is = omega arith; column_is = omega arith }
there (suc zero) place column small few low = record { place_is = omega arith; column_is = omega arith }
there (suc (suc zero)) place column small few low = record { place_is = omega arith; column_is = omega arith }
there (suc (suc (suc zero))) place column small few low = record { place_is = omega arith; column_is = omega arith }
there (suc (suc (suc (suc more)))) place column small few low = absurd (omega arith)

pub columns-are-words : (mode : ℕ) → mode < 4 → ColumnsAreWords mode
columns-are-words mode small = record {
  words = λ bits word bit few low. by_columns-back mode bits word bit small few low;
  columns = λ bits place column few low. let t = there mode place column small few low in ap₂ bits t.place_is t.column_is;
}

-- ---- bits filled in one after the other

pub filled-size : (bits : List Bool) (index : ℕ) (value : Bool) → length bits ≡ 4096 → length (set bits index value) ≡ 4096
filled-size bits index value size = length-set bits index value ∙ size

pub filled-more : (bits : List Bool) (index : ℕ) (value : Bool) (given : ℕ → Bool) → index < length bits → ((k : ℕ) → k < index → get_or bits k false ≡ given k) → value ≡ given index
    → (k : ℕ) → k < index + 1 → get_or (set bits index value) k false ≡ given k
filled-more bits index value given within before here k below =
    elim (cases_eq k index) [
      | inl same ↦ subst (λ n. get_or (set bits index value) n false ≡ given n) (sym same) (get_or-set_same bits index value false within ∙ here)
      | inr apart ↦ get_or-set_other bits index k value false apart ∙ before k (omega arith)
    ]

pub filled-all : (bits : List Bool) (index : ℕ) (given : ℕ → ℕ → Bool) → index ≡ 4096 → ((k : ℕ) → k < index → get_or bits k false ≡ given (k / 16) (k % 16)) → AreAlike 256 (listed bits) given
filled-all bits index given all filled word bit few low =
    let word_is : (16 * word + bit) / 16 ≡ word = omega arith in
    let bit_is : (16 * word + bit) % 16 ≡ bit = omega arith in
    filled (16 * word + bit) (omega arith) ∙ ap₂ given word_is bit_is
