-- Bits of a tile as places within its column and its row of tiles, over any lists of the io tiles' columns and rows and any
-- widths, so long as the tests of the lists pass.
use Rattle.std.proofs.Common.{◌≡◌, ℕ, ◌+◌, ◌-◌, ◌*◌, ◌<◌, ◌≤◌, nat_lt, Bool, true, false, if◌then◌else◌, List, length, get_or, refl, arith}
use Rattle.std.proofs.lemmas.Bool.Decides.{nat_tests}
use Rattle.plane_map.specs.Layout.{are_distinct, are_below, are_places}
use Rattle.plane_map.proofs.Entries.{get_or-distinct, get_or-below, get_or-onto}

-- a list of a given number of different entries, each below a bound
pub record ArePlaces (entries : List ℕ) (count bound : ℕ) : Type 0 where
  pub count_is : length entries ≡ count
  pub are_different : are_distinct entries ≡ true
  pub are_low : are_below bound entries ≡ true

-- by its test
pub places-from : (entries : List ℕ) (count bound : ℕ) → are_places count bound entries ≡ true → ArePlaces entries count bound
places-from entries count bound h =
    record { count_is = grind (arith, nat_tests); are_different = grind (arith, nat_tests); are_low = grind (arith, nat_tests) }

-- different places have different numbers
pub entry-same : (entries : List ℕ) (count bound : ℕ) → ArePlaces entries count bound → (a b : ℕ) → a < count → b < count → get_or entries a 0 ≡ get_or entries b 0 → a ≡ b
entry-same entries count bound s a b ha hb e = get_or-distinct entries s.are_different a b (omega (arith, s.count_is)) (omega (arith, s.count_is)) e

-- each number is below the bound
pub entry-below : (entries : List ℕ) (count bound : ℕ) → ArePlaces entries count bound → (a : ℕ) → a < count → get_or entries a 0 < bound
entry-below entries count bound s a h = get_or-below bound entries s.are_low a (omega (arith, s.count_is))

-- and if the bound is their count, each number below it is one of them
pub entry-onto : (entries : List ℕ) (count : ℕ) → ArePlaces entries count count → (n : ℕ) → n < count → (a : ℕ) × (a < count) × (get_or entries a 0 ≡ n)
entry-onto entries count s n h = get_or-onto count entries s.count_is s.are_different s.are_low n h

-- the column of bits of a column of a tile
abbrev pub column : List ℕ → List ℕ → Bool → Bool → ℕ → ℕ
column sides pads side end col = if side then get_or sides col 0 else if end then get_or pads col 0 else col

-- a column that a tile has: one of the io tile's in an edge, if the column of tiles is wide enough for them, and one of
-- the column of tiles elsewhere
abbrev pub FitsColumn : Bool → Bool → ℕ → ℕ → Type 0
FitsColumn true end width col = (col < 18) × (18 ≤ width)
FitsColumn false true width col = (col < 18) × (42 ≤ width)
FitsColumn false false width col = col < width

-- the two lists of columns
pub record AreColumns (sides pads : List ℕ) : Type 0 where
  pub side_places : ArePlaces sides 18 18
  pub pad_places : ArePlaces pads 18 42

-- what fits a column of tiles fits a wider one
pub fits-wider : (side end : Bool) (least width col : ℕ) → least ≤ width → FitsColumn side end least col → FitsColumn side end width col
fits-wider true end least width col w h = (h.0, omega (arith, h.1))
fits-wider false true least width col w h = (h.0, omega (arith, h.1))
fits-wider false false least width col w h = omega arith

-- a bit lies within its column of tiles
pub column-below : (sides pads : List ℕ) → AreColumns sides pads → (side end : Bool) (width col : ℕ) → FitsColumn side end width col
    → column sides pads side end col < width
column-below sides pads s true end width col h = omega (arith, entry-below sides 18 18 s.side_places col h.0, h.1)
column-below sides pads s false true width col h = omega (arith, entry-below pads 18 42 s.pad_places col h.0, h.1)
column-below sides pads s false false width col h = h

-- different columns of a tile lie in different columns of bits
pub column-same : (sides pads : List ℕ) → AreColumns sides pads → (side end : Bool) (width a b : ℕ) → FitsColumn side end width a → FitsColumn side end width b
    → column sides pads side end a ≡ column sides pads side end b → a ≡ b
column-same sides pads s true end width a b ha hb e = entry-same sides 18 18 s.side_places a b ha.0 hb.0 e
column-same sides pads s false true width a b ha hb e = entry-same pads 18 42 s.pad_places a b ha.0 hb.0 e
column-same sides pads s false false width a b ha hb e = e

-- what fits a side is one of the eighteen columns
pub fits-side : (side end : Bool) (width col : ℕ) → FitsColumn side end width col → side ≡ true → col < 18
fits-side true end width col h e = h.0
fits-side false end width col h e = absurd (cc)

-- so is what fits an end row
pub fits-end : (side end : Bool) (width col : ℕ) → FitsColumn side end width col → end ≡ true → col < 18
fits-end true end width col h e = h.0
fits-end false true width col h e = h.0
fits-end false false width col h e = absurd (cc)

-- a column of bits counted from the other side
abbrev pub turned : Bool → ℕ → ℕ → ℕ
turned mirrored width n = if mirrored then width - 1 - n else n

-- it stays within the column of tiles
pub turned-below : (mirrored : Bool) (width n : ℕ) → n < width → turned mirrored width n < width
turned-below true width n h = omega arith
turned-below false width n h = h

-- turning it twice changes nothing
pub turned-twice : (mirrored : Bool) (width n : ℕ) → n < width → turned mirrored width (turned mirrored width n) ≡ n
turned-twice true width n h = omega arith
turned-twice false width n h = refl

-- different columns stay different
pub turned-same : (mirrored : Bool) (width a b : ℕ) → a < width → b < width → turned mirrored width a ≡ turned mirrored width b → a ≡ b
turned-same true width a b ha hb e = omega arith
turned-same false width a b ha hb e = e

-- a column of bits of a plane is its column of tiles' start and the place there
pub turned-is : (mirrored : Bool) (start width n : ℕ) → n < width → (if mirrored then start + width - 1 - n else start + n) ≡ start + turned mirrored width n
turned-is true start width n h = omega arith
turned-is false start width n h = refl

-- how far a bit is from the start of its row of tiles
abbrev pub height : List ℕ → Bool → Bool → ℕ → ℕ
height pads end flipped row = if end then 15 - get_or pads row 0 else if flipped then 15 - row else row

-- a bit lies within its row of tiles
pub height-below : (pads : List ℕ) (end flipped : Bool) (row : ℕ) → row < 16 → height pads end flipped row < 16
height-below pads true flipped row h = omega arith
height-below pads false true row h = omega arith
height-below pads false false row h = h

-- different rows of a tile lie at different heights
pub height-same : (pads : List ℕ) → ArePlaces pads 16 16 → (end flipped : Bool) (a b : ℕ) → a < 16 → b < 16 → height pads end flipped a ≡ height pads end flipped b → a ≡ b
height-same pads s true flipped a b ha hb e = entry-same pads 16 16 s a b ha hb (omega (arith, entry-below pads 16 16 s a ha, entry-below pads 16 16 s b hb))
height-same pads s false true a b ha hb e = omega arith
height-same pads s false false a b ha hb e = e

-- a row of bits is its row of tiles' start and the height
pub height-is : (pads : List ℕ) → ArePlaces pads 16 16 → (end flipped : Bool) (start row : ℕ) → row < 16
    → (if end then start + 15 - get_or pads row 0 else if flipped then start + 15 - row else start + row) ≡ start + height pads end flipped row
height-is pads s true flipped start row h = omega (arith, entry-below pads 16 16 s row h)
height-is pads s false true start row h = omega arith
height-is pads s false false start row h = refl

-- two rows of tiles in which one row of bits lies are one row
pub same_row : (u v a b : ℕ) → a < 16 → b < 16 → 16 * u + a ≡ 16 * v + b → (u ≡ v) × (a ≡ b)
same_row u v a b ha hb e = (omega arith, omega arith)

-- the number of a quarter
abbrev pub quarter : Bool → Bool → ℕ
quarter top right = (if top then 1 else 0) + (if right then 2 else 0)

-- is one of four
pub quarter-below : (top right : Bool) → quarter top right < 4
quarter-below top right = grind arith

-- a quarter determines the halves
pub quarter-same : (top right top' right' : Bool) → quarter top right ≡ quarter top' right' → (top ≡ top') × (right ≡ right')
quarter-same top right top' right' e = grind arith

-- a line of tiles by its half and by how far it is from the edge
pub mirror-same : (last x y : ℕ) → x ≤ last → y ≤ last → nat_lt last (2 * x) ≡ nat_lt last (2 * y)
    → (if nat_lt last (2 * x) then last - x else x) ≡ (if nat_lt last (2 * y) then last - y else y) → x ≡ y
mirror-same last x y hx hy half e = grind (arith, nat_tests)
