-- Planes in which the places of tiles are marked.
use Rattle.std.proofs.Common.{◌≡◌, ℕ, zero, suc, ◌+◌, ◌-◌, ◌/◌, ◌%◌, ◌^◌, ◌<◌, ◌≤◌, ◌==◌, Bool, true, false, not, ◌&&◌, if◌then◌else◌, List, [], ◌∷◌, ◌++◌, append_assoc, bit_and, min, refl, sym, ap, ap₂, ◌∙◌, subst, inl, inr, arith, w64}
use Rattle.std.specs.Prelude.{nat_lt}
use Rattle.std.specs.Int.{bit_not}
use Rattle.std.proofs.lemmas.Bool.{cases_lt, both_ways}
use Rattle.std.proofs.lemmas.Bool.Decides.{nat_tests}
use Rattle.std.proofs.lemmas.Nat.Bits.{bit_at_and, bit_at_not, bit_at_ones, bit_at-lt, bit_at-zero}
use Rattle.shared_lemmas.proofs.Tests.{same_test}
use Rattle.index_search.specs.Places.{gathered_below}
use Rattle.bit_plane.proofs.Words.{get_or-word_bits}
use Rattle.bit_plane.specs.Rows.{Rows}
use Rattle.plane_map.proofs.Layouts.{columns_at-in}
use Rattle.plane_map.proofs.RowRuns.{column-mate}
use Rattle.plane_map.specs.Layout.{Layout, IsLayout, columns_at, grid_width, cram_height, place_of, IsTileBit}
use Rattle.plane_map.specs.declared.device.DeviceName.{DeviceName}
use Rattle.plane_map.specs.declared.device.DeviceName.TheVariants.{Lp384, Hx1k, Hx8k}
use Rattle.plane_map.specs.declared.tile.Place.{Place}
use Rattle.plane_map.specs.declared.tile.TileBit.{TileBit}
use Rattle.ice_image.specs.Bits.{number_bit}
use Rattle.ice_image.specs.Configuration.{place_bit}
use Rattle.ice_image.specs.Contents.{tile_place}
use Rattle.ice_image.specs.Owned.{is_owned}
use Rattle.ice_image.specs.Written.{IsWritten, bit_of_word, AreMarks, AreKept, IsMarked, AreMarked, is_set_extra, free_places}
use Rattle.ice_image.proofs.InOrder.{place}
use Rattle.ice_image.proofs.Owned.{among, is_owned-bit, is_owned-bit_at, is_owned-tile_place}
use Rattle.ice_image.proofs.TileColumns.{columns_at-le}

-- ---- a row of a tile is marked

-- each bit of the greatest word is set
all_set : (width k : ℕ) → width ≤ 54 → k < width → bit_of_word width (2 ^ 64 - 1) k ≡ true
all_set width k few within = get_or-word_bits width (2 ^ 64 - 1) k within ∙ ap (λ n. n == 1) (bit_at_ones 64 k (omega arith))

-- marks of the first tiles of a row of tiles
pub record IsMarkedBelow (layout : Layout) (y row count : ℕ) (before now : List Rows) : Type 0 where
  pub marks : AreMarks layout now
  pub kept : AreKept before now
  pub marked : (bit : TileBit) → IsTileBit layout.device bit → bit.y ≡ y → bit.row ≡ row → bit.x < count → place_bit now (place_of layout bit) ≡ true

pub marked_below-none : (layout : Layout) (y row : ℕ) (before : List Rows) → AreMarks layout before → IsMarkedBelow layout y row 0 before before
marked_below-none layout y row before marks = record { marks = marks; kept = λ at set. set; marked = λ bit is y_is row_is below. absurd (omega (arith, below)) }

-- one tile more
pub marked_below-more : (layout : Layout) (y row x : ℕ) (before now after : List Rows) → row < 16 → IsMarkedBelow layout y row x before now
    → IsWritten (tile_place layout x y row) (bit_of_word (columns_at layout.device x y) (2 ^ 64 - 1)) (columns_at layout.device x y) now after → IsMarkedBelow layout y row (x + 1) before after
marked_below-more layout y row x before now after row_in so_far all =
    let width : ℕ = columns_at layout.device x y in
    let here : (k : ℕ) → k < width → place_bit after (tile_place layout x y row k) ≡ true = λ k within. all.written k within ∙ all_set width k (columns_at-le layout.device x y) within in
    let stays : AreKept now after = λ at set. elim (among (tile_place layout x y row) width at) [
      | inl h ↦ ap (place_bit after) (sym h.2) ∙ here h.0 h.1
      | inr apart ↦ all.others at apart ∙ set
    ] in
    record {
      marks = λ at set. elim (among (tile_place layout x y row) width at) [
        | inl h ↦ ap (is_owned layout) (sym h.2) ∙ is_owned-tile_place layout x y row h.0 row_in h.1
        | inr apart ↦ so_far.marks at (sym (all.others at apart) ∙ set)
      ];
      kept = λ at set. stays at (so_far.kept at set);
      marked = λ bit is y_is row_is below. elim (cases_lt bit.x x) [
        | inl earlier ↦ stays (place_of layout bit) (so_far.marked bit is y_is row_is earlier)
        | inr last ↦
            let x_is : bit.x ≡ x = omega (arith, below, last) in
            let same : place_of layout bit ≡ tile_place layout x y row bit.col = λ i. tile_place layout (x_is i) (y_is i) (row_is i) bit.col in
            let wide : columns_at layout.device bit.x bit.y ≡ width = λ i. columns_at layout.device (x_is i) (y_is i) in
            ap (place_bit after) same ∙ here bit.col (omega (arith, is.col_in, wide))
      ];
    }

-- all tiles
pub marked_below-all : (layout : Layout) (bank py y row count : ℕ) (before now : List Rows) → grid_width layout.device ≤ count
    → ((bit : TileBit) → IsTileBit layout.device bit → (place_of layout bit).bank ≡ bank → (place_of layout bit).py ≡ py → (bit.y ≡ y) × (bit.row ≡ row))
    → IsMarkedBelow layout y row count before now → IsMarked layout now bank py
marked_below-all layout bank py y row count before now all only marks px owned =
    let found = is_owned-bit_at layout (place bank px py) owned in
    let bit = found.0 in
    let there = only bit found.1 (ap (λ (p : Place). p.bank) found.2) (ap (λ (p : Place). p.py) found.2) in
    let inside = columns_at-in layout.device bit.x bit.y bit.col found.1.col_in in
    ap (place_bit now) (sym found.2) ∙ marks.marked bit found.1 there.0 there.1 (omega (arith, inside.0, all))

-- ---- banks

-- no bank yet
pub marked-none : (layout : Layout) (owned : List Rows) → ((at : Place) → place_bit owned at ≡ false) → AreMarked layout 0 owned
marked-none layout owned blank = record {
  marks = λ at set. absurd (both_ways (place_bit owned at) (blank at) set);
  ends = λ bank below. absurd (omega (arith, below));
  inner = λ bank below. absurd (omega (arith, below));
}

-- one bank more
pub marked-more : (layout : Layout) (bank : ℕ) (before now after : List Rows) → AreMarked layout bank before → AreKept before now → IsMarked layout now bank 0 → AreMarks layout after → AreKept now after → IsMarked layout after bank 16
    → AreMarked layout (bank + 1) after
marked-more layout bank before now after so_far kept ends marks kept_then inner = record {
  marks = marks;
  ends = λ k below px owned. elim (cases_lt k bank) [
    | inl earlier ↦ kept_then (place k px 0) (kept (place k px 0) (so_far.ends k earlier px owned))
    | inr last ↦ let e : bank ≡ k = omega (arith, below, last) in kept_then (place k px 0) (subst (λ (k : ℕ). IsMarked layout now k 0) e ends px owned)
  ];
  inner = λ k below px owned. elim (cases_lt k bank) [
    | inl earlier ↦ kept_then (place k px 16) (kept (place k px 16) (so_far.inner k earlier px owned))
    | inr last ↦ let e : bank ≡ k = omega (arith, below, last) in subst (λ (k : ℕ). IsMarked layout after k 16) e inner px owned
  ];
}

-- ---- what belongs to no tile

-- planes have rows of inner tiles
room : (device : DeviceName) → 16 < cram_height device
room Lp384 = omega arith
room Hx1k = omega arith
room Hx8k = omega arith

-- both rows with marks are in the planes
pub marks-in : (device : DeviceName) (py marks : ℕ) → marks ≡ (if nat_lt py 16 then 0 else 16) → marks < cram_height device
marks-in device py marks is = grind (arith, nat_tests, is, room device)

module _ (layout : Layout) (sound : IsLayout layout) where
  mates : (bank px py other : ℕ) → other < cram_height layout.device → nat_lt py 16 ≡ nat_lt other 16 → is_owned layout (place bank px py) ≡ true → is_owned layout (place bank px other) ≡ true
  mates bank px py other inside same owned =
      let found = is_owned-bit_at layout (place bank px py) owned in
      let mate = column-mate layout sound (place bank px py) other inside same found.0 found.1 found.2 in
      ap (is_owned layout) (sym mate.2) ∙ is_owned-bit layout mate.0 mate.1

  -- rows of bits in end rows of tiles have their places at the same columns, and so have those in other rows
  is_owned-mate : (bank px py other : ℕ) → py < cram_height layout.device → other < cram_height layout.device → nat_lt py 16 ≡ nat_lt other 16 → is_owned layout (place bank px py) ≡ is_owned layout (place bank px other)
  is_owned-mate bank px py other inside inside' same =
      same_test (is_owned layout (place bank px py)) (is_owned layout (place bank px other)) (mates bank px py other inside' same) (mates bank px other py inside (sym same))

  -- the row that stands for a row
  abbrev stand_in : ℕ → ℕ
  stand_in py = if nat_lt py 16 then 0 else 16

  stand_in-end : (py : ℕ) → nat_lt (stand_in py) 16 ≡ nat_lt py 16
  stand_in-end py = grind (arith, nat_tests)

  -- a mark of a place
  pub mark-is : (owned : List Rows) (bank px py : ℕ) → AreMarked layout 4 owned → bank < 4 → py < cram_height layout.device → place_bit owned (place bank px (stand_in py)) ≡ is_owned layout (place bank px py)
  mark-is owned bank px py marked bank_in row_in =
      let at = place bank px (stand_in py) in
      let low : stand_in py < cram_height layout.device = grind (arith, nat_tests, room layout.device) in
      same_test (place_bit owned at) (is_owned layout at) (marked.marks at) (all (nat_lt py 16)) ∙ is_owned-mate bank px (stand_in py) py low row_in (stand_in-end py)
    where
      all : (end : Bool) → is_owned layout (place bank px (if end then 0 else 16)) ≡ true → place_bit owned (place bank px (if end then 0 else 16)) ≡ true
      all true = marked.ends bank bank_in px
      all false = marked.inner bank bank_in px

-- a bit of a number that has the bits of one that another lacks
less_of-two : (m n : ℕ) → m < 2 → n < 2 → (min m (1 - n) == 1) ≡ ((m == 1) && not (n == 1))
less_of-two m n a b = grind (arith, nat_tests)

pub number_bit-less : (a b k : ℕ) → b < 2 ^ 64 → k < 64 → number_bit (bit_and a (bit_not w64 b)) k ≡ (number_bit a k && not (number_bit b k))
number_bit-less a b k small within =
    ap (λ n. n == 1) (bit_at_and a (bit_not w64 b) k ∙ ap (min (a / 2 ^ k % 2)) (bit_at_not w64 b k small within)) ∙ less_of-two (a / 2 ^ k % 2) (b / 2 ^ k % 2) (bit_at-lt a k) (bit_at-lt b k)

-- the bits of a row that are set and no tile's, from the words of both
pub free-is : (layout : Layout) (sound : IsLayout layout) (cram owned : List Rows) (bank px py marks set mark k : ℕ) → AreMarked layout 4 owned → bank < 4 → py < cram_height layout.device → marks ≡ stand_in layout sound py → mark < 2 ^ 64 → k < 64
    → number_bit set k ≡ place_bit cram (place bank (px + k) py) → number_bit mark k ≡ place_bit owned (place bank (px + k) marks)
    → number_bit (bit_and set (bit_not w64 mark)) k ≡ is_set_extra layout cram (place bank (px + k) py)
free-is layout sound cram owned bank px py marks set mark k marked bank_in row_in marks_is small within set_is mark_is =
    let owned_is : number_bit mark k ≡ is_owned layout (place bank (px + k) py) = mark_is ∙ ap (λ row. place_bit owned (place bank (px + k) row)) marks_is ∙ mark-is layout sound owned bank (px + k) py marked bank_in row_in in
    number_bit-less set mark k small within ∙ (λ i. set_is i && not (owned_is i))

-- ---- the places of the bits of a number

pub free_places-none : (bank px py free : ℕ) → free_places bank px py free 0 ≡ []
unfolding gathered_below
free_places-none bank px py free = refl

-- 0 has none
pub free_places-zero : (bank px py count : ℕ) → free_places bank px py 0 count ≡ []
unfolding gathered_below
free_places-zero bank px py zero = refl
free_places-zero bank px py (suc n) =
    let none : number_bit 0 n ≡ false = ap (λ m. m == 1) (bit_at-zero n) in
    ap₂ (λ (found : List Place) (test : Bool). found ++ (if test then place bank (px + n) py ∷ [] else [])) (free_places-zero bank px py n) none

-- one bit more
pub free_places-more : (bank px py free n : ℕ) (before now after : List Place) (test : Bool) → now ≡ before ++ free_places bank px py free n → test ≡ number_bit free n
    → after ≡ now ++ (if test then place bank (px + n) py ∷ [] else []) → after ≡ before ++ free_places bank px py free (n + 1)
unfolding gathered_below
free_places-more bank px py free n before now after test now_is test_is after_is =
    let e : suc n ≡ n + 1 = omega arith in
    let more : List Place = if number_bit free n then place bank (px + n) py ∷ [] else [] in
    after_is ∙ ap₂ (λ (now : List Place) (test : Bool). now ++ (if test then place bank (px + n) py ∷ [] else [])) now_is test_is ∙ append_assoc before (free_places bank px py free n) more
    ∙ ap (λ n. before ++ free_places bank px py free n) e
