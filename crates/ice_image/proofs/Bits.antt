-- An image by its bits.
use Rattle.std.proofs.Common.{◌≡◌, ◌≢◌, ℕ, ◌<◌, Bool, true, false, not, ◌&&◌, List, refl, sym, ap, ◌∙◌, subst, inl, inr, arith, Option, Some, None}
use Rattle.std.specs.Prelude.{nat_lt}
use Rattle.std.proofs.lemmas.Bool.{cases_Bool, and_parts, and_from, both_ways, ltb-true, not-true}
use Rattle.std.proofs.lemmas.Bool.Decides.{nat_tests}
use Rattle.shared_lemmas.proofs.Tests.{same_test}
use Rattle.index_search.specs.Places.{any_below}
use Rattle.index_search.proofs.Places.{any_below-at, any_below-place}
use Rattle.bit_plane.specs.Rows.{Rows}
use Rattle.plane_map.specs.Layout.{Layout, IsLayout, kind_of, grid_width, grid_height, columns_at, place_of, word_place_of, cram_width, cram_height, bram_width, bram_height, IsTileBit, IsWordBit, IsInCram}
use Rattle.plane_map.specs.declared.tile.Place.{Place}
use Rattle.plane_map.specs.declared.tile.TileBit.{TileBit}
use Rattle.plane_map.specs.declared.tile.TileKind.{TileKind}
use Rattle.plane_map.specs.declared.tile.TileKind.TheVariants.{Io, Logic, RamB, RamT}
use Rattle.plane_map.specs.declared.tile.WordBit.{WordBit}
use Rattle.plane_map.proofs.Layouts.{columns_at-in}
use Rattle.plane_map.proofs.Places.{place_is_in, place_is_only}
use Rattle.plane_map.proofs.Words.{word_place_is_in, word_place_is_only, word_place_is_onto}
use Rattle.ice_image.specs.Configuration.{Configuration, place_bit, with_place_bit, AreBanks, IsWhole, blank_image}
use Rattle.ice_image.specs.Contents.{tile_place, word_bit_place}
use Rattle.ice_image.specs.Owned.{is_same_place, is_owned, is_extra}
use Rattle.ice_image.specs.Bits.{Bit, OfTile, OfWord, Extra, IsBit, bit_of, IsSet, is_lower_kind, is_lower, cram_bit_from, bram_bit_from, image_from}
use Rattle.ice_image.specs.declared.settings.Settings.{Settings}
use Rattle.ice_image.proofs.BankBits.{place_bit-same, place_bit-other, place_bit-none, AreBanks-with_place_bit, same_banks}
use Rattle.ice_image.proofs.Owned.{is_same_place-same, is_same_place-self, is_owned-bit, is_owned-bit_at}
use Rattle.ice_image.proofs.PlanesFrom.{AreBanks-planes_from, place_bit-planes_from}

-- ---- extra bits

-- an extra bit is in the planes, and no tile's
pub extra_in : (layout : Layout) (at : Place) → is_extra layout at ≡ true → IsInCram layout.device at × (is_owned layout at ≡ false)
extra_in layout at extra =
    let inside = and_parts (nat_lt at.bank 4 && nat_lt at.px (cram_width layout.device) && nat_lt at.py (cram_height layout.device)) (not (is_owned layout at)) extra in
    let rows = and_parts (nat_lt at.bank 4 && nat_lt at.px (cram_width layout.device)) (nat_lt at.py (cram_height layout.device)) inside.0 in
    let columns = and_parts (nat_lt at.bank 4) (nat_lt at.px (cram_width layout.device)) rows.0 in
    (record { bank_in = ltb-true at.bank 4 columns.0; px_in = ltb-true at.px (cram_width layout.device) columns.1; py_in = ltb-true at.py (cram_height layout.device) rows.1 }, not-true (is_owned layout at) inside.1)

-- and each such place is one
pub extra_from : (layout : Layout) (at : Place) → IsInCram layout.device at → is_owned layout at ≡ false → is_extra layout at ≡ true
extra_from layout at inside free = grind (arith, nat_tests, inside.bank_in, inside.px_in, inside.py_in, free)

-- ---- the image that has given bits

module _ (layout : Layout) (sound : IsLayout layout) (bits : Bit → Bool) where
  -- a bit of a tile
  cram_from-tile : (bit : TileBit) → IsTileBit layout.device bit → cram_bit_from layout bits (place_of layout bit) ≡ bits (OfTile bit)
  cram_from-tile bit is =
      let at : Place = place_of layout bit in
      let in_row : ℕ → ℕ → ℕ → ℕ → Bool = λ x y row col. is_same_place (tile_place layout x y row col) at && bits (OfTile (record { x = x; y = y; row = row; col = col })) in
      let in_tile : ℕ → ℕ → ℕ → Bool = λ x y row. any_below (columns_at layout.device x y) (in_row x y row) in
      let in_column : ℕ → ℕ → Bool = λ x y. any_below 16 (in_tile x y) in
      let in_grid : ℕ → Bool = λ x. any_below (grid_height layout.device) (in_column x) in
      let inside = columns_at-in layout.device bit.x bit.y bit.col is.col_in in
      rw (is_owned-bit layout bit is) (same_test (any_below (grid_width layout.device) in_grid) (bits (OfTile bit))
      (λ some.
      let x = any_below-place (grid_width layout.device) in_grid some in
      let y = any_below-place (grid_height layout.device) (in_column x.0) x.2 in
      let row = any_below-place 16 (in_tile x.0 y.0) y.2 in
      let col = any_below-place (columns_at layout.device x.0 y.0) (in_row x.0 y.0 row.0) row.2 in
      let other : TileBit = record { x = x.0; y = y.0; row = row.0; col = col.0 } in
      let parts = and_parts (is_same_place (place_of layout other) at) (bits (OfTile other)) col.2 in
      let same : other ≡ bit = place_is_only layout sound bit other is (record { row_in = row.1; col_in = col.1 }) (is_same_place-same (place_of layout other) at parts.0) in
      ap (λ bit. bits (OfTile bit)) (sym same) ∙ parts.1)
      (λ set.
      any_below-at (grid_width layout.device) bit.x in_grid inside.0
      (any_below-at (grid_height layout.device) bit.y (in_column bit.x) inside.1
      (any_below-at 16 bit.row (in_tile bit.x bit.y) is.row_in
      (any_below-at (columns_at layout.device bit.x bit.y) bit.col (in_row bit.x bit.y bit.row) is.col_in
      (and_from (is_same_place at at) (bits (OfTile bit)) (is_same_place-self at) set))))))

  -- an extra bit
  cram_from-extra : (at : Place) → is_owned layout at ≡ false → cram_bit_from layout bits at ≡ bits (Extra at)
  cram_from-extra at free = rw free refl

  -- a lower tile passes the test
  lower_from : (kind : Option TileKind) → is_lower_kind kind ≡ true → kind ≡ Some RamB
  lower_from None is = absurd cc
  lower_from (Some Io) is = absurd cc
  lower_from (Some Logic) is = absurd cc
  lower_from (Some RamB) is = refl
  lower_from (Some RamT) is = absurd cc

  -- and is in the grid
  lower-in : (x y : ℕ) → kind_of layout.device x y ≡ Some RamB → (x < grid_width layout.device) × (y < grid_height layout.device)
  unfolding kind_of
  lower-in x y is = grind (arith, nat_tests)

  -- a bit of a word
  bram_from-word : (at : WordBit) → IsWordBit layout.device at → bram_bit_from layout bits (word_place_of layout at) ≡ bits (OfWord at)
  bram_from-word at is =
      let place : Place = word_place_of layout at in
      let in_word : ℕ → ℕ → ℕ → ℕ → Bool = λ x y word bit. is_lower layout.device x y && is_same_place (word_bit_place layout x y word bit) place && bits (OfWord (record { x = x; y = y; word = word; bit = bit })) in
      let in_ram : ℕ → ℕ → ℕ → Bool = λ x y word. any_below 16 (in_word x y word) in
      let in_column : ℕ → ℕ → Bool = λ x y. any_below 256 (in_ram x y) in
      let in_grid : ℕ → Bool = λ x. any_below (grid_height layout.device) (in_column x) in
      let inside = lower-in at.x at.y is.lower in
      same_test (any_below (grid_width layout.device) in_grid) (bits (OfWord at))
      (λ some.
      let x = any_below-place (grid_width layout.device) in_grid some in
      let y = any_below-place (grid_height layout.device) (in_column x.0) x.2 in
      let word = any_below-place 256 (in_ram x.0 y.0) y.2 in
      let bit = any_below-place 16 (in_word x.0 y.0 word.0) word.2 in
      let other : WordBit = record { x = x.0; y = y.0; word = word.0; bit = bit.0 } in
      let parts = and_parts (is_lower layout.device x.0 y.0 && is_same_place (word_place_of layout other) place) (bits (OfWord other)) bit.2 in
      let front = and_parts (is_lower layout.device x.0 y.0) (is_same_place (word_place_of layout other) place) parts.0 in
      let same : other ≡ at = word_place_is_only layout sound at other is (record { lower = lower_from (kind_of layout.device x.0 y.0) front.0; word_in = word.1; bit_in = bit.1 }) (is_same_place-same (word_place_of layout other) place front.1) in
      ap (λ bit. bits (OfWord bit)) (sym same) ∙ parts.1)
      (λ set.
      any_below-at (grid_width layout.device) at.x in_grid inside.0
      (any_below-at (grid_height layout.device) at.y (in_column at.x) inside.1
      (any_below-at 256 at.word (in_ram at.x at.y) is.word_in
      (any_below-at 16 at.bit (in_word at.x at.y at.word) is.bit_in
      (and_from (is_lower layout.device at.x at.y && is_same_place place place) (bits (OfWord at))
      (and_from (is_lower layout.device at.x at.y) (is_same_place place place) (ap is_lower_kind is.lower) (is_same_place-self place)) set)))))

-- its planes have the device's sizes
pub image_from-whole : (layout : Layout) → IsLayout layout → (comment : Option (List (List ℕ))) (settings : Settings) (bits : Bit → Bool) → IsWhole (image_from layout comment settings bits)
unfolding image_from
image_from-whole layout sound comment settings bits = record {
  layout = sound;
  cram = AreBanks-planes_from (cram_width layout.device) (cram_height layout.device) (cram_bit_from layout bits);
  bram = AreBanks-planes_from (bram_width layout.device) (bram_height layout.device) (bram_bit_from layout bits);
}

-- it has those bits
pub image_from-bit : (layout : Layout) → IsLayout layout → (comment : Option (List (List ℕ))) (settings : Settings) (bits : Bit → Bool) (bit : Bit) → IsBit layout bit → bit_of (image_from layout comment settings bits) bit ≡ bits bit
unfolding image_from
image_from-bit layout sound comment settings bits (OfTile bit) is =
    let at = place_of layout bit in
    let inside = place_is_in layout sound bit is in
    place_bit-planes_from (cram_width layout.device) (cram_height layout.device) (cram_bit_from layout bits) at.bank at.px at.py inside.bank_in inside.px_in inside.py_in ∙ cram_from-tile layout sound bits bit is
image_from-bit layout sound comment settings bits (OfWord bit) is =
    let at = word_place_of layout bit in
    let inside = word_place_is_in layout sound bit is in
    place_bit-planes_from (bram_width layout.device) (bram_height layout.device) (bram_bit_from layout bits) at.bank at.px at.py inside.bank_in inside.px_in inside.py_in ∙ bram_from-word layout sound bits bit is
image_from-bit layout sound comment settings bits (Extra at) is =
    let facts = extra_in layout at is in
    place_bit-planes_from (cram_width layout.device) (cram_height layout.device) (cram_bit_from layout bits) at.bank at.px at.py facts.0.bank_in facts.0.px_in facts.0.py_in ∙ cram_from-extra layout sound bits at facts.1

-- ---- an image is known by its bits

-- planes of one layout with the same bits are the same
same_cram : (layout : Layout) (a b : List Rows) → AreBanks (cram_width layout.device) (cram_height layout.device) a → AreBanks (cram_width layout.device) (cram_height layout.device) b
    → ((bit : TileBit) → IsTileBit layout.device bit → place_bit a (place_of layout bit) ≡ place_bit b (place_of layout bit))
    → ((at : Place) → is_extra layout at ≡ true → place_bit a at ≡ place_bit b at) → a ≡ b
same_cram layout a b whole_a whole_b tiles extras =
    same_banks (cram_width layout.device) (cram_height layout.device) a b whole_a whole_b (λ at bank column row.
    elim (cases_Bool (is_owned layout at)) [
      | inl owned ↦
          let bit = is_owned-bit_at layout at owned in
          ap (place_bit a) (sym bit.2) ∙ tiles bit.0 bit.1 ∙ ap (place_bit b) bit.2
      | inr free ↦ extras at (extra_from layout at (record { bank_in = bank; px_in = column; py_in = row }) free)
    ])

same_bram : (layout : Layout) → IsLayout layout → (a b : List Rows) → AreBanks (bram_width layout.device) (bram_height layout.device) a → AreBanks (bram_width layout.device) (bram_height layout.device) b
    → ((bit : WordBit) → IsWordBit layout.device bit → place_bit a (word_place_of layout bit) ≡ place_bit b (word_place_of layout bit)) → a ≡ b
same_bram layout sound a b whole_a whole_b words =
    same_banks (bram_width layout.device) (bram_height layout.device) a b whole_a whole_b (λ at bank column row.
    let bit = word_place_is_onto layout sound at (record { bank_in = bank; px_in = column; py_in = row }) in
    ap (place_bit a) (sym bit.2) ∙ words bit.0 bit.1 ∙ ap (place_bit b) bit.2)

-- an image with given bits is the one that has them
pub image_from-is : (image : Configuration) (layout : Layout) (comment : Option (List (List ℕ))) (settings : Settings) (bits : Bit → Bool) → IsWhole image → image.layout ≡ layout → image.comment ≡ comment → image.settings ≡ settings
    → ((bit : Bit) → IsBit layout bit → bit_of image bit ≡ bits bit) → image ≡ image_from layout comment settings bits
unfolding image_from
image_from-is image layout comment settings bits whole layout_is comment_is settings_is same =
    let made : Configuration = image_from layout comment settings bits in
    let sound : IsLayout layout = subst IsLayout layout_is whole.layout in
    let made_whole = image_from-whole layout sound comment settings bits in
    let cram_whole : AreBanks (cram_width layout.device) (cram_height layout.device) image.cram = subst (λ (l : Layout). AreBanks (cram_width l.device) (cram_height l.device) image.cram) layout_is whole.cram in
    let bram_whole : AreBanks (bram_width layout.device) (bram_height layout.device) image.bram = subst (λ (l : Layout). AreBanks (bram_width l.device) (bram_height l.device) image.bram) layout_is whole.bram in
    let at_tile : (bit : TileBit) → place_bit image.cram (place_of layout bit) ≡ bit_of image (OfTile bit) = λ bit. ap (λ l. place_bit image.cram (place_of l bit)) (sym layout_is) in
    let at_word : (bit : WordBit) → place_bit image.bram (word_place_of layout bit) ≡ bit_of image (OfWord bit) = λ bit. ap (λ l. place_bit image.bram (word_place_of l bit)) (sym layout_is) in
    let cram : image.cram ≡ made.cram = same_cram layout image.cram made.cram cram_whole made_whole.cram
    (λ bit is. at_tile bit ∙ same (OfTile bit) is ∙ sym (image_from-bit layout sound comment settings bits (OfTile bit) is))
    (λ at is. same (Extra at) is ∙ sym (image_from-bit layout sound comment settings bits (Extra at) is)) in
    let bram : image.bram ≡ made.bram = same_bram layout sound image.bram made.bram bram_whole made_whole.bram
    (λ bit is. at_word bit ∙ same (OfWord bit) is ∙ sym (image_from-bit layout sound comment settings bits (OfWord bit) is)) in
    λ i. record { layout = layout_is i; comment = comment_is i; settings = settings_is i; cram = cram i; bram = bram i }

-- ---- changes

-- no bit is set at first
pub bit_of-blank : (layout : Layout) (bit : Bit) → IsBit layout bit → bit_of (blank_image layout) bit ≡ false
bit_of-blank layout (OfTile bit) is = place_bit-none (cram_width layout.device) (cram_height layout.device) (place_of layout bit)
bit_of-blank layout (OfWord bit) is = place_bit-none (bram_width layout.device) (bram_height layout.device) (word_place_of layout bit)
bit_of-blank layout (Extra at) is = place_bit-none (cram_width layout.device) (cram_height layout.device) at

-- an image with another bit in its configuration planes
abbrev pub with_cram_bit : Configuration → Place → Bool → Configuration
with_cram_bit image at value = record image { cram = with_place_bit image.cram at value }

abbrev pub with_bram_bit : Configuration → Place → Bool → Configuration
with_bram_bit image at value = record image { bram = with_place_bit image.bram at value }

-- a bit of a tile
pub tile_set : (image : Configuration) (bit : TileBit) (value : Bool) → IsWhole image → IsTileBit image.layout.device bit → IsSet (OfTile bit) value image (with_cram_bit image (place_of image.layout bit) value)
tile_set image bit value whole is =
    let device = image.layout.device in
    let at = place_of image.layout bit in
    let inside = place_is_in image.layout whole.layout bit is in
    record {
      set = place_bit-same (cram_width device) (cram_height device) image.cram at value whole.cram inside.bank_in inside.px_in inside.py_in;
      others = record {
        layout = refl;
        comment = refl;
        settings = refl;
        whole = record { layout = whole.layout; cram = AreBanks-with_place_bit (cram_width device) (cram_height device) image.cram at value whole.cram inside.bank_in inside.py_in; bram = whole.bram };
        bits = others;
      };
    }
  where
    others : (other : Bit) → IsBit image.layout other → (other ≢ OfTile bit) → bit_of (with_cram_bit image (place_of image.layout bit) value) other ≡ bit_of image other
    others (OfTile other) is_other apart = place_bit-other image.cram (place_of image.layout bit) (place_of image.layout other) value (λ e. apart (ap (λ bit. OfTile bit) (place_is_only image.layout whole.layout bit other is is_other e)))
    others (OfWord other) is_other apart = refl
    others (Extra other) is_other apart = place_bit-other image.cram (place_of image.layout bit) other value (λ e. absurd (both_ways (is_owned image.layout other) (extra_in image.layout other is_other).1 (ap (is_owned image.layout) e ∙ is_owned-bit image.layout bit is)))

-- a bit of a word
pub word_set : (image : Configuration) (bit : WordBit) (value : Bool) → IsWhole image → IsWordBit image.layout.device bit → IsSet (OfWord bit) value image (with_bram_bit image (word_place_of image.layout bit) value)
word_set image bit value whole is =
    let device = image.layout.device in
    let at = word_place_of image.layout bit in
    let inside = word_place_is_in image.layout whole.layout bit is in
    record {
      set = place_bit-same (bram_width device) (bram_height device) image.bram at value whole.bram inside.bank_in inside.px_in inside.py_in;
      others = record {
        layout = refl;
        comment = refl;
        settings = refl;
        whole = record { layout = whole.layout; cram = whole.cram; bram = AreBanks-with_place_bit (bram_width device) (bram_height device) image.bram at value whole.bram inside.bank_in inside.py_in };
        bits = others;
      };
    }
  where
    others : (other : Bit) → IsBit image.layout other → (other ≢ OfWord bit) → bit_of (with_bram_bit image (word_place_of image.layout bit) value) other ≡ bit_of image other
    others (OfTile other) is_other apart = refl
    others (OfWord other) is_other apart = place_bit-other image.bram (word_place_of image.layout bit) (word_place_of image.layout other) value (λ e. apart (ap (λ bit. OfWord bit) (word_place_is_only image.layout whole.layout bit other is is_other e)))
    others (Extra other) is_other apart = refl

-- an extra bit
pub extra_set : (image : Configuration) (at : Place) (value : Bool) → IsWhole image → is_extra image.layout at ≡ true → IsSet (Extra at) value image (with_cram_bit image at value)
extra_set image at value whole is =
    let device = image.layout.device in
    let inside = (extra_in image.layout at is).0 in
    record {
      set = place_bit-same (cram_width device) (cram_height device) image.cram at value whole.cram inside.bank_in inside.px_in inside.py_in;
      others = record {
        layout = refl;
        comment = refl;
        settings = refl;
        whole = record { layout = whole.layout; cram = AreBanks-with_place_bit (cram_width device) (cram_height device) image.cram at value whole.cram inside.bank_in inside.py_in; bram = whole.bram };
        bits = others;
      };
    }
  where
    others : (other : Bit) → IsBit image.layout other → (other ≢ Extra at) → bit_of (with_cram_bit image at value) other ≡ bit_of image other
    others (OfTile other) is_other apart = place_bit-other image.cram at (place_of image.layout other) value (λ e. absurd (both_ways (is_owned image.layout at) (extra_in image.layout at is).1 (ap (is_owned image.layout) (sym e) ∙ is_owned-bit image.layout other is_other)))
    others (OfWord other) is_other apart = refl
    others (Extra other) is_other apart = place_bit-other image.cram at other value (λ e. apart (ap (λ at. Extra at) e))

-- the same of the image that was changed
pub tile_set_in : (before after : Configuration) (bit : TileBit) (value : Bool) → IsWhole before → IsTileBit before.layout.device bit
    → after ≡ with_cram_bit before (place_of before.layout bit) value → IsSet (OfTile bit) value before after
tile_set_in before after bit value whole is changed =
    subst (λ (c : Configuration). IsSet (OfTile bit) value before c) (sym changed) (tile_set before bit value whole is)

pub word_set_in : (before after : Configuration) (bit : WordBit) (value : Bool) → IsWhole before → IsWordBit before.layout.device bit
    → after ≡ with_bram_bit before (word_place_of before.layout bit) value → IsSet (OfWord bit) value before after
word_set_in before after bit value whole is changed =
    subst (λ (c : Configuration). IsSet (OfWord bit) value before c) (sym changed) (word_set before bit value whole is)

pub extra_set_in : (before after : Configuration) (at : Place) (value : Bool) → IsWhole before → is_extra before.layout at ≡ true
    → after ≡ with_cram_bit before at value → IsSet (Extra at) value before after
extra_set_in before after at value whole is changed =
    subst (λ (c : Configuration). IsSet (Extra at) value before c) (sym changed) (extra_set before at value whole is)
