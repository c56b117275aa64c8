-- Images in which a tile or a word of a RAM was written.
use Rattle.std.proofs.Common.{◌≡◌, ℕ, ◌<◌, List, refl, sym, ap, ◌∙◌, subst, Some}
use Rattle.std.proofs.lemmas.Bool.{both_ways}
use Rattle.bit_plane.specs.Rows.{Rows}
use Rattle.plane_map.proofs.Places.{place_is_only}
use Rattle.plane_map.proofs.Words.{word_place_is_only}
use Rattle.plane_map.specs.Layout.{Layout, kind_of, place_of, word_place_of, cram_width, cram_height, bram_width, bram_height}
use Rattle.plane_map.specs.declared.tile.TileBit.{TileBit}
use Rattle.plane_map.specs.declared.tile.TileKind.TheVariants.{RamB}
use Rattle.plane_map.specs.declared.tile.WordBit.{WordBit}
use Rattle.ice_image.specs.Bits.{Bit, OfTile, OfWord, Extra, IsBit, bit_of, IsOfTile, IsOfWord, IsTileSet, IsWordSet}
use Rattle.ice_image.specs.Configuration.{Configuration, SameBut, AreBanks, IsWhole, IsCramSize, IsBramSize}
use Rattle.ice_image.specs.Contents.{tile_rows, IsPlaceOfTile, word_value, IsPlaceOfWord}
use Rattle.ice_image.specs.Owned.{is_owned}
use Rattle.ice_image.proofs.Bits.{extra_in}
use Rattle.ice_image.proofs.Owned.{is_owned-bit}

module _ (before : Configuration) (whole : IsWhole before) where
  -- other configuration planes, which differ in a tile alone
  pub tile_written : (x y : ℕ) (tile : Rows) (cram : List Rows) → tile_rows before.layout cram x y ≡ tile → SameBut (IsPlaceOfTile before.layout x y) before.cram cram
      → AreBanks (cram_width before.layout.device) (cram_height before.layout.device) cram → IsTileSet x y tile before (record before { cram = cram })
  tile_written x y tile cram written same banks = record {
    set = written;
    others = record {
      layout = refl;
      comment = refl;
      settings = refl;
      whole = record { layout = whole.layout; cram = banks; bram = whole.bram };
      bits = others;
    };
  }
    where
      layout : Layout
      layout = before.layout

      others : (bit : Bit) → IsBit layout bit → ¬ IsOfTile x y bit → bit_of (record before { cram = cram }) bit ≡ bit_of before bit
      others (OfTile bit) is apart = same (place_of layout bit) (λ h.
          let other : TileBit = record { x = x; y = y; row = h.0; col = h.1 } in
          let e : other ≡ bit = place_is_only layout whole.layout bit other is (record { row_in = h.2; col_in = h.3 }) h.4 in
          apart (sym (ap (λ (b : TileBit). b.x) e), sym (ap (λ (b : TileBit). b.y) e)))
      others (OfWord bit) is apart = refl
      others (Extra at) is apart = same at (λ h.
          let other : TileBit = record { x = x; y = y; row = h.0; col = h.1 } in
          both_ways (is_owned layout at) (extra_in layout at is).1 (ap (is_owned layout) (sym h.4) ∙ is_owned-bit layout other (record { row_in = h.2; col_in = h.3 })))

  -- other RAM planes, which differ in a word alone
  pub word_written : (x y word value : ℕ) (bram : List Rows) → kind_of before.layout.device x y ≡ Some RamB → word < 256
      → word_value before.layout bram x y word ≡ value → SameBut (IsPlaceOfWord before.layout x y word) before.bram bram
      → AreBanks (bram_width before.layout.device) (bram_height before.layout.device) bram → IsWordSet x y word value before (record before { bram = bram })
  word_written x y word value bram lower word_in written same banks = record {
    set = written;
    others = record {
      layout = refl;
      comment = refl;
      settings = refl;
      whole = record { layout = whole.layout; cram = whole.cram; bram = banks };
      bits = others;
    };
  }
    where
      layout : Layout
      layout = before.layout

      others : (bit : Bit) → IsBit layout bit → ¬ IsOfWord x y word bit → bit_of (record before { bram = bram }) bit ≡ bit_of before bit
      others (OfTile bit) is apart = refl
      others (OfWord bit) is apart = same (word_place_of layout bit) (λ h.
          let other : WordBit = record { x = x; y = y; word = word; bit = h.0 } in
          let e : other ≡ bit = word_place_is_only layout whole.layout bit other is (record { lower = lower; word_in = word_in; bit_in = h.1 }) h.2 in
          apart (sym (ap (λ (b : WordBit). b.x) e), sym (ap (λ (b : WordBit). b.y) e), sym (ap (λ (b : WordBit). b.word) e)))
      others (Extra at) is apart = refl

-- the same of an image that keeps its planes inside
pub tile_written_in : (inside before after : Configuration) (width height x y : ℕ) (tile : Rows) (cram : List Rows) → inside ≡ before → IsWhole inside → IsCramSize inside.layout.device width height
    → tile_rows inside.layout cram x y ≡ tile → SameBut (IsPlaceOfTile inside.layout x y) inside.cram cram → AreBanks width height cram
    → after ≡ record before { cram = cram } → IsTileSet x y tile before after
tile_written_in inside before after width height x y tile cram view whole size written same banks changed =
    let sized : AreBanks (cram_width inside.layout.device) (cram_height inside.layout.device) cram = rw (sym size.width_is, sym size.height_is) banks in
    subst (λ (c : Configuration). IsTileSet x y tile before c) (sym changed)
    (subst (λ (c : Configuration). IsTileSet x y tile c (record c { cram = cram })) view (tile_written inside whole x y tile cram written same sized))

pub word_written_in : (inside before after : Configuration) (width height x y word value : ℕ) (bram : List Rows) → inside ≡ before → IsWhole inside → IsBramSize inside.layout.device width height
    → kind_of before.layout.device x y ≡ Some RamB → word < 256
    → word_value inside.layout bram x y word ≡ value → SameBut (IsPlaceOfWord inside.layout x y word) inside.bram bram → AreBanks width height bram
    → after ≡ record before { bram = bram } → IsWordSet x y word value before after
word_written_in inside before after width height x y word value bram view whole size lower word_in written same banks changed =
    let sized : AreBanks (bram_width inside.layout.device) (bram_height inside.layout.device) bram = rw (sym size.width_is, sym size.height_is) banks in
    let lower_in : kind_of inside.layout.device x y ≡ Some RamB = ap (λ (c : Configuration). kind_of c.layout.device x y) view ∙ lower in
    subst (λ (c : Configuration). IsWordSet x y word value before c) (sym changed)
    (subst (λ (c : Configuration). IsWordSet x y word value c (record c { bram = bram })) view (word_written inside whole x y word value bram lower_in word_in written same sized))
