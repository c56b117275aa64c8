-- What is told of a tile where the images are exchanged.
use Rattle.std.proofs.Common.{◌≡◌, ℕ, Bool, true, false, List, ◌∷◌, Contains, get_or, refl, sym, ap, ◌∙◌, inl, inr, arith}
use Rattle.std.specs.Prelude.{◌↔◌}
use Rattle.index_search.specs.Places.{any_below}
use Rattle.index_search.proofs.Places.{any_below-same}
use Rattle.plane_map.specs.Layout.{columns_at}
use Rattle.plane_map.specs.declared.device.DeviceName.{DeviceName}
use Rattle.plane_map.specs.declared.tile.TileKind.{TileKind}
use Rattle.plane_map.specs.declared.tile.TileKind.TheVariants.{Io, Logic, RamB, RamT}
use Rattle.ice_image.specs.Bits.{tile_bit_of}
use Rattle.ice_image.specs.Configuration.{Configuration}
use Rattle.asc_text.specs.Statements.{tile_keyword}
use Rattle.asc_text.specs.Canonical.{grid_line}
use Rattle.chipdb_reader.specs.Database.{Database}
use Rattle.image_explain.specs.Explained.{item_lines}
use Rattle.image_diff.specs.Differences.{differ, is_other_tile, line_changes, minus, plus, tile_changes}
use Rattle.image_diff.specs.Laws.{HasAlone, TellsExchanged}
use Rattle.image_diff.proofs.Members.{either-in, tail-in, minus-told, plus-told}

-- a statement begins with a dot
statement-dot : (kind : TileKind) (x y : ℕ) → get_or (grid_line (tile_keyword kind) x y) 0 0 ≡ 46
statement-dot Io x y = refl
statement-dot Logic x y = refl
statement-dot RamB x y = refl
statement-dot RamT x y = refl

-- so a line with another first byte stands below it
below : (kind : TileKind) (x y sign : ℕ) (line : List ℕ) (lines : List (List ℕ)) → (46 ≡ sign → ⊥) → Contains (grid_line (tile_keyword kind) x y ∷ lines) (sign ∷ line) → Contains lines (sign ∷ line)
below kind x y sign line lines apart is =
    elim (either-in (grid_line (tile_keyword kind) x y) (sign ∷ line) lines is) [
      | inl here ↦ absurd (apart (sym (statement-dot kind x y) ∙ ap (λ bytes. get_or bytes 0 0) here))
      | inr there ↦ there
    ]

dot-minus : ◌≡◌ {A = ℕ} 46 45 → ⊥
dot-minus same = omega arith

dot-plus : ◌≡◌ {A = ℕ} 46 43 → ⊥
dot-plus same = omega arith

differ-turned : (a b : Bool) → differ b a ≡ differ a b
differ-turned true true = refl
differ-turned true false = refl
differ-turned false true = refl
differ-turned false false = refl

module _ (database : Database) (first second : Configuration) (x y : ℕ) (kind : TileKind) where
  minus-here : (line : List ℕ) → Contains (tile_changes database first second x y kind) (minus line) ↔ HasAlone (item_lines database first x y kind) (item_lines database second x y kind) line
  minus-here line =
      let firsts = item_lines database first x y kind in
      let seconds = item_lines database second x y kind in (
        (λ is. (minus-told firsts seconds line).0 (below kind x y 45 line (line_changes firsts seconds) dot-minus is)),
        (λ alone. tail-in (grid_line (tile_keyword kind) x y) (minus line) (line_changes firsts seconds) ((minus-told firsts seconds line).1 alone)),
      )

  plus-here : (line : List ℕ) → Contains (tile_changes database first second x y kind) (plus line) ↔ HasAlone (item_lines database second x y kind) (item_lines database first x y kind) line
  plus-here line =
      let firsts = item_lines database first x y kind in
      let seconds = item_lines database second x y kind in (
        (λ is. (plus-told firsts seconds line).0 (below kind x y 43 line (line_changes firsts seconds) dot-plus is)),
        (λ alone. tail-in (grid_line (tile_keyword kind) x y) (plus line) (line_changes firsts seconds) ((plus-told firsts seconds line).1 alone)),
      )

  tiles-turned : first.layout.device ≡ second.layout.device → is_other_tile second first x y ≡ is_other_tile first second x y
  unfolding is_other_tile
  tiles-turned same =
      let test : DeviceName → ℕ → ℕ → Bool = λ device x y. any_below 16 (λ row. any_below (columns_at device x y) (λ col. differ (tile_bit_of second x y row col) (tile_bit_of first x y row col))) in
      ap (λ (device : DeviceName). test device x y) (sym same)
      ∙ any_below-same 16 (λ row. any_below (columns_at first.layout.device x y) (λ col. differ (tile_bit_of second x y row col) (tile_bit_of first x y row col))) (λ row. any_below (columns_at first.layout.device x y) (λ col. differ (tile_bit_of first x y row col) (tile_bit_of second x y row col))) (λ row _.
      any_below-same (columns_at first.layout.device x y) (λ col. differ (tile_bit_of second x y row col) (tile_bit_of first x y row col)) (λ col. differ (tile_bit_of first x y row col) (tile_bit_of second x y row col)) (λ col _.
      differ-turned (tile_bit_of first x y row col) (tile_bit_of second x y row col)))

pub exchanged-told : (database : Database) (first second : Configuration) (x y : ℕ) (kind : TileKind) → TellsExchanged database first second x y kind
exchanged-told database first second x y kind = record {
  tiles = tiles-turned database first second x y kind;
  lines = λ line.
      let here = minus-here database first second x y kind line in
      let turned = plus-here database second first x y kind line in
      ((λ is. here.1 (turned.0 is)), (λ is. turned.1 (here.0 is)));
}
