-- Images in which no tile differs.
use Rattle.std.proofs.Common.{◌≡◌, ℕ, ◌<◌, Bool, false, [], refl, ap}
use Rattle.std.specs.Prelude.{if◌then◌else◌, Option, Some, None}
use Rattle.index_search.specs.Places.{any_below, gathered_below}
use Rattle.index_search.proofs.Places.{gathered_below-none}
use Rattle.plane_map.specs.Layout.{kind_of, grid_width, grid_height}
use Rattle.plane_map.specs.declared.tile.TileKind.{TileKind}
use Rattle.ice_image.specs.Configuration.{Configuration}
use Rattle.chipdb_reader.specs.Database.{Database}
use Rattle.image_diff.specs.Differences.{all_tile_changes, changes_at, is_other_tile, tile_changes}
use Rattle.image_diff.specs.Inside.{has_other_tile}
use Rattle.image_diff.proofs.OtherBits.{none-below}

module _ (database : Database) (first second : Configuration) where
  -- nothing is told of a tile that doesn't differ
  none-at : (x y : ℕ) (kind : Option TileKind) → is_other_tile first second x y ≡ false → changes_at database first second x y kind ≡ []
  none-at x y None same = refl
  none-at x y (Some kind) same = ap (λ (other : Bool). if other then tile_changes database first second x y kind else []) same

  -- nor of all tiles, if none of them does
  pub no-tiles : ((x y : ℕ) → y < grid_height first.layout.device → x < grid_width first.layout.device → is_other_tile first second x y ≡ false) → all_tile_changes database first second ≡ []
  unfolding all_tile_changes
  no-tiles same =
      let device = first.layout.device in
      gathered_below-none (grid_height device) (λ y. gathered_below (grid_width device) (λ x. changes_at database first second x y (kind_of device x y))) (λ y below.
      gathered_below-none (grid_width device) (λ x. changes_at database first second x y (kind_of device x y)) (λ x within.
      none-at x y (kind_of device x y) (same x y below within)))

  pub no-other-tile : has_other_tile first second ≡ false → all_tile_changes database first second ≡ []
  unfolding has_other_tile
  no-other-tile none =
      let width = grid_width first.layout.device in
      no-tiles (λ x y below within.
      let row = none-below (grid_height first.layout.device) (λ y. any_below width (λ x. is_other_tile first second x y)) none y below in
      none-below width (λ x. is_other_tile first second x y) row x within)
