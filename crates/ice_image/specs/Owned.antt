-- Places of the configuration planes that belong to no tile.
use Rattle.std.specs.Prelude.{Bool, not, ◌&&◌, nat_lt, ◌==◌}
use Rattle.index_search.specs.Places.{any_below}
use Rattle.plane_map.specs.Layout.{Layout, grid_width, grid_height, columns_at, cram_width, cram_height}
use Rattle.plane_map.specs.declared.tile.Place.{Place}
use Rattle.ice_image.specs.Contents.{tile_place}

-- whether two places are equal
abbrev pub is_same_place : Place → Place → Bool
is_same_place a b = (a.bank == b.bank) && (a.px == b.px) && (a.py == b.py)

-- whether a place belongs to a tile
unfoldable pub is_owned : Layout → Place → Bool
is_owned layout at =
    any_below (grid_width layout.device) (λ x. any_below (grid_height layout.device) (λ y.
    any_below 16 (λ row. any_below (columns_at layout.device x y) (λ col.
    is_same_place (tile_place layout x y row col) at))))

-- whether a place is in the configuration planes and belongs to no tile
abbrev pub is_extra : Layout → Place → Bool
is_extra layout at =
    nat_lt at.bank 4 && nat_lt at.px (cram_width layout.device) && nat_lt at.py (cram_height layout.device) && not (is_owned layout at)
