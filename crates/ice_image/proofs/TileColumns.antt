-- How many columns tiles have, and that their bits lie apart.
use Rattle.std.proofs.Common.{◌≡◌, ℕ, ◌<◌, ◌≤◌, ap}
use Rattle.plane_map.proofs.Grids.{columns_in-le}
use Rattle.plane_map.proofs.Places.{place_is_only}
use Rattle.plane_map.specs.Layout.{Layout, IsLayout, kind_of, columns_at}
use Rattle.plane_map.specs.declared.device.DeviceName.{DeviceName}
use Rattle.plane_map.specs.declared.tile.TileBit.{TileBit}
use Rattle.ice_image.specs.Contents.{tile_place}

pub columns_at-le : (device : DeviceName) (x y : ℕ) → columns_at device x y ≤ 54
columns_at-le device x y = columns_in-le (kind_of device x y)

-- two bits of one tile lie apart
pub tile_place-same : (layout : Layout) → IsLayout layout → (x y row col row' col' : ℕ) → row < 16 → col < columns_at layout.device x y → row' < 16 → col' < columns_at layout.device x y → tile_place layout x y row col ≡ tile_place layout x y row' col' → (row ≡ row') × (col ≡ col')
tile_place-same layout sound x y row col row' col' row_in col_in row_in' col_in' same =
    let a : TileBit = record { x = x; y = y; row = row; col = col } in
    let b : TileBit = record { x = x; y = y; row = row'; col = col' } in
    let e : a ≡ b = place_is_only layout sound b a (record { row_in = row_in'; col_in = col_in' }) (record { row_in = row_in; col_in = col_in }) same in
    (ap (λ (bit : TileBit). bit.row) e, ap (λ (bit : TileBit). bit.col) e)
