-- The bits that the tiles and the extra bits of a canonical text set are those of the image.
use Rattle.std.proofs.Common.{◌≡◌, ℕ, zero, suc, ◌-◌, ◌<◌, Bool, true, false, ◌&&◌, ◌||◌, ◌==◌, [], ◌∷◌, length, map, refl, sym, ap, ◌∙◌, arith, inl, inr, Option, Some, None}
use Rattle.std.proofs.lemmas.Bool.{lt-ltb, eqb-true, eq-eqb, and_from, and_parts, or_cases, or_left, both_ways}
use Rattle.std.specs.Prelude.{nat_lt}
use Rattle.text_lines.specs.Lines.{line_at, trimmed}
use Rattle.index_search.specs.Places.{any_below}
use Rattle.index_search.proofs.Places.{any_below-none, any_below-at, any_below-place}
use Rattle.bit_plane.specs.Rows.{row_from}
use Rattle.bit_plane.proofs.Made.{get_or-row_from}
use Rattle.plane_map.specs.Layout.{kind_of, columns_in, columns_at, grid_width, grid_height, IsTileBit}
use Rattle.plane_map.specs.declared.tile.TileKind.{TileKind}
use Rattle.plane_map.specs.declared.tile.TileKind.TheVariants.{Io, Logic, RamB, RamT}
use Rattle.plane_map.specs.declared.tile.Place.{Place}
use Rattle.plane_map.specs.declared.tile.TileBit.{TileBit}
use Rattle.plane_map.proofs.Layouts.{columns_at-in}
use Rattle.ice_image.specs.Bits.{OfTile, Extra, bit_of, tile_bit_of, tile_of, set_extras}
use Rattle.ice_image.specs.Configuration.{Configuration}
use Rattle.ice_image.proofs.SetExtras.{set_extras-in, set_extras-at}
use Rattle.ice_image.proofs.Owned.{is_same_place-same, is_same_place-self}
use Rattle.asc_text.specs.declared.statement.Statement.TheVariants.{Tile, RamData}
use Rattle.asc_text.specs.Rows.{row_bit}
use Rattle.ice_image.specs.Owned.{is_same_place, is_extra}
use Rattle.asc_text.specs.Meaning.{row_sets, sets_bit}
use Rattle.asc_text.specs.Canonical.{row_line}
use Rattle.asc_text.proofs.PieceRead.{piece_lines, piece_sets}
use Rattle.asc_text.proofs.PiecesRead.{some_piece, some_piece-nothing, some_piece-append, some_piece-one}
use Rattle.asc_text.proofs.RowsRead.{trimmed-row_line, row_bit-row_line}
use Rattle.asc_text.proofs.PiecesWritten.{gathered-at, gathered-place, gathered-none, tile_piece, ram_piece, kind_pieces, grid_pieces, row_pieces, all_tile_pieces, tile-row, tile-count, extra_piece, all_extra_pieces, extras-none, extras-place, extras-at}

-- ---- places

-- places that the test finds the same are the same
same_place-true : (a b : Place) → is_same_place a b ≡ true → a ≡ b
same_place-true a b is = is_same_place-same a b is

-- ---- a tile

-- the bit of a column in a row of a written tile
tile-bit : (image : Configuration) (x y r col : ℕ) → r < 16 → col < columns_at image.layout.device x y
    → row_bit (trimmed (line_at (map row_line (tile_of image x y)) r)) col ≡ tile_bit_of image x y r col
tile-bit image x y r col row column =
    let bits : ℕ → Bool = λ col. tile_bit_of image x y r col in
    ap (λ line. row_bit line col) (ap trimmed (tile-row image x y r row) ∙ trimmed-row_line (row_from (columns_at image.layout.device x y) bits))
    ∙ row_bit-row_line (row_from (columns_at image.layout.device x y) bits) col ∙ get_or-row_from (columns_at image.layout.device x y) bits col column

-- a line of a tile sets only bits that are set
row-sets : (image : Configuration) (x y : ℕ) (kind : TileKind) (bit : TileBit) → IsTileBit image.layout.device bit → (r : ℕ) → r < 17
    → sets_bit (Some (Tile kind x y)) r (trimmed (line_at (piece_lines (tile_piece image x y kind)) r)) (OfTile bit) ≡ true → bit_of image (OfTile bit) ≡ true
row-sets image x y kind bit is zero within sets =
    absurd (both_ways (nat_lt 0 0) refl (and_parts (row_sets x y (0 - 1) (trimmed (line_at (piece_lines (tile_piece image x y kind)) 0)) (OfTile bit)) (nat_lt 0 0) sets).1)
row-sets image x y kind bit is (suc r) within sets =
    let line = trimmed (line_at (map row_line (tile_of image x y)) r) in
    let back : suc r - 1 ≡ r = omega arith in
    let parts = and_parts (row_sets x y (suc r - 1) line (OfTile bit)) (nat_lt 0 (suc r)) sets in
    let inner = and_parts ((x == bit.x) && (y == bit.y) && (suc r - 1 == bit.row)) (row_bit line bit.col) parts.0 in
    let place = and_parts ((x == bit.x) && (y == bit.y)) (suc r - 1 == bit.row) inner.0 in
    let grid = and_parts (x == bit.x) (y == bit.y) place.0 in
    let ex : x ≡ bit.x = eqb-true _ _ grid.0 in
    let ey : y ≡ bit.y = eqb-true _ _ grid.1 in
    let er : r ≡ bit.row = sym back ∙ eqb-true _ _ place.1 in
    let wide : columns_at image.layout.device x y ≡ columns_at image.layout.device bit.x bit.y = λ i. columns_at image.layout.device (ex i) (ey i) in
    let column : bit.col < columns_at image.layout.device x y = omega (arith, is.col_in, wide) in
    let here : tile_bit_of image x y r bit.col ≡ bit_of image (OfTile bit) = λ i. tile_bit_of image (ex i) (ey i) (er i) bit.col in
    sym here ∙ sym (tile-bit image x y r bit.col (omega arith) column) ∙ inner.1

-- a tile sets only bits that are set
tile-sets : (image : Configuration) (x y : ℕ) (kind : TileKind) (bit : TileBit) → IsTileBit image.layout.device bit
    → piece_sets (OfTile bit) (tile_piece image x y kind) ≡ true → bit_of image (OfTile bit) ≡ true
unfolding piece_sets
tile-sets image x y kind bit is sets =
    let found = any_below-place (suc (length (map row_line (tile_of image x y))))
    (λ r. sets_bit (Some (Tile kind x y)) r (trimmed (line_at (piece_lines (tile_piece image x y kind)) r)) (OfTile bit)) sets
    in
    row-sets image x y kind bit is found.0 (omega (arith, found.1, tile-count image x y)) found.2

-- a tile sets each of its bits that is set
tile-sets_at : (image : Configuration) (kind : TileKind) (bit : TileBit) → IsTileBit image.layout.device bit → bit_of image (OfTile bit) ≡ true
    → piece_sets (OfTile bit) (tile_piece image bit.x bit.y kind) ≡ true
unfolding piece_sets
tile-sets_at image kind bit is set =
    let back : suc bit.row - 1 ≡ bit.row = omega arith in
    let line = trimmed (line_at (map row_line (tile_of image bit.x bit.y)) bit.row) in
    let here : row_bit line bit.col ≡ true = tile-bit image bit.x bit.y bit.row bit.col is.row_in is.col_in ∙ set in
    let row : row_sets bit.x bit.y (suc bit.row - 1) line (OfTile bit) ≡ true =
    and_from ((bit.x == bit.x) && (bit.y == bit.y) && (suc bit.row - 1 == bit.row)) (row_bit line bit.col)
    (and_from ((bit.x == bit.x) && (bit.y == bit.y)) (suc bit.row - 1 == bit.row) (and_from (bit.x == bit.x) (bit.y == bit.y) (eq-eqb bit.x bit.x refl) (eq-eqb bit.y bit.y refl)) (eq-eqb (suc bit.row - 1) bit.row back)) here
    in
    any_below-at (suc (length (map row_line (tile_of image bit.x bit.y)))) (suc bit.row)
    (λ r. sets_bit (Some (Tile kind bit.x bit.y)) r (trimmed (line_at (piece_lines (tile_piece image bit.x bit.y kind)) r)) (OfTile bit))
    (omega (arith, tile-count image bit.x bit.y, is.row_in))
    (and_from (row_sets bit.x bit.y (suc bit.row - 1) line (OfTile bit)) (nat_lt 0 (suc bit.row)) row (lt-ltb 0 (suc bit.row) (omega arith)))

-- and no other bit
pub tile-sets_no_extra : (image : Configuration) (x y : ℕ) (kind : TileKind) (at : Place) → piece_sets (Extra at) (tile_piece image x y kind) ≡ false
unfolding piece_sets
tile-sets_no_extra image x y kind at =
    any_below-none (suc (length (tile_piece image x y kind).rows)) (λ r. sets_bit (Some (Tile kind x y)) r (trimmed (line_at (piece_lines (tile_piece image x y kind)) r)) (Extra at)) (λ k within. refl)

-- the contents of a RAM set no bit of a tile
ram-sets : (image : Configuration) (x y : ℕ) (bit : TileBit) → piece_sets (OfTile bit) (ram_piece image x y) ≡ false
unfolding piece_sets
ram-sets image x y bit =
    any_below-none (suc (length (ram_piece image x y).rows)) (λ r. sets_bit (Some (RamData x y)) r (trimmed (line_at (piece_lines (ram_piece image x y)) r)) (OfTile bit)) (λ k within. refl)

-- and no extra bit
ram-sets_no_extra : (image : Configuration) (x y : ℕ) (at : Place) → piece_sets (Extra at) (ram_piece image x y) ≡ false
unfolding piece_sets
ram-sets_no_extra image x y at =
    any_below-none (suc (length (ram_piece image x y).rows)) (λ r. sets_bit (Some (RamData x y)) r (trimmed (line_at (piece_lines (ram_piece image x y)) r)) (Extra at)) (λ k within. refl)

-- ---- the pieces of a place of the grid

-- they set only bits that are set
kind-sets : (image : Configuration) (x y : ℕ) (bit : TileBit) (kind : Option TileKind) → IsTileBit image.layout.device bit
    → some_piece (piece_sets (OfTile bit)) (kind_pieces image x y kind) ≡ true → bit_of image (OfTile bit) ≡ true
kind-sets image x y bit None is sets = absurd (both_ways (some_piece (piece_sets (OfTile bit)) []) (some_piece-nothing (piece_sets (OfTile bit))) sets)
kind-sets image x y bit (Some Io) is sets =
    tile-sets image x y Io bit is (sym (some_piece-one (piece_sets (OfTile bit)) (tile_piece image x y Io)) ∙ sets)
kind-sets image x y bit (Some Logic) is sets =
    tile-sets image x y Logic bit is (sym (some_piece-one (piece_sets (OfTile bit)) (tile_piece image x y Logic)) ∙ sets)
kind-sets image x y bit (Some RamB) is sets =
    let test = piece_sets (OfTile bit) in
    let first = tile_piece image x y RamB in
    let second = ram_piece image x y in
    elim (or_cases (some_piece test (first ∷ [])) (some_piece test (second ∷ [])) (sym (some_piece-append test (first ∷ []) (second ∷ [])) ∙ sets)) [
      | inl tile ↦ tile-sets image x y RamB bit is (sym (some_piece-one test first) ∙ tile)
      | inr ram ↦ absurd (both_ways (test second) (ram-sets image x y bit) (sym (some_piece-one test second) ∙ ram))
    ]
kind-sets image x y bit (Some RamT) is sets =
    tile-sets image x y RamT bit is (sym (some_piece-one (piece_sets (OfTile bit)) (tile_piece image x y RamT)) ∙ sets)

-- and each bit of the tile that is set
kind-sets_at : (image : Configuration) (bit : TileBit) (kind : Option TileKind) → kind_of image.layout.device bit.x bit.y ≡ kind → IsTileBit image.layout.device bit → bit_of image (OfTile bit) ≡ true
    → some_piece (piece_sets (OfTile bit)) (kind_pieces image bit.x bit.y kind) ≡ true
kind-sets_at image bit None there is set = absurd (omega (arith, is.col_in, ap columns_in there))
kind-sets_at image bit (Some Io) there is set =
    some_piece-one (piece_sets (OfTile bit)) (tile_piece image bit.x bit.y Io) ∙ tile-sets_at image Io bit is set
kind-sets_at image bit (Some Logic) there is set =
    some_piece-one (piece_sets (OfTile bit)) (tile_piece image bit.x bit.y Logic) ∙ tile-sets_at image Logic bit is set
kind-sets_at image bit (Some RamB) there is set =
    let test = piece_sets (OfTile bit) in
    let first = tile_piece image bit.x bit.y RamB in
    let second = ram_piece image bit.x bit.y in
    some_piece-append test (first ∷ []) (second ∷ [])
    ∙ or_left (some_piece test (first ∷ [])) (some_piece test (second ∷ [])) (some_piece-one test first ∙ tile-sets_at image RamB bit is set)
kind-sets_at image bit (Some RamT) there is set =
    some_piece-one (piece_sets (OfTile bit)) (tile_piece image bit.x bit.y RamT) ∙ tile-sets_at image RamT bit is set

-- they set no extra bit
kind-no_extra : (image : Configuration) (x y : ℕ) (at : Place) (kind : Option TileKind) → some_piece (piece_sets (Extra at)) (kind_pieces image x y kind) ≡ false
kind-no_extra image x y at None = some_piece-nothing (piece_sets (Extra at))
kind-no_extra image x y at (Some Io) = some_piece-one (piece_sets (Extra at)) (tile_piece image x y Io) ∙ tile-sets_no_extra image x y Io at
kind-no_extra image x y at (Some Logic) = some_piece-one (piece_sets (Extra at)) (tile_piece image x y Logic) ∙ tile-sets_no_extra image x y Logic at
kind-no_extra image x y at (Some RamB) =
    let test = piece_sets (Extra at) in
    let first = tile_piece image x y RamB in
    let second = ram_piece image x y in
    some_piece-append test (first ∷ []) (second ∷ [])
    ∙ (λ i. (some_piece-one test first ∙ tile-sets_no_extra image x y RamB at) i || (some_piece-one test second ∙ ram-sets_no_extra image x y at) i)
kind-no_extra image x y at (Some RamT) = some_piece-one (piece_sets (Extra at)) (tile_piece image x y RamT) ∙ tile-sets_no_extra image x y RamT at

-- ---- all tiles

-- tiles set only bits that are set
pub tiles-set : (image : Configuration) (bit : TileBit) → IsTileBit image.layout.device bit → some_piece (piece_sets (OfTile bit)) (all_tile_pieces image) ≡ true → bit_of image (OfTile bit) ≡ true
tiles-set image bit is sets =
    let test = piece_sets (OfTile bit) in
    let row = gathered-place test (grid_height image.layout.device) (row_pieces image) sets in
    let tile = gathered-place test (grid_width image.layout.device) (grid_pieces image row.0) row.2 in
    kind-sets image tile.0 row.0 bit (kind_of image.layout.device tile.0 row.0) is tile.2

-- and each such bit of theirs
pub tiles-set_at : (image : Configuration) (bit : TileBit) → IsTileBit image.layout.device bit → bit_of image (OfTile bit) ≡ true → some_piece (piece_sets (OfTile bit)) (all_tile_pieces image) ≡ true
tiles-set_at image bit is set =
    let test = piece_sets (OfTile bit) in
    let inside = columns_at-in image.layout.device bit.x bit.y bit.col is.col_in in
    gathered-at test (grid_height image.layout.device) bit.y (row_pieces image) inside.1
    (gathered-at test (grid_width image.layout.device) bit.x (grid_pieces image bit.y) inside.0
    (kind-sets_at image bit (kind_of image.layout.device bit.x bit.y) refl is set))

-- and no extra bit
pub tiles-set_no_extra : (image : Configuration) (at : Place) → some_piece (piece_sets (Extra at)) (all_tile_pieces image) ≡ false
tiles-set_no_extra image at =
    let test = piece_sets (Extra at) in
    gathered-none test (grid_height image.layout.device) (row_pieces image) (λ y row.
    gathered-none test (grid_width image.layout.device) (grid_pieces image y) (λ x column.
    kind-no_extra image x y at (kind_of image.layout.device x y)))

-- ---- extra bits

-- an extra bit sets its own place
extra-sets : (place at : Place) → piece_sets (Extra at) (extra_piece place) ≡ is_same_place place at
unfolding piece_sets any_below
extra-sets place at = refl

-- and no bit of a tile
extra-sets_no_tile : (place : Place) (bit : TileBit) → piece_sets (OfTile bit) (extra_piece place) ≡ false
unfolding piece_sets any_below
extra-sets_no_tile place bit = refl

-- extra bits set only bits that are set
pub extras-set : (image : Configuration) (at : Place) → some_piece (piece_sets (Extra at)) (all_extra_pieces image) ≡ true → bit_of image (Extra at) ≡ true
extras-set image at sets =
    let found = extras-place (piece_sets (Extra at)) (set_extras image) sets in
    let same : found.0 ≡ at = same_place-true found.0 at (sym (extra-sets found.0 at) ∙ found.2) in
    ap (λ at. bit_of image (Extra at)) (sym same) ∙ (set_extras-in image found.0 found.1).1

-- and each such bit that is no tile's
pub extras-set_at : (image : Configuration) (at : Place) → is_extra image.layout at ≡ true → bit_of image (Extra at) ≡ true → some_piece (piece_sets (Extra at)) (all_extra_pieces image) ≡ true
extras-set_at image at extra bit =
    extras-at (piece_sets (Extra at)) (set_extras image) at (set_extras-at image at extra bit) (extra-sets at at ∙ is_same_place-self at)

-- they set no bit of a tile
pub extras-set_no_tile : (image : Configuration) (bit : TileBit) → some_piece (piece_sets (OfTile bit)) (all_extra_pieces image) ≡ false
extras-set_no_tile image bit = extras-none (piece_sets (OfTile bit)) (set_extras image) (λ at. extra-sets_no_tile at bit)
