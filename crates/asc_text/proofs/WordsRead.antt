-- The bits that the contents of RAMs in a canonical text set are those of the image.
use Rattle.std.proofs.Common.{◌≡◌, ℕ, zero, suc, ◌+◌, ◌-◌, ◌*◌, ◌/◌, ◌%◌, ◌^◌, ◌<◌, true, false, ◌&&◌, ◌==◌, List, [], ◌∷◌, length, refl, sym, ap, ◌∙◌, arith, inl, inr, Option, Some, None}
use Rattle.std.proofs.lemmas.Bool.{lt-ltb, eqb-true, eq-eqb, and_from, and_parts, or_cases, or_right, both_ways}
use Rattle.std.proofs.lemmas.Bool.Decides.{nat_tests}
use Rattle.std.specs.Prelude.{nat_lt}
use Rattle.text_lines.specs.Lines.{line_at, trimmed}
use Rattle.index_search.specs.Places.{any_below, gathered_below}
use Rattle.index_search.proofs.Places.{any_below-none, any_below-at, any_below-place}
use Rattle.plane_map.specs.Layout.{kind_of, grid_width, grid_height, IsWordBit}
use Rattle.plane_map.specs.declared.device.DeviceName.{DeviceName}
use Rattle.plane_map.specs.declared.tile.TileKind.{TileKind}
use Rattle.plane_map.specs.declared.tile.TileKind.TheVariants.{Io, Logic, RamB, RamT}
use Rattle.plane_map.specs.declared.tile.WordBit.{WordBit}
use Rattle.plane_map.specs.declared.tile.Place.{Place}
use Rattle.ice_image.specs.Bits.{OfWord, bit_of, word_bit_of, ram_word_of, set_extras}
use Rattle.ice_image.specs.Configuration.{Configuration}
use Rattle.asc_text.specs.declared.statement.Statement.TheVariants.{Tile, RamData}
use Rattle.asc_text.specs.Rows.{memory_bit}
use Rattle.asc_text.specs.Meaning.{line_sets, sets_bit}
use Rattle.asc_text.specs.Canonical.{memory_line}
use Rattle.asc_text.proofs.PieceRead.{piece_lines, piece_sets}
use Rattle.asc_text.proofs.PiecesRead.{some_piece, some_piece-nothing, some_piece-append, some_piece-one}
use Rattle.asc_text.proofs.RowsRead.{memory_word-encoded, word_bit-row_from}
use Rattle.asc_text.proofs.PiecesWritten.{gathered-at, gathered-place, tile_piece, ram_piece, kind_pieces, grid_pieces, row_pieces, all_tile_pieces, length-single, line_word, line_word-small, ram-row, extra_piece, all_extra_pieces, extras-none}

-- ---- the contents of a RAM

-- the lines of a RAM below its statement
abbrev ram_rows : Configuration → ℕ → ℕ → List (List ℕ)
ram_rows image x y = gathered_below 16 (λ row. memory_line image x y row ∷ [])

-- a bit of a word of a written line
word-bit : (image : Configuration) (x y r index bit : ℕ) → r < 16 → index < 16 → bit < 16
    → memory_bit (trimmed (line_at (ram_rows image x y) r)) index bit ≡ word_bit_of image x y (16 * r + index) bit
word-bit image x y r index bit row_in index_in bit_in =
    let place : 16 * r + 15 - (15 - index) ≡ 16 * r + index = omega arith in
    ap (λ line. memory_bit line index bit) (ram-row image x y r row_in)
    ∙ ap (λ word. word / 2 ^ bit % 2 == 1)
    (memory_word-encoded (line_word image x y r) (λ place within. line_word-small image x y r place) index index_in
    ∙ ap (ram_word_of image x y) place)
    ∙ word_bit-row_from (λ bit. word_bit_of image x y (16 * r + index) bit) bit bit_in

-- a line of a RAM sets only bits that are set
row-sets_word : (image : Configuration) (x y : ℕ) (at : WordBit) → IsWordBit image.layout.device at → (r : ℕ) → r < 17
    → sets_bit (Some (RamData x y)) r (trimmed (line_at (piece_lines (ram_piece image x y)) r)) (OfWord at) ≡ true → bit_of image (OfWord at) ≡ true
row-sets_word image x y at is zero within sets =
    absurd (both_ways (nat_lt 0 0) refl (and_parts (line_sets x y (0 - 1) (trimmed (line_at (piece_lines (ram_piece image x y)) 0)) (OfWord at)) (nat_lt 0 0) sets).1)
row-sets_word image x y at is (suc r) within sets =
    let line = trimmed (line_at (ram_rows image x y) r) in
    let back : suc r - 1 ≡ r = omega arith in
    let parts = and_parts (line_sets x y (suc r - 1) line (OfWord at)) (nat_lt 0 (suc r)) sets in
    let inner = and_parts ((x == at.x) && (y == at.y) && (suc r - 1 == at.word / 16)) (memory_bit line (at.word % 16) at.bit) parts.0 in
    let place = and_parts ((x == at.x) && (y == at.y)) (suc r - 1 == at.word / 16) inner.0 in
    let grid = and_parts (x == at.x) (y == at.y) place.0 in
    let ex : x ≡ at.x = eqb-true _ _ grid.0 in
    let ey : y ≡ at.y = eqb-true _ _ grid.1 in
    let er : r ≡ at.word / 16 = sym back ∙ eqb-true _ _ place.1 in
    let ew : 16 * r + at.word % 16 ≡ at.word = omega (arith, er) in
    let here : word_bit_of image x y (16 * r + at.word % 16) at.bit ≡ bit_of image (OfWord at) = λ i. word_bit_of image (ex i) (ey i) (ew i) at.bit in
    sym here ∙ sym (word-bit image x y r (at.word % 16) at.bit (omega arith) (omega arith) is.bit_in) ∙ inner.1

-- the contents of a RAM set only bits that are set
ram-sets_word : (image : Configuration) (x y : ℕ) (at : WordBit) → IsWordBit image.layout.device at → piece_sets (OfWord at) (ram_piece image x y) ≡ true → bit_of image (OfWord at) ≡ true
unfolding piece_sets
ram-sets_word image x y at is sets =
    let found = any_below-place (suc (length (ram_rows image x y)))
    (λ r. sets_bit (Some (RamData x y)) r (trimmed (line_at (piece_lines (ram_piece image x y)) r)) (OfWord at)) sets
    in
    row-sets_word image x y at is found.0 (omega (arith, found.1, length-single 16 (memory_line image x y))) found.2

-- and each of its bits that is set
ram-sets_word_at : (image : Configuration) (at : WordBit) → IsWordBit image.layout.device at → bit_of image (OfWord at) ≡ true
    → piece_sets (OfWord at) (ram_piece image at.x at.y) ≡ true
unfolding piece_sets
ram-sets_word_at image at is set =
    let r = at.word / 16 in
    let index = at.word % 16 in
    let back : suc r - 1 ≡ r = omega arith in
    let same : 16 * r + index ≡ at.word = omega arith in
    let row_in : r < 16 = omega (arith, is.word_in) in
    let line = trimmed (line_at (ram_rows image at.x at.y) r) in
    let here : memory_bit line index at.bit ≡ true =
    word-bit image at.x at.y r index at.bit row_in (omega arith) is.bit_in ∙ ap (λ word. word_bit_of image at.x at.y word at.bit) same ∙ set
    in
    let row : line_sets at.x at.y (suc r - 1) line (OfWord at) ≡ true =
    and_from ((at.x == at.x) && (at.y == at.y) && (suc r - 1 == r)) (memory_bit line index at.bit)
    (and_from ((at.x == at.x) && (at.y == at.y)) (suc r - 1 == r) (and_from (at.x == at.x) (at.y == at.y) (eq-eqb at.x at.x refl) (eq-eqb at.y at.y refl)) (eq-eqb (suc r - 1) r back)) here
    in
    any_below-at (suc (length (ram_rows image at.x at.y))) (suc r)
    (λ r. sets_bit (Some (RamData at.x at.y)) r (trimmed (line_at (piece_lines (ram_piece image at.x at.y)) r)) (OfWord at))
    (omega (arith, length-single 16 (memory_line image at.x at.y), row_in))
    (and_from (line_sets at.x at.y (suc r - 1) line (OfWord at)) (nat_lt 0 (suc r)) row (lt-ltb 0 (suc r) (omega arith)))

-- a tile sets no bit of a word
tile-sets_word : (image : Configuration) (x y : ℕ) (kind : TileKind) (at : WordBit) → piece_sets (OfWord at) (tile_piece image x y kind) ≡ false
unfolding piece_sets
tile-sets_word image x y kind at =
    any_below-none (suc (length (tile_piece image x y kind).rows)) (λ r. sets_bit (Some (Tile kind x y)) r (trimmed (line_at (piece_lines (tile_piece image x y kind)) r)) (OfWord at)) (λ k within. refl)

-- nor does an extra bit
extra-sets_word : (place : Place) (at : WordBit) → piece_sets (OfWord at) (extra_piece place) ≡ false
unfolding piece_sets any_below
extra-sets_word place at = refl

-- ---- the pieces of a place of the grid

-- so a tile alone fails the test
tile-none : (image : Configuration) (x y : ℕ) (kind : TileKind) (at : WordBit) → some_piece (piece_sets (OfWord at)) (tile_piece image x y kind ∷ []) ≡ false
tile-none image x y kind at = some_piece-one (piece_sets (OfWord at)) (tile_piece image x y kind) ∙ tile-sets_word image x y kind at

-- they set only bits that are set
kind-sets_word : (image : Configuration) (x y : ℕ) (at : WordBit) (kind : Option TileKind) → IsWordBit image.layout.device at
    → some_piece (piece_sets (OfWord at)) (kind_pieces image x y kind) ≡ true → bit_of image (OfWord at) ≡ true
kind-sets_word image x y at None is sets = absurd (both_ways (some_piece (piece_sets (OfWord at)) []) (some_piece-nothing (piece_sets (OfWord at))) sets)
kind-sets_word image x y at (Some Io) is sets =
    absurd (both_ways (some_piece (piece_sets (OfWord at)) (tile_piece image x y Io ∷ [])) (tile-none image x y Io at) sets)
kind-sets_word image x y at (Some Logic) is sets =
    absurd (both_ways (some_piece (piece_sets (OfWord at)) (tile_piece image x y Logic ∷ [])) (tile-none image x y Logic at) sets)
kind-sets_word image x y at (Some RamB) is sets =
    let test = piece_sets (OfWord at) in
    let first = tile_piece image x y RamB in
    let second = ram_piece image x y in
    elim (or_cases (some_piece test (first ∷ [])) (some_piece test (second ∷ [])) (sym (some_piece-append test (first ∷ []) (second ∷ [])) ∙ sets)) [
      | inl tile ↦ absurd (both_ways (some_piece test (first ∷ [])) (tile-none image x y RamB at) tile)
      | inr ram ↦ ram-sets_word image x y at is (sym (some_piece-one test second) ∙ ram)
    ]
kind-sets_word image x y at (Some RamT) is sets =
    absurd (both_ways (some_piece (piece_sets (OfWord at)) (tile_piece image x y RamT ∷ [])) (tile-none image x y RamT at) sets)

-- a lower tile is in the grid
lower-in : (device : DeviceName) (x y : ℕ) → kind_of device x y ≡ Some RamB → (x < grid_width device) × (y < grid_height device)
unfolding kind_of
lower-in device x y is = grind (arith, nat_tests)

-- ---- all of them

-- the pieces of the tiles set only bits that are set
pub tiles-set_word : (image : Configuration) (at : WordBit) → IsWordBit image.layout.device at → some_piece (piece_sets (OfWord at)) (all_tile_pieces image) ≡ true → bit_of image (OfWord at) ≡ true
tiles-set_word image at is sets =
    let test = piece_sets (OfWord at) in
    let row = gathered-place test (grid_height image.layout.device) (row_pieces image) sets in
    let tile = gathered-place test (grid_width image.layout.device) (grid_pieces image row.0) row.2 in
    kind-sets_word image tile.0 row.0 at (kind_of image.layout.device tile.0 row.0) is tile.2

-- and each such bit
pub tiles-set_word_at : (image : Configuration) (at : WordBit) → IsWordBit image.layout.device at → bit_of image (OfWord at) ≡ true → some_piece (piece_sets (OfWord at)) (all_tile_pieces image) ≡ true
tiles-set_word_at image at is set =
    let test = piece_sets (OfWord at) in
    let grid = lower-in image.layout.device at.x at.y is.lower in
    let first = tile_piece image at.x at.y RamB in
    let second = ram_piece image at.x at.y in
    let here : some_piece test (grid_pieces image at.y at.x) ≡ true =
    ap (λ kind. some_piece test (kind_pieces image at.x at.y kind)) is.lower
    ∙ some_piece-append test (first ∷ []) (second ∷ [])
    ∙ or_right (some_piece test (first ∷ [])) (some_piece test (second ∷ [])) (some_piece-one test second ∙ ram-sets_word_at image at is set)
    in
    gathered-at test (grid_height image.layout.device) at.y (row_pieces image) grid.1
    (gathered-at test (grid_width image.layout.device) at.x (grid_pieces image at.y) grid.0 here)

-- extra bits set none
pub extras-set_no_word : (image : Configuration) (at : WordBit) → some_piece (piece_sets (OfWord at)) (all_extra_pieces image) ≡ false
extras-set_no_word image at = extras-none (piece_sets (OfWord at)) (set_extras image) (λ place. extra-sets_word place at)
