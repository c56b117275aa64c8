-- The pieces that make up the canonical text of an image, and that each is right after the pieces before it.
use Rattle.std.proofs.Common.{◌≡◌, ℕ, zero, suc, ◌+◌, ◌-◌, ◌*◌, ◌<◌, Bool, true, false, not, ◌&&◌, ◌||◌, ◌==◌, List, [], ◌∷◌, ◌++◌, length, get_or, map, Contains, subst, append_assoc, append-nil, refl, sym, ap, ◌∙◌, arith, inl, inr, Option, Some, None}
use Rattle.std.proofs.lemmas.Bool.{ne_eqb, and_left, and_right, or_from, or_cases, or_left, or_right, cases_eq}
use Rattle.std.proofs.lemmas.List.{length-map, length-append, get_or-map, get_or_push, get_or_append_left}
use Rattle.std.proofs.lemmas.List.Elements.{All-cons, All-nil, All-append, Contains-append_left, Contains-append_right, Contains-append_cases}
use Rattle.std.specs.Prelude.{All}
use Rattle.layout_file.specs.declared.layouts.Layouts.{Layouts}
use Rattle.hex.specs.Hex.{IsBytes, encode_lower}
use Rattle.text_lines.specs.Lines.{line_at, trimmed}
use Rattle.index_search.specs.Places.{any_below, gathered_below, or_else}
use Rattle.text_lines.specs.Written.{IsPlain}
use Rattle.index_search.proofs.Places.{any_below-none, any_below-at, any_below-place, gathered_below-same}
use Rattle.bit_plane.specs.Rows.{Rows, row_from}
use Rattle.bit_plane.proofs.Made.{length-row_from, length-rows_from, row_at-rows_from}
use Rattle.layout_file.specs.Layouts.{HasLayout}
use Rattle.plane_map.specs.Layout.{Layout, kind_of, columns_of, columns_in, columns_at, grid_width, grid_height, cram_width, cram_height}
use Rattle.plane_map.specs.declared.device.DeviceName.{DeviceName}
use Rattle.plane_map.specs.declared.device.DeviceName.TheVariants.{Lp384, Hx1k, Hx8k}
use Rattle.plane_map.specs.declared.tile.TileKind.{TileKind}
use Rattle.plane_map.specs.declared.tile.TileKind.TheVariants.{Io, Logic, RamB, RamT}
use Rattle.plane_map.specs.declared.tile.Place.{Place}
use Rattle.ice_image.specs.Bits.{tile_bit_of, tile_of, word_bit_of, ram_word_of, set_extras}
use Rattle.ice_image.specs.Configuration.{Configuration}
use Rattle.ice_image.proofs.Bits.{extra_in}
use Rattle.ice_image.proofs.SetExtras.{set_extras-in}
use Rattle.asc_text.specs.declared.statement.Statement.{Statement}
use Rattle.asc_text.specs.declared.statement.Statement.TheVariants.{Tile, RamData, ExtraBit}
use Rattle.asc_text.specs.declared.fault.AscCause.TheVariants.{Row, Hex, Kind, ExtraPlace}
use Rattle.asc_text.specs.Statements.{tile_keyword, ram_data_keyword}
use Rattle.asc_text.specs.Rows.{is_row, is_memory_line}
use Rattle.asc_text.specs.Blocks.{device_in}
use Rattle.ice_image.specs.Owned.{is_extra}
use Rattle.asc_text.specs.Faults.{cause_if, is_same_kind, kind_cause, names_tile, names_ram}
use Rattle.asc_text.specs.Canonical.{grid_line, row_line, tile_lines, memory_line, ram_lines, lines_of_tile_at, all_tile_lines, extra_line, all_extra_lines}
use Rattle.asc_text.proofs.PieceRead.{Piece, IsPiece, piece_lines}
use Rattle.asc_text.proofs.PiecesRead.{all_lines, some_piece, first_piece, some_statement, first_statement, some_piece-append, some_piece-one, first_piece-append, cause_after, IsFine, AreFine, AreFine-append}
use Rattle.asc_text.proofs.RowsRead.{trimmed-row_line, plain-row_line, is_row-row_line, trimmed-encoded, plain-encoded, is_memory_line-encoded, words_bytes, length-words_bytes, IsBytes-words_bytes, word-row_from-lt}
use Rattle.asc_text.proofs.Spelled.{tile-spelled, ram-spelled, extra-spelled}

-- ---- laws of lists of pieces

-- the lines of pieces after pieces
pub all_lines-append : (a b : List Piece) → all_lines (a ++ b) ≡ all_lines a ++ all_lines b
unfolding all_lines
all_lines-append [] b = refl
all_lines-append (piece ∷ a) b = ap (λ lines. piece_lines piece ++ lines) (all_lines-append a b) ∙ sym (append_assoc (piece_lines piece) (all_lines a) (all_lines b))

-- the lines of gathered pieces
pub all_lines-gathered : (n : ℕ) (given : ℕ → List Piece) → all_lines (gathered_below n given) ≡ gathered_below n (λ k. all_lines (given k))
unfolding gathered_below all_lines
all_lines-gathered zero given = refl
all_lines-gathered (suc n) given = all_lines-append (gathered_below n given) (given n) ∙ ap (λ lines. lines ++ all_lines (given n)) (all_lines-gathered n given)

-- some gathered piece passes if one of some place does
pub some_piece-gathered : (test : Piece → Bool) (n : ℕ) (given : ℕ → List Piece) → some_piece test (gathered_below n given) ≡ any_below n (λ k. some_piece test (given k))
unfolding gathered_below any_below some_piece
some_piece-gathered test zero given = refl
some_piece-gathered test (suc n) given = some_piece-append test (gathered_below n given) (given n) ∙ ap (λ p. p || some_piece test (given n)) (some_piece-gathered test n given)

-- none of the gathered pieces passes
pub gathered-none : (test : Piece → Bool) (n : ℕ) (given : ℕ → List Piece) → ((k : ℕ) → k < n → some_piece test (given k) ≡ false) → some_piece test (gathered_below n given) ≡ false
gathered-none test n given none = some_piece-gathered test n given ∙ any_below-none n (λ k. some_piece test (given k)) none

-- one of the gathered pieces passes
pub gathered-at : (test : Piece → Bool) (n k : ℕ) (given : ℕ → List Piece) → k < n → some_piece test (given k) ≡ true → some_piece test (gathered_below n given) ≡ true
gathered-at test n k given within here = some_piece-gathered test n given ∙ any_below-at n k (λ k. some_piece test (given k)) within here

-- and which
pub gathered-place : (test : Piece → Bool) (n : ℕ) (given : ℕ → List Piece) → some_piece test (gathered_below n given) ≡ true → (k : ℕ) × (k < n) × (some_piece test (given k) ≡ true)
gathered-place test n given some = any_below-place n (λ k. some_piece test (given k)) (sym (some_piece-gathered test n given) ∙ some)

-- none of either passes
pub append-none : (test : Piece → Bool) (a b : List Piece) → some_piece test a ≡ false → some_piece test b ≡ false → some_piece test (a ++ b) ≡ false
append-none test a b first second = some_piece-append test a b ∙ or_from (some_piece test a) (some_piece test b) first second

-- none of the gathered pieces gives anything
pub first-none : {A : Type 0} (given : Piece → Option A) (n : ℕ) (pieces : ℕ → List Piece) → ((k : ℕ) → k < n → first_piece given (pieces k) ≡ None) → first_piece given (gathered_below n pieces) ≡ None
unfolding gathered_below first_piece
first-none given zero pieces none = refl
first-none given (suc n) pieces none =
    first_piece-append given (gathered_below n pieces) (pieces n) ∙ (λ i. or_else (first-none given n pieces (λ k within. none k (omega arith)) i) (none n (omega arith) i))

-- gathered pieces are right if those of each place are right after the pieces before them
pub AreFine-gathered : (layouts : Layouts) (past : List Piece) (n : ℕ) (given : ℕ → List Piece) → ((k : ℕ) → k < n → AreFine layouts (past ++ gathered_below k given) (given k)) → AreFine layouts past (gathered_below n given)
unfolding gathered_below AreFine
AreFine-gathered layouts past zero given fine = tt
AreFine-gathered layouts past (suc n) given fine =
    AreFine-append layouts past (gathered_below n given) (given n) (AreFine-gathered layouts past n given (λ k within. fine k (omega arith))) (fine n (omega arith))

-- no pieces are right
pub AreFine-none : (layouts : Layouts) (past : List Piece) → AreFine layouts past []
unfolding AreFine
AreFine-none layouts past = tt

-- one piece that is right
pub AreFine-one : (layouts : Layouts) (past : List Piece) (piece : Piece) → IsFine layouts past piece → AreFine layouts past (piece ∷ [])
unfolding AreFine
AreFine-one layouts past piece fine = (fine, tt)

-- the device is known
abbrev pub Knows : DeviceName → List Piece → Type 0
Knows device past = first_statement device_in past ≡ Some device

-- and stays known
pub Knows-more : (device : DeviceName) (past more : List Piece) → Knows device past → Knows device (past ++ more)
Knows-more device past more knows =
    first_piece-append (λ piece. device_in (Some piece.statement)) past more ∙ ap (λ first. or_else first (first_statement device_in more)) knows

-- ---- tiles

abbrev pub tile_piece : Configuration → ℕ → ℕ → TileKind → Piece
tile_piece image x y kind = record { statement = Tile kind x y; head = grid_line (tile_keyword kind) x y; rows = map row_line (tile_of image x y) }

abbrev pub ram_piece : Configuration → ℕ → ℕ → Piece
ram_piece image x y = record { statement = RamData x y; head = grid_line ram_data_keyword x y; rows = gathered_below 16 (λ row. memory_line image x y row ∷ []) }

abbrev pub kind_pieces : Configuration → ℕ → ℕ → Option TileKind → List Piece
kind_pieces image x y None = []
kind_pieces image x y (Some Io) = tile_piece image x y Io ∷ []
kind_pieces image x y (Some Logic) = tile_piece image x y Logic ∷ []
kind_pieces image x y (Some RamB) = tile_piece image x y RamB ∷ ram_piece image x y ∷ []
kind_pieces image x y (Some RamT) = tile_piece image x y RamT ∷ []

-- those of a place of the grid
abbrev pub grid_pieces : Configuration → ℕ → ℕ → List Piece
grid_pieces image y x = kind_pieces image x y (kind_of image.layout.device x y)

-- those of a row of the grid
abbrev pub row_pieces : Configuration → ℕ → List Piece
row_pieces image y = gathered_below (grid_width image.layout.device) (grid_pieces image y)

abbrev pub all_tile_pieces : Configuration → List Piece
all_tile_pieces image = gathered_below (grid_height image.layout.device) (row_pieces image)

-- the lines of a place of the grid
kind-lines : (image : Configuration) (x y : ℕ) (kind : Option TileKind) → all_lines (kind_pieces image x y kind) ≡ lines_of_tile_at image x y kind
unfolding all_lines
kind-lines image x y None = refl
kind-lines image x y (Some Io) = append-nil (tile_lines image x y Io)
kind-lines image x y (Some Logic) = append-nil (tile_lines image x y Logic)
kind-lines image x y (Some RamB) = ap (λ lines. tile_lines image x y RamB ++ lines) (append-nil (ram_lines image x y))
kind-lines image x y (Some RamT) = append-nil (tile_lines image x y RamT)

-- their lines are those of all tiles
pub tile-lines : (image : Configuration) → all_lines (all_tile_pieces image) ≡ all_tile_lines image
tile-lines image =
    all_lines-gathered (grid_height image.layout.device) (row_pieces image)
    ∙ gathered_below-same (grid_height image.layout.device) (λ y. all_lines (row_pieces image y)) (λ y. gathered_below (grid_width image.layout.device) (λ x. lines_of_tile_at image x y (kind_of image.layout.device x y))) (λ y within.
    all_lines-gathered (grid_width image.layout.device) (grid_pieces image y)
    ∙ gathered_below-same (grid_width image.layout.device) (λ x. all_lines (grid_pieces image y x)) (λ x. lines_of_tile_at image x y (kind_of image.layout.device x y)) (λ x inside. kind-lines image x y (kind_of image.layout.device x y)))

-- ---- a tile is right

-- row r of a written tile
pub tile-row : (image : Configuration) (x y r : ℕ) → r < 16
    → line_at (map row_line (tile_of image x y)) r ≡ row_line (row_from (columns_at image.layout.device x y) (λ col. tile_bit_of image x y r col))
tile-row image x y r within =
    get_or-map row_line (tile_of image x y) r [] [] (omega (arith, length-rows_from (columns_at image.layout.device x y) 16 (λ col row. tile_bit_of image x y row col)))
    ∙ ap row_line (row_at-rows_from (columns_at image.layout.device x y) 16 (λ col row. tile_bit_of image x y row col) r within)

-- a written tile has sixteen rows
pub tile-count : (image : Configuration) (x y : ℕ) → length (map row_line (tile_of image x y)) ≡ 16
tile-count image x y = length-map (tile_of image x y) row_line ∙ length-rows_from (columns_at image.layout.device x y) 16 (λ col row. tile_bit_of image x y row col)

-- rows have no byte below the space
plain-rows : (rows : Rows) → All IsPlain (map row_line rows)
plain-rows [] = All-nil IsPlain
plain-rows (row ∷ rows) = All-cons IsPlain (row_line row) (map row_line rows) (plain-row_line row) (plain-rows rows)

-- a written tile is a piece
tile-is : (image : Configuration) (x y : ℕ) (kind : TileKind) → x < 1000000000 → y < 1000000000 → IsPiece (tile_piece image x y kind)
tile-is image x y kind small_x small_y =
    let spelled = tile-spelled kind x y small_x small_y in
    record {
      spells = spelled.spells;
      dot = spelled.dot;
      count = tile-count image x y;
      calm = refl;
      plain = All-cons IsPlain (grid_line (tile_keyword kind) x y) (map row_line (tile_of image x y)) spelled.plain (plain-rows (tile_of image x y));
    }

-- a kind is the same as itself
same_kind : (kind : TileKind) → is_same_kind kind kind ≡ true
same_kind Io = refl
same_kind Logic = refl
same_kind RamB = refl
same_kind RamT = refl

-- a written tile is right if no tile of its position comes before it
pub tile-fine : (layouts : Layouts) (image : Configuration) (x y : ℕ) (kind : TileKind) (past : List Piece) → x < 1000000000 → y < 1000000000 → kind_of image.layout.device x y ≡ Some kind
    → Knows image.layout.device past → some_statement (names_tile x y) past ≡ false → IsFine layouts past (tile_piece image x y kind)
tile-fine layouts image x y kind past small_x small_y is knows new = record {
  is = tile-is image x y kind small_x small_y;
  cause =
      (λ i. cause_after layouts (knows i) (new i) (Tile kind x y))
      ∙ ap (λ there. or_else (kind_cause there kind) None) is
      ∙ ap (λ same. or_else (cause_if (not same) (Kind kind)) None) (same_kind kind);
  rows = λ r within.
      let inside : r < 16 = omega (arith, tile-count image x y) in
      let bits = row_from (columns_at image.layout.device x y) (λ col. tile_bit_of image x y r col) in
      let wide : length bits ≡ columns_of kind = length-row_from (columns_at image.layout.device x y) (λ col. tile_bit_of image x y r col) ∙ ap columns_in is in
      ap (λ line. cause_if (not (is_row (columns_of kind) line)) Row) (ap trimmed (tile-row image x y r inside) ∙ trimmed-row_line bits)
      ∙ ap (λ good. cause_if (not good) Row) (is_row-row_line bits (columns_of kind) wide);
}

-- ---- the contents of a RAM are right

-- the word of a line that stands at a place of it
abbrev pub line_word : Configuration → ℕ → ℕ → ℕ → ℕ → ℕ
line_word image x y row place = ram_word_of image x y (16 * row + 15 - place)

-- a word has at most sixteen bits
pub line_word-small : (image : Configuration) (x y row place : ℕ) → line_word image x y row place < 65536
line_word-small image x y row place = word-row_from-lt (λ bit. word_bit_of image x y (16 * row + 15 - place) bit)

-- one line each
pub length-single : (n : ℕ) (given : ℕ → List ℕ) → length (gathered_below n (λ k. given k ∷ [])) ≡ n
unfolding gathered_below
length-single zero given = refl
length-single (suc n) given = omega (arith, length-append (gathered_below n (λ k. given k ∷ [])) (given n ∷ []), length-single n given)

-- the line of a place
pub line_at-single : (n : ℕ) (given : ℕ → List ℕ) (k : ℕ) → k < n → line_at (gathered_below n (λ k. given k ∷ [])) k ≡ given k
unfolding gathered_below
line_at-single zero given k within = absurd (omega arith)
line_at-single (suc n) given k within =
    let lines = gathered_below n (λ k. given k ∷ []) in
    elim (cases_eq k n) [
      | inl last ↦ get_or_push lines (given n) [] k (length-single n given ∙ sym last) ∙ ap given (sym last)
      | inr before ↦ get_or_append_left lines (given n ∷ []) [] k (omega (arith, length-single n given)) ∙ line_at-single n given k (omega arith)
    ]

-- lines without a byte below the space, one each
plain-single : (n : ℕ) (given : ℕ → List ℕ) → ((k : ℕ) → IsPlain (given k)) → All IsPlain (gathered_below n (λ k. given k ∷ []))
unfolding gathered_below
plain-single zero given plain = All-nil IsPlain
plain-single (suc n) given plain =
    All-append IsPlain (gathered_below n (λ k. given k ∷ [])) (given n ∷ []) (plain-single n given plain) (All-cons IsPlain (given n) [] (plain n) (All-nil IsPlain))

-- the bytes of a line are bytes
line-bytes : (image : Configuration) (x y row : ℕ) → IsBytes (words_bytes 16 (line_word image x y row))
line-bytes image x y row = IsBytes-words_bytes 16 (line_word image x y row) (λ place within. line_word-small image x y row place)

-- the written contents of a RAM are a piece
ram-is : (image : Configuration) (x y : ℕ) → x < 1000000000 → y < 1000000000 → IsPiece (ram_piece image x y)
ram-is image x y small_x small_y =
    let spelled = ram-spelled x y small_x small_y in
    record {
      spells = spelled.spells;
      dot = spelled.dot;
      count = length-single 16 (memory_line image x y);
      calm = refl;
      plain = All-cons IsPlain (grid_line ram_data_keyword x y) (gathered_below 16 (λ row. memory_line image x y row ∷ [])) spelled.plain
          (plain-single 16 (memory_line image x y) (λ row. plain-encoded (words_bytes 16 (line_word image x y row)) (line-bytes image x y row)));
    }

-- line r of a written RAM, without blanks at its end
pub ram-row : (image : Configuration) (x y r : ℕ) → r < 16
    → trimmed (line_at (gathered_below 16 (λ row. memory_line image x y row ∷ [])) r) ≡ encode_lower (words_bytes 16 (line_word image x y r))
ram-row image x y r within =
    ap trimmed (line_at-single 16 (memory_line image x y) r within) ∙ trimmed-encoded (words_bytes 16 (line_word image x y r)) (line-bytes image x y r)

-- they are right if no lines of that RAM come before them
pub ram-fine : (layouts : Layouts) (image : Configuration) (x y : ℕ) (past : List Piece) → x < 1000000000 → y < 1000000000 → kind_of image.layout.device x y ≡ Some RamB
    → Knows image.layout.device past → some_statement (names_ram x y) past ≡ false → IsFine layouts past (ram_piece image x y)
ram-fine layouts image x y past small_x small_y is knows new = record {
  is = ram-is image x y small_x small_y;
  cause =
      (λ i. cause_after layouts (knows i) (new i) (RamData x y))
      ∙ ap (λ there. or_else (kind_cause there RamB) None) is;
  rows = λ r within.
      let inside : r < 16 = omega (arith, length-single 16 (memory_line image x y)) in
      let bytes = words_bytes 16 (line_word image x y r) in
      ap (λ line. cause_if (not (is_memory_line line)) Hex) (ram-row image x y r inside)
      ∙ ap (λ good. cause_if (not good) Hex) (is_memory_line-encoded bytes (line-bytes image x y r) (length-words_bytes 16 (line_word image x y r)));
}

-- ---- all tiles are right

-- the grid is small
grid-small : (device : DeviceName) (x y : ℕ) → x < grid_width device → y < grid_height device → (x < 1000000000) × (y < 1000000000)
grid-small Lp384 x y inside within = (omega arith, omega arith)
grid-small Hx1k x y inside within = (omega arith, omega arith)
grid-small Hx8k x y inside within = (omega arith, omega arith)

-- the pieces of a position of the grid are right if no piece of that position comes before them
pub kind-fine : (layouts : Layouts) (image : Configuration) (x y : ℕ) (past : List Piece) → x < 1000000000 → y < 1000000000 → Knows image.layout.device past
    → some_statement (names_tile x y) past ≡ false → some_statement (names_ram x y) past ≡ false
    → (kind : Option TileKind) → kind_of image.layout.device x y ≡ kind → AreFine layouts past (kind_pieces image x y kind)
unfolding AreFine
kind-fine layouts image x y past small_x small_y knows tile ram None is = tt
kind-fine layouts image x y past small_x small_y knows tile ram (Some Io) is = (tile-fine layouts image x y Io past small_x small_y is knows tile, tt)
kind-fine layouts image x y past small_x small_y knows tile ram (Some Logic) is = (tile-fine layouts image x y Logic past small_x small_y is knows tile, tt)
kind-fine layouts image x y past small_x small_y knows tile ram (Some RamB) is =
    let first = tile_piece image x y RamB in (
      tile-fine layouts image x y RamB past small_x small_y is knows tile,
      (
        ram-fine layouts image x y (past ++ first ∷ []) small_x small_y is (Knows-more image.layout.device past (first ∷ []) knows)
            (append-none (λ piece. names_ram x y (Some piece.statement)) past (first ∷ []) ram (some_piece-one (λ piece. names_ram x y (Some piece.statement)) first)),
        tt,
      ),
    )
kind-fine layouts image x y past small_x small_y knows tile ram (Some RamT) is = (tile-fine layouts image x y RamT past small_x small_y is knows tile, tt)

-- the pieces of a tile name no other tile
kind-other_tile : (image : Configuration) (x y x' y' : ℕ) (kind : Option TileKind) → ((x' == x) && (y' == y)) ≡ false → some_statement (names_tile x y) (kind_pieces image x' y' kind) ≡ false
unfolding some_piece
kind-other_tile image x y x' y' None other = refl
kind-other_tile image x y x' y' (Some Io) other = rw other refl
kind-other_tile image x y x' y' (Some Logic) other = rw other refl
kind-other_tile image x y x' y' (Some RamB) other = rw other refl
kind-other_tile image x y x' y' (Some RamT) other = rw other refl

-- nor another RAM
kind-other_ram : (image : Configuration) (x y x' y' : ℕ) (kind : Option TileKind) → ((x' == x) && (y' == y)) ≡ false → some_statement (names_ram x y) (kind_pieces image x' y' kind) ≡ false
unfolding some_piece
kind-other_ram image x y x' y' None other = refl
kind-other_ram image x y x' y' (Some Io) other = refl
kind-other_ram image x y x' y' (Some Logic) other = refl
kind-other_ram image x y x' y' (Some RamB) other = rw other refl
kind-other_ram image x y x' y' (Some RamT) other = refl

-- a test that no tile but that of a place passes is not passed before the place
before-none : (image : Configuration) (past : List Piece) (x y : ℕ) (test : Option Statement → Bool)
    → ((x' y' : ℕ) (kind : Option TileKind) → ((x' == x) && (y' == y)) ≡ false → some_statement test (kind_pieces image x' y' kind) ≡ false)
    → some_statement test past ≡ false
    → some_statement test ((past ++ gathered_below y (row_pieces image)) ++ gathered_below x (grid_pieces image y)) ≡ false
before-none image past x y test other none =
    let passes : Piece → Bool = λ piece. test (Some piece.statement) in
    append-none passes (past ++ gathered_below y (row_pieces image)) (gathered_below x (grid_pieces image y))
    (append-none passes past (gathered_below y (row_pieces image)) none
    (gathered-none passes y (row_pieces image) (λ y' below.
    gathered-none passes (grid_width image.layout.device) (grid_pieces image y') (λ x' inside.
    other x' y' (kind_of image.layout.device x' y') (and_right (x' == x) (y' == y) (ne_eqb y' y (λ e. omega arith)))))))
    (gathered-none passes x (grid_pieces image y) (λ x' below.
    other x' y (kind_of image.layout.device x' y) (and_left (x' == x) (y == y) (ne_eqb x' x (λ e. omega arith)))))

-- all tiles are right after pieces that name the device, and no tile
pub tiles-fine : (layouts : Layouts) (image : Configuration) (past : List Piece) → Knows image.layout.device past
    → ((x y : ℕ) → some_statement (names_tile x y) past ≡ false) → ((x y : ℕ) → some_statement (names_ram x y) past ≡ false)
    → AreFine layouts past (all_tile_pieces image)
tiles-fine layouts image past knows tile ram =
    AreFine-gathered layouts past (grid_height image.layout.device) (row_pieces image) (λ y within.
    AreFine-gathered layouts (past ++ gathered_below y (row_pieces image)) (grid_width image.layout.device) (grid_pieces image y) (λ x inside.
    let small = grid-small image.layout.device x y inside within in
    kind-fine layouts image x y ((past ++ gathered_below y (row_pieces image)) ++ gathered_below x (grid_pieces image y)) small.0 small.1
    (Knows-more image.layout.device (past ++ gathered_below y (row_pieces image)) (gathered_below x (grid_pieces image y)) (Knows-more image.layout.device past (gathered_below y (row_pieces image)) knows))
    (before-none image past x y (names_tile x y) (kind-other_tile image x y) (tile x y))
    (before-none image past x y (names_ram x y) (kind-other_ram image x y) (ram x y))
    (kind_of image.layout.device x y) refl))

-- ---- extra bits

abbrev pub extra_piece : Place → Piece
extra_piece at = record { statement = ExtraBit at.bank at.px at.py; head = extra_line at; rows = [] }

abbrev pub all_extra_pieces : Configuration → List Piece
all_extra_pieces image = map extra_piece (set_extras image)

-- the lines of extra bits
lines-extras : (places : List Place) → all_lines (map extra_piece places) ≡ map extra_line places
unfolding all_lines
lines-extras [] = refl
lines-extras (at ∷ places) = ap (λ lines. extra_line at ∷ lines) (lines-extras places)

-- their lines are those of all extra bits
pub extra-lines : (image : Configuration) → all_lines (all_extra_pieces image) ≡ all_extra_lines image
extra-lines image = lines-extras (set_extras image)

-- a test that no extra bit passes
pub extras-none : (test : Piece → Bool) (places : List Place) → ((at : Place) → test (extra_piece at) ≡ false) → some_piece test (map extra_piece places) ≡ false
unfolding some_piece
extras-none test [] none = refl
extras-none test (at ∷ places) none = rw (none at) (extras-none test places none)

-- nothing that an extra bit gives
pub extras-give : {A : Type 0} (given : Piece → Option A) (places : List Place) → ((at : Place) → given (extra_piece at) ≡ None) → first_piece given (map extra_piece places) ≡ None
unfolding first_piece
extras-give given [] none = refl
extras-give given (at ∷ places) none = rw (none at) (extras-give given places none)

-- the first of a list, and the others
first-in : (at : Place) (places : List Place) → Contains (at ∷ places) at
first-in at places = Contains-append_left (at ∷ []) places at (0, omega arith, refl)

other-in : (at : Place) (places : List Place) (other : Place) → Contains places other → Contains (at ∷ places) other
other-in at places other is = Contains-append_right (at ∷ []) places other is

-- an extra bit that passes a test
pub extras-place : (test : Piece → Bool) (places : List Place) → some_piece test (map extra_piece places) ≡ true → (at : Place) × Contains places at × (test (extra_piece at) ≡ true)
unfolding some_piece
extras-place test [] some = absurd cc
extras-place test (at ∷ places) some =
    elim (or_cases (test (extra_piece at)) (some_piece test (map extra_piece places)) some) [
      | inl here ↦ (at, first-in at places, here)
      | inr later ↦
          let found = extras-place test places later in
          (found.0, other-in at places found.0 found.1, found.2)
    ]

pub extras-at : (test : Piece → Bool) (places : List Place) (at : Place) → Contains places at → test (extra_piece at) ≡ true → some_piece test (map extra_piece places) ≡ true
unfolding some_piece
extras-at test [] at is passes = absurd (omega (arith, is.1))
extras-at test (first ∷ places) at is passes =
    elim (Contains-append_cases (first ∷ []) places at is) [
      | inr later ↦ or_right (test (extra_piece first)) (some_piece test (map extra_piece places)) (extras-at test places at later passes)
      | inl alone ↦
          let e : alone.0 ≡ 0 = omega (arith, alone.1) in
          let same : first ≡ at = subst (λ (k : ℕ). get_or (first ∷ []) k at ≡ at) e alone.2 in
          or_left (test (extra_piece first)) (some_piece test (map extra_piece places)) (ap (λ at. test (extra_piece at)) same ∙ passes)
    ]

-- the planes are small
planes-small : (device : DeviceName) (px py : ℕ) → px < cram_width device → py < cram_height device → (px < 1000000000) × (py < 1000000000)
planes-small Lp384 px py inside within = (omega arith, omega arith)
planes-small Hx1k px py inside within = (omega arith, omega arith)
planes-small Hx8k px py inside within = (omega arith, omega arith)

-- a written extra bit is right
extra-fine : (layouts : Layouts) (layout : Layout) (at : Place) (past : List Piece) → HasLayout layouts layout → is_extra layout at ≡ true → Knows layout.device past → IsFine layouts past (extra_piece at)
extra-fine layouts layout at past has extra knows =
    let inside = (extra_in layout at extra).0 in
    let small = planes-small layout.device at.px at.py inside.px_in inside.py_in in
    let spelled = extra-spelled at (omega (arith, inside.bank_in)) small.0 small.1 in
    record {
      is = record { spells = spelled.spells; dot = spelled.dot; count = refl; calm = refl; plain = All-cons IsPlain (extra_line at) [] spelled.plain (All-nil IsPlain) };
      cause =
          ap (λ device. cause_after layouts device false (ExtraBit at.bank at.px at.py)) knows
          ∙ ap (λ (layout : Layout). or_else (cause_if (not (is_extra layout at)) ExtraPlace) None) has
          ∙ ap (λ good. or_else (cause_if (not good) ExtraPlace) None) extra;
      rows = λ r within. absurd (omega arith);
    }

extras-fine_of : (layouts : Layouts) (layout : Layout) (places : List Place) (past : List Piece) → HasLayout layouts layout → ((at : Place) → Contains places at → is_extra layout at ≡ true) → Knows layout.device past → AreFine layouts past (map extra_piece places)
unfolding AreFine
extras-fine_of layouts layout [] past has extra knows = tt
extras-fine_of layouts layout (at ∷ places) past has extra knows =
    (extra-fine layouts layout at past has (extra at (first-in at places)) knows, extras-fine_of layouts layout places (past ++ extra_piece at ∷ []) has (λ other is. extra other (other-in at places other is)) (Knows-more layout.device past (extra_piece at ∷ []) knows))

-- all extra bits are right after pieces that name the device
pub extras-fine : (layouts : Layouts) (image : Configuration) (past : List Piece) → HasLayout layouts image.layout → Knows image.layout.device past → AreFine layouts past (all_extra_pieces image)
extras-fine layouts image past has knows = extras-fine_of layouts image.layout (set_extras image) past has (λ at is. (set_extras-in image at is).0) knows
