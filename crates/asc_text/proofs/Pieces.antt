-- Texts that are written piece by piece.
use Rattle.std.proofs.Common.{◌≡◌, ℕ, ◌+◌, ◌-◌, Bool, ◌<◌, ◌≤◌, List, [], ◌∷◌, ◌++◌, length, get_or, take, drop, map, Some, None, refl, ap, sym, ◌∙◌, add-one, append_assoc, append-nil, arith}
use Rattle.std.proofs.lemmas.List.{map-append, take_more, take_all, length-map, length-take-le, get_or-map, get_or-take, get_or-set_same, get_or-set_other}
use Rattle.std.proofs.lemmas.Bool.{cases_eq}
use Rattle.std.proofs.lemmas.Grind.{flat_map-append, same_number_lists}
use Rattle.std.proofs.Math.Seq.{take-append_seam, drop-append_seam}
use Rattle.hex.specs.Hex.{encode_with, lower_digits, encode_lower}
use Rattle.index_search.specs.Places.{gathered_below}
use Rattle.text_lines.specs.Written.{text_of}
use Rattle.index_search.proofs.Places.{gathered_below-more, gathered_below-none}
use Rattle.std.proofs.Common.{false, set, inl, inr}
use Rattle.bit_plane.specs.BitList.{word_of}
use Rattle.bit_plane.specs.Rows.{row_from, rows_from}
use Rattle.bit_plane.proofs.Made.{length-row_from, get_or-row_from}
use Rattle.ice_image.proofs.Gained.{number_bit-row}
use Rattle.plane_map.specs.Layout.{kind_of, columns_of, columns_at, columns_in}
use Rattle.plane_map.specs.declared.tile.TileKind.{TileKind}
use Rattle.plane_map.specs.declared.tile.TileKind.TheVariants.{RamB}
use Rattle.ice_image.specs.Bits.{tile_bit_of, number_bit}
use Rattle.ice_image.specs.Configuration.{Configuration}
use Rattle.plane_map.specs.DeviceWords.{device_word}
use Rattle.asc_text.specs.Statements.{tile_keyword, device_keyword}
use Rattle.asc_text.specs.Canonical.{with_word, head_lines, comment_lines, warm_boot_lines, range_lines, no_sleep_lines, all_tile_lines, all_extra_lines, canonical_lines, asc_text_of, bit_character, row_line, grid_line, tile_lines, ram_lines, lines_of_tile_at}

-- ---- lines

-- the text of two lists of lines
pub text_of-append : (lines more : List (List ℕ)) → text_of (lines ++ more) ≡ text_of lines ++ text_of more
unfolding text_of
text_of-append lines more = flat_map-append (λ line. line ++ 10 ∷ []) lines more

-- the text of one line
pub text_of-one : (line : List ℕ) → text_of (line ∷ []) ≡ line ++ 10 ∷ []
unfolding text_of
text_of-one line = append-nil (line ++ 10 ∷ [])

-- no lines
pub text_of-none : text_of [] ≡ []
unfolding text_of
text_of-none = refl

-- so they add nothing
pub nothing-written : (text : List ℕ) (lines : List (List ℕ)) → lines ≡ [] → text ≡ text ++ text_of lines
nothing-written text lines none = sym (append-nil text) ∙ ap (λ more. text ++ more) (sym text_of-none ∙ ap text_of (sym none))

-- lines after others
pub lines-joined : (old middle after : List ℕ) (first second : List (List ℕ)) → middle ≡ old ++ text_of first → after ≡ middle ++ text_of second → after ≡ old ++ text_of (first ++ second)
lines-joined old middle after first second one two =
    two ∙ ap (λ text. text ++ text_of second) one ∙ append_assoc old (text_of first) (text_of second) ∙ ap (λ text. old ++ text) (sym (text_of-append first second))

-- one line more of a list
pub lines-more : (old now after : List ℕ) (lines : List (List ℕ)) (line : List ℕ) (n : ℕ) → n < length lines → line ≡ get_or lines n [] → now ≡ old ++ text_of (take n lines) → after ≡ now ++ text_of (line ∷ []) → after ≡ old ++ text_of (take (n + 1) lines)
lines-more old now after lines line n within line_is so_far next =
    lines-joined old now after (take n lines) (line ∷ []) so_far next ∙ ap (λ lines. old ++ text_of lines) (ap (λ line. take n lines ++ line ∷ []) line_is ∙ sym (take_more lines n [] within))

-- all lines of a list
pub lines-all : (old after : List ℕ) (lines : List (List ℕ)) (n : ℕ) → length lines ≤ n → after ≡ old ++ text_of (take n lines) → after ≡ old ++ text_of lines
lines-all old after lines n past written = written ∙ ap (λ lines. old ++ text_of lines) (take_all n lines past)

-- a line that is written whole and then ended
pub line-ended : (old middle after line : List ℕ) → middle ≡ old ++ line → after ≡ middle ++ 10 ∷ [] → after ≡ old ++ text_of (line ∷ [])
line-ended old middle after line written ended =
    ended ∙ ap (λ text. text ++ 10 ∷ []) written ∙ append_assoc old line (10 ∷ []) ∙ ap (λ text. old ++ text) (sym (text_of-one line))

-- ---- what places give

-- the lines of all places
pub gathered-all : (old after : List ℕ) (n all : ℕ) (given : ℕ → List (List ℕ)) → n ≡ all → after ≡ old ++ text_of (gathered_below n given) → after ≡ old ++ text_of (gathered_below all given)
gathered-all old after n all given same written = written ∙ ap (λ n. old ++ text_of (gathered_below n given)) same

-- ---- digits

-- the digits of no bytes
encode_with-none : (digits : List ℕ) → encode_with digits [] ≡ []
unfolding encode_with
encode_with-none digits = refl

-- the digits of bytes and of more bytes
pub encode_with-append : (digits bytes more : List ℕ) → encode_with digits (bytes ++ more) ≡ encode_with digits bytes ++ encode_with digits more
unfolding encode_with
encode_with-append digits [] more = refl
encode_with-append digits (byte ∷ bytes) more = cc (encode_with-append digits bytes more)

-- no digits yet
pub digits-none : (text : List ℕ) (given : ℕ → List ℕ) → text ≡ text ++ encode_lower (gathered_below 0 given)
digits-none text given =
    sym (append-nil text) ∙ ap (λ digits. text ++ digits) (sym (encode_with-none lower_digits) ∙ ap encode_lower (sym (gathered_below-none 0 given (λ k below. absurd (omega arith)))))

-- the digits of one place more
pub digits-more : (old now after : List ℕ) (n : ℕ) (given : ℕ → List ℕ) → now ≡ old ++ encode_lower (gathered_below n given) → after ≡ now ++ encode_lower (given n) → after ≡ old ++ encode_lower (gathered_below (n + 1) given)
digits-more old now after n given so_far next =
    next ∙ ap (λ text. text ++ encode_lower (given n)) so_far ∙ append_assoc old (encode_lower (gathered_below n given)) (encode_lower (given n)) ∙ ap (λ digits. old ++ digits) (sym (encode_with-append lower_digits (gathered_below n given) (given n)) ∙ ap encode_lower (sym (gathered_below-more n given)))

-- the digits of all places, and the end of the line
pub digits-all : (old now after : List ℕ) (n all : ℕ) (given : ℕ → List ℕ) → n ≡ all → now ≡ old ++ encode_lower (gathered_below n given) → after ≡ now ++ 10 ∷ [] → after ≡ old ++ text_of (encode_lower (gathered_below all given) ∷ [])
digits-all old now after n all given same so_far ended =
    line-ended old now after (encode_lower (gathered_below all given)) (so_far ∙ ap (λ n. old ++ encode_lower (gathered_below n given)) same) ended

-- ---- rows

-- one character more
pub characters-more : (word col here : ℕ) (characters : List ℕ) → col < length characters → ((k : ℕ) → k < col → get_or characters k 0 ≡ bit_character (number_bit word k)) → here ≡ bit_character (number_bit word col)
    → (k : ℕ) → k < col + 1 → get_or (set characters col here) k 0 ≡ bit_character (number_bit word k)
characters-more word col here characters within so_far here_is k below = elim (cases_eq k col) [
  | inl e ↦ ap (λ k. get_or (set characters col here) k 0) e ∙ get_or-set_same characters col here 0 within ∙ here_is ∙ ap (λ k. bit_character (number_bit word k)) (sym e)
  | inr ne ↦ get_or-set_other characters col k here 0 ne ∙ so_far k (omega arith)
]

-- the characters of a row's word are the row
pub row-written : (width word : ℕ) (bit : ℕ → Bool) (characters : List ℕ) → word ≡ word_of (row_from width bit) → width ≤ 64 → length characters ≡ 64
    → ((col : ℕ) → col < 64 → get_or characters col 0 ≡ bit_character (number_bit word col)) → take width characters ≡ row_line (row_from width bit)
row-written width word bit characters is few size written =
    let taken : length (take width characters) ≡ width = length-take-le width characters (omega arith) in
    same_number_lists (take width characters) (row_line (row_from width bit)) (taken ∙ sym (length-map (row_from width bit) bit_character ∙ length-row_from width bit)) (λ k within.
    let inside : k < width = omega (arith, taken) in
    get_or-take width characters k 0 inside ∙ written k (omega arith)
    ∙ ap bit_character (ap (λ n. number_bit n k) is ∙ number_bit-row width bit k inside)
    ∙ sym (get_or-map bit_character (row_from width bit) k false 0 (omega (arith, length-row_from width bit)) ∙ ap bit_character (get_or-row_from width bit k inside)))

-- no row yet
pub rows-none : (text : List ℕ) (width : ℕ) (bit : ℕ → ℕ → Bool) → text ≡ text ++ text_of (map row_line (rows_from width 0 bit))
unfolding rows_from
rows-none text width bit = nothing-written text [] refl

-- one row more
pub rows-more : (old now after : List ℕ) (width row : ℕ) (bit : ℕ → ℕ → Bool) → now ≡ old ++ text_of (map row_line (rows_from width row bit)) → after ≡ now ++ text_of (row_line (row_from width (λ col. bit col row)) ∷ []) → after ≡ old ++ text_of (map row_line (rows_from width (row + 1) bit))
unfolding rows_from
rows-more old now after width row bit so_far next =
    rw add-one (lines-joined old now after (map row_line (rows_from width row bit)) (row_line (row_from width (λ col. bit col row)) ∷ []) so_far next ∙ ap (λ lines. old ++ text_of lines) (sym (map-append row_line (rows_from width row bit) (row_from width (λ col. bit col row) ∷ []))))

-- ---- tiles

module _ (image : Configuration) (x y : ℕ) where
  -- a statement and all rows
  pub tile-written : (kind : TileKind) (old middle after : List ℕ) (width row : ℕ) → kind_of image.layout.device x y ≡ Some kind → width ≡ columns_of kind → row ≡ 16 → middle ≡ old ++ text_of (grid_line (tile_keyword kind) x y ∷ []) → after ≡ middle ++ text_of (map row_line (rows_from width row (λ col row. tile_bit_of image x y row col))) → after ≡ old ++ text_of (tile_lines image x y kind)
  tile-written kind old middle after width row there wide last statement rows =
      let bit : ℕ → ℕ → Bool = λ col row. tile_bit_of image x y row col in
      let wide_there : width ≡ columns_at image.layout.device x y = wide ∙ ap columns_in (sym there) in
      lines-joined old middle after (grid_line (tile_keyword kind) x y ∷ []) (map row_line (rows_from (columns_at image.layout.device x y) 16 bit)) statement (rows ∙ ap (λ n. middle ++ text_of (map row_line (rows_from n row bit))) wide_there ∙ ap (λ n. middle ++ text_of (map row_line (rows_from (columns_at image.layout.device x y) n bit))) last)

  -- nothing if there is no tile
  pub none-written : (text : List ℕ) → kind_of image.layout.device x y ≡ None → text ≡ text ++ text_of (lines_of_tile_at image x y (kind_of image.layout.device x y))
  none-written text there = nothing-written text (lines_of_tile_at image x y (kind_of image.layout.device x y)) (ap (lines_of_tile_at image x y) there)

  -- a lower tile and its RAM's contents
  pub ram_tile-written : (old middle after : List ℕ) → kind_of image.layout.device x y ≡ Some RamB → middle ≡ old ++ text_of (tile_lines image x y RamB) → after ≡ middle ++ text_of (ram_lines image x y) → after ≡ old ++ text_of (lines_of_tile_at image x y (kind_of image.layout.device x y))
  ram_tile-written old middle after there tile ram =
      lines-joined old middle after (tile_lines image x y RamB) (ram_lines image x y) tile ram ∙ ap (λ kind. old ++ text_of (lines_of_tile_at image x y kind)) (sym there)

-- ---- the whole

-- what stands before the tiles, one part after the other
pub head-written : (image : Configuration) (start comment device warm_boot range no_sleep : List ℕ) → comment ≡ start ++ text_of (comment_lines image.comment) → device ≡ comment ++ text_of (with_word device_keyword (device_word image.layout.device) ∷ []) → warm_boot ≡ device ++ text_of (warm_boot_lines image.settings.warm_boot) → range ≡ warm_boot ++ text_of (range_lines image.settings.range) → no_sleep ≡ range ++ text_of (no_sleep_lines image.settings.no_sleep) → no_sleep ≡ start ++ text_of (head_lines image)
head-written image start comment device warm_boot range no_sleep comment_is device_is warm_boot_is range_is no_sleep_is =
    let two = lines-joined start comment device (comment_lines image.comment) (with_word device_keyword (device_word image.layout.device) ∷ []) comment_is device_is in
    let three = lines-joined start device warm_boot _ (warm_boot_lines image.settings.warm_boot) two warm_boot_is in
    let four = lines-joined start warm_boot range _ (range_lines image.settings.range) three range_is in
    lines-joined start range no_sleep _ (no_sleep_lines image.settings.no_sleep) four no_sleep_is

-- it, the tiles and the extra bits are the text
pub text-written : (image : Configuration) (start head tiles extras : List ℕ) → start ≡ [] → head ≡ start ++ text_of (head_lines image) → tiles ≡ head ++ text_of (all_tile_lines image) → extras ≡ tiles ++ text_of (all_extra_lines image) → extras ≡ asc_text_of image
unfolding canonical_lines asc_text_of
text-written image start head tiles extras start_is head_is tiles_are extras_are =
    let one : head ≡ [] ++ text_of (head_lines image) = head_is ∙ ap (λ text. text ++ text_of (head_lines image)) start_is in
    let two = lines-joined [] head tiles (head_lines image) (all_tile_lines image) one tiles_are in
    lines-joined [] tiles extras _ (all_extra_lines image) two extras_are

-- so are the tiles between the lines before and after them
pub around-written : (image : Configuration) (start head around : List ℕ) (following : ℕ) → start ≡ [] → head ≡ start ++ text_of (head_lines image) → following ≡ length head → around ≡ head ++ text_of (all_extra_lines image)
    → take following around ++ text_of (all_tile_lines image) ++ drop following around ≡ asc_text_of image
around-written image start head around following start_is head_is after_is around_is =
    let extras : List ℕ = text_of (all_extra_lines image) in
    let front : take following around ≡ head = ap (λ n. take n around) after_is ∙ ap (take (length head)) around_is ∙ take-append_seam head extras in
    let back : drop following around ≡ extras = ap (λ n. drop n around) after_is ∙ ap (drop (length head)) around_is ∙ drop-append_seam head extras in
    ap (λ text. text ++ text_of (all_tile_lines image) ++ drop following around) front
    ∙ ap (λ text. head ++ text_of (all_tile_lines image) ++ text) back
    ∙ text-written image start head (head ++ text_of (all_tile_lines image)) ((head ++ text_of (all_tile_lines image)) ++ extras) start_is head_is refl refl

-- what `grind` is told of them
pub ruleset joined = (append_assoc, append-nil, text_of-append, text_of-none, gathered_below-more)
