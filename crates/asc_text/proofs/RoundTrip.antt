-- The canonical text of an image means that image.
use Rattle.std.proofs.Common.{◌≡◌, ℕ, ◌+◌, ◌<◌, Bool, true, false, ◌||◌, List, [], ◌∷◌, ◌++◌, length, append_assoc, refl, sym, ap, ◌∙◌, subst, arith, inl, inr, Option, Some, None}
use Rattle.std.proofs.lemmas.Bool.{le-leb, or_cases, or_from, or_left, or_right, cases_lt, cases_Bool, both_ways}
use Rattle.std.proofs.lemmas.List.{length-append, get_or_at}
use Rattle.std.proofs.lemmas.List.Elements.{All-nil, All-append}
use Rattle.std.specs.Prelude.{All, unwrap_or}
use Rattle.text_lines.specs.Lines.{lines_of, line_at}
use Rattle.index_search.specs.Places.{any_below, first_below}
use Rattle.text_lines.specs.Written.{text_of, IsPlain}
use Rattle.index_search.proofs.Places.{any_below-at, first_below-none, gathered_below-none}
use Rattle.text_lines.proofs.Written.{lines_of-text_of}
use Rattle.layout_file.specs.declared.layouts.Layouts.{Layouts}
use Rattle.plane_map.specs.declared.device.DeviceName.{DeviceName}
use Rattle.layout_file.specs.Layouts.{HasLayout}
use Rattle.ice_image.specs.Bits.{Bit, OfTile, OfWord, Extra, IsBit, bit_of}
use Rattle.ice_image.specs.Configuration.{Configuration, IsWhole}
use Rattle.ice_image.proofs.Bits.{image_from-is}
use Rattle.ice_image.specs.declared.settings.Range.TheVariants.{Low}
use Rattle.asc_text.specs.declared.statement.Statement.{Statement}
use Rattle.asc_text.specs.declared.statement.Statement.TheVariants.{Comment, Device, WarmBoot, FrequencyRange, NoSleep, Tile, RamData, ExtraBit, Symbol}
use Rattle.plane_map.specs.DeviceWords.{device_word}
use Rattle.asc_text.specs.Statements.{device_keyword, begins_with_dot}
use Rattle.asc_text.specs.Blocks.{depth_at, statement_over, statement_at, is_comment, device_in, device_before}
use Rattle.asc_text.specs.Faults.{names_tile, names_ram, cause_at, fault_with, tile_named, fault_at, asc_fault_of}
use Rattle.asc_text.specs.Meaning.{is_set_before, comment_before, settings_before, image_before, symbol_in, symbols_before, image_for, asc_image_of, asc_symbols_of, AscMeans}
use Rattle.asc_text.specs.Canonical.{with_word, comment_lines, warm_boot_lines, range_lines, no_sleep_lines, all_tile_lines, all_extra_lines, canonical_lines, asc_text_of}
use Rattle.asc_text.proofs.PieceRead.{Piece, Stands, piece_lines, piece_sets}
use Rattle.asc_text.proofs.PiecesRead.{all_lines, some_piece, some_piece-append, some_statement, first_statement, Holds, AreFine, AreFine-append, Stands-front, Stands-back, all_more}
use Rattle.asc_text.proofs.PiecesWritten.{all_lines-append, append-none, Knows-more, all_tile_pieces, tile-lines, tiles-fine, all_extra_pieces, extra-lines, extras-fine}
use Rattle.asc_text.proofs.HeadRead.{comment_pieces, warm_boot_pieces, range_pieces, no_sleep_pieces, head_pieces, head-lines, FailsHead, head-none, head-knows, head-fine, FailsPlaces, places-none, settings-read}
use Rattle.asc_text.proofs.BitsRead.{tiles-set, tiles-set_at, tiles-set_no_extra, extras-set, extras-set_at, extras-set_no_tile}
use Rattle.asc_text.proofs.WordsRead.{tiles-set_word, tiles-set_word_at, extras-set_no_word}
use Rattle.asc_text.proofs.CommentRead.{HasCommentLines, holds-start, plain-comment, comment-is, comment-none}

-- ---- the lines

-- the pieces after the comment
abbrev body_pieces : Configuration → List Piece
body_pieces image = head_pieces image.layout.device image.settings.warm_boot image.settings.range image.settings.no_sleep ++ (all_tile_pieces image ++ all_extra_pieces image)

-- all pieces, the comment's among them
abbrev whole_pieces : Configuration → List Piece
whole_pieces image = comment_pieces image.comment ++ body_pieces image

-- the lines of the comment, and those of the pieces
abbrev written_lines : Configuration → List (List ℕ)
written_lines image = comment_lines image.comment ++ all_lines (body_pieces image)

-- lists that are joined from the left, and from the right
joined : {A : Type 0} (a b c d e f g : List A) → a ++ b ++ c ++ d ++ e ++ f ++ g ≡ a ++ ((b ++ (c ++ (d ++ e))) ++ (f ++ g))
joined a b c d e f g = simp append_assoc

-- they are the lines of the canonical text
canonical-written : (image : Configuration) → canonical_lines image ≡ written_lines image
unfolding canonical_lines
canonical-written image =
    let device = image.layout.device in
    let settings = image.settings in
    joined (comment_lines image.comment) (with_word device_keyword (device_word device) ∷ []) (warm_boot_lines settings.warm_boot) (range_lines settings.range) (no_sleep_lines settings.no_sleep) (all_tile_lines image) (all_extra_lines image)
    ∙ ap (λ lines. comment_lines image.comment ++ lines)
    (sym (all_lines-append (head_pieces device settings.warm_boot settings.range settings.no_sleep) (all_tile_pieces image ++ all_extra_pieces image)
    ∙ (λ i. head-lines device settings.warm_boot settings.range settings.no_sleep i ++ all_lines-append (all_tile_pieces image) (all_extra_pieces image) i)
    ∙ (λ i. (with_word device_keyword (device_word device) ∷ (warm_boot_lines settings.warm_boot ++ (range_lines settings.range ++ no_sleep_lines settings.no_sleep))) ++ (tile-lines image i ++ extra-lines image i))))

-- ---- they are read

-- all pieces are right, each after those before it
body-fine : (layouts : Layouts) (image : Configuration) → HasLayout layouts image.layout → AreFine layouts (comment_pieces image.comment) (body_pieces image)
body-fine layouts image under =
    let device = image.layout.device in
    let settings = image.settings in
    let start = comment_pieces image.comment in
    let head = head_pieces device settings.warm_boot settings.range settings.no_sleep in
    let knows = head-knows image.comment device settings.warm_boot settings.range settings.no_sleep in
    AreFine-append layouts start head (all_tile_pieces image ++ all_extra_pieces image)
    (head-fine layouts image.comment device settings.warm_boot settings.range settings.no_sleep)
    (AreFine-append layouts (start ++ head) (all_tile_pieces image) (all_extra_pieces image)
    (tiles-fine layouts image (start ++ head) knows
    (λ x y. head-none (λ piece. names_tile x y (Some piece.statement)) image.comment device settings.warm_boot settings.range settings.no_sleep
    (record { at_comment = refl; at_device = refl; at_warm_boot = refl; at_medium = refl; at_high = refl; at_no_sleep = refl }))
    (λ x y. head-none (λ piece. names_ram x y (Some piece.statement)) image.comment device settings.warm_boot settings.range settings.no_sleep
    (record { at_comment = refl; at_device = refl; at_warm_boot = refl; at_medium = refl; at_high = refl; at_no_sleep = refl })))
    (extras-fine layouts image ((start ++ head) ++ all_tile_pieces image) under (Knows-more device (start ++ head) (all_tile_pieces image) knows)))

-- none of their lines has a byte below the space
plain-pieces : (layouts : Layouts) (past pieces : List Piece) → AreFine layouts past pieces → All IsPlain (all_lines pieces)
unfolding AreFine all_lines
plain-pieces layouts past [] fine = All-nil IsPlain
plain-pieces layouts past (piece ∷ pieces) fine = All-append IsPlain (piece_lines piece) (all_lines pieces) fine.0.is.plain (plain-pieces layouts (past ++ piece ∷ []) pieces fine.1)

-- all lines stand at the first
stands-whole : (lines : List (List ℕ)) → Stands lines 0 lines
stands-whole lines = record {
  fits = omega arith;
  same = λ k within. let none : 0 + k ≡ k = omega arith in ap (line_at lines) none;
}

-- the lines say what the pieces say
holds-whole : (layouts : Layouts) (image : Configuration) → HasLayout layouts image.layout → HasCommentLines image.comment → Holds layouts (written_lines image) (length (written_lines image)) (whole_pieces image)
holds-whole layouts image under has =
    let lines = written_lines image in
    let front = comment_lines image.comment in
    let rest = all_lines (body_pieces image) in
    let stands : Stands lines 0 (front ++ rest) = stands-whole lines in
    let start : Holds layouts lines (length front) (comment_pieces image.comment) = holds-start layouts lines image.comment has (Stands-front lines 0 front rest stands) in
    let none : 0 + length front ≡ length front = omega arith in
    let following : Stands lines (length front) rest = subst (λ n. Stands lines n rest) none (Stands-back lines 0 front rest stands) in
    subst (λ n. Holds layouts lines n (whole_pieces image)) (sym (length-append front rest)) (all_more layouts lines (length front) (comment_pieces image.comment) (body_pieces image) start (body-fine layouts image under) following)

-- ---- the bits

-- tests that pass together are the same
same_tests : (a b : Bool) → (a ≡ true → b ≡ true) → (b ≡ true → a ≡ true) → a ≡ b
same_tests true b to from = sym (to refl)
same_tests false true to from = from refl
same_tests false false to from = refl

-- no piece before the tiles passes a test, so that some tile or some extra bit does where any piece does
whole-some : (image : Configuration) (test : Piece → Bool) → FailsHead test image.layout.device → some_piece test (whole_pieces image) ≡ (some_piece test (all_tile_pieces image) || some_piece test (all_extra_pieces image))
whole-some image test fails =
    let settings = image.settings in
    let head = head_pieces image.layout.device settings.warm_boot settings.range settings.no_sleep in
    let places = all_tile_pieces image ++ all_extra_pieces image in
    ap (some_piece test) (sym (append_assoc (comment_pieces image.comment) head places))
    ∙ some_piece-append test (comment_pieces image.comment ++ head) places
    ∙ (λ i. head-none test image.comment image.layout.device settings.warm_boot settings.range settings.no_sleep fails i || some_piece-append test (all_tile_pieces image) (all_extra_pieces image) i)

-- the comment, the device and the settings set no bit
bits-fail : (device : DeviceName) (bit : Bit) → FailsHead (piece_sets bit) device
unfolding piece_sets any_below
bits-fail device bit = record { at_comment = refl; at_device = refl; at_warm_boot = refl; at_medium = refl; at_high = refl; at_no_sleep = refl }

-- the pieces set the bits of the image
bits-whole : (image : Configuration) (bit : Bit) → IsBit image.layout bit → some_piece (piece_sets bit) (whole_pieces image) ≡ bit_of image bit
bits-whole image (OfTile bit) is =
    let test = piece_sets (OfTile bit) in
    let tiles = some_piece test (all_tile_pieces image) in
    let extras = some_piece test (all_extra_pieces image) in
    whole-some image test (bits-fail image.layout.device (OfTile bit))
    ∙ same_tests (tiles || extras) (bit_of image (OfTile bit))
    (λ some. elim (or_cases tiles extras some) [
      | inl tile ↦ tiles-set image bit is tile
      | inr extra ↦ absurd (both_ways extras (extras-set_no_tile image bit) extra)
    ])
    (λ set. or_left tiles extras (tiles-set_at image bit is set))
bits-whole image (OfWord bit) is =
    let test = piece_sets (OfWord bit) in
    let tiles = some_piece test (all_tile_pieces image) in
    let extras = some_piece test (all_extra_pieces image) in
    whole-some image test (bits-fail image.layout.device (OfWord bit))
    ∙ same_tests (tiles || extras) (bit_of image (OfWord bit))
    (λ some. elim (or_cases tiles extras some) [
      | inl tile ↦ tiles-set_word image bit is tile
      | inr extra ↦ absurd (both_ways extras (extras-set_no_word image bit) extra)
    ])
    (λ set. or_left tiles extras (tiles-set_word_at image bit is set))
bits-whole image (Extra at) is =
    let test = piece_sets (Extra at) in
    let tiles = some_piece test (all_tile_pieces image) in
    let extras = some_piece test (all_extra_pieces image) in
    whole-some image test (bits-fail image.layout.device (Extra at))
    ∙ same_tests (tiles || extras) (bit_of image (Extra at))
    (λ some. elim (or_cases tiles extras some) [
      | inl tile ↦ absurd (both_ways tiles (tiles-set_no_extra image at) tile)
      | inr extra ↦ extras-set image at extra
    ])
    (λ set. or_right tiles extras (extras-set_at image at is set))

-- ---- names

-- whether a statement names a net
abbrev is_symbol : Option Statement → Bool
is_symbol (Some (Symbol net)) = true
is_symbol statement = false

-- another statement gives no name
no-symbol : (statement : Option Statement) (line : List ℕ) → is_symbol statement ≡ false → symbol_in statement line ≡ []
no-symbol None line none = refl
no-symbol (Some Comment) line none = refl
no-symbol (Some (Device device)) line none = refl
no-symbol (Some (WarmBoot setting)) line none = refl
no-symbol (Some (FrequencyRange setting)) line none = refl
no-symbol (Some (NoSleep setting)) line none = refl
no-symbol (Some (Tile kind x y)) line none = refl
no-symbol (Some (RamData x y)) line none = refl
no-symbol (Some (ExtraBit bank x y)) line none = refl
no-symbol (Some (Symbol net)) line none = absurd (both_ways true none refl)

-- if no place passes, this one doesn't
none-at : (n k : ℕ) (test : ℕ → Bool) → k < n → any_below n test ≡ false → test k ≡ false
none-at n k test within none = elim (cases_Bool (test k)) [
  | inl here ↦ absurd (both_ways (any_below n test) none (any_below-at n k test within here))
  | inr not_here ↦ not_here
]

-- a test that neither the settings nor the places pass
some-none : (image : Configuration) (test : Option Statement → Bool) → FailsHead (λ piece. test (Some piece.statement)) image.layout.device → FailsPlaces test → some_statement test (whole_pieces image) ≡ false
some-none image test fails fails' =
    let settings = image.settings in
    let passes : Piece → Bool = λ piece. test (Some piece.statement) in
    let head = head_pieces image.layout.device settings.warm_boot settings.range settings.no_sleep in
    let places = all_tile_pieces image ++ all_extra_pieces image in
    ap (some_piece passes) (sym (append_assoc (comment_pieces image.comment) head places))
    ∙ append-none passes (comment_pieces image.comment ++ head) places (head-none passes image.comment image.layout.device settings.warm_boot settings.range settings.no_sleep fails) (places-none test fails' image)

-- ---- the whole

-- the device is the image's
device-whole : (layouts : Layouts) (image : Configuration) → HasLayout layouts image.layout → HasCommentLines image.comment → device_before (written_lines image) (length (written_lines image)) ≡ Some image.layout.device
device-whole layouts image under has =
    let settings = image.settings in
    let head = head_pieces image.layout.device settings.warm_boot settings.range settings.no_sleep in
    let places = all_tile_pieces image ++ all_extra_pieces image in
    (holds-whole layouts image under has).device
    ∙ ap (λ pieces. first_statement device_in pieces) (sym (append_assoc (comment_pieces image.comment) head places))
    ∙ Knows-more image.layout.device (comment_pieces image.comment ++ head) places (head-knows image.comment image.layout.device settings.warm_boot settings.range settings.no_sleep)

-- nothing is wrong with the end if the device is known
cause-end : (layouts : Layouts) (lines : List (List ℕ)) (device : DeviceName) → depth_at lines (length lines) ≡ 0 → device_before lines (length lines) ≡ Some device → cause_at layouts lines (length lines) ≡ None
unfolding cause_at
cause-end layouts lines device top named = rw (top, le-leb (length lines) (length lines) (omega arith), named) refl

-- no line is faulty
sound-whole : (layouts : Layouts) (image : Configuration) → HasLayout layouts image.layout → HasCommentLines image.comment → first_below (length (written_lines image) + 1) (fault_at layouts (written_lines image)) ≡ None
sound-whole layouts image under has =
    let lines = written_lines image in
    let holds = holds-whole layouts image under has in
    first_below-none (length lines + 1) (fault_at layouts lines) (λ k within.
    let sound : cause_at layouts lines k ≡ None = elim (cases_lt k (length lines)) [
      | inl inside ↦ holds.sound k inside
      | inr end ↦
          let here : k ≡ length lines = omega arith in
          ap (cause_at layouts lines) here ∙ cause-end layouts lines image.layout.device holds.top (device-whole layouts image under has)
    ] in
    ap (λ cause. fault_with cause (k + 1) (tile_named (statement_over lines k))) sound)

-- no piece begins a comment
calm-pieces : (layouts : Layouts) (past pieces : List Piece) → AreFine layouts past pieces → some_statement is_comment pieces ≡ false
unfolding AreFine some_piece
calm-pieces layouts past [] fine = refl
calm-pieces layouts past (piece ∷ pieces) fine =
    or_from (is_comment (Some piece.statement)) (some_statement is_comment pieces) fine.0.is.calm (calm-pieces layouts (past ++ piece ∷ []) pieces fine.1)

-- lines that begin with a comment, or with none, say it
comment-read : (layouts : Layouts) (comment : Option (List (List ℕ))) → HasCommentLines comment → (lines : List (List ℕ)) (n : ℕ) (body : List Piece) → Stands lines 0 (comment_lines comment)
    → length (comment_lines comment) < n → begins_with_dot (line_at lines (length (comment_lines comment))) ≡ true
    → Holds layouts lines n (comment_pieces comment ++ body) → some_statement is_comment body ≡ false → comment_before lines n ≡ comment
comment-read layouts None has lines n body stands within dot holds calm =
    comment-none lines n (λ k below. none-at n k (λ k. is_comment (statement_at lines k)) below (holds.any is_comment refl ∙ calm))
comment-read layouts (Some cs) has lines n body stands within dot holds calm = comment-is lines cs n has stands within dot holds.calm

-- the line after the comment is the device's
line-after : (image : Configuration) → begins_with_dot (line_at (written_lines image) (length (comment_lines image.comment))) ≡ true
unfolding all_lines
line-after image =
    let settings = image.settings in
    let rest = (warm_boot_pieces settings.warm_boot ++ (range_pieces settings.range ++ no_sleep_pieces settings.no_sleep)) ++ (all_tile_pieces image ++ all_extra_pieces image) in
    ap begins_with_dot (get_or_at (comment_lines image.comment) (with_word device_keyword (device_word image.layout.device)) (all_lines rest) [] (length (comment_lines image.comment)) refl)

-- there is one
some-after : (image : Configuration) → length (comment_lines image.comment) < length (written_lines image)
unfolding all_lines
some-after image = omega (arith, length-append (comment_lines image.comment) (all_lines (body_pieces image)))

-- the comment is the image's
comment-whole : (layouts : Layouts) (image : Configuration) → HasLayout layouts image.layout → HasCommentLines image.comment → comment_before (written_lines image) (length (written_lines image)) ≡ image.comment
comment-whole layouts image under has =
    let lines = written_lines image in
    comment-read layouts image.comment has lines (length lines) (body_pieces image) (Stands-front lines 0 (comment_lines image.comment) (all_lines (body_pieces image)) (stands-whole lines))
    (some-after image) (line-after image) (holds-whole layouts image under has) (calm-pieces layouts (comment_pieces image.comment) (body_pieces image) (body-fine layouts image under))

-- the settings are the image's
settings-whole : (layouts : Layouts) (image : Configuration) → HasLayout layouts image.layout → HasCommentLines image.comment → settings_before (written_lines image) (length (written_lines image)) ≡ image.settings
settings-whole layouts image under has =
    let settings = image.settings in
    let holds = holds-whole layouts image under has in
    let read = settings-read image image.comment image.layout.device settings.warm_boot settings.range settings.no_sleep in
    let warm_boot = ap (λ first. unwrap_or first true) holds.warm_boot ∙ read.warm_boot_is in
    let range = ap (λ first. unwrap_or first Low) holds.range ∙ read.range_is in
    let no_sleep = ap (λ first. unwrap_or first false) holds.no_sleep ∙ read.no_sleep_is in
    λ i. record { range = range i; warm_boot = warm_boot i; no_sleep = no_sleep i }

-- what the lines configure is the image
image-whole : (layouts : Layouts) (image : Configuration) → HasLayout layouts image.layout → IsWhole image → HasCommentLines image.comment → image_before image.layout (written_lines image) (length (written_lines image)) ≡ image
image-whole layouts image under whole has =
    let lines = written_lines image in
    let holds = holds-whole layouts image under has in
    sym (image_from-is image image.layout (comment_before lines (length lines)) (settings_before lines (length lines)) (is_set_before lines (length lines)) whole refl (sym (comment-whole layouts image under has)) (sym (settings-whole layouts image under has))
    (λ bit is. sym (holds.bits bit ∙ bits-whole image bit is)))

-- they name nothing
symbols-whole : (layouts : Layouts) (image : Configuration) → HasLayout layouts image.layout → HasCommentLines image.comment → symbols_before (written_lines image) (length (written_lines image)) ≡ []
unfolding symbols_before
symbols-whole layouts image under has =
    let lines = written_lines image in
    let none : any_below (length lines) (λ k. is_symbol (statement_at lines k)) ≡ false =
    (holds-whole layouts image under has).any is_symbol refl
    ∙ some-none image is_symbol (record { at_comment = refl; at_device = refl; at_warm_boot = refl; at_medium = refl; at_high = refl; at_no_sleep = refl }) (record { tile = λ kind x y. refl; ram = λ x y. refl; extra = λ bank x y. refl })
    in
    gathered_below-none (length lines) (λ k. symbol_in (statement_at lines k) (line_at lines k)) (λ k within.
    no-symbol (statement_at lines k) (line_at lines k) (none-at (length lines) k (λ k. is_symbol (statement_at lines k)) within none))

-- the lines of the text are those that were written
lines-whole : (layouts : Layouts) (image : Configuration) → HasLayout layouts image.layout → HasCommentLines image.comment → lines_of (asc_text_of image) ≡ written_lines image
unfolding asc_text_of
lines-whole layouts image under has =
    ap (λ lines. lines_of (text_of lines)) (canonical-written image)
    ∙ lines_of-text_of (written_lines image) (All-append IsPlain (comment_lines image.comment) (all_lines (body_pieces image)) (plain-comment image.comment has) (plain-pieces layouts (comment_pieces image.comment) (body_pieces image) (body-fine layouts image under)))

-- the canonical text of an image means that image, and names nothing
pub means_of_text : (layouts : Layouts) (image : Configuration) → HasLayout layouts image.layout → IsWhole image → HasCommentLines image.comment → AscMeans layouts (asc_text_of image) image []
unfolding asc_fault_of asc_image_of asc_symbols_of
means_of_text layouts image under whole has =
    let is = lines-whole layouts image under has in
    record {
      accepted = ap (λ lines. first_below (length lines + 1) (fault_at layouts lines)) is ∙ sound-whole layouts image under has;
      configures =
          ap (λ lines. image_for layouts (device_before lines (length lines)) lines) is
          ∙ ap (λ device. image_for layouts device (written_lines image)) (device-whole layouts image under has)
          ∙ ap (λ layout. Some (image_before layout (written_lines image) (length (written_lines image)))) under
          ∙ ap (λ image. Some image) (image-whole layouts image under whole has);
      names = ap (λ lines. symbols_before lines (length lines)) is ∙ symbols-whole layouts image under has;
    }
