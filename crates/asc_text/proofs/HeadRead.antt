-- The device and the settings of a canonical text, and which statements never follow them.
use Rattle.std.proofs.Common.{◌≡◌, ℕ, Bool, true, false, List, [], ◌∷◌, ◌++◌, append_assoc, refl, sym, ap, ◌∙◌, arith, Option, Some, None}
use Rattle.std.proofs.lemmas.List.Elements.{All-cons, All-nil}
use Rattle.std.specs.Prelude.{unwrap_or}
use Rattle.index_search.specs.Places.{or_else}
use Rattle.text_lines.specs.Written.{IsPlain}
use Rattle.layout_file.specs.declared.layouts.Layouts.{Layouts}
use Rattle.plane_map.specs.Layout.{kind_of, grid_width, grid_height}
use Rattle.plane_map.specs.declared.device.DeviceName.{DeviceName}
use Rattle.plane_map.specs.declared.tile.TileKind.{TileKind}
use Rattle.plane_map.specs.declared.tile.TileKind.TheVariants.{Io, Logic, RamB, RamT}
use Rattle.ice_image.specs.Configuration.{Configuration}
use Rattle.ice_image.specs.declared.settings.Range.{Range}
use Rattle.ice_image.specs.declared.settings.Range.TheVariants.{Low, Medium, High}
use Rattle.asc_text.specs.declared.statement.Statement.{Statement}
use Rattle.asc_text.specs.declared.statement.Statement.TheVariants.{Comment, Device, WarmBoot, FrequencyRange, NoSleep, Tile, RamData, ExtraBit}
use Rattle.plane_map.specs.DeviceWords.{device_word}
use Rattle.asc_text.specs.Statements.{switch_word, range_word, comment_keyword, device_keyword, warm_boot_keyword, range_keyword, no_sleep_keyword}
use Rattle.asc_text.specs.Blocks.{device_in, has_rows, is_comment}
use Rattle.asc_text.specs.Faults.{is_warm_boot, is_range, is_no_sleep}
use Rattle.asc_text.specs.Meaning.{warm_boot_in, range_in, no_sleep_in}
use Rattle.asc_text.specs.Canonical.{with_word, warm_boot_lines, range_lines, no_sleep_lines}
use Rattle.asc_text.proofs.PieceRead.{Piece, rows_below}
use Rattle.asc_text.proofs.PiecesRead.{all_lines, some_piece, some_piece-nothing, first_piece, some_statement, first_statement, some_piece-one, first_piece-append, cause_after, was_given, IsFine, AreFine, AreFine-append}
use Rattle.asc_text.proofs.Spelled.{IsSpelled, device-spelled, warm_boot-spelled, medium-spelled, high-spelled, no_sleep-spelled}
use Rattle.ice_image.specs.Bits.{set_extras}
use Rattle.asc_text.proofs.PiecesWritten.{all_lines-append, gathered-none, append-none, first-none, AreFine-none, AreFine-one, Knows, Knows-more, kind_pieces, grid_pieces, row_pieces, all_tile_pieces, all_extra_pieces, extras-none, extras-give}

-- a statement to which no lines belong
abbrev pub alone : Statement → List ℕ → Piece
alone statement head = record { statement = statement; head = head; rows = [] }

-- the comment, as a statement alone
abbrev pub comment_pieces : Option (List (List ℕ)) → List Piece
comment_pieces None = []
comment_pieces (Some lines) = alone Comment comment_keyword ∷ []

abbrev pub device_piece : DeviceName → Piece
device_piece device = alone (Device (Some device)) (with_word device_keyword (device_word device))

abbrev pub warm_boot_pieces : Bool → List Piece
warm_boot_pieces true = []
warm_boot_pieces false = alone (WarmBoot (Some false)) (with_word warm_boot_keyword (switch_word false)) ∷ []

abbrev pub range_pieces : Range → List Piece
range_pieces Low = []
range_pieces Medium = alone (FrequencyRange (Some Medium)) (with_word range_keyword (range_word Medium)) ∷ []
range_pieces High = alone (FrequencyRange (Some High)) (with_word range_keyword (range_word High)) ∷ []

abbrev pub no_sleep_pieces : Bool → List Piece
no_sleep_pieces true = alone (NoSleep (Some true)) (with_word no_sleep_keyword (switch_word true)) ∷ []
no_sleep_pieces false = []

-- the device and the settings
abbrev pub head_pieces : DeviceName → Bool → Range → Bool → List Piece
head_pieces device warm_boot range no_sleep = (device_piece device ∷ []) ++ (warm_boot_pieces warm_boot ++ (range_pieces range ++ no_sleep_pieces no_sleep))

-- ---- their lines

-- the line of warm boot, if there is one
warm_boot-lines : (warm_boot : Bool) → all_lines (warm_boot_pieces warm_boot) ≡ warm_boot_lines warm_boot
unfolding all_lines
warm_boot-lines true = refl
warm_boot-lines false = refl

-- the line of the range
range-lines : (range : Range) → all_lines (range_pieces range) ≡ range_lines range
unfolding all_lines
range-lines Low = refl
range-lines Medium = refl
range-lines High = refl

-- the line of the flash
no_sleep-lines : (no_sleep : Bool) → all_lines (no_sleep_pieces no_sleep) ≡ no_sleep_lines no_sleep
unfolding all_lines
no_sleep-lines true = refl
no_sleep-lines false = refl

-- all of them
pub head-lines : (device : DeviceName) (warm_boot : Bool) (range : Range) (no_sleep : Bool)
    → all_lines (head_pieces device warm_boot range no_sleep) ≡ with_word device_keyword (device_word device) ∷ (warm_boot_lines warm_boot ++ (range_lines range ++ no_sleep_lines no_sleep))
unfolding all_lines
head-lines device warm_boot range no_sleep =
    ap (λ lines. with_word device_keyword (device_word device) ∷ lines)
    (all_lines-append (warm_boot_pieces warm_boot) (range_pieces range ++ no_sleep_pieces no_sleep)
    ∙ (λ i. warm_boot-lines warm_boot i ++ all_lines-append (range_pieces range) (no_sleep_pieces no_sleep) i)
    ∙ (λ i. warm_boot_lines warm_boot ++ (range-lines range i ++ no_sleep-lines no_sleep i)))

-- ---- they are right

-- a statement to which no lines belong is right if it has no cause
alone-fine : (layouts : Layouts) (past : List Piece) (statement : Statement) (head : List ℕ) → IsSpelled head statement → has_rows (Some statement) ≡ false → is_comment (Some statement) ≡ false
    → cause_after layouts (first_statement device_in past) (was_given past statement) statement ≡ None → IsFine layouts past (alone statement head)
alone-fine layouts past statement head spelled rowless calm none = record {
  is = record { spells = spelled.spells; dot = spelled.dot; count = sym (ap rows_below rowless); calm = calm; plain = All-cons IsPlain head [] spelled.plain (All-nil IsPlain) };
  cause = none;
  rows = λ r within. absurd (omega arith);
}

-- the device is right after the comment
device-fine : (layouts : Layouts) (comment : Option (List (List ℕ))) (device : DeviceName) → IsFine layouts (comment_pieces comment) (device_piece device)
unfolding first_piece some_piece
device-fine layouts None device = alone-fine layouts [] (Device (Some device)) (device_piece device).head (device-spelled device) refl refl refl
device-fine layouts (Some lines) device = alone-fine layouts (comment_pieces (Some lines)) (Device (Some device)) (device_piece device).head (device-spelled device) refl refl refl

-- so is a setting after the device, if it wasn't given
setting-fine : (layouts : Layouts) (device : DeviceName) (past : List Piece) (statement : Statement) (head : List ℕ) → Knows device past → IsSpelled head statement
    → has_rows (Some statement) ≡ false → is_comment (Some statement) ≡ false → was_given past statement ≡ false → cause_after layouts (Some device) false statement ≡ None
    → AreFine layouts past (alone statement head ∷ [])
setting-fine layouts device past statement head knows spelled rowless calm new none =
    AreFine-one layouts past (alone statement head) (alone-fine layouts past statement head spelled rowless calm ((λ i. cause_after layouts (knows i) (new i) statement) ∙ none))

-- so is warm boot
warm_boot-fine : (layouts : Layouts) (device : DeviceName) (past : List Piece) (warm_boot : Bool) → Knows device past → some_statement is_warm_boot past ≡ false → AreFine layouts past (warm_boot_pieces warm_boot)
warm_boot-fine layouts device past true knows new = AreFine-none layouts past
warm_boot-fine layouts device past false knows new =
    setting-fine layouts device past (WarmBoot (Some false)) (with_word warm_boot_keyword (switch_word false)) knows warm_boot-spelled refl refl new refl

-- so is the range
range-fine : (layouts : Layouts) (device : DeviceName) (past : List Piece) (range : Range) → Knows device past → some_statement is_range past ≡ false → AreFine layouts past (range_pieces range)
range-fine layouts device past Low knows new = AreFine-none layouts past
range-fine layouts device past Medium knows new =
    setting-fine layouts device past (FrequencyRange (Some Medium)) (with_word range_keyword (range_word Medium)) knows medium-spelled refl refl new refl
range-fine layouts device past High knows new =
    setting-fine layouts device past (FrequencyRange (Some High)) (with_word range_keyword (range_word High)) knows high-spelled refl refl new refl

-- so is the flash
no_sleep-fine : (layouts : Layouts) (device : DeviceName) (past : List Piece) (no_sleep : Bool) → Knows device past → some_statement is_no_sleep past ≡ false → AreFine layouts past (no_sleep_pieces no_sleep)
no_sleep-fine layouts device past false knows new = AreFine-none layouts past
no_sleep-fine layouts device past true knows new =
    setting-fine layouts device past (NoSleep (Some true)) (with_word no_sleep_keyword (switch_word true)) knows no_sleep-spelled refl refl new refl

-- a test that none of these pieces passes
pub record FailsHead (test : Piece → Bool) (device : DeviceName) : Type 0 where
  pub at_comment : test (alone Comment comment_keyword) ≡ false
  pub at_device : test (device_piece device) ≡ false
  pub at_warm_boot : test (alone (WarmBoot (Some false)) (with_word warm_boot_keyword (switch_word false))) ≡ false
  pub at_medium : test (alone (FrequencyRange (Some Medium)) (with_word range_keyword (range_word Medium))) ≡ false
  pub at_high : test (alone (FrequencyRange (Some High)) (with_word range_keyword (range_word High))) ≡ false
  pub at_no_sleep : test (alone (NoSleep (Some true)) (with_word no_sleep_keyword (switch_word true))) ≡ false

-- the comment fails such a test
comment-none : (test : Piece → Bool) (comment : Option (List (List ℕ))) → test (alone Comment comment_keyword) ≡ false → some_piece test (comment_pieces comment) ≡ false
comment-none test None fails = some_piece-nothing test
comment-none test (Some lines) fails = some_piece-one test (alone Comment comment_keyword) ∙ fails

-- warm boot fails it
warm_boot-none : (test : Piece → Bool) (warm_boot : Bool) → test (alone (WarmBoot (Some false)) (with_word warm_boot_keyword (switch_word false))) ≡ false → some_piece test (warm_boot_pieces warm_boot) ≡ false
warm_boot-none test true fails = some_piece-nothing test
warm_boot-none test false fails = some_piece-one test (alone (WarmBoot (Some false)) (with_word warm_boot_keyword (switch_word false))) ∙ fails

-- the range fails it
range-none : (test : Piece → Bool) (range : Range) → test (alone (FrequencyRange (Some Medium)) (with_word range_keyword (range_word Medium))) ≡ false
    → test (alone (FrequencyRange (Some High)) (with_word range_keyword (range_word High))) ≡ false → some_piece test (range_pieces range) ≡ false
range-none test Low fails fails' = some_piece-nothing test
range-none test Medium fails fails' = some_piece-one test (alone (FrequencyRange (Some Medium)) (with_word range_keyword (range_word Medium))) ∙ fails
range-none test High fails fails' = some_piece-one test (alone (FrequencyRange (Some High)) (with_word range_keyword (range_word High))) ∙ fails'

-- the flash fails it
no_sleep-none : (test : Piece → Bool) (no_sleep : Bool) → test (alone (NoSleep (Some true)) (with_word no_sleep_keyword (switch_word true))) ≡ false → some_piece test (no_sleep_pieces no_sleep) ≡ false
no_sleep-none test false fails = some_piece-nothing test
no_sleep-none test true fails = some_piece-one test (alone (NoSleep (Some true)) (with_word no_sleep_keyword (switch_word true))) ∙ fails

-- neither the comment, nor the device, nor a setting passes
pub head-none : (test : Piece → Bool) (comment : Option (List (List ℕ))) (device : DeviceName) (warm_boot : Bool) (range : Range) (no_sleep : Bool) → FailsHead test device
    → some_piece test (comment_pieces comment ++ head_pieces device warm_boot range no_sleep) ≡ false
head-none test comment device warm_boot range no_sleep fails =
    append-none test (comment_pieces comment) (head_pieces device warm_boot range no_sleep) (comment-none test comment fails.at_comment)
    (append-none test (device_piece device ∷ []) (warm_boot_pieces warm_boot ++ (range_pieces range ++ no_sleep_pieces no_sleep)) (some_piece-one test (device_piece device) ∙ fails.at_device)
    (append-none test (warm_boot_pieces warm_boot) (range_pieces range ++ no_sleep_pieces no_sleep) (warm_boot-none test warm_boot fails.at_warm_boot)
    (append-none test (range_pieces range) (no_sleep_pieces no_sleep) (range-none test range fails.at_medium fails.at_high) (no_sleep-none test no_sleep fails.at_no_sleep))))

-- after the comment the device is known
device-known : (comment : Option (List (List ℕ))) (device : DeviceName) → Knows device (comment_pieces comment ++ (device_piece device ∷ []))
unfolding first_piece
device-known None device = refl
device-known (Some lines) device = refl

-- and stays known
pub head-knows : (comment : Option (List (List ℕ))) (device : DeviceName) (warm_boot : Bool) (range : Range) (no_sleep : Bool)
    → Knows device (comment_pieces comment ++ head_pieces device warm_boot range no_sleep)
head-knows comment device warm_boot range no_sleep =
    let rest = warm_boot_pieces warm_boot ++ (range_pieces range ++ no_sleep_pieces no_sleep) in
    ap (λ pieces. first_statement device_in pieces) (sym (append_assoc (comment_pieces comment) (device_piece device ∷ []) rest))
    ∙ Knows-more device (comment_pieces comment ++ (device_piece device ∷ [])) rest (device-known comment device)

-- the device and the settings are right after the comment
pub head-fine : (layouts : Layouts) (comment : Option (List (List ℕ))) (device : DeviceName) (warm_boot : Bool) (range : Range) (no_sleep : Bool)
    → AreFine layouts (comment_pieces comment) (head_pieces device warm_boot range no_sleep)
head-fine layouts comment device warm_boot range no_sleep =
    let start = comment_pieces comment in
    let named = start ++ (device_piece device ∷ []) in
    let booted = named ++ warm_boot_pieces warm_boot in
    let ranged = booted ++ range_pieces range in
    let passes : (Option Statement → Bool) → Piece → Bool = λ test piece. test (Some piece.statement) in
    let knows : Knows device named = device-known comment device in
    let none_named : (test : Option Statement → Bool) → test (Some Comment) ≡ false → test (Some (Device (Some device))) ≡ false → some_statement test named ≡ false =
    λ test first second. append-none (passes test) start (device_piece device ∷ []) (comment-none (passes test) comment first) (some_piece-one (passes test) (device_piece device) ∙ second)
    in
    AreFine-append layouts start (device_piece device ∷ []) (warm_boot_pieces warm_boot ++ (range_pieces range ++ no_sleep_pieces no_sleep))
    (AreFine-one layouts start (device_piece device) (device-fine layouts comment device))
    (AreFine-append layouts named (warm_boot_pieces warm_boot) (range_pieces range ++ no_sleep_pieces no_sleep)
    (warm_boot-fine layouts device named warm_boot knows (none_named is_warm_boot refl refl))
    (AreFine-append layouts booted (range_pieces range) (no_sleep_pieces no_sleep)
    (range-fine layouts device booted range (Knows-more device named (warm_boot_pieces warm_boot) knows)
    (append-none (passes is_range) named (warm_boot_pieces warm_boot) (none_named is_range refl refl) (warm_boot-none (passes is_range) warm_boot refl)))
    (no_sleep-fine layouts device ranged no_sleep (Knows-more device booted (range_pieces range) (Knows-more device named (warm_boot_pieces warm_boot) knows))
    (append-none (passes is_no_sleep) booted (range_pieces range)
    (append-none (passes is_no_sleep) named (warm_boot_pieces warm_boot) (none_named is_no_sleep refl refl) (warm_boot-none (passes is_no_sleep) warm_boot refl))
    (range-none (passes is_no_sleep) range refl refl)))))

-- ---- what the settings say

-- the settings are read as they were written
pub record ReadsSettings (pieces : List Piece) (warm_boot : Bool) (range : Range) (no_sleep : Bool) : Type 0 where
  pub warm_boot_is : unwrap_or (first_statement warm_boot_in pieces) true ≡ warm_boot
  pub range_is : unwrap_or (first_statement range_in pieces) Low ≡ range
  pub no_sleep_is : unwrap_or (first_statement no_sleep_in pieces) false ≡ no_sleep

-- the settings of these pieces are those that they were made from
settings-head : (device : DeviceName) (warm_boot : Bool) (range : Range) (no_sleep : Bool) → ReadsSettings (head_pieces device warm_boot range no_sleep) warm_boot range no_sleep
unfolding first_piece
settings-head device true Low true = record { warm_boot_is = refl; range_is = refl; no_sleep_is = refl }
settings-head device true Low false = record { warm_boot_is = refl; range_is = refl; no_sleep_is = refl }
settings-head device true Medium true = record { warm_boot_is = refl; range_is = refl; no_sleep_is = refl }
settings-head device true Medium false = record { warm_boot_is = refl; range_is = refl; no_sleep_is = refl }
settings-head device true High true = record { warm_boot_is = refl; range_is = refl; no_sleep_is = refl }
settings-head device true High false = record { warm_boot_is = refl; range_is = refl; no_sleep_is = refl }
settings-head device false Low true = record { warm_boot_is = refl; range_is = refl; no_sleep_is = refl }
settings-head device false Low false = record { warm_boot_is = refl; range_is = refl; no_sleep_is = refl }
settings-head device false Medium true = record { warm_boot_is = refl; range_is = refl; no_sleep_is = refl }
settings-head device false Medium false = record { warm_boot_is = refl; range_is = refl; no_sleep_is = refl }
settings-head device false High true = record { warm_boot_is = refl; range_is = refl; no_sleep_is = refl }
settings-head device false High false = record { warm_boot_is = refl; range_is = refl; no_sleep_is = refl }

-- ---- what tiles and extra bits don't say

-- a test that no tile, no RAM and no extra bit passes
pub record FailsPlaces (test : Option Statement → Bool) : Type 0 where
  pub tile : (kind : TileKind) (x y : ℕ) → test (Some (Tile kind x y)) ≡ false
  pub ram : (x y : ℕ) → test (Some (RamData x y)) ≡ false
  pub extra : (bank x y : ℕ) → test (Some (ExtraBit bank x y)) ≡ false

-- the pieces of a place of the grid fail it
kind-none : (test : Option Statement → Bool) → FailsPlaces test → (image : Configuration) (x y : ℕ) (kind : Option TileKind) → some_statement test (kind_pieces image x y kind) ≡ false
unfolding some_piece
kind-none test fails image x y None = refl
kind-none test fails image x y (Some Io) = rw (fails.tile Io x y) refl
kind-none test fails image x y (Some Logic) = rw (fails.tile Logic x y) refl
kind-none test fails image x y (Some RamB) = rw (fails.tile RamB x y, fails.ram x y) refl
kind-none test fails image x y (Some RamT) = rw (fails.tile RamT x y) refl

-- all tiles and all extra bits fail it
pub places-none : (test : Option Statement → Bool) → FailsPlaces test → (image : Configuration) → some_statement test (all_tile_pieces image ++ all_extra_pieces image) ≡ false
places-none test fails image =
    let passes : Piece → Bool = λ piece. test (Some piece.statement) in
    append-none passes (all_tile_pieces image) (all_extra_pieces image)
    (gathered-none passes (grid_height image.layout.device) (row_pieces image) (λ y within.
    gathered-none passes (grid_width image.layout.device) (grid_pieces image y) (λ x inside. kind-none test fails image x y (kind_of image.layout.device x y))))
    (extras-none passes (set_extras image) (λ at. fails.extra at.bank at.px at.py))

-- nothing that such statements give
pub record GivesNone {A : Type 0} (given : Option Statement → Option A) : Type 0 where
  pub tile : (kind : TileKind) (x y : ℕ) → given (Some (Tile kind x y)) ≡ None
  pub ram : (x y : ℕ) → given (Some (RamData x y)) ≡ None
  pub extra : (bank x y : ℕ) → given (Some (ExtraBit bank x y)) ≡ None

-- the pieces of a place of the grid give nothing
kind-gives : {A : Type 0} (given : Option Statement → Option A) → GivesNone given → (image : Configuration) (x y : ℕ) (kind : Option TileKind) → first_statement given (kind_pieces image x y kind) ≡ None
unfolding first_piece
kind-gives given gives image x y None = refl
kind-gives given gives image x y (Some Io) = rw (gives.tile Io x y) refl
kind-gives given gives image x y (Some Logic) = rw (gives.tile Logic x y) refl
kind-gives given gives image x y (Some RamB) = rw (gives.tile RamB x y, gives.ram x y) refl
kind-gives given gives image x y (Some RamT) = rw (gives.tile RamT x y) refl

-- all tiles and all extra bits give nothing
places-give : {A : Type 0} (given : Option Statement → Option A) → GivesNone given → (image : Configuration) → first_statement given (all_tile_pieces image ++ all_extra_pieces image) ≡ None
places-give given gives image =
    let given' = λ (piece : Piece). given (Some piece.statement) in
    first_piece-append given' (all_tile_pieces image) (all_extra_pieces image)
    ∙ (λ i. or_else
    (first-none given' (grid_height image.layout.device) (row_pieces image) (λ y within.
    first-none given' (grid_width image.layout.device) (grid_pieces image y) (λ x inside. kind-gives given gives image x y (kind_of image.layout.device x y))) i)
    (extras-give given' (set_extras image) (λ at. gives.extra at.bank at.px at.py) i))

-- nor does the comment
comment-gives : {A : Type 0} (given : Option Statement → Option A) → given (Some Comment) ≡ None → (comment : Option (List (List ℕ))) → first_statement given (comment_pieces comment) ≡ None
unfolding first_piece
comment-gives given none None = refl
comment-gives given none (Some lines) = rw none refl

-- a value or nothing is the value
else-nothing : {A : Type 0} (value : Option A) → or_else value None ≡ value
else-nothing (Some value) = refl
else-nothing None = refl

-- only the head gives something
first-head : {A : Type 0} (given : Option Statement → Option A) → given (Some Comment) ≡ None → GivesNone given → (comment : Option (List (List ℕ))) (head : List Piece) (image : Configuration)
    → first_statement given (comment_pieces comment ++ (head ++ (all_tile_pieces image ++ all_extra_pieces image))) ≡ first_statement given head
first-head given none gives comment head image =
    let given' = λ (piece : Piece). given (Some piece.statement) in
    let places = all_tile_pieces image ++ all_extra_pieces image in
    first_piece-append given' (comment_pieces comment) (head ++ places)
    ∙ (λ i. or_else (comment-gives given none comment i) (first_piece-append given' head places i))
    ∙ ap (λ last. or_else (first_statement given head) last) (places-give given gives image)
    ∙ else-nothing (first_statement given head)

-- the settings of all pieces
pub settings-read : (image : Configuration) (comment : Option (List (List ℕ))) (device : DeviceName) (warm_boot : Bool) (range : Range) (no_sleep : Bool)
    → ReadsSettings (comment_pieces comment ++ (head_pieces device warm_boot range no_sleep ++ (all_tile_pieces image ++ all_extra_pieces image))) warm_boot range no_sleep
settings-read image comment device warm_boot range no_sleep =
    let head = head_pieces device warm_boot range no_sleep in
    let reads = settings-head device warm_boot range no_sleep in
    record {
      warm_boot_is = ap (λ first. unwrap_or first true) (first-head warm_boot_in refl (record { tile = λ kind x y. refl; ram = λ x y. refl; extra = λ bank x y. refl }) comment head image) ∙ reads.warm_boot_is;
      range_is = ap (λ first. unwrap_or first Low) (first-head range_in refl (record { tile = λ kind x y. refl; ram = λ x y. refl; extra = λ bank x y. refl }) comment head image) ∙ reads.range_is;
      no_sleep_is = ap (λ first. unwrap_or first false) (first-head no_sleep_in refl (record { tile = λ kind x y. refl; ram = λ x y. refl; extra = λ bank x y. refl }) comment head image) ∙ reads.no_sleep_is;
    }
