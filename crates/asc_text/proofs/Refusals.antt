-- What is wrong with a line follows from what is kept.
use Rattle.std.proofs.Common.{◌≡◌, ℕ, ◌+◌, ◌-◌, ◌<◌, ◌≤◌, Bool, true, false, not, List, [], length, refl, sym, ap, ◌∙◌, arith}
use Rattle.std.specs.Prelude.{Option, Some, None, is_some, nat_lt, nat_le}
use Rattle.std.proofs.lemmas.Bool.{lt-ltb}
use Rattle.std.proofs.lemmas.Bool.Decides.{nat_tests}
use Rattle.std.proofs.lemmas.List.{get_or_past}
use Rattle.text_lines.specs.Lines.{line_at, trimmed}
use Rattle.index_search.specs.Places.{or_else}
use Rattle.layout_file.specs.declared.layouts.Layouts.{Layouts}
use Rattle.layout_file.specs.Layouts.{layout_for}
use Rattle.plane_map.specs.Layout.{Layout, kind_of, columns_of, columns_at, grid_width, grid_height}
use Rattle.plane_map.specs.declared.device.DeviceName.{DeviceName}
use Rattle.plane_map.specs.declared.device.DeviceName.TheVariants.{Lp384, Hx1k, Hx8k}
use Rattle.plane_map.specs.declared.tile.TileKind.{TileKind}
use Rattle.plane_map.specs.declared.tile.TileKind.TheVariants.{Io, Logic, RamB, RamT}
use Rattle.plane_map.proofs.Layouts.{columns_at-in}
use Rattle.ice_image.specs.Either.{device_of}
use Rattle.ice_image.specs.declared.any.AnyImage.{AnyImage}
use Rattle.ice_image.specs.declared.settings.Range.{Range}
use Rattle.asc_text.specs.declared.statement.Statement.{Statement}
use Rattle.asc_text.specs.declared.statement.Statement.TheVariants.{Comment, Device, WarmBoot, FrequencyRange, NoSleep, Tile, RamData, ExtraBit, Symbol}
use Rattle.asc_text.specs.declared.fault.AscCause.{AscCause}
use Rattle.asc_text.specs.declared.fault.AscCause.TheVariants.{Repeated, ExtraPlace, NoDevice}
use Rattle.asc_text.specs.declared.reading.reader.Expected.{Expected}
use Rattle.asc_text.specs.declared.reading.reader.Expected.TheVariants.{Statement as AnyStatement, Row, Memory}
use Rattle.asc_text.specs.Statements.{statement_in}
use Rattle.asc_text.specs.inside.TileSets.{has_tile}
use Rattle.asc_text.specs.Rows.{is_row, is_memory_line}
use Rattle.ice_image.specs.Owned.{is_extra}
use Rattle.asc_text.specs.Blocks.{statement_over, device_before}
use Rattle.asc_text.specs.Faults.{extra_place, cause_at, end_cause, statement_cause, is_repeated, missing_device, unknown_device, tile_cause, kind_cause, extra_cause, setting_cause, cause_if, tile_named, fault_at, fault_with}
use Rattle.asc_text.specs.inside.Reading.{ReaderState, statement_refusal, dotted_refusal, setting_refusal, tile_refusal, extra_refusal, line_refusal, end_refusal, statement_of}
use Rattle.asc_text.proofs.HasRead.{HasRead, HasGiven, HasImage, HasComment, IsAt, device_known}
use Rattle.index_search.proofs.Places.{or_else-none}

-- ---- the grid

columns-some : (kind : TileKind) → 0 < columns_of kind
columns-some Io = omega arith
columns-some Logic = omega arith
columns-some RamB = omega arith
columns-some RamT = omega arith

widest : (device : DeviceName) → (grid_width device ≤ 34) × (grid_height device ≤ 34)
widest Lp384 = (omega arith, omega arith)
widest Hx1k = (omega arith, omega arith)
widest Hx8k = (omega arith, omega arith)

-- a tile is in the largest grid
pub in_grid : (device : DeviceName) (x y : ℕ) (kind : TileKind) → kind_of device x y ≡ Some kind → (x < 34) × (y < 34)
in_grid device x y kind there =
    let some : 0 < columns_at device x y = rw there (columns-some kind) in
    let inside = columns_at-in device x y 0 some in
    (omega (arith, inside.0, (widest device).0), omega (arith, inside.1, (widest device).1))

-- ---- statements

-- the first cause that holds, by the device and whether the same was given before
abbrev chain : Layouts → Option DeviceName → Bool → Statement → Option AscCause
chain layouts device repeated statement =
    or_else (missing_device device statement)
    (or_else (unknown_device statement)
    (or_else (tile_cause device statement)
    (or_else (cause_if repeated Repeated)
    (or_else (extra_cause layouts device statement)
    (setting_cause statement)))))

chain-comment : (layouts : Layouts) (device : Option DeviceName) → chain layouts device false Comment ≡ None
chain-comment layouts None = refl
chain-comment layouts (Some device) = refl

chain-symbol : (layouts : Layouts) (device : Option DeviceName) (net : ℕ) → chain layouts device false (Symbol net) ≡ None
chain-symbol layouts None net = refl
chain-symbol layouts (Some device) net = refl

chain-device : (layouts : Layouts) (device : Option DeviceName) (repeated : Bool) (name : Option DeviceName) → chain layouts device repeated (Device name) ≡ or_else (unknown_device (Device name)) (cause_if repeated Repeated)
chain-device layouts None repeated None = refl
chain-device layouts (Some device) repeated None = refl
chain-device layouts None true (Some name) = refl
chain-device layouts None false (Some name) = refl
chain-device layouts (Some device) true (Some name) = refl
chain-device layouts (Some device) false (Some name) = refl

chain-warm_boot : (layouts : Layouts) (device : Option DeviceName) (repeated : Bool) (setting : Option Bool) → chain layouts device repeated (WarmBoot setting) ≡ setting_refusal repeated (is_some setting)
chain-warm_boot layouts None true setting = refl
chain-warm_boot layouts None false None = refl
chain-warm_boot layouts None false (Some value) = refl
chain-warm_boot layouts (Some device) true setting = refl
chain-warm_boot layouts (Some device) false None = refl
chain-warm_boot layouts (Some device) false (Some value) = refl

chain-range : (layouts : Layouts) (device : Option DeviceName) (repeated : Bool) (setting : Option Range) → chain layouts device repeated (FrequencyRange setting) ≡ setting_refusal repeated (is_some setting)
chain-range layouts None true setting = refl
chain-range layouts None false None = refl
chain-range layouts None false (Some value) = refl
chain-range layouts (Some device) true setting = refl
chain-range layouts (Some device) false None = refl
chain-range layouts (Some device) false (Some value) = refl

chain-no_sleep : (layouts : Layouts) (device : Option DeviceName) (repeated : Bool) (setting : Option Bool) → chain layouts device repeated (NoSleep setting) ≡ setting_refusal repeated (is_some setting)
chain-no_sleep layouts None true setting = refl
chain-no_sleep layouts None false None = refl
chain-no_sleep layouts None false (Some value) = refl
chain-no_sleep layouts (Some device) true setting = refl
chain-no_sleep layouts (Some device) false None = refl
chain-no_sleep layouts (Some device) false (Some value) = refl

-- a tile that is there is asked for in the set
kind-then : (there : Option TileKind) (kind : TileKind) (repeated named : Bool) → ((other : TileKind) → there ≡ Some other → repeated ≡ named)
    → or_else (kind_cause there kind) (or_else (cause_if repeated Repeated) None) ≡ or_else (kind_cause there kind) (cause_if named Repeated)
kind-then None kind repeated named same = refl
kind-then (Some other) kind repeated named same =
    ap (λ cause. or_else (kind_cause (Some other) kind) cause) (or_else-none (cause_if repeated Repeated) ∙ ap (λ b. cause_if b Repeated) (same other refl))

chain-tile : (layouts : Layouts) (image : Option AnyImage) (kind : TileKind) (x y : ℕ) (repeated named : Bool) → (x < 34 → y < 34 → repeated ≡ named)
    → chain layouts (device_known image) repeated (Tile kind x y) ≡ or_else (tile_refusal image kind x y) (cause_if named Repeated)
chain-tile layouts None kind x y repeated named same = refl
chain-tile layouts (Some image) kind x y repeated named same =
    kind-then (kind_of (device_of image) x y) kind repeated named (λ other there. let inside = in_grid (device_of image) x y other there in same inside.0 inside.1)

chain-ram : (layouts : Layouts) (image : Option AnyImage) (x y : ℕ) (repeated named : Bool) → (x < 34 → y < 34 → repeated ≡ named)
    → chain layouts (device_known image) repeated (RamData x y) ≡ or_else (tile_refusal image RamB x y) (cause_if named Repeated)
chain-ram layouts None x y repeated named same = refl
chain-ram layouts (Some image) x y repeated named same =
    kind-then (kind_of (device_of image) x y) RamB repeated named (λ other there. let inside = in_grid (device_of image) x y other there in same inside.0 inside.1)

chain-extra : (layouts : Layouts) (lines : List (List ℕ)) (n : ℕ) (image : Option AnyImage) (bank x y : ℕ) → HasImage layouts lines n image → chain layouts (device_known image) false (ExtraBit bank x y) ≡ extra_refusal image bank x y
chain-extra layouts lines n None bank x y has = refl
chain-extra layouts lines n (Some image) bank x y has =
    let refusal : Layout → Option AscCause = λ layout. cause_if (not (is_extra layout (extra_place bank x y))) ExtraPlace in
    or_else-none (refusal (layout_for layouts (device_of image))) ∙ ap refusal (sym has.layout)

some-device : (image : Option AnyImage) → is_some (device_known image) ≡ is_some image
some-device None = refl
some-device (Some image) = refl

-- the device before a line is the image's
pub device_is : (lines : List (List ℕ)) (n : ℕ) (s : ReaderState) → HasGiven lines n s → device_before lines n ≡ device_known s.image
unfolding device_before
device_is lines n s has = has.device.first

-- what is wrong with a statement
statement_refused : (layouts : Layouts) (lines : List (List ℕ)) (n : ℕ) (s : ReaderState) → HasGiven lines n s → HasImage layouts lines n s.image → (statement : Statement) → statement_cause layouts lines n (Some statement) ≡ statement_refusal s statement
statement_refused layouts lines n s has image Comment = chain-comment layouts (device_before lines n)
statement_refused layouts lines n s has image (Symbol net) = chain-symbol layouts (device_before lines n) net
statement_refused layouts lines n s has image (Device name) =
    chain-device layouts (device_before lines n) (is_repeated lines n (Device name)) name
    ∙ ap (λ b. or_else (unknown_device (Device name)) (cause_if b Repeated)) (has.device.given ∙ some-device s.image)
statement_refused layouts lines n s has image (WarmBoot setting) =
    chain-warm_boot layouts (device_before lines n) (is_repeated lines n (WarmBoot setting)) setting
    ∙ ap (λ b. setting_refusal b (is_some setting)) has.warm_boot.given
statement_refused layouts lines n s has image (FrequencyRange setting) =
    chain-range layouts (device_before lines n) (is_repeated lines n (FrequencyRange setting)) setting
    ∙ ap (λ b. setting_refusal b (is_some setting)) has.range.given
statement_refused layouts lines n s has image (NoSleep setting) =
    chain-no_sleep layouts (device_before lines n) (is_repeated lines n (NoSleep setting)) setting
    ∙ ap (λ b. setting_refusal b (is_some setting)) has.no_sleep.given
statement_refused layouts lines n s has image (Tile kind x y) =
    ap (λ d. chain layouts d (is_repeated lines n (Tile kind x y)) (Tile kind x y)) (device_is lines n s has)
    ∙ chain-tile layouts s.image kind x y (is_repeated lines n (Tile kind x y)) (has_tile s.tiles x y) (λ column row. sym (has.tiles x y column row))
statement_refused layouts lines n s has image (RamData x y) =
    ap (λ d. chain layouts d (is_repeated lines n (RamData x y)) (RamData x y)) (device_is lines n s has)
    ∙ chain-ram layouts s.image x y (is_repeated lines n (RamData x y)) (has_tile s.rams x y) (λ column row. sym (has.rams x y column row))
statement_refused layouts lines n s has image (ExtraBit bank x y) =
    ap (λ d. chain layouts d false (ExtraBit bank x y)) (device_is lines n s has) ∙ chain-extra layouts lines n s.image bank x y image

dotted_refused : (layouts : Layouts) (lines : List (List ℕ)) (n : ℕ) (s : ReaderState) → HasGiven lines n s → HasImage layouts lines n s.image → (given : Option Statement) → statement_cause layouts lines n given ≡ dotted_refusal s given
dotted_refused layouts lines n s has image None = refl
dotted_refused layouts lines n s has image (Some statement) = statement_refused layouts lines n s has image statement

-- ---- lines

-- the statement that a line is, or among whose lines it is
pub over_is : (lines : List (List ℕ)) (n : ℕ) (s : ReaderState) (expected : Expected) → IsAt lines n s expected → statement_over lines n ≡ statement_of expected (line_at lines n)
unfolding statement_over
over_is lines n s AnyStatement stands = ap (λ k. statement_in (line_at lines k)) (omega (arith, stands))
over_is lines n s (Row kind x y row) stands = ap (λ d. statement_in (line_at lines (n - d))) stands.0 ∙ stands.1
over_is lines n s (Memory x y row) stands = ap (λ d. statement_in (line_at lines (n - d))) stands.0 ∙ stands.1

later : (row : ℕ) → nat_lt 0 (row + 1) ≡ true
later row = lt-ltb 0 (row + 1) (omega arith)

-- what is wrong with a line
refused_at : (layouts : Layouts) (lines : List (List ℕ)) (n : ℕ) (s : ReaderState) (expected : Expected) → HasGiven lines n s → HasImage layouts lines n s.image → HasComment lines n s.comment s.in_comment → IsAt lines n s expected → n < length lines → cause_at layouts lines n ≡ line_refusal s expected (line_at lines n)
unfolding cause_at
refused_at layouts lines n s AnyStatement given image comment stands within =
    let inside : nat_le (length lines) n ≡ false = grind (arith, nat_tests) in
    rw (stands, inside, comment.is_in, dotted_refused layouts lines n s given image (statement_in (line_at lines n))) refl
refused_at layouts lines n s (Row kind x y row) given image comment stands within =
    let over : statement_over lines n ≡ Some (Tile kind x y) = over_is lines n s (Row kind x y row) stands in
    rw (stands.0, later row, over) refl
refused_at layouts lines n s (Memory x y row) given image comment stands within =
    let over : statement_over lines n ≡ Some (RamData x y) = over_is lines n s (Memory x y row) stands in
    rw (stands.0, later row, over) refl

pub line_refused : (layouts : Layouts) (lines : List (List ℕ)) (n : ℕ) (s : ReaderState) → HasRead layouts lines n s → n < length lines → cause_at layouts lines n ≡ line_refusal s s.expected (line_at lines n)
line_refused layouts lines n s read within = refused_at layouts lines n s s.expected read.given read.image read.comment read.stands within

-- the fault of a line
pub line_fault : (layouts : Layouts) (lines : List (List ℕ)) (n : ℕ) (s : ReaderState) → HasRead layouts lines n s → n < length lines
    → fault_at layouts lines n ≡ fault_with (line_refusal s s.expected (line_at lines n)) (n + 1) (tile_named (statement_of s.expected (line_at lines n)))
line_fault layouts lines n s read within =
    ap (λ cause. fault_with cause (n + 1) (tile_named (statement_over lines n))) (line_refused layouts lines n s read within)
    ∙ ap (λ over. fault_with (line_refusal s s.expected (line_at lines n)) (n + 1) (tile_named over)) (over_is lines n s s.expected read.stands)

-- ---- the end

short_row : (kind : TileKind) → is_row (columns_of kind) (trimmed []) ≡ false
unfolding is_row trimmed
short_row Io = refl
short_row Logic = refl
short_row RamB = refl
short_row RamT = refl

short_memory : is_memory_line (trimmed []) ≡ false
unfolding is_memory_line trimmed
short_memory = refl

no_line : (lines : List (List ℕ)) → line_at lines (length lines) ≡ []
no_line lines = get_or_past lines (length lines) [] (omega arith)

end_device : (image : Option AnyImage) → end_cause (device_known image) ≡ cause_if (not (is_some image)) NoDevice
end_device None = refl
end_device (Some image) = refl

ended_at : (layouts : Layouts) (lines : List (List ℕ)) (s : ReaderState) (expected : Expected) → HasGiven lines (length lines) s → IsAt lines (length lines) s expected → cause_at layouts lines (length lines) ≡ end_refusal s expected
unfolding cause_at
ended_at layouts lines s AnyStatement given stands =
    let past : nat_le (length lines) (length lines) ≡ true = grind (arith, nat_tests) in
    rw (stands, past, device_is lines (length lines) s given) (end_device s.image)
ended_at layouts lines s (Row kind x y row) given stands =
    let over : statement_over lines (length lines) ≡ Some (Tile kind x y) = over_is lines (length lines) s (Row kind x y row) stands in
    rw (stands.0, later row, over, no_line lines, short_row kind) refl
ended_at layouts lines s (Memory x y row) given stands =
    let over : statement_over lines (length lines) ≡ Some (RamData x y) = over_is lines (length lines) s (Memory x y row) stands in
    rw (stands.0, later row, over, no_line lines, short_memory) refl

pub end_refused : (layouts : Layouts) (lines : List (List ℕ)) (s : ReaderState) → HasRead layouts lines (length lines) s → cause_at layouts lines (length lines) ≡ end_refusal s s.expected
end_refused layouts lines s read = ended_at layouts lines s s.expected read.given read.stands

-- the fault of the end
pub end_fault : (layouts : Layouts) (lines : List (List ℕ)) (s : ReaderState) → HasRead layouts lines (length lines) s
    → fault_at layouts lines (length lines) ≡ fault_with (end_refusal s s.expected) (length lines + 1) (tile_named (statement_of s.expected []))
end_fault layouts lines s read =
    ap (λ cause. fault_with cause (length lines + 1) (tile_named (statement_over lines (length lines)))) (end_refused layouts lines s read)
    ∙ ap (λ over. fault_with (end_refusal s s.expected) (length lines + 1) (tile_named over)) (over_is lines (length lines) s s.expected read.stands)
    ∙ ap (λ line. fault_with (end_refusal s s.expected) (length lines + 1) (tile_named (statement_of s.expected line))) (no_line lines)
