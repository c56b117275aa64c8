-- The statement of a RAM in a text that can be read, and the tiles that it names.
use Rattle.std.proofs.Common.{◌≡◌, ◌≢◌, ℕ, ◌+◌, ◌-◌, ◌<◌, ◌≤◌, true, List, [], ◌∷◌, length, refl, sym, ap, ◌∙◌, subst, arith}
use Rattle.std.specs.Prelude.{Option, Some, None, bytes_eq}
use Rattle.std.proofs.lemmas.Bool.{and_parts, false≢true, lt-leb}
use Rattle.std.proofs.lemmas.Slice.Eq.{bytes_eq-Decides}
use Rattle.index_search.specs.Places.{first_below, or_else}
use Rattle.index_search.proofs.Places.{first_below-sum}
use Rattle.index_search.proofs.Found.{or_else-first}
use Rattle.text_lines.specs.Lines.{lines_of, line_at, trimmed}
use Rattle.text_lines.specs.Words.{after_word, first_word, numbers_of, words_of}
use Rattle.text_lines.specs.declared.words.Separators.TheVariants.{Spaces}
use Rattle.plane_map.specs.Layout.{kind_of, columns_in, IsTileBit}
use Rattle.plane_map.proofs.Words.{upper-tile}
use Rattle.plane_map.specs.declared.device.DeviceName.{DeviceName}
use Rattle.plane_map.specs.declared.tile.TileKind.{TileKind}
use Rattle.plane_map.specs.declared.tile.TileKind.TheVariants.{Io, Logic, RamB, RamT}
use Rattle.layout_file.specs.Layouts.{layout_for, standard_layouts}
use Rattle.layout_file.proofs.ByDevice.{standard-are}
use Rattle.ice_image.specs.Configuration.{Configuration}
use Rattle.ice_image.specs.Bits.{image_from}
use Rattle.asc_text.specs.declared.fault.TileXy.{TileXy}
use Rattle.asc_text.specs.declared.file.Symbol.{Symbol}
use Rattle.asc_text.specs.Statements.{begins_with_dot, ram_data_keyword, ram_data_of_numbers, spelled, statement_in}
use Rattle.asc_text.specs.Blocks.{depth_at, device_before, device_in, statement_at}
use Rattle.asc_text.specs.Faults.{cause_at, kind_cause, statement_cause, tile_named}
use Rattle.asc_text.specs.Meaning.{AscMeans, asc_image_of, image_before, image_for}
use Rattle.asc_text.specs.Rams.{is_ram_data}
use Rattle.asc_text.proofs.RamLines.{fine, ram_line-from}

-- ---- the numbers of the statement

-- the statement of a RAM's contents by the text after its first word
pub ram-spelled : (line : List ℕ) → is_ram_data (statement_in line) ≡ true → statement_in line ≡ ram_data_of_numbers (numbers_of (words_of Spaces (after_word Spaces (trimmed line))))
unfolding statement_in
ram-spelled line is =
    let parts = and_parts (begins_with_dot line) (bytes_eq (first_word Spaces (trimmed line)) ram_data_keyword) (ram_line-from line is) in
    let word = (bytes_eq-Decides (first_word Spaces (trimmed line)) ram_data_keyword).0 parts.1 in
    rw parts.0 (ap (λ w. spelled w (after_word Spaces (trimmed line))) word)

-- it has a first word
pub ram-word : (line : List ℕ) → is_ram_data (statement_in line) ≡ true → first_word Spaces (trimmed line) ≢ []
ram-word line is none =
    let parts = and_parts (begins_with_dot line) (bytes_eq (first_word Spaces (trimmed line)) ram_data_keyword) (ram_line-from line is) in
    let word : [] ≡ ram_data_keyword = sym none ∙ (bytes_eq-Decides (first_word Spaces (trimmed line)) ram_data_keyword).0 parts.1 in
    absurd cc

pub two-numbers : (numbers : Option (List ℕ)) → is_ram_data (ram_data_of_numbers numbers) ≡ true → (x : ℕ) × (y : ℕ) × (numbers ≡ Some (x ∷ y ∷ []))
two-numbers None is = absurd (false≢true is)
two-numbers (Some []) is = absurd (false≢true is)
two-numbers (Some (x ∷ [])) is = absurd (false≢true is)
two-numbers (Some (x ∷ y ∷ [])) is = (x, y, refl)
two-numbers (Some (x ∷ y ∷ z ∷ rest)) is = absurd (false≢true is)

-- and two numbers after it
pub ram-numbers : (line : List ℕ) → is_ram_data (statement_in line) ≡ true → (x : ℕ) × (y : ℕ) × (statement_in line ≡ ram_data_of_numbers (Some (x ∷ y ∷ [])))
ram-numbers line is =
    let spelled_so = ram-spelled line is in
    let numbers = numbers_of (words_of Spaces (after_word Spaces (trimmed line))) in
    let found = two-numbers numbers (subst (λ s. is_ram_data s ≡ true) spelled_so is) in
    (found.0, found.1, spelled_so ∙ ap ram_data_of_numbers found.2)

-- ---- the lower tile stands there

-- a test that gives no cause fails
no_cause : (there : Option TileKind) → kind_cause there RamB ≡ None → there ≡ Some RamB
no_cause None none = absurd cc
no_cause (Some Io) none = absurd cc
no_cause (Some Logic) none = absurd cc
no_cause (Some RamB) none = refl
no_cause (Some RamT) none = absurd cc

known : (lines : List (List ℕ)) (n x y : ℕ) (device : Option DeviceName) → device_before lines n ≡ device
    → statement_cause standard_layouts lines n (ram_data_of_numbers (Some (x ∷ y ∷ []))) ≡ None → (found : DeviceName) × (device_before lines n ≡ Some found) × (kind_of found x y ≡ Some RamB)
known lines n x y None is none =
    let clash = rw is at none in
    absurd cc
known lines n x y (Some found) is none = (found, is, no_cause (kind_of found x y) (or_else-first (kind_cause (kind_of found x y) RamB) _ (rw is at none)))

-- a first value stays the first
first_below-later : {A : Type 0} (n m : ℕ) (given : ℕ → Option A) (value : A) → first_below n given ≡ Some value → n ≤ m → first_below m given ≡ Some value
first_below-later n m given value is within =
    let more : n + (m - n) ≡ m = omega arith in
    ap (λ k. first_below k given) (sym more) ∙ first_below-sum n (m - n) given ∙ ap (λ v. or_else v (first_below (m - n) (λ k. given (n + k)))) is

-- nothing is wrong with the statement
faultless : (lines : List (List ℕ)) (n x y : ℕ) → cause_at standard_layouts lines n ≡ None → n < length lines → depth_at lines n ≡ 0
    → statement_in (line_at lines n) ≡ ram_data_of_numbers (Some (x ∷ y ∷ [])) → statement_cause standard_layouts lines n (ram_data_of_numbers (Some (x ∷ y ∷ []))) ≡ None
unfolding cause_at
faultless lines n x y none within flat is =
    let dot = (and_parts (begins_with_dot (line_at lines n)) _ (ram_line-from (line_at lines n) (ap is_ram_data is))).0 in
    let inside = lt-leb (length lines) n within in
    let told : statement_cause standard_layouts lines n (statement_in (line_at lines n)) ≡ None = rw (flat, inside, dot) at none in
    ap (statement_cause standard_layouts lines n) (sym is) ∙ told

-- the device before a line is that of the image
device-of : (text : List ℕ) (image : Configuration) (symbols : List Symbol) (n : ℕ) (found : DeviceName) → AscMeans standard_layouts text image symbols → n ≤ length (lines_of text)
    → device_before (lines_of text) n ≡ Some found → image.layout.device ≡ found
unfolding device_before asc_image_of image_from
device-of text image symbols n found means within is =
    let lines = lines_of text in
    let later : device_before lines (length lines) ≡ Some found = first_below-later n (length lines) (λ k. device_in (statement_at lines k)) found is within in
    let same : Some (image_before (layout_for standard_layouts found) lines (length lines)) ≡ Some image = sym (ap (λ d. image_for standard_layouts d lines) later) ∙ means.configures in
    let one : image_before (layout_for standard_layouts found) lines (length lines) ≡ image = cc in
    ap (λ (i : Configuration). i.layout.device) (sym one) ∙ standard-are found

pub lower-there : (text : List ℕ) (image : Configuration) (symbols : List Symbol) (n : ℕ) (ram : TileXy) → AscMeans standard_layouts text image symbols → n < length (lines_of text)
    → depth_at (lines_of text) n ≡ 0 → is_ram_data (statement_in (line_at (lines_of text) n)) ≡ true → tile_named (statement_in (line_at (lines_of text) n)) ≡ Some ram
    → kind_of image.layout.device ram.x ram.y ≡ Some RamB
lower-there text image symbols n ram means within flat is named =
    let lines = lines_of text in
    let numbers = ram-numbers (line_at lines n) is in
    let none = faultless lines n numbers.0 numbers.1 (fine standard_layouts text n means.accepted (omega arith)) within flat numbers.2 in
    let there = known lines n numbers.0 numbers.1 (device_before lines n) refl none in
    let same : Some (record { x = numbers.0; y = numbers.1 }) ≡ Some ram = sym (ap tile_named numbers.2) ∙ named in
    let one : record { x = numbers.0; y = numbers.1 } ≡ ram = cc in
    ap (λ d. kind_of d ram.x ram.y) (device-of text image symbols n there.0 means (omega arith) there.1)
    ∙ ap (λ (r : TileXy). kind_of there.0 r.x r.y) (sym one) ∙ there.2

-- ---- the upper tile

-- it has a column 7
pub upper-bit : (device : DeviceName) (x y row : ℕ) → kind_of device x y ≡ Some RamB → row < 16 → IsTileBit device (record { x = x; y = y + 1; row = row; col = 7 })
upper-bit device x y row lower few = record {
  row_in = few;
  col_in = subst (λ kind. 7 < columns_in kind) (sym (upper-tile device x y lower)) (omega arith);
}
