-- Lines in their usual form, taken one after the other.
use Rattle.std.proofs.Common.{◌≡◌, ℕ, suc, ◌+◌, ◌-◌, ◌<◌, ◌≤◌, ◌==◌, Bool, true, false, List, take, drop, refl, ap, subst, arith}
use Rattle.std.specs.Prelude.{Option, Some, None, if◌then◌else◌}
use Rattle.std.proofs.lemmas.Bool.{ne_eqb}
use Rattle.plane_map.specs.Layout.{columns_of}
use Rattle.plane_map.specs.declared.tile.TileKind.{TileKind}
use Rattle.ice_image.specs.declared.any.AnyImage.{AnyImage}
use Rattle.asc_text.specs.Rows.{is_row, is_memory_line, ram_line_bytes}
use Rattle.asc_text.specs.Meaning.{row_sets}
use Rattle.asc_text.specs.declared.reading.reader.Expected.{Expected}
use Rattle.asc_text.specs.declared.reading.reader.Expected.TheVariants.{Statement as AnyStatement, Row, Memory}
use Rattle.asc_text.specs.inside.Gains.{bytes_set}
use Rattle.asc_text.specs.inside.Reading.{ReaderState, GainsBits, TakesFirst, TakesBelow, TakesLines, row_refusal, memory_refusal, is_lf_at, before_row, before_memory}
use Rattle.asc_text.proofs.FirstLines.{taken-row, taken-memory}

-- a line of sixteen is not the end of them
not-end : (row : ℕ) → row < 16 → (row == 16) ≡ false
not-end row small = ne_eqb row 16 (λ is. absurd (omega arith))

-- what is kept, with another image and other lines expected
abbrev with_lines : ReaderState → Option AnyImage → Expected → ReaderState
with_lines s image expected = record s { image = image; expected = expected }

-- one line more of those from the first on
one-more : (s : ReaderState) (expected : ℕ → Expected) (first row : ℕ) (middle after : AnyImage) (text left rest : List ℕ) → first ≤ row
    → TakesLines s text (row - first) left (with_lines s (Some middle) (expected (first + (row - first))))
    → TakesFirst (with_lines s (Some middle) (expected row)) left rest (with_lines s (Some after) (expected (row + 1)))
    → TakesLines s text (row + 1 - first) rest (with_lines s (Some after) (expected (first + (row + 1 - first))))
one-more s expected first row middle after text left rest from taken took =
    let old : ℕ → ReaderState = λ n. with_lines s (Some middle) (expected n) in
    let new : ℕ → ReaderState = λ n. with_lines s (Some after) (expected n) in
    let here : row ≡ first + (row - first) = omega (arith, from) in
    let next : row + 1 ≡ first + suc (row - first) = omega (arith, from) in
    let later : suc (row - first) ≡ row + 1 - first = omega (arith, from) in
    let took_here : TakesFirst (old (first + (row - first))) left rest (new (row + 1)) = subst (λ (n : ℕ). TakesFirst (old n) left rest (new (row + 1))) here took in
    let took_next : TakesFirst (old (first + (row - first))) left rest (new (first + suc (row - first))) = subst (λ (n : ℕ). TakesFirst (old (first + (row - first))) left rest (new n)) next took_here in
    subst (λ (n : ℕ). TakesLines s text n rest (new (first + n))) later (left, old (first + (row - first)), taken, took_next)

-- ---- rows of a tile

before_row-row : (kind : TileKind) (x y row : ℕ) → row < 16 → before_row kind x y row ≡ Row kind x y row
before_row-row kind x y row small = ap (λ (b : Bool). if b then AnyStatement else Row kind x y row) (not-end row small)

-- one row
row-first : (s : ReaderState) (kind : TileKind) (x y row width : ℕ) (before after : AnyImage) (text : List ℕ) → row < 16 → columns_of kind ≡ width → is_lf_at text width ≡ true → is_row width (take width text) ≡ true
    → GainsBits before after (row_sets x y row (take width text))
    → TakesFirst (with_lines s (Some before) (before_row kind x y row)) text (drop (width + 1) text) (with_lines s (Some after) (before_row kind x y (row + 1)))
row-first s kind x y row width before after text small wide at is gains =
    let old : ReaderState = with_lines s (Some before) (before_row kind x y row) in
    let new : ReaderState = with_lines s (Some after) (before_row kind x y (row + 1)) in
    let fits : row_refusal kind (take width text) ≡ None = rw (wide, is) refl in
    taken-row old new text kind x y row width (before_row-row kind x y row small) at fits (refl, gains)

-- one more
pub more-rows : (kind : TileKind) (x y first row width : ℕ) (before : Option AnyImage) (middle after : AnyImage) (text left : List ℕ) → first ≤ row → row < 16 → columns_of kind ≡ width
    → TakesBelow (Row kind x y) first before text (row - first) left (Some middle) → is_lf_at left width ≡ true → is_row width (take width left) ≡ true
    → GainsBits middle after (row_sets x y row (take width left)) → TakesBelow (Row kind x y) first before text (row + 1 - first) (drop (width + 1) left) (Some after)
more-rows kind x y first row width before middle after text left from small wide taken at is gains s image expected =
    one-more s (before_row kind x y) first row middle after text left (drop (width + 1) left) from (taken s image expected) (row-first s kind x y row width middle after left small wide at is gains)

-- ---- lines of a RAM's contents

before_memory-memory : (x y row : ℕ) → row < 16 → before_memory x y row ≡ Memory x y row
before_memory-memory x y row small = ap (λ (b : Bool). if b then AnyStatement else Memory x y row) (not-end row small)

-- one line
memory-first : (s : ReaderState) (x y row : ℕ) (before after : AnyImage) (text : List ℕ) → row < 16 → is_lf_at text 64 ≡ true → is_memory_line (take 64 text) ≡ true → GainsBits before after (bytes_set x y row (ram_line_bytes (take 64 text)))
    → TakesFirst (with_lines s (Some before) (before_memory x y row)) text (drop 65 text) (with_lines s (Some after) (before_memory x y (row + 1)))
memory-first s x y row before after text small at is gains =
    let old : ReaderState = with_lines s (Some before) (before_memory x y row) in
    let new : ReaderState = with_lines s (Some after) (before_memory x y (row + 1)) in
    let fits : memory_refusal (take 64 text) ≡ None = rw is refl in
    taken-memory old new text x y row 64 (before_memory-memory x y row small) at fits (refl, gains)

-- one more
pub more-memory_lines : (x y first row : ℕ) (before : Option AnyImage) (middle after : AnyImage) (text left : List ℕ) → first ≤ row → row < 16
    → TakesBelow (Memory x y) first before text (row - first) left (Some middle) → is_lf_at left 64 ≡ true → is_memory_line (take 64 left) ≡ true
    → GainsBits middle after (bytes_set x y row (ram_line_bytes (take 64 left))) → TakesBelow (Memory x y) first before text (row + 1 - first) (drop 65 left) (Some after)
more-memory_lines x y first row before middle after text left from small taken at is gains s image expected =
    one-more s (before_memory x y) first row middle after text left (drop 65 left) from (taken s image expected) (memory-first s x y row middle after left small at is gains)
