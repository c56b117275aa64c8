-- What is kept after a line is what the lines say with that line.
use Rattle.std.proofs.Common.{◌≡◌, ◌≢◌, ℕ, ◌+◌, ◌-◌, ◌<◌, Bool, true, false, not, ◌&&◌, if◌then◌else◌, List, length, refl, sym, ap, ◌∙◌, subst, inl, inr, arith, add-one}
use Rattle.std.specs.Prelude.{Option, Some, None, nat_lt}
use Rattle.std.proofs.lemmas.Bool.{cases_Bool, cases_eq, eq-eqb, ne_eqb, lt-ltb, and_parts}
use Rattle.text_lines.specs.Lines.{line_at, trimmed}
use Rattle.layout_file.specs.declared.layouts.Layouts.{Layouts}
use Rattle.plane_map.specs.Layout.{kind_of, columns_of}
use Rattle.plane_map.specs.declared.tile.TileKind.{TileKind}
use Rattle.plane_map.specs.declared.tile.TileKind.TheVariants.{RamB}
use Rattle.ice_image.specs.Either.{device_of}
use Rattle.ice_image.specs.declared.any.AnyImage.{AnyImage}
use Rattle.asc_text.specs.declared.statement.Statement.TheVariants.{Tile, RamData}
use Rattle.asc_text.specs.declared.fault.AscCause.TheVariants.{Row as RowCause, Hex}
use Rattle.asc_text.specs.declared.reading.reader.Expected.{Expected}
use Rattle.asc_text.specs.declared.reading.reader.Expected.TheVariants.{Statement as AnyStatement, Row, Memory}
use Rattle.asc_text.specs.Statements.{statement_in, begins_with_dot}
use Rattle.asc_text.specs.Rows.{is_row, is_memory_line, ram_line_bytes}
use Rattle.asc_text.specs.inside.Gains.{bytes_set}
use Rattle.asc_text.specs.Meaning.{row_sets, line_sets}
use Rattle.asc_text.proofs.Depths.{depth_after, depth-step}
use Rattle.asc_text.proofs.Gains.{bytes-line}
use Rattle.ice_image.specs.Bits.{Bit}
use Rattle.asc_text.specs.Blocks.{depth_at, statement_over, statement_at, has_rows}
use Rattle.asc_text.specs.Faults.{cause_at, cause_if}
use Rattle.asc_text.specs.inside.Reading.{ReaderState, HasKind, ImageGains, TakesRow, TakesMemory, before_row, before_memory, after_text, with_line}
use Rattle.asc_text.proofs.Dotted.{none_without_dot, passes, row-dotless, memory-dotless}
use Rattle.asc_text.proofs.HasRead.{HasRead, HasComment, HasImage, IsAt, device_known}
use Rattle.asc_text.proofs.Given.{Follows, HasGiven-more}
use Rattle.asc_text.proofs.CommentSteps.{comment-passes, comment-goes_on}
use Rattle.asc_text.proofs.ImageSteps.{image-stays, image-gains}
use Rattle.asc_text.proofs.Refusals.{over_is}

-- ---- places

pub depth-more : (lines : List (List ℕ)) (n : ℕ) → depth_at lines (n + 1) ≡ depth_after (depth_at lines n) (has_rows (statement_in (line_at lines n)))
depth-more lines n = rw add-one (depth-step lines n)

-- a line of the sixteen is no statement
at-row : (lines : List (List ℕ)) (n row : ℕ) → depth_at lines n ≡ row + 1 → statement_at lines n ≡ None
unfolding statement_at
at-row lines n row depth = rw (depth, ne_eqb (row + 1) 0 (λ none. absurd (omega arith))) refl

pub at-statement : (lines : List (List ℕ)) (n : ℕ) → depth_at lines n ≡ 0 → statement_at lines n ≡ statement_in (line_at lines n)
unfolding statement_at
at-statement lines n depth = rw depth refl

-- the depth after a row
depth-last : (lines : List (List ℕ)) (n row : ℕ) → depth_at lines n ≡ row + 1 → row ≡ 15 → depth_at lines (n + 1) ≡ 0
depth-last lines n row depth last =
    let sixteen : row + 1 ≡ 16 = omega arith in
    depth-more lines n ∙ rw (depth, sixteen) refl

depth-next : (lines : List (List ℕ)) (n row : ℕ) → depth_at lines n ≡ row + 1 → (row ≢ 15) → depth_at lines (n + 1) ≡ row + 1 + 1
depth-next lines n row depth other =
    depth-more lines n ∙ rw (depth, ne_eqb (row + 1) 0 (λ none. absurd (omega arith)), ne_eqb (row + 1) 16 (λ last. other (omega arith))) refl

-- all lines so far fit, and one more
pub fit-more : (layouts : Layouts) (lines : List (List ℕ)) (n : ℕ) → ((k : ℕ) → k < n → cause_at layouts lines k ≡ None) → cause_at layouts lines n ≡ None → (k : ℕ) → k < n + 1 → cause_at layouts lines k ≡ None
fit-more layouts lines n fit here k lt =
    elim (cases_eq k n) [
      | inl last ↦ ap (cause_at layouts lines) last ∙ here
      | inr before ↦ fit k (omega arith)
    ]

-- ---- a line of sixteen

-- the same device, and so the same tiles
pub same_device : (before after : Option AnyImage) (is_set : Bit → Bool) → ImageGains before after is_set → device_known after ≡ device_known before
same_device None after is_set gains = absurd gains
same_device (Some before) None is_set gains = absurd gains
same_device (Some before) (Some after) is_set gains = ap (λ d. Some d) gains.device

same_kind : (before after : Option AnyImage) (x y : ℕ) (kind : TileKind) → device_known after ≡ device_known before → HasKind before x y kind → HasKind after x y kind
same_kind None after x y kind same has = absurd has
same_kind (Some before) None x y kind same has = absurd cc
same_kind (Some before) (Some after) x y kind same has =
    let device : device_of after ≡ device_of before = cc in
    ap (λ d. kind_of d x y) device ∙ has

-- what is kept after one
abbrev moved : ReaderState → Option AnyImage → Expected → ReaderState
moved s image expected = record s { image = image; expected = expected }

-- it gives nothing but bits
follows-row : (s : ReaderState) (image : Option AnyImage) (expected : Expected) → device_known image ≡ device_known s.image → Follows s None (moved s image expected)
follows-row s image expected same = record {
  warm_boot = refl;
  warm_boot_known = refl;
  range = refl;
  range_known = refl;
  no_sleep = refl;
  no_sleep_known = refl;
  device = same;
  device_known = refl;
  tiles = refl;
  rams = refl;
}

row_step : (layouts : Layouts) (lines : List (List ℕ)) (n row : ℕ) (s : ReaderState) (image : Option AnyImage) (expected : Expected) → HasRead layouts lines n s → depth_at lines n ≡ row + 1 → s.in_comment ≡ false
    → cause_at layouts lines n ≡ None → begins_with_dot (line_at lines n) ≡ false → device_known image ≡ device_known s.image → HasImage layouts lines (n + 1) image → IsAt lines (n + 1) (moved s image expected) expected
    → HasRead layouts lines (n + 1) (moved s image expected)
row_step layouts lines n row s image expected read depth outside fits dot same has stands = record {
  devices = read.devices;
  under = read.under;
  fit = fit-more layouts lines n read.fit fits;
  stands = stands;
  given = HasGiven-more lines n s (moved s image expected) None read.given (at-row lines n row depth) (follows-row s image expected same);
  image = has;
  comment = comment-passes lines n s.comment s.in_comment read.comment dot (at-row lines n row depth) (rw outside refl);
}

-- where the line after a row stands
row-stands : (lines : List (List ℕ)) (n x y row : ℕ) (kind : TileKind) (s : ReaderState) (image : Option AnyImage) → IsAt lines n s (Row kind x y row) → device_known image ≡ device_known s.image
    → IsAt lines (n + 1) (moved s image (before_row kind x y (row + 1))) (before_row kind x y (row + 1))
row-stands lines n x y row kind s image stands same =
    let at : Expected → Type 0 = λ e. IsAt lines (n + 1) (moved s image e) e in
    elim (cases_eq row 15) [
      | inl last ↦
          let next : before_row kind x y (row + 1) ≡ AnyStatement = rw (eq-eqb (row + 1) 16 (omega (arith, last))) refl in
          subst at (sym next) (depth-last lines n row stands.0 last)
      | inr other ↦
          let next : before_row kind x y (row + 1) ≡ Row kind x y (row + 1) = rw (ne_eqb (row + 1) 16 (λ is. other (omega (arith, is)))) refl in
          subst at (sym next) (
            depth-next lines n row stands.0 other,
            ap (λ k. statement_in (line_at lines k)) (omega arith) ∙ stands.1,
            same_kind s.image image x y kind same stands.2,
            omega (arith, stands.3, other),
            stands.4,
          )
    ]

memory-stands : (lines : List (List ℕ)) (n x y row : ℕ) (s : ReaderState) (image : Option AnyImage) → IsAt lines n s (Memory x y row) → device_known image ≡ device_known s.image
    → IsAt lines (n + 1) (moved s image (before_memory x y (row + 1))) (before_memory x y (row + 1))
memory-stands lines n x y row s image stands same =
    let at : Expected → Type 0 = λ e. IsAt lines (n + 1) (moved s image e) e in
    elim (cases_eq row 15) [
      | inl last ↦
          let next : before_memory x y (row + 1) ≡ AnyStatement = rw (eq-eqb (row + 1) 16 (omega (arith, last))) refl in
          subst at (sym next) (depth-last lines n row stands.0 last)
      | inr other ↦
          let next : before_memory x y (row + 1) ≡ Memory x y (row + 1) = rw (ne_eqb (row + 1) 16 (λ is. other (omega (arith, is)))) refl in
          subst at (sym next) (
            depth-next lines n row stands.0 other,
            ap (λ k. statement_in (line_at lines k)) (omega arith) ∙ stands.1,
            same_kind s.image image x y RamB same stands.2,
            omega (arith, stands.3, other),
            stands.4,
          )
    ]

and-true : (a : Bool) → (a && true) ≡ a
and-true true = refl
and-true false = refl

later : (row : ℕ) → nat_lt 0 (row + 1) ≡ true
later row = lt-ltb 0 (row + 1) (omega arith)

before : (row : ℕ) → row + 1 - 1 ≡ row
before row = omega arith

-- a row of a tile
pub took-row : (layouts : Layouts) (lines : List (List ℕ)) (n x y row : ℕ) (kind : TileKind) (s new : ReaderState) → HasRead layouts lines n s → IsAt lines n s (Row kind x y row) → cause_at layouts lines n ≡ None
    → cause_if (not (is_row (columns_of kind) (trimmed (line_at lines n)))) RowCause ≡ None → TakesRow s kind x y row (trimmed (line_at lines n)) new → HasRead layouts lines (n + 1) new
took-row layouts lines n x y row kind s new read stands fits refusal takes =
    let line = trimmed (line_at lines n) in
    let over : statement_over lines n ≡ Some (Tile kind x y) = over_is lines n s (Row kind x y row) stands in
    let same : device_known new.image ≡ device_known s.image = same_device s.image new.image (row_sets x y row line) takes.1 in
    let dot : begins_with_dot (line_at lines n) ≡ false = row-dotless (columns_of kind) (line_at lines n) (passes (is_row (columns_of kind) line) RowCause refusal) in
    let has_read : ReaderState → Type 0 = λ t. HasRead layouts lines (n + 1) t in
    let bits : HasImage layouts lines (n + 1) new.image = image-gains layouts lines n s.image new.image (row_sets x y row line) read.image takes.1
    (λ bit. sym (rw (over, stands.0, later row, before row) (and-true (row_sets x y row line bit)))) in
    subst has_read (sym takes.0) (row_step layouts lines n row s new.image (before_row kind x y (row + 1)) read stands.0 stands.4 fits dot same bits (row-stands lines n x y row kind s new.image stands same))

-- a line of the contents of a RAM
pub took-memory : (layouts : Layouts) (lines : List (List ℕ)) (n x y row : ℕ) (s new : ReaderState) → HasRead layouts lines n s → IsAt lines n s (Memory x y row) → cause_at layouts lines n ≡ None
    → cause_if (not (is_memory_line (trimmed (line_at lines n)))) Hex ≡ None → TakesMemory s x y row (trimmed (line_at lines n)) new → HasRead layouts lines (n + 1) new
took-memory layouts lines n x y row s new read stands fits refusal takes =
    let line = trimmed (line_at lines n) in
    let over : statement_over lines n ≡ Some (RamData x y) = over_is lines n s (Memory x y row) stands in
    let same : device_known new.image ≡ device_known s.image = same_device s.image new.image (bytes_set x y row (ram_line_bytes line)) takes.1 in
    let dot : begins_with_dot (line_at lines n) ≡ false = memory-dotless (line_at lines n) (passes (is_memory_line line) Hex refusal) in
    let has_read : ReaderState → Type 0 = λ t. HasRead layouts lines (n + 1) t in
    let bits : HasImage layouts lines (n + 1) new.image = image-gains layouts lines n s.image new.image (bytes_set x y row (ram_line_bytes line)) read.image takes.1
    (λ bit. bytes-line x y row line bit ∙ sym (rw (over, stands.0, later row, before row) (and-true (line_sets x y row line bit)))) in
    subst has_read (sym takes.0) (row_step layouts lines n row s new.image (before_memory x y (row + 1)) read stands.0 stands.4 fits dot same bits (memory-stands lines n x y row s new.image stands same))

-- ---- a line that is no statement

follows-text : (s : ReaderState) (line : List ℕ) → Follows s None (after_text s line)
follows-text s line = record {
  warm_boot = refl;
  warm_boot_known = refl;
  range = refl;
  range_known = refl;
  no_sleep = refl;
  no_sleep_known = refl;
  device = refl;
  device_known = refl;
  tiles = refl;
  rams = refl;
}

-- the comment after it
text-comment : (lines : List (List ℕ)) (n : ℕ) (comment : Option (List (List ℕ))) (in_comment : Bool) → HasComment lines n comment in_comment → begins_with_dot (line_at lines n) ≡ false → statement_at lines n ≡ None
    → HasComment lines (n + 1) (if in_comment && nat_lt 0 (length (line_at lines n)) then with_line comment (line_at lines n) else comment) in_comment
text-comment lines n comment in_comment has dot here =
    let is : Option (List (List ℕ)) → Type 0 = λ c. HasComment lines (n + 1) c in_comment in
    let line = line_at lines n in
    elim (cases_Bool (in_comment && nat_lt 0 (length line))) [
      | inl inside ↦
          let parts = and_parts in_comment (nat_lt 0 (length line)) inside in
          let added : (if in_comment && nat_lt 0 (length line) then with_line comment line else comment) ≡ with_line comment line = rw inside refl in
          subst is (sym added) (comment-goes_on lines n comment in_comment has dot here parts.0 parts.1)
      | inr outside ↦
          let same : (if in_comment && nat_lt 0 (length line) then with_line comment line else comment) ≡ comment = rw outside refl in
          subst is (sym same) (comment-passes lines n comment in_comment has dot here outside)
    ]

pub took-text : (layouts : Layouts) (lines : List (List ℕ)) (n : ℕ) (s new : ReaderState) → HasRead layouts lines n s → s.expected ≡ AnyStatement → depth_at lines n ≡ 0 → cause_at layouts lines n ≡ None → begins_with_dot (line_at lines n) ≡ false
    → new ≡ after_text s (line_at lines n) → HasRead layouts lines (n + 1) new
took-text layouts lines n s new read expected depth fits dot takes =
    let line = line_at lines n in
    let none : statement_in line ≡ None = none_without_dot line dot in
    let here : statement_at lines n ≡ None = at-statement lines n depth ∙ none in
    let over : statement_over lines n ≡ None = over_is lines n s AnyStatement depth ∙ none in
    let has_read : ReaderState → Type 0 = λ t. HasRead layouts lines (n + 1) t in
    let at : Expected → Type 0 = λ e. IsAt lines (n + 1) (after_text s line) e in
    let next : depth_at lines (n + 1) ≡ 0 = depth-more lines n ∙ rw (depth, none) refl in
    subst has_read (sym takes) (record {
      devices = read.devices;
      under = read.under;
      fit = fit-more layouts lines n read.fit fits;
      stands = subst at (sym expected) next;
      given = HasGiven-more lines n s (after_text s line) None read.given here (follows-text s line);
      image = image-stays layouts lines n s.image read.image (λ bit. rw over refl);
      comment = text-comment lines n s.comment s.in_comment read.comment dot here;
    })
