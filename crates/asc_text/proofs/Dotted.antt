-- Lines by their first byte.
use Rattle.std.proofs.Common.{◌≡◌, ◌≢◌, ℕ, Bool, true, false, not, ◌||◌, ◌==◌, List, [], ◌∷◌, length, get_or, refl, sym, ap, ◌∙◌, inl, inr, arith}
use Rattle.std.specs.Prelude.{Option, Some, None}
use Rattle.std.specs.List.{list_all}
use Rattle.std.proofs.lemmas.Bool.{cases_Bool, and_parts, eqb-true, false≢true}
use Rattle.hex.specs.Hex.{is_hex_digit}
use Rattle.text_lines.specs.Lines.{trimmed}
use Rattle.text_lines.proofs.Blanks.{dot-trimmed}
use Rattle.plane_map.specs.Layout.{columns_of}
use Rattle.asc_text.specs.declared.statement.Statement.{Statement}
use Rattle.asc_text.specs.declared.statement.Statement.TheVariants.{Comment, Device, WarmBoot, FrequencyRange, NoSleep, Tile, RamData, ExtraBit, Symbol}
use Rattle.asc_text.specs.declared.fault.AscCause.{AscCause}
use Rattle.asc_text.specs.declared.fault.AscCause.TheVariants.{Row, Hex}
use Rattle.asc_text.specs.Statements.{statement_in, begins_with_dot}
use Rattle.asc_text.specs.Rows.{is_row, is_memory_line}
use Rattle.asc_text.specs.Blocks.{has_rows}
use Rattle.asc_text.specs.Faults.{cause_if, row_cause}

-- a line that doesn't begin with a dot is no statement
pub none_without_dot : (line : List ℕ) → begins_with_dot line ≡ false → statement_in line ≡ None
unfolding statement_in
none_without_dot line other = rw other refl

-- nor is a line without a byte
pub none_of_nothing : statement_in [] ≡ None
unfolding statement_in
none_of_nothing = refl

-- ---- lines of sixteen begin with no dot

no_dot : (test : ℕ → Bool) (line : List ℕ) → list_all test line ≡ true → test 46 ≡ false → (get_or line 0 0 ≢ 46)
no_dot test [] all other = λ e. absurd (omega (arith, e))
no_dot test (byte ∷ line) all other = λ e.
    let passes = (and_parts (test byte) (list_all test line) all).0 in
    let is : test 46 ≡ true = ap test (sym e) ∙ passes in
    absurd cc

-- a line whose bytes without the blanks at its end pass a test that a dot doesn't
dotless : (test : ℕ → Bool) (line : List ℕ) → list_all test (trimmed line) ≡ true → test 46 ≡ false → begins_with_dot line ≡ false
dotless test line all other =
    elim (cases_Bool (begins_with_dot line)) [
      | inl dot ↦ absurd (no_dot test (trimmed line) all other (dot-trimmed line (eqb-true _ _ dot)))
      | inr none ↦ none
    ]

pub row-dotless : (width : ℕ) (line : List ℕ) → is_row width (trimmed line) ≡ true → begins_with_dot line ≡ false
unfolding is_row
row-dotless width line is = dotless (λ byte. (byte == 48) || (byte == 49)) line ((and_parts (length (trimmed line) == width) (list_all (λ byte. (byte == 48) || (byte == 49)) (trimmed line)) is).1) refl

pub memory-dotless : (line : List ℕ) → is_memory_line (trimmed line) ≡ true → begins_with_dot line ≡ false
unfolding is_memory_line
memory-dotless line is = dotless is_hex_digit line ((and_parts (length (trimmed line) == 64) (list_all is_hex_digit (trimmed line)) is).1) refl

-- a test without which there would be a cause
pub passes : (b : Bool) (cause : AscCause) → cause_if (not b) cause ≡ None → b ≡ true
passes true cause none = refl
passes false cause none = absurd cc

-- a line below a statement that is as it should be
pub dotless-below : (over : Option Statement) (line : List ℕ) → has_rows over ≡ true → row_cause over (trimmed line) ≡ None → begins_with_dot line ≡ false
dotless-below None line rows none = absurd (false≢true rows)
dotless-below (Some Comment) line rows none = absurd (false≢true rows)
dotless-below (Some (Device device)) line rows none = absurd (false≢true rows)
dotless-below (Some (WarmBoot setting)) line rows none = absurd (false≢true rows)
dotless-below (Some (FrequencyRange setting)) line rows none = absurd (false≢true rows)
dotless-below (Some (NoSleep setting)) line rows none = absurd (false≢true rows)
dotless-below (Some (Tile kind x y)) line rows none = row-dotless (columns_of kind) line (passes (is_row (columns_of kind) (trimmed line)) Row none)
dotless-below (Some (RamData x y)) line rows none = memory-dotless line (passes (is_memory_line (trimmed line)) Hex none)
dotless-below (Some (ExtraBit bank x y)) line rows none = absurd (false≢true rows)
dotless-below (Some (Symbol net)) line rows none = absurd (false≢true rows)
