-- Lines of a text that are skipped up to the next RAM. Only contracts within this crate cite this.
use Rattle.std.specs.Prelude.{◌≡◌, ℕ, zero, suc, false, List, [], ◌∷◌, ◌++◌}
use Rattle.text_lines.specs.Lines.{lines_of, whole_lines_of}
use Rattle.asc_text.specs.Rams.{is_ram_line}

-- the first line of a text, which is not the statement of a RAM's contents, with its end, and the text after it
pub record PassesLine (text whole rest : List ℕ) : Type 0 where
  pub content : List ℕ
  pub lines : lines_of text ≡ content ∷ lines_of rest
  pub wholes : whole_lines_of text ≡ whole ∷ whole_lines_of rest
  pub other : is_ram_line content ≡ false

-- the first `count` lines of a text, none of which is such a statement, with their ends, and the text after them
abbrev pub PassesLines : List ℕ → ℕ → List ℕ → List ℕ → Type 0
PassesLines text zero passed rest = (passed ≡ []) × (rest ≡ text)
PassesLines text (suc count) passed rest =
    (before : List ℕ) × (whole : List ℕ) × (middle : List ℕ) × PassesLines text count before middle × PassesLine middle whole rest × (passed ≡ before ++ whole)

-- some number of such lines; they and the text after them make up the text
pub record Passes (text passed rest : List ℕ) : Type 0 where
  pub count : ℕ
  pub lines : PassesLines text count passed rest
  pub parts : text ≡ passed ++ rest
