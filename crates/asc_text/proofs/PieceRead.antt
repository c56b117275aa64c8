-- Lines as pieces: a statement with the lines that belong to it. What a piece says where it stands among the lines of a text.
use Rattle.std.proofs.Common.{◌≡◌, ℕ, zero, suc, ◌+◌, ◌-◌, ◌<◌, ◌≤◌, Bool, true, false, List, ◌∷◌, length, refl, sym, ap, ◌∙◌, arith, Some, None, if◌then◌else◌}
use Rattle.std.proofs.lemmas.Bool.{ne_eqb}
use Rattle.std.specs.Prelude.{All}
use Rattle.text_lines.specs.Lines.{line_at, trimmed}
use Rattle.text_lines.specs.Written.{IsPlain}
use Rattle.index_search.specs.Places.{any_below}
use Rattle.ice_image.specs.Bits.{Bit}
use Rattle.asc_text.specs.declared.statement.Statement.{Statement}
use Rattle.asc_text.specs.Statements.{statement_in, begins_with_dot}
use Rattle.asc_text.specs.Blocks.{has_rows, depth_at, statement_over, statement_at, is_comment}
use Rattle.asc_text.specs.Meaning.{sets_bit}
use Rattle.asc_text.proofs.Depths.{depth_after, depth-step, depth_after-next}

-- ---- pieces

-- a statement, its line, and the lines that belong to it
pub record Piece : Type 0 where
  pub statement : Statement
  pub head : List ℕ
  pub rows : List (List ℕ)

abbrev pub piece_lines : Piece → List (List ℕ)
piece_lines piece = piece.head ∷ piece.rows

-- how many lines belong to a statement
abbrev pub rows_below : Bool → ℕ
rows_below opens = if opens then 16 else 0

-- the line says the statement, which is no comment; the lines that belong to it follow, and none has a byte below the space
pub record IsPiece (piece : Piece) : Type 0 where
  pub spells : statement_in piece.head ≡ Some piece.statement
  pub dot : begins_with_dot piece.head ≡ true
  pub count : length piece.rows ≡ rows_below (has_rows (Some piece.statement))
  pub calm : is_comment (Some piece.statement) ≡ false
  pub plain : All IsPlain (piece_lines piece)

-- whether a line of a piece sets a bit
unfoldable pub piece_sets : Bit → Piece → Bool
piece_sets bit piece =
    any_below (suc (length piece.rows)) (λ r. sets_bit (Some piece.statement) r (trimmed (line_at (piece_lines piece) r)) bit)

-- ---- where a piece stands

-- the lines from one on begin with these
pub record Stands (lines : List (List ℕ)) (n : ℕ) (part : List (List ℕ)) : Type 0 where
  pub fits : n + length part ≤ length lines
  pub same : (k : ℕ) → k < length part → line_at lines (n + k) ≡ line_at part k

-- the first of them
line-head : (lines part : List (List ℕ)) (n : ℕ) (line : List ℕ) → Stands lines n (line ∷ part) → line_at lines n ≡ line
line-head lines part n line stands =
    let same : n + 0 ≡ n = omega arith in
    rw same at (stands.same 0 (omega arith))

-- a statement with a line below it has sixteen
opens-some : (opens : Bool) (count r : ℕ) → count ≡ rows_below opens → r < count → (opens ≡ true) × (r < 16)
opens-some true count r is below = (refl, omega arith)
opens-some false count r is below = absurd (omega arith)

-- how deep a line of a piece stands
depth-in : (lines : List (List ℕ)) (n : ℕ) (piece : Piece) → IsPiece piece → Stands lines n (piece_lines piece) → depth_at lines n ≡ 0
    → (r : ℕ) → r ≤ length piece.rows → depth_at lines (n + r) ≡ r
depth-in lines n piece is stands top zero within = let same : n + 0 ≡ n = omega arith in rw same top
depth-in lines n piece is stands top (suc zero) within =
    let next : n + 1 ≡ suc n = omega arith in
    let opens : has_rows (Some piece.statement) ≡ true = (opens-some (has_rows (Some piece.statement)) (length piece.rows) 0 is.count (omega arith)).0 in
    let says : statement_in (line_at lines n) ≡ Some piece.statement = ap statement_in (line-head lines piece.rows n piece.head stands) ∙ is.spells in
    rw next (depth-step lines n ∙ (λ i. depth_after (top i) (has_rows (says i))) ∙ ap (λ opens. depth_after 0 opens) opens)
depth-in lines n piece is stands top (suc (suc r)) within =
    let next : n + suc (suc r) ≡ suc (n + suc r) = omega arith in
    let below = opens-some (has_rows (Some piece.statement)) (length piece.rows) (suc r) is.count (omega arith) in
    let before : depth_at lines (n + suc r) ≡ suc r = depth-in lines n piece is stands top (suc r) (omega arith) in
    rw next (depth-step lines (n + suc r) ∙ ap (λ depth. depth_after depth (has_rows (statement_in (line_at lines (n + suc r))))) before ∙ depth_after-next (suc r) _ (omega arith) below.1 ∙ omega arith)

-- the depth after the last line of a piece
depth-after : (lines : List (List ℕ)) (n : ℕ) (opens : Bool) (count : ℕ) → count ≡ rows_below opens → depth_at lines (n + count) ≡ count
    → (0 ≡ count → has_rows (statement_in (line_at lines n)) ≡ opens) → depth_at lines (n + suc count) ≡ 0
depth-after lines n true count is last opens =
    let next : n + suc count ≡ suc (n + count) = omega arith in
    rw next (depth-step lines (n + count) ∙ ap (λ depth. depth_after depth (has_rows (statement_in (line_at lines (n + count))))) (last ∙ is))
depth-after lines n false count is last opens =
    let next : n + suc count ≡ suc n = omega arith in
    let same : n + count ≡ n = omega arith in
    let top : depth_at lines n ≡ 0 = ap (depth_at lines) (sym same) ∙ last ∙ is in
    let none : has_rows (statement_in (line_at lines n)) ≡ false = opens (sym is) in
    rw next (depth-step lines n ∙ (λ i. depth_after (top i) (none i)))

-- the line after a piece belongs to no statement
depth-next : (lines : List (List ℕ)) (n : ℕ) (piece : Piece) → IsPiece piece → Stands lines n (piece_lines piece) → depth_at lines n ≡ 0 → depth_at lines (n + suc (length piece.rows)) ≡ 0
depth-next lines n piece is stands top =
    depth-after lines n (has_rows (Some piece.statement)) (length piece.rows) is.count (depth-in lines n piece is stands top (length piece.rows) (omega arith))
    (λ none. ap has_rows (ap statement_in (line-head lines piece.rows n piece.head stands) ∙ is.spells))

-- what holds of the lines of a piece
pub record Says (lines : List (List ℕ)) (n : ℕ) (piece : Piece) : Type 0 where
  pub depth : (r : ℕ) → r ≤ length piece.rows → depth_at lines (n + r) ≡ r
  pub next : depth_at lines (n + suc (length piece.rows)) ≡ 0
  pub over : (r : ℕ) → r ≤ length piece.rows → statement_over lines (n + r) ≡ Some piece.statement
  pub here : statement_at lines n ≡ Some piece.statement
  pub below : (r : ℕ) → r < length piece.rows → statement_at lines (n + suc r) ≡ None

-- a piece that stands where no statement's lines are says that
pub says : (lines : List (List ℕ)) (n : ℕ) (piece : Piece) → IsPiece piece → Stands lines n (piece_lines piece) → depth_at lines n ≡ 0 → Says lines n piece
unfolding statement_over statement_at
says lines n piece is stands top =
    let spelled : statement_in (line_at lines n) ≡ Some piece.statement = ap statement_in (line-head lines piece.rows n piece.head stands) ∙ is.spells in
    record {
      depth = depth-in lines n piece is stands top;
      next = depth-next lines n piece is stands top;
      over = λ r within.
          let back : n + r - r ≡ n = omega arith in
          ap (λ depth. statement_in (line_at lines (n + r - depth))) (depth-in lines n piece is stands top r within)
          ∙ ap (λ k. statement_in (line_at lines k)) back ∙ spelled;
      here = rw top spelled;
      below = λ r within. rw (depth-in lines n piece is stands top (suc r) (omega arith), ne_eqb (suc r) 0 (λ e. omega arith)) refl;
    }
