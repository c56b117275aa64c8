-- How deep a line is among the sixteen of a statement, by the line before it.
use Rattle.std.proofs.Common.{◌≡◌, ℕ, zero, suc, ◌+◌, ◌-◌, ◌<◌, ◌≤◌, Bool, true, false, not, ◌&&◌, ◌==◌, if◌then◌else◌, List, refl, inl, inr, arith, Option, Some, None}
use Rattle.std.proofs.lemmas.Bool.{cases_eq, cases_lt, ne_eqb, le-leb, lt-leb}
use Rattle.text_lines.specs.Lines.{line_at}
use Rattle.asc_text.specs.Statements.{statement_in}
use Rattle.asc_text.specs.Blocks.{has_rows, is_below, opened_before, depth_below, depth_at}

-- the depth of the line after one of that depth; `opens` says whether that one is a statement to which lines belong
abbrev pub depth_after : ℕ → Bool → ℕ
depth_after depth opens =
    if depth == 0 then (if opens then 1 else 0)
    else if depth == 16 then 0
    else depth + 1

-- ---- the last statement that opens

opened-here : (opens : Bool) (n k : ℕ) (found : Option ℕ) → (found ≡ Some k → k < n) → (if opens then Some n else found) ≡ Some k → k < suc n
opened-here true n k found before is = let same : n ≡ k = cc in omega arith
opened-here false n k found before is = let earlier : k < n = before is in omega arith

-- it stands before the line
opened-before : (lines : List (List ℕ)) (n k : ℕ) → opened_before lines n ≡ Some k → k < n
unfolding opened_before
opened-before lines zero k is = absurd cc
opened-before lines (suc n) k is =
    opened-here (has_rows (statement_in (line_at lines n)) && not (is_below (opened_before lines n) n)) n k (opened_before lines n) (opened-before lines n k) is

-- ---- one line further

first-below : (n : ℕ) → depth_below (Some n) (suc n) ≡ 1
first-below n = let one : suc n - n ≡ 1 = omega arith in rw (le-leb (suc n) (n + 16) (omega arith), one) refl

-- after a line among the sixteen
inner-next : (rows : Bool) (n k : ℕ) → k < n → n ≤ k + 16 → depth_below (Some k) (suc n) ≡ depth_after (n - k) rows
inner-next rows n k before near =
    elim (cases_eq (n - k) 16) [
      | inl last ↦ rw (lt-leb (suc n) (k + 16) (omega arith), last) refl
      | inr inner ↦
          let deeper : suc n - k ≡ n - k + 1 = omega arith in
          rw (le-leb (suc n) (k + 16) (omega arith), ne_eqb (n - k) 0 (λ none. omega arith), ne_eqb (n - k) 16 inner) deeper
    ]

step : (rows : Bool) (n : ℕ) (found : Option ℕ) → ((k : ℕ) → found ≡ Some k → k < n) → depth_below (if rows && not (is_below found n) then Some n else found) (suc n) ≡ depth_after (depth_below found n) rows
step true n None before = first-below n
step false n None before = refl
step true n (Some k) before =
    elim (cases_lt (k + 16) n) [
      | inl past ↦ rw (lt-leb n (k + 16) past) (first-below n)
      | inr near ↦ rw (le-leb n (k + 16) near) (inner-next true n k (before k refl) near)
    ]
step false n (Some k) before =
    elim (cases_lt (k + 16) n) [
      | inl past ↦ rw (lt-leb n (k + 16) past, lt-leb (suc n) (k + 16) (omega arith)) refl
      | inr near ↦ rw (le-leb n (k + 16) near) (inner-next false n k (before k refl) near)
    ]

-- ---- depths

-- the first line is among none
pub depth-first : (lines : List (List ℕ)) → depth_at lines 0 ≡ 0
unfolding depth_at opened_before
depth-first lines = refl

-- the next line
pub depth-step : (lines : List (List ℕ)) (n : ℕ) → depth_at lines (suc n) ≡ depth_after (depth_at lines n) (has_rows (statement_in (line_at lines n)))
unfolding depth_at opened_before
depth-step lines n = step (has_rows (statement_in (line_at lines n))) n (opened_before lines n) (opened-before lines n)

-- one line deeper
pub depth_after-next : (depth : ℕ) (opens : Bool) → 0 < depth → depth < 16 → depth_after depth opens ≡ depth + 1
depth_after-next depth opens some below = rw (ne_eqb depth 0 (λ e. omega arith), ne_eqb depth 16 (λ e. omega arith)) refl
