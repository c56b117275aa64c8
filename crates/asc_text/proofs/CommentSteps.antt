-- The comment, with one line more.
use Rattle.std.proofs.Common.{◌≡◌, ℕ, ◌+◌, ◌<◌, Bool, true, false, not, ◌&&◌, List, [], ◌∷◌, ◌++◌, length, append-nil, refl, sym, ap, ◌∙◌, inl, inr, arith}
use Rattle.std.specs.Prelude.{Option, Some, None, nat_lt}
use Rattle.std.proofs.lemmas.Bool.{cases_Bool, eq-eqb, ne_eqb}
use Rattle.std.proofs.Math.Bool.{and-false}
use Rattle.text_lines.specs.Lines.{line_at}
use Rattle.index_search.specs.Places.{last_below, gathered_below}
use Rattle.index_search.proofs.Places.{last_below-more, last_below-place, gathered_below-more, gathered_below-none}
use Rattle.asc_text.specs.declared.statement.Statement.TheVariants.{Comment}
use Rattle.asc_text.specs.Statements.{statement_in, begins_with_dot}
use Rattle.asc_text.specs.Blocks.{statement_at, dot_before, is_comment}
use Rattle.asc_text.specs.Faults.{is_in_comment}
use Rattle.asc_text.specs.Meaning.{comment_before, comment_from, comment_line, is_that_line}
use Rattle.asc_text.specs.inside.Reading.{with_line}
use Rattle.asc_text.proofs.HasRead.{HasComment, comment_start}

-- ---- the last dot, and where the last comment begins

dot-here : (lines : List (List ℕ)) (n : ℕ) → begins_with_dot (line_at lines n) ≡ true → dot_before lines (n + 1) ≡ Some n
unfolding dot_before
dot-here lines n dot = last_below-more n (λ k. begins_with_dot (line_at lines k)) ∙ rw dot refl

dot-not_here : (lines : List (List ℕ)) (n : ℕ) → begins_with_dot (line_at lines n) ≡ false → dot_before lines (n + 1) ≡ dot_before lines n
unfolding dot_before
dot-not_here lines n dot = last_below-more n (λ k. begins_with_dot (line_at lines k)) ∙ rw dot refl

start-here : (lines : List (List ℕ)) (n : ℕ) → is_comment (statement_at lines n) ≡ true → comment_start lines (n + 1) ≡ Some n
start-here lines n here = last_below-more n (λ k. is_comment (statement_at lines k)) ∙ rw here refl

start-not_here : (lines : List (List ℕ)) (n : ℕ) → is_comment (statement_at lines n) ≡ false → comment_start lines (n + 1) ≡ comment_start lines n
start-not_here lines n other = last_below-more n (λ k. is_comment (statement_at lines k)) ∙ rw other refl

-- the last dot stands before the line
dot-place : (lines : List (List ℕ)) (n start : ℕ) → dot_before lines n ≡ Some start → start < n
unfolding dot_before
dot-place lines n start is = (last_below-place n start (λ k. begins_with_dot (line_at lines k)) is).0

start-place : (lines : List (List ℕ)) (n start : ℕ) → comment_start lines n ≡ Some start → start < n
start-place lines n start is = (last_below-place n start (λ k. is_comment (statement_at lines k)) is).0

-- ---- the lines of a comment

-- a line that is none of it
comment_from-same : (lines : List (List ℕ)) (n : ℕ) (start : Option ℕ) → ((place : ℕ) → start ≡ Some place → comment_line lines place n ≡ []) → comment_from lines (n + 1) start ≡ comment_from lines n start
comment_from-same lines n None none = refl
comment_from-same lines n (Some place) none =
    ap (λ found. Some found) (gathered_below-more n (comment_line lines place)
    ∙ ap (λ more. gathered_below n (comment_line lines place) ++ more) (none place refl)
    ∙ append-nil (gathered_below n (comment_line lines place)))

-- a line that is one of it
comment_from-more : (lines : List (List ℕ)) (n : ℕ) (start : Option ℕ) → ((place : ℕ) → start ≡ Some place → comment_line lines place n ≡ line_at lines n ∷ []) → comment_from lines (n + 1) start ≡ with_line (comment_from lines n start) (line_at lines n)
comment_from-more lines n None more = refl
comment_from-more lines n (Some place) more =
    ap (λ found. Some found) (gathered_below-more n (comment_line lines place)
    ∙ ap (λ more. gathered_below n (comment_line lines place) ++ more) (more place refl))

-- a line that begins with a dot is none of a comment
comment_line-dot : (lines : List (List ℕ)) (place n : ℕ) → begins_with_dot (line_at lines n) ≡ true → comment_line lines place n ≡ []
comment_line-dot lines place n dot = rw (dot, and-false (is_that_line (dot_before lines n) place)) refl

-- nor one after another dot than the comment's
comment_line-other : (lines : List (List ℕ)) (place n : ℕ) → is_that_line (dot_before lines n) place ≡ false → comment_line lines place n ≡ []
comment_line-other lines place n other = rw other refl

-- nor one without a byte
comment_line-empty : (lines : List (List ℕ)) (place n : ℕ) → nat_lt 0 (length (line_at lines n)) ≡ false → comment_line lines place n ≡ []
comment_line-empty lines place n empty = rw (empty, and-false (is_that_line (dot_before lines n) place && not (begins_with_dot (line_at lines n)))) refl

comment_line-is : (lines : List (List ℕ)) (place n : ℕ) → is_that_line (dot_before lines n) place ≡ true → begins_with_dot (line_at lines n) ≡ false → nat_lt 0 (length (line_at lines n)) ≡ true → comment_line lines place n ≡ line_at lines n ∷ []
comment_line-is lines place n below dot some = rw (below, dot, some) refl

-- a later start has no lines before it
is_that_line-earlier : (found : Option ℕ) (n : ℕ) → ((place : ℕ) → found ≡ Some place → place < n) → is_that_line found n ≡ false
is_that_line-earlier None n before = refl
is_that_line-earlier (Some place) n before = ne_eqb place n (λ same. absurd (omega (arith, before place refl, same)))

-- ---- steps

-- a statement that begins a comment
pub comment-begins : (lines : List (List ℕ)) (n : ℕ) → begins_with_dot (line_at lines n) ≡ true → statement_at lines n ≡ Some Comment → statement_in (line_at lines n) ≡ Some Comment → HasComment lines (n + 1) (Some []) true
unfolding comment_before
comment-begins lines n dot here said =
    let start : comment_start lines (n + 1) ≡ Some n = start-here lines n (ap is_comment here) in
    let last : dot_before lines (n + 1) ≡ Some n = dot-here lines n dot in
    let none : (k : ℕ) → k < n + 1 → comment_line lines n k ≡ [] = λ k lt. comment_line-other lines n k (is_that_line-earlier (dot_before lines k) n (λ place is. omega (arith, lt, dot-place lines k place is))) in
    record {
      lines_are = ap (comment_from lines (n + 1)) start ∙ ap (λ found. Some found) (gathered_below-none (n + 1) (comment_line lines n) none);
      is_in = ap (is_in_comment lines) last ∙ ap is_comment said;
      is_last = λ place is.
          let same : Some n ≡ Some place = sym start ∙ is in
          ap (λ found. is_that_line found place) last ∙ eq-eqb n place cc;
    }

-- another statement
pub comment-ends : (lines : List (List ℕ)) (n : ℕ) (comment : Option (List (List ℕ))) (in_comment : Bool) → HasComment lines n comment in_comment → begins_with_dot (line_at lines n) ≡ true
    → is_comment (statement_at lines n) ≡ false → is_comment (statement_in (line_at lines n)) ≡ false → HasComment lines (n + 1) comment false
unfolding comment_before
comment-ends lines n comment in_comment has dot here said =
    let start : comment_start lines (n + 1) ≡ comment_start lines n = start-not_here lines n here in
    let last : dot_before lines (n + 1) ≡ Some n = dot-here lines n dot in
    record {
      lines_are = ap (comment_from lines (n + 1)) start ∙ comment_from-same lines n (comment_start lines n) (λ place is. comment_line-dot lines place n dot) ∙ has.lines_are;
      is_in = ap (is_in_comment lines) last ∙ said;
      is_last = λ place is.
          let before : place < n = start-place lines n place (sym start ∙ is) in
          ap (λ found. is_that_line found place) last ∙ ne_eqb n place (λ same. absurd (omega (arith, before, same)));
    }

-- a line that is no statement and none of a comment
pub comment-passes : (lines : List (List ℕ)) (n : ℕ) (comment : Option (List (List ℕ))) (in_comment : Bool) → HasComment lines n comment in_comment → begins_with_dot (line_at lines n) ≡ false → statement_at lines n ≡ None
    → (in_comment && nat_lt 0 (length (line_at lines n))) ≡ false → HasComment lines (n + 1) comment in_comment
unfolding comment_before
comment-passes lines n comment in_comment has dot here none =
    let start : comment_start lines (n + 1) ≡ comment_start lines n = start-not_here lines n (ap is_comment here) in
    let last : dot_before lines (n + 1) ≡ dot_before lines n = dot-not_here lines n dot in
    let empty : (place : ℕ) → comment_start lines n ≡ Some place → comment_line lines place n ≡ [] = λ place is.
    elim (cases_Bool in_comment) [
      | inl inside ↦ comment_line-empty lines place n (rw inside at none)
      | inr outside ↦ comment_line-other lines place n (has.is_last place is ∙ outside)
    ] in
    record {
      lines_are = ap (comment_from lines (n + 1)) start ∙ comment_from-same lines n (comment_start lines n) empty ∙ has.lines_are;
      is_in = ap (is_in_comment lines) last ∙ has.is_in;
      is_last = λ place is. ap (λ found. is_that_line found place) last ∙ has.is_last place (sym start ∙ is);
    }

-- a line of a comment
pub comment-goes_on : (lines : List (List ℕ)) (n : ℕ) (comment : Option (List (List ℕ))) (in_comment : Bool) → HasComment lines n comment in_comment → begins_with_dot (line_at lines n) ≡ false → statement_at lines n ≡ None
    → in_comment ≡ true → nat_lt 0 (length (line_at lines n)) ≡ true → HasComment lines (n + 1) (with_line comment (line_at lines n)) in_comment
unfolding comment_before
comment-goes_on lines n comment in_comment has dot here inside some =
    let start : comment_start lines (n + 1) ≡ comment_start lines n = start-not_here lines n (ap is_comment here) in
    let last : dot_before lines (n + 1) ≡ dot_before lines n = dot-not_here lines n dot in
    record {
      lines_are = ap (comment_from lines (n + 1)) start
          ∙ comment_from-more lines n (comment_start lines n) (λ place is. comment_line-is lines place n (has.is_last place is ∙ inside) dot some)
          ∙ ap (λ found. with_line found (line_at lines n)) has.lines_are;
      is_in = ap (is_in_comment lines) last ∙ has.is_in;
      is_last = λ place is. ap (λ found. is_that_line found place) last ∙ has.is_last place (sym start ∙ is);
    }

-- nothing was read
pub HasComment-none : (lines : List (List ℕ)) → HasComment lines 0 None false
unfolding comment_before dot_before last_below
HasComment-none lines = record { lines_are = refl; is_in = refl; is_last = λ place is. refl }
