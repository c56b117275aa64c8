-- The comment at the beginning of a canonical text is read as it was written.
use Rattle.std.proofs.Common.{◌≡◌, ℕ, zero, suc, ◌+◌, ◌-◌, ◌<◌, ◌≤◌, Bool, true, false, not, ◌&&◌, cond, List, [], ◌∷◌, ◌++◌, length, get_or, append-nil, refl, sym, ap, ◌∙◌, arith, inl, inr, ext_get_or, Option, Some, None}
use Rattle.std.proofs.lemmas.Bool.{lt-ltb, lt-leb, le-leb, ne_eqb, and_from, and_left, and_right, cases_eq, cases_Bool, both_ways}
use Rattle.std.proofs.lemmas.List.Elements.{All-cons, All-nil, All-weaker, All-get_or}
use Rattle.std.proofs.lemmas.List.Sums.{list_all-from_AllPass}
use Rattle.std.specs.List.{list_all}
use Rattle.std.specs.Prelude.{All, IfSome, nat_lt, nat_le}
use Rattle.text_lines.specs.Lines.{line_at, trimmed}
use Rattle.index_search.specs.Places.{any_below, first_below, last_below, gathered_below}
use Rattle.text_lines.specs.Words.{from_word}
use Rattle.text_lines.specs.Written.{IsPlain}
use Rattle.index_search.proofs.Places.{any_below-none, first_below-none, last_below-none, last_below-is, gathered_below-none, gathered_below-same, gathered_below-sum}
use Rattle.layout_file.specs.declared.layouts.Layouts.{Layouts}
use Rattle.ice_image.specs.CommentLines.{IsPrintable, IsCommentLine}
use Rattle.ice_image.specs.Bits.{Bit}
use Rattle.asc_text.specs.declared.statement.Statement.{Statement}
use Rattle.asc_text.specs.declared.statement.Statement.TheVariants.{Comment}
use Rattle.asc_text.specs.declared.fault.AscCause.TheVariants.{CommentByte}
use Rattle.asc_text.specs.Statements.{comment_keyword, statement_in, begins_with_dot}
use Rattle.asc_text.specs.Blocks.{has_rows, depth_at, statement_over, statement_at, dot_before, is_comment, device_in, device_before}
use Rattle.asc_text.specs.Faults.{cause_if, is_printable, is_in_comment, comment_cause, statement_cause, cause_at}
use Rattle.asc_text.specs.Meaning.{sets_bit, is_set_before, warm_boot_in, range_in, no_sleep_in, is_that_line, comment_line, comment_from, comment_before}
use Rattle.asc_text.specs.Canonical.{comment_lines}
use Rattle.asc_text.proofs.Depths.{depth_after, depth-first, depth-step}
use Rattle.asc_text.proofs.PieceRead.{Stands, piece_sets}
use Rattle.asc_text.proofs.PiecesRead.{some_piece, some_piece-one, first_piece, first_piece-one, Holds, any_below-head, cause_at-statement}
use Rattle.asc_text.proofs.Spelled.{plain-literal}
use Rattle.asc_text.proofs.PiecesWritten.{length-single, line_at-single}
use Rattle.asc_text.proofs.HeadRead.{alone, comment_pieces}

-- the lines of a comment, if there is one, are such that a text can hold them
abbrev pub HasCommentLines : Option (List (List ℕ)) → Type 0
HasCommentLines comment = IfSome comment (All IsCommentLine)

-- ---- one line of a comment

-- it is no statement
no-dot : (line : List ℕ) → IsCommentLine line → begins_with_dot line ≡ false
no-dot line is = ne_eqb (get_or line 0 0) 46 is.no_dot

-- a line that begins with no dot says nothing
no-statement : (line : List ℕ) → begins_with_dot line ≡ false → statement_in line ≡ None
unfolding statement_in
no-statement line none = rw none refl

-- nothing is wrong with a line of a comment
no-cause : (line : List ℕ) → IsCommentLine line → comment_cause line ≡ None
no-cause line is =
    let all : list_all is_printable line ≡ true =
    list_all-from_AllPass is_printable line (All-weaker IsPrintable (λ byte. is_printable byte ≡ true) (λ byte printable. and_from (nat_le 0x20 byte) (nat_le byte 0x7E) (le-leb 0x20 byte printable.from_space) (le-leb byte 0x7E printable.to_tilde)) line is.printable)
    in
    ap (λ all. cause_if (not all) CommentByte) all

-- it has no byte below the space
pub plain-comment_line : (line : List ℕ) → IsCommentLine line → IsPlain line
plain-comment_line line is = All-weaker IsPrintable (λ byte. 32 ≤ byte) (λ byte printable. printable.from_space) line is.printable

-- ---- the lines of the comment

-- the statement of the comment, and the first lines of it
record Commented (lines : List (List ℕ)) (count : ℕ) : Type 0 where
  fits : suc count ≤ length lines
  head : line_at lines 0 ≡ comment_keyword
  rest : (k : ℕ) → k < count → IsCommentLine (line_at lines (suc k))

-- the first line begins the comment
first-says : (lines : List (List ℕ)) (count : ℕ) → Commented lines count → statement_in (line_at lines 0) ≡ Some Comment
unfolding statement_in trimmed from_word
first-says lines count is = ap statement_in is.head

-- none of them belongs to a statement
depth-none : (lines : List (List ℕ)) (count : ℕ) → Commented lines count → (k : ℕ) → k ≤ suc count → depth_at lines k ≡ 0
depth-none lines count is zero within = depth-first lines
depth-none lines count is (suc zero) within =
    depth-step lines 0
    ∙ ap (λ depth. depth_after depth (has_rows (statement_in (line_at lines 0)))) (depth-first lines)
    ∙ ap (λ says. depth_after 0 (has_rows says)) (first-says lines count is)
depth-none lines count is (suc (suc k)) within =
    let before : depth_at lines (suc k) ≡ 0 = depth-none lines count is (suc k) (omega arith) in
    let line = line_at lines (suc k) in
    let none : statement_in line ≡ None = no-statement line (no-dot line (is.rest k (omega arith))) in
    depth-step lines (suc k) ∙ (λ i. depth_after (before i) (has_rows (none i)))

record Reads (lines : List (List ℕ)) (count : ℕ) : Type 0 where
  first_over : statement_over lines 0 ≡ Some Comment
  first_at : statement_at lines 0 ≡ Some Comment
  over : (k : ℕ) → k < count → statement_over lines (suc k) ≡ None
  at : (k : ℕ) → k < count → statement_at lines (suc k) ≡ None

-- what these lines say
reads : (lines : List (List ℕ)) (count : ℕ) → Commented lines count → Reads lines count
unfolding statement_over statement_at
reads lines count is =
    let none : (k : ℕ) → k < count → statement_in (line_at lines (suc k)) ≡ None = λ k within. no-statement (line_at lines (suc k)) (no-dot (line_at lines (suc k)) (is.rest k within)) in
    record {
      first_over = ap (λ depth. statement_in (line_at lines (0 - depth))) (depth-none lines count is 0 (omega arith)) ∙ first-says lines count is;
      first_at = rw (depth-none lines count is 0 (omega arith)) (first-says lines count is);
      over = λ k within.
          let same : suc k - 0 ≡ suc k = omega arith in
          ap (λ depth. statement_in (line_at lines (suc k - depth))) (depth-none lines count is (suc k) (omega arith)) ∙ ap (λ n. statement_in (line_at lines n)) same ∙ none k within;
      at = λ k within. rw (depth-none lines count is (suc k) (omega arith)) (none k within);
    }

-- the last line before one of them, or after them, that begins with a dot
dot-first : (lines : List (List ℕ)) (count : ℕ) → Commented lines count → (k : ℕ) → k ≤ count → dot_before lines (suc k) ≡ Some 0
unfolding dot_before
dot-first lines count is k within =
    last_below-is (suc k) 0 (λ k. begins_with_dot (line_at lines k)) (omega arith) (ap begins_with_dot is.head) (λ j above below.
    let back : suc (j - 1) ≡ j = omega arith in
    ap (λ k. begins_with_dot (line_at lines k)) (sym back) ∙ no-dot (line_at lines (suc (j - 1))) (is.rest (j - 1) (omega arith)))

-- ---- no fault

-- the first line is right
sound-first : (layouts : Layouts) (lines : List (List ℕ)) (count : ℕ) → Commented lines count → cause_at layouts lines 0 ≡ None
unfolding device_before first_below
sound-first layouts lines count is =
    cause_at-statement layouts lines 0 (depth-none lines count is 0 (omega arith)) (omega (arith, is.fits)) (ap begins_with_dot is.head)
    ∙ ap (statement_cause layouts lines 0) (first-says lines count is)

-- each line of the comment is
sound-line : (layouts : Layouts) (lines : List (List ℕ)) (count : ℕ) → Commented lines count → (k : ℕ) → k < count → cause_at layouts lines (suc k) ≡ None
unfolding cause_at
sound-line layouts lines count is k within =
    let line = line_at lines (suc k) in
    let comment : is_in_comment lines (dot_before lines (suc k)) ≡ true = ap (is_in_comment lines) (dot-first lines count is k (omega arith)) ∙ ap is_comment (first-says lines count is) in
    rw (depth-none lines count is (suc k) (omega arith), lt-leb (length lines) (suc k) (omega (arith, is.fits)), no-dot line (is.rest k within), comment) (no-cause line (is.rest k within))

-- a place among them
first_or_later : (P : ℕ → Type 0) (count : ℕ) → P 0 → ((k : ℕ) → k < count → P (suc k)) → (k : ℕ) → k < suc count → P k
first_or_later P count first later zero within = first
first_or_later P count first later (suc k) within = later k (omega arith)

-- what they say to a test
any-comment : (lines : List (List ℕ)) (count : ℕ) → Reads lines count → (test : Option Statement → Bool) → test None ≡ false
    → any_below (suc count) (λ k. test (statement_at lines k)) ≡ some_piece (λ piece. test (Some piece.statement)) (alone Comment comment_keyword ∷ [])
any-comment lines count reads test none =
    any_below-head count (λ k. test (statement_at lines k)) (λ k within. ap test (reads.at k within) ∙ none) ∙ ap test reads.first_at ∙ sym (some_piece-one (λ piece. test (Some piece.statement)) (alone Comment comment_keyword))

-- they give nothing
first-comment : {A : Type 0} (lines : List (List ℕ)) (count : ℕ) → Reads lines count → (given : Option Statement → Option A) → given None ≡ None → given (Some Comment) ≡ None
    → first_below (suc count) (λ k. given (statement_at lines k)) ≡ first_piece (λ piece. given (Some piece.statement)) (alone Comment comment_keyword ∷ [])
first-comment lines count reads given none none' =
    first_below-none (suc count) (λ k. given (statement_at lines k)) (first_or_later (λ k. given (statement_at lines k) ≡ None) count (ap given reads.first_at ∙ none') (λ k within. ap given (reads.at k within) ∙ none))
    ∙ sym none' ∙ sym (first_piece-one (λ piece. given (Some piece.statement)) (alone Comment comment_keyword))

-- they set no bit
bits-comment : (lines : List (List ℕ)) (count : ℕ) → Reads lines count → (bit : Bit) → is_set_before lines (suc count) bit ≡ some_piece (piece_sets bit) (alone Comment comment_keyword ∷ [])
unfolding is_set_before piece_sets any_below some_piece
bits-comment lines count reads bit =
    any_below-none (suc count) (λ k. sets_bit (statement_over lines k) (depth_at lines k) (trimmed (line_at lines k)) bit)
    (first_or_later (λ k. sets_bit (statement_over lines k) (depth_at lines k) (trimmed (line_at lines k)) bit ≡ false) count
    (ap (λ says. sets_bit says (depth_at lines 0) (trimmed (line_at lines 0)) bit) reads.first_over)
    (λ k within. ap (λ says. sets_bit says (depth_at lines (suc k)) (trimmed (line_at lines (suc k))) bit) (reads.over k within)))

-- after them, the lines say that there is a comment, and no more
holds-comment : (layouts : Layouts) (lines : List (List ℕ)) (count : ℕ) → Commented lines count → Holds layouts lines (suc count) (alone Comment comment_keyword ∷ [])
unfolding device_before
holds-comment layouts lines count is =
    let says = reads lines count is in
    record {
      top = depth-none lines count is (suc count) (omega arith);
      sound = first_or_later (λ k. cause_at layouts lines k ≡ None) count (sound-first layouts lines count is) (sound-line layouts lines count is);
      any = any-comment lines count says;
      device = first-comment lines count says device_in refl refl;
      warm_boot = first-comment lines count says warm_boot_in refl refl;
      range = first-comment lines count says range_in refl refl;
      no_sleep = first-comment lines count says no_sleep_in refl refl;
      bits = bits-comment lines count says;
      calm = λ k later within.
          let back : suc (k - 1) ≡ k = omega arith in
          ap (λ k. is_comment (statement_at lines k)) (sym back) ∙ ap is_comment (says.at (k - 1) (omega arith));
    }

-- before the first line nothing is said
holds-nothing : (layouts : Layouts) (lines : List (List ℕ)) → Holds layouts lines 0 []
unfolding any_below first_below device_before is_set_before some_piece first_piece
holds-nothing layouts lines = record {
  top = depth-first lines;
  sound = λ k within. absurd (omega arith);
  any = λ test none. refl;
  device = refl;
  warm_boot = refl;
  range = refl;
  no_sleep = refl;
  bits = λ bit. refl;
  calm = λ k later within. absurd (omega arith);
}

-- lines that begin with a comment
commented : (lines cs : List (List ℕ)) → All IsCommentLine cs → Stands lines 0 (comment_keyword ∷ cs) → Commented lines (length cs)
commented lines cs are stands = record {
  fits = omega (arith, stands.fits);
  head = stands.same 0 (omega arith);
  rest = λ k within.
      let same : 0 + suc k ≡ suc k = omega arith in
      let here : line_at lines (suc k) ≡ line_at cs k = ap (line_at lines) (sym same) ∙ stands.same (suc k) (omega arith) in
      rw here (All-get_or IsCommentLine cs k [] within are);
}

-- after the comment the lines say that there is one, and no more
pub holds-start : (layouts : Layouts) (lines : List (List ℕ)) (comment : Option (List (List ℕ))) → HasCommentLines comment → Stands lines 0 (comment_lines comment) → Holds layouts lines (length (comment_lines comment)) (comment_pieces comment)
holds-start layouts lines None has stands = holds-nothing layouts lines
holds-start layouts lines (Some cs) has stands = holds-comment layouts lines (length cs) (commented lines cs has stands)

-- no line of a comment has a byte below the space
pub plain-comment : (comment : Option (List (List ℕ))) → HasCommentLines comment → All IsPlain (comment_lines comment)
plain-comment None has = All-nil IsPlain
plain-comment (Some cs) has = All-cons IsPlain comment_keyword cs (plain-literal comment_keyword refl) (All-weaker IsCommentLine IsPlain plain-comment_line cs has)

-- ---- what the comment is

-- the last place that passes is no earlier than one that does
last-from : (n k : ℕ) (test : ℕ → Bool) → k < n → test k ≡ true → (j : ℕ) × (last_below n test ≡ Some j) × (k ≤ j)
unfolding last_below
last-from zero k test within here = absurd (omega arith)
last-from (suc n) k test within here =
    elim (cases_Bool (test n)) [
      | inl last ↦ (n, rw last refl, omega arith)
      | inr none ↦ elim (cases_eq k n) [
        | inl e ↦ absurd (both_ways (test n) none (ap test (sym e) ∙ here))
        | inr before ↦
            let found = last-from n k test (omega arith) here in
            (found.0, rw none found.1, found.2)
      ]
    ]

-- a line after another statement than that of the comment is none of the comment's
line-after : (lines : List (List ℕ)) (m n : ℕ) → 0 < m → begins_with_dot (line_at lines m) ≡ true → m ≤ n → comment_line lines 0 n ≡ []
unfolding dot_before
line-after lines m n some dot from =
    let line = line_at lines n in
    elim (cases_eq n m) [
      | inl here ↦
          let dot' : begins_with_dot line ≡ true = ap (λ k. begins_with_dot (line_at lines k)) here ∙ dot in
          ap (λ passes. cond passes (line ∷ []) []) (and_left (is_that_line (dot_before lines n) 0 && not (begins_with_dot line)) (nat_lt 0 (length line)) (and_right (is_that_line (dot_before lines n) 0) (not (begins_with_dot line)) (ap not dot')))
      | inr later ↦
          let found = last-from n m (λ k. begins_with_dot (line_at lines k)) (omega arith) dot in
          let apart : is_that_line (dot_before lines n) 0 ≡ false = ap (λ place. is_that_line place 0) found.1 ∙ ne_eqb found.0 0 (λ e. omega (arith, found.2)) in
          ap (λ passes. cond passes (line ∷ []) []) (and_left (is_that_line (dot_before lines n) 0 && not (begins_with_dot line)) (nat_lt 0 (length line)) (and_left (is_that_line (dot_before lines n) 0) (not (begins_with_dot line)) apart))
    ]

-- a line of the comment
line-of : (lines : List (List ℕ)) (count : ℕ) → Commented lines count → (k : ℕ) → k < count → comment_line lines 0 (suc k) ≡ line_at lines (suc k) ∷ []
line-of lines count is k within =
    let line = line_at lines (suc k) in
    let here = is.rest k within in
    ap (λ passes. cond passes (line ∷ []) [])
    (and_from (is_that_line (dot_before lines (suc k)) 0 && not (begins_with_dot line)) (nat_lt 0 (length line))
    (and_from (is_that_line (dot_before lines (suc k)) 0) (not (begins_with_dot line)) (ap (λ place. is_that_line place 0) (dot-first lines count is k (omega arith))) (ap not (no-dot line here)))
    (lt-ltb 0 (length line) here.some_byte))

-- nor is the statement itself one
line-first : (lines : List (List ℕ)) → comment_line lines 0 0 ≡ []
unfolding dot_before last_below
line-first lines = refl

-- all lines, one after the other
lines-all : (cs : List (List ℕ)) → gathered_below (length cs) (λ k. line_at cs k ∷ []) ≡ cs
lines-all cs =
    ext_get_or [] (gathered_below (length cs) (λ k. line_at cs k ∷ [])) cs (length-single (length cs) (line_at cs)) (λ k inside.
    line_at-single (length cs) (line_at cs) k (omega (arith, length-single (length cs) (line_at cs))))

-- what one place gives
gathered-one : (given : ℕ → List (List ℕ)) → gathered_below 1 given ≡ given 0
unfolding gathered_below
gathered-one given = refl

-- if another statement follows and no comment begins later, the comment is what was written
pub comment-is : (lines cs : List (List ℕ)) (n : ℕ) → All IsCommentLine cs → Stands lines 0 (comment_keyword ∷ cs) → suc (length cs) < n → begins_with_dot (line_at lines (suc (length cs))) ≡ true
    → ((k : ℕ) → 0 < k → k < n → is_comment (statement_at lines k) ≡ false) → comment_before lines n ≡ Some cs
unfolding comment_before
comment-is lines cs n are stands within dot calm =
    let count = length cs in
    let is : Commented lines count = commented lines cs are stands in
    let last : last_below n (λ k. is_comment (statement_at lines k)) ≡ Some 0 =
    last_below-is n 0 (λ k. is_comment (statement_at lines k)) (omega arith) (ap is_comment (reads lines count is).first_at) (λ j above below. calm j above below)
    in
    let rest = n - (1 + count) in
    let sum : n ≡ 1 + count + rest = omega arith in
    let given = comment_line lines 0 in
    let front : gathered_below (1 + count) given ≡ cs =
    gathered_below-sum 1 count given
    ∙ (λ i. (gathered-one given ∙ line-first lines) i ++ gathered_below-same count (λ k. given (1 + k)) (λ k. line_at cs k ∷ []) (λ k below.
    let e : 1 + k ≡ suc k = omega arith in
    let none : 0 + suc k ≡ suc k = omega arith in
    let same : line_at lines (suc k) ≡ line_at cs k = ap (line_at lines) (sym none) ∙ stands.same (suc k) (omega arith) in
    ap given e ∙ line-of lines count is k below ∙ ap (λ line. line ∷ []) same) i)
    ∙ lines-all cs
    in
    let back : gathered_below rest (λ k. given (1 + count + k)) ≡ [] =
    gathered_below-none rest (λ k. given (1 + count + k)) (λ k below. line-after lines (suc count) (1 + count + k) (omega arith) dot (omega arith))
    in
    ap (comment_from lines n) last
    ∙ ap (λ lines. Some lines) (ap (λ n. gathered_below n given) sum ∙ gathered_below-sum (1 + count) rest given ∙ (λ i. front i ++ back i) ∙ append-nil cs)

-- a text in which no comment begins has none
pub comment-none : (lines : List (List ℕ)) (n : ℕ) → ((k : ℕ) → k < n → is_comment (statement_at lines k) ≡ false) → comment_before lines n ≡ None
unfolding comment_before
comment-none lines n calm = ap (comment_from lines n) (last_below-none n (λ k. is_comment (statement_at lines k)) calm)
