-- Pieces that are read one after the other: what the lines so far say is what their pieces say.
use Rattle.std.proofs.Common.{◌≡◌, ℕ, zero, suc, ◌+◌, ◌-◌, ◌<◌, ◌≤◌, Bool, true, false, ◌||◌, List, [], ◌∷◌, ◌++◌, length, append_assoc, append-nil, refl, sym, ap, ◌∙◌, subst, arith, Option, Some, None, inl, inr, ◌⊎◌}
use Rattle.std.proofs.lemmas.Bool.{cases_lt, lt-ltb, lt-leb}
use Rattle.std.proofs.lemmas.List.{length-append, get_or_append_left, get_or-append-add}
use Rattle.text_lines.specs.Lines.{line_at, trimmed}
use Rattle.index_search.specs.Places.{any_below, first_below, or_else}
use Rattle.index_search.proofs.Places.{any_below-sum, any_below-same, first_below-sum}
use Rattle.layout_file.specs.declared.layouts.Layouts.{Layouts}
use Rattle.plane_map.specs.declared.device.DeviceName.{DeviceName}
use Rattle.ice_image.specs.Bits.{Bit}
use Rattle.asc_text.specs.declared.statement.Statement.{Statement}
use Rattle.asc_text.specs.declared.statement.Statement.TheVariants.{Comment, Device, WarmBoot, FrequencyRange, NoSleep, Tile, RamData, ExtraBit, Symbol}
use Rattle.asc_text.specs.declared.fault.AscCause.{AscCause}
use Rattle.asc_text.specs.declared.fault.AscCause.TheVariants.{Repeated}
use Rattle.asc_text.specs.Statements.{statement_in, begins_with_dot}
use Rattle.asc_text.specs.Blocks.{depth_at, statement_over, statement_at, is_comment, device_in, device_before}
use Rattle.asc_text.specs.Faults.{cause_at, row_cause, statement_cause, missing_device, unknown_device, tile_cause, is_repeated, extra_cause, setting_cause, cause_if, is_device, is_warm_boot, is_range, is_no_sleep, names_tile, names_ram}
use Rattle.asc_text.specs.Meaning.{sets_bit, is_set_before, warm_boot_in, range_in, no_sleep_in}
use Rattle.asc_text.proofs.PieceRead.{Piece, IsPiece, Stands, Says, piece_lines, piece_sets, says}

-- ---- lists of pieces

-- their lines, one after the other
unfoldable pub all_lines : List Piece → List (List ℕ)
all_lines [] = []
all_lines (piece ∷ pieces) = piece_lines piece ++ all_lines pieces

-- whether some piece passes
unfoldable pub some_piece : (Piece → Bool) → List Piece → Bool
some_piece test [] = false
some_piece test (piece ∷ pieces) = test piece || some_piece test pieces

-- what the first piece gives that gives something
unfoldable pub first_piece : {A : Type 0} → (Piece → Option A) → List Piece → Option A
first_piece given [] = None
first_piece given (piece ∷ pieces) = or_else (given piece) (first_piece given pieces)

-- whether the statement of some piece passes
abbrev pub some_statement : (Option Statement → Bool) → List Piece → Bool
some_statement test pieces = some_piece (λ piece. test (Some piece.statement)) pieces

-- what the first statement gives that gives something
abbrev pub first_statement : {A : Type 0} → (Option Statement → Option A) → List Piece → Option A
first_statement given pieces = first_piece (λ piece. given (Some piece.statement)) pieces

-- no piece passes if there is none
pub some_piece-nothing : (test : Piece → Bool) → some_piece test [] ≡ false
unfolding some_piece
some_piece-nothing test = refl

-- some piece of two lists passes if one of either does
pub some_piece-append : (test : Piece → Bool) (a b : List Piece) → some_piece test (a ++ b) ≡ (some_piece test a || some_piece test b)
unfolding some_piece
some_piece-append test [] b = refl
some_piece-append test (piece ∷ a) b = or_step (test piece) (some_piece test a) (some_piece test b) (some_piece test (a ++ b)) (some_piece-append test a b)
  where
    or_step : (p q r s : Bool) → s ≡ (q || r) → (p || s) ≡ ((p || q) || r)
    or_step true q r s e = refl
    or_step false q r s e = e

-- of a piece alone
pub some_piece-one : (test : Piece → Bool) (piece : Piece) → some_piece test (piece ∷ []) ≡ test piece
unfolding some_piece
some_piece-one test piece = or_nothing (test piece)
  where
    or_nothing : (p : Bool) → (p || false) ≡ p
    or_nothing true = refl
    or_nothing false = refl

-- the first of two lists
pub first_piece-append : {A : Type 0} (given : Piece → Option A) (a b : List Piece) → first_piece given (a ++ b) ≡ or_else (first_piece given a) (first_piece given b)
unfolding first_piece
first_piece-append given [] b = refl
first_piece-append given (piece ∷ a) b = else_step (given piece) (first_piece given a) (first_piece given b) (first_piece given (a ++ b)) (first_piece-append given a b)
  where
    else_step : {A : Type 0} (p q r s : Option A) → s ≡ or_else q r → or_else p s ≡ or_else (or_else p q) r
    else_step (Some value) q r s e = refl
    else_step None q r s e = e

-- of a piece alone
pub first_piece-one : {A : Type 0} (given : Piece → Option A) (piece : Piece) → first_piece given (piece ∷ []) ≡ given piece
unfolding first_piece
first_piece-one given piece = else_nothing (given piece)
  where
    else_nothing : {A : Type 0} (p : Option A) → or_else p None ≡ p
    else_nothing (Some value) = refl
    else_nothing None = refl

-- ---- a piece among the places of lines

-- if no place but the first passes
pub any_below-head : (count : ℕ) (test : ℕ → Bool) → ((r : ℕ) → r < count → test (suc r) ≡ false) → any_below (suc count) test ≡ test 0
unfolding any_below
any_below-head zero test none = refl
any_below-head (suc count) test none =
    rw (none count (omega arith)) (or_nothing (any_below (suc count) test) ∙ any_below-head count test (λ r below. none r (omega arith)))
  where
    or_nothing : (p : Bool) → (p || false) ≡ p
    or_nothing true = refl
    or_nothing false = refl

-- if no place but the first gives anything
first_below-head : {A : Type 0} (count : ℕ) (given : ℕ → Option A) → ((r : ℕ) → r < count → given (suc r) ≡ None) → first_below (suc count) given ≡ given 0
unfolding first_below
first_below-head zero given none = refl
first_below-head (suc count) given none =
    rw (none count (omega arith)) (else_nothing (first_below (suc count) given) ∙ first_below-head count given (λ r below. none r (omega arith)))
  where
    else_nothing : {A : Type 0} (p : Option A) → or_else p None ≡ p
    else_nothing (Some value) = refl
    else_nothing None = refl

-- ---- what the lines before one say

-- the statement was there before
abbrev pub was_given : List Piece → Statement → Bool
was_given past (Device device) = some_statement is_device past
was_given past (WarmBoot setting) = some_statement is_warm_boot past
was_given past (FrequencyRange setting) = some_statement is_range past
was_given past (NoSleep setting) = some_statement is_no_sleep past
was_given past (Tile kind x y) = some_statement (names_tile x y) past
was_given past (RamData x y) = some_statement (names_ram x y) past
was_given past statement = false

-- what is wrong with a statement after these pieces, whose device is that one
abbrev pub cause_after : Layouts → Option DeviceName → Bool → Statement → Option AscCause
cause_after layouts device given statement =
    or_else (missing_device device statement)
    (or_else (unknown_device statement)
    (or_else (tile_cause device statement)
    (or_else (cause_if given Repeated)
    (or_else (extra_cause layouts device statement)
    (setting_cause statement)))))

-- the lines before one are faultless, and say what these pieces say
pub record Holds (layouts : Layouts) (lines : List (List ℕ)) (n : ℕ) (past : List Piece) : Type 0 where
  pub top : depth_at lines n ≡ 0
  pub sound : (k : ℕ) → k < n → cause_at layouts lines k ≡ None
  pub any : (test : Option Statement → Bool) → test None ≡ false → any_below n (λ k. test (statement_at lines k)) ≡ some_statement test past
  pub device : device_before lines n ≡ first_statement device_in past
  pub warm_boot : first_below n (λ k. warm_boot_in (statement_at lines k)) ≡ first_statement warm_boot_in past
  pub range : first_below n (λ k. range_in (statement_at lines k)) ≡ first_statement range_in past
  pub no_sleep : first_below n (λ k. no_sleep_in (statement_at lines k)) ≡ first_statement no_sleep_in past
  pub bits : (bit : Bit) → is_set_before lines n bit ≡ some_piece (piece_sets bit) past
  pub calm : (k : ℕ) → 0 < k → k < n → is_comment (statement_at lines k) ≡ false

-- a piece is right after those pieces
pub record IsFine (layouts : Layouts) (past : List Piece) (piece : Piece) : Type 0 where
  pub is : IsPiece piece
  pub cause : cause_after layouts (first_statement device_in past) (was_given past piece.statement) piece.statement ≡ None
  pub rows : (r : ℕ) → r < length piece.rows → row_cause (Some piece.statement) (trimmed (line_at piece.rows r)) ≡ None

-- the test of one piece more
any-more : (lines : List (List ℕ)) (n : ℕ) (past : List Piece) (piece : Piece) → Says lines n piece → (test : Option Statement → Bool) → test None ≡ false
    → any_below n (λ k. test (statement_at lines k)) ≡ some_statement test past
    → any_below (n + suc (length piece.rows)) (λ k. test (statement_at lines k)) ≡ some_statement test (past ++ piece ∷ [])
any-more lines n past piece says test none before =
    let same : n + 0 ≡ n = omega arith in
    let here : any_below (suc (length piece.rows)) (λ r. test (statement_at lines (n + r))) ≡ test (Some piece.statement) =
    any_below-head (length piece.rows) (λ r. test (statement_at lines (n + r))) (λ r below. ap test (says.below r below) ∙ none)
    ∙ ap (λ k. test (statement_at lines k)) same ∙ ap test says.here
    in
    any_below-sum n (suc (length piece.rows)) (λ k. test (statement_at lines k))
    ∙ (λ i. before i || here i)
    ∙ ap (λ last. some_statement test past || last) (sym (some_piece-one (λ piece. test (Some piece.statement)) piece))
    ∙ sym (some_piece-append (λ piece. test (Some piece.statement)) past (piece ∷ []))

-- what the first of them gives, with one piece more
first-more : {A : Type 0} (lines : List (List ℕ)) (n : ℕ) (past : List Piece) (piece : Piece) → Says lines n piece → (given : Option Statement → Option A) → given None ≡ None
    → first_below n (λ k. given (statement_at lines k)) ≡ first_statement given past
    → first_below (n + suc (length piece.rows)) (λ k. given (statement_at lines k)) ≡ first_statement given (past ++ piece ∷ [])
first-more lines n past piece says given none before =
    let same : n + 0 ≡ n = omega arith in
    let here : first_below (suc (length piece.rows)) (λ r. given (statement_at lines (n + r))) ≡ given (Some piece.statement) =
    first_below-head (length piece.rows) (λ r. given (statement_at lines (n + r))) (λ r below. ap given (says.below r below) ∙ none)
    ∙ ap (λ k. given (statement_at lines k)) same ∙ ap given says.here
    in
    first_below-sum n (suc (length piece.rows)) (λ k. given (statement_at lines k))
    ∙ (λ i. or_else (before i) (here i))
    ∙ ap (λ last. or_else (first_statement given past) last) (sym (first_piece-one (λ piece. given (Some piece.statement)) piece))
    ∙ sym (first_piece-append (λ piece. given (Some piece.statement)) past (piece ∷ []))

-- the bits of one piece more
bits-more : (lines : List (List ℕ)) (n : ℕ) (past : List Piece) (piece : Piece) → Stands lines n (piece_lines piece) → Says lines n piece → (bit : Bit)
    → is_set_before lines n bit ≡ some_piece (piece_sets bit) past
    → is_set_before lines (n + suc (length piece.rows)) bit ≡ some_piece (piece_sets bit) (past ++ piece ∷ [])
unfolding is_set_before piece_sets
bits-more lines n past piece stands says bit before =
    any_below-sum n (suc (length piece.rows)) (λ k. sets_bit (statement_over lines k) (depth_at lines k) (trimmed (line_at lines k)) bit)
    ∙ (λ i. before i || any_below-same (suc (length piece.rows))
    (λ r. sets_bit (statement_over lines (n + r)) (depth_at lines (n + r)) (trimmed (line_at lines (n + r))) bit)
    (λ r. sets_bit (Some piece.statement) r (trimmed (line_at (piece_lines piece) r)) bit)
    (λ r below. λ j. sets_bit (says.over r (omega arith) j) (says.depth r (omega arith) j) (trimmed (stands.same r below j)) bit) i)
    ∙ ap (λ last. some_piece (piece_sets bit) past || last) (sym (some_piece-one (piece_sets bit) piece))
    ∙ sym (some_piece-append (piece_sets bit) past (piece ∷ []))

-- ---- faults

-- whether a statement was given before is what the pieces say
repeated-is : (layouts : Layouts) (lines : List (List ℕ)) (n : ℕ) (past : List Piece) → Holds layouts lines n past → (statement : Statement) → is_repeated lines n statement ≡ was_given past statement
repeated-is layouts lines n past holds Comment = refl
repeated-is layouts lines n past holds (Device device) = holds.any is_device refl
repeated-is layouts lines n past holds (WarmBoot setting) = holds.any is_warm_boot refl
repeated-is layouts lines n past holds (FrequencyRange setting) = holds.any is_range refl
repeated-is layouts lines n past holds (NoSleep setting) = holds.any is_no_sleep refl
repeated-is layouts lines n past holds (Tile kind x y) = holds.any (names_tile x y) refl
repeated-is layouts lines n past holds (RamData x y) = holds.any (names_ram x y) refl
repeated-is layouts lines n past holds (ExtraBit bank x y) = refl
repeated-is layouts lines n past holds (Symbol net) = refl

-- a line of a statement
pub cause_at-statement : (layouts : Layouts) (lines : List (List ℕ)) (n : ℕ) → depth_at lines n ≡ 0 → n < length lines → begins_with_dot (line_at lines n) ≡ true
    → cause_at layouts lines n ≡ statement_cause layouts lines n (statement_in (line_at lines n))
unfolding cause_at
cause_at-statement layouts lines n top within dot = rw (top, lt-leb (length lines) n within, dot) refl

-- a line below a statement
cause_at-row : (layouts : Layouts) (lines : List (List ℕ)) (n : ℕ) → 0 < depth_at lines n → cause_at layouts lines n ≡ row_cause (statement_over lines n) (trimmed (line_at lines n))
unfolding cause_at
cause_at-row layouts lines n below = rw (lt-ltb 0 (depth_at lines n) below) refl

-- the line of a statement is faultless
sound-head : (layouts : Layouts) (lines : List (List ℕ)) (n : ℕ) (past : List Piece) (piece : Piece) → Holds layouts lines n past → IsFine layouts past piece → Stands lines n (piece_lines piece) → cause_at layouts lines n ≡ None
sound-head layouts lines n past piece holds fine stands =
    let same : n + 0 ≡ n = omega arith in
    let line : line_at lines n ≡ piece.head = rw same at (stands.same 0 (omega arith)) in
    let said : statement_in (line_at lines n) ≡ Some piece.statement = ap statement_in line ∙ fine.is.spells in
    cause_at-statement layouts lines n holds.top (omega (arith, stands.fits)) (ap begins_with_dot line ∙ fine.is.dot)
    ∙ ap (statement_cause layouts lines n) said
    ∙ (λ i. cause_after layouts (holds.device i) (repeated-is layouts lines n past holds piece.statement i) piece.statement)
    ∙ fine.cause

-- and so are those below it
sound-row : (layouts : Layouts) (lines : List (List ℕ)) (n : ℕ) (past : List Piece) (piece : Piece) → IsFine layouts past piece → Stands lines n (piece_lines piece) → Says lines n piece
    → (r : ℕ) → r < length piece.rows → cause_at layouts lines (n + suc r) ≡ None
sound-row layouts lines n past piece fine stands says r within =
    let deep : depth_at lines (n + suc r) ≡ suc r = says.depth (suc r) (omega arith) in
    cause_at-row layouts lines (n + suc r) (omega arith)
    ∙ (λ i. row_cause (says.over (suc r) (omega arith) i) (trimmed (stands.same (suc r) (omega arith) i)))
    ∙ fine.rows r within

-- ---- one piece more

-- a place of the lines of a piece is its first one or one below it
head_or_row : (n count k : ℕ) → n ≤ k → k < n + suc count → (k ≡ n) ⊎ ((r : ℕ) × (r < count) × (n + suc r ≡ k))
head_or_row n count k from before =
    elim (cases_lt n k) [
      | inl later ↦ inr (k - n - 1, omega arith, omega arith)
      | inr here ↦ inl (omega arith)
    ]

-- after one piece more the lines say what it says too
pub one_more : (layouts : Layouts) (lines : List (List ℕ)) (n : ℕ) (past : List Piece) (piece : Piece) → Holds layouts lines n past → IsFine layouts past piece → Stands lines n (piece_lines piece)
    → Holds layouts lines (n + suc (length piece.rows)) (past ++ piece ∷ [])
unfolding device_before
one_more layouts lines n past piece holds fine stands =
    let said : Says lines n piece = says lines n piece fine.is stands holds.top in
    record {
      top = said.next;
      sound = λ k within. elim (cases_lt k n) [
        | inl earlier ↦ holds.sound k earlier
        | inr from ↦ elim (head_or_row n (length piece.rows) k from within) [
          | inl here ↦ ap (cause_at layouts lines) here ∙ sound-head layouts lines n past piece holds fine stands
          | inr row ↦ ap (cause_at layouts lines) (sym row.2) ∙ sound-row layouts lines n past piece fine stands said row.0 row.1
        ]
      ];
      any = λ test none. any-more lines n past piece said test none (holds.any test none);
      device = first-more lines n past piece said device_in refl holds.device;
      warm_boot = first-more lines n past piece said warm_boot_in refl holds.warm_boot;
      range = first-more lines n past piece said range_in refl holds.range;
      no_sleep = first-more lines n past piece said no_sleep_in refl holds.no_sleep;
      bits = λ bit. bits-more lines n past piece stands said bit (holds.bits bit);
      calm = λ k later within. elim (cases_lt k n) [
        | inl earlier ↦ holds.calm k later earlier
        | inr from ↦ elim (head_or_row n (length piece.rows) k from within) [
          | inl here ↦ ap (λ k. is_comment (statement_at lines k)) here ∙ ap is_comment said.here ∙ fine.is.calm
          | inr row ↦ ap (λ k. is_comment (statement_at lines k)) (sym row.2) ∙ ap is_comment (said.below row.0 row.1)
        ]
      ];
    }

-- ---- all pieces

-- each piece is right after those before it
unfoldable pub AreFine : Layouts → List Piece → List Piece → Type 0
AreFine layouts past [] = Unit {0}
AreFine layouts past (piece ∷ pieces) = IsFine layouts past piece × AreFine layouts (past ++ piece ∷ []) pieces

-- pieces after pieces are right
pub AreFine-append : (layouts : Layouts) (past a b : List Piece) → AreFine layouts past a → AreFine layouts (past ++ a) b → AreFine layouts past (a ++ b)
unfolding AreFine
AreFine-append layouts past [] b first second = rw (append-nil past) at second
AreFine-append layouts past (piece ∷ a) b first second =
    (first.0, AreFine-append layouts (past ++ piece ∷ []) a b first.1 (rw (append_assoc past (piece ∷ []) a) second))

-- parts of lines that follow one another
pub Stands-front : (lines : List (List ℕ)) (n : ℕ) (a b : List (List ℕ)) → Stands lines n (a ++ b) → Stands lines n a
Stands-front lines n a b stands = record {
  fits = omega (arith, stands.fits, length-append a b);
  same = λ k within. stands.same k (omega (arith, length-append a b)) ∙ get_or_append_left a b [] k within;
}

-- and after it the other
pub Stands-back : (lines : List (List ℕ)) (n : ℕ) (a b : List (List ℕ)) → Stands lines n (a ++ b) → Stands lines (n + length a) b
Stands-back lines n a b stands = record {
  fits = omega (arith, stands.fits, length-append a b);
  same = λ k within.
      let sum : n + length a + k ≡ n + (length a + k) = omega arith in
      ap (line_at lines) sum ∙ stands.same (length a + k) (omega (arith, length-append a b)) ∙ get_or-append-add a b k [];
}

-- after all pieces the lines say what they all say
pub all_more : (layouts : Layouts) (lines : List (List ℕ)) (n : ℕ) (past pieces : List Piece) → Holds layouts lines n past → AreFine layouts past pieces → Stands lines n (all_lines pieces)
    → Holds layouts lines (n + length (all_lines pieces)) (past ++ pieces)
unfolding AreFine all_lines
all_more layouts lines n past [] holds fine stands =
    let same : n + 0 ≡ n = omega arith in
    rw (same, append-nil past) holds
all_more layouts lines n past (piece ∷ pieces) holds fine stands =
    let sum : n + suc (length piece.rows) + length (all_lines pieces) ≡ n + length (piece_lines piece ++ all_lines pieces) = omega (arith, length-append piece.rows (all_lines pieces)) in
    let first : Holds layouts lines (n + suc (length piece.rows)) (past ++ piece ∷ []) = one_more layouts lines n past piece holds fine.0 (Stands-front lines n (piece_lines piece) (all_lines pieces) stands) in
    let rest = all_more layouts lines (n + suc (length piece.rows)) (past ++ piece ∷ []) pieces first fine.1 (Stands-back lines n (piece_lines piece) (all_lines pieces) stands) in
    subst (λ k. Holds layouts lines k (past ++ piece ∷ pieces)) sum (rw (append_assoc past (piece ∷ []) pieces) at rest)
