-- Texts that LF ends, and the lines of a text that comes in pieces.
use Rattle.std.proofs.Common.{◌≡◌, ℕ, suc, ◌+◌, ◌-◌, ◌<◌, ◌≤◌, Bool, true, false, ◌&&◌, cond, ◌==◌, List, [], ◌∷◌, ◌++◌, length, take, drop, get_or, refl, sym, ap, subst, ◌∙◌, append_assoc, append-nil, inl, inr, arith}
use Rattle.std.proofs.lemmas.Bool.{and_parts, cases_Bool}
use Rattle.std.proofs.lemmas.List.{take_more, length-append}
use Rattle.std.proofs.Math.Seq.{drop-cons}
use Rattle.std.proofs.lemmas.List.Elements.{All-head, All-tail}
use Rattle.std.specs.Prelude.{All, None, position}
use Rattle.text_lines.specs.Lines.{lines_of, line_at, with_byte, is_at_lf}
use Rattle.text_lines.specs.Pieces.{ended_lines, HasWholeLines, IsCut}
use Rattle.text_lines.proofs.Cuts.{fail_whole, position_or_len-none}

-- ---- the first line

at_lf-some : (bytes : List ℕ) → is_at_lf bytes ≡ true → 0 < length bytes
at_lf-some [] at = absurd cc
at_lf-some (byte ∷ bytes) at = omega arith

with_byte-some : (byte : ℕ) (lines : List (List ℕ)) → 0 < length (with_byte byte lines)
with_byte-some byte [] = omega arith
with_byte-some byte (line ∷ lines) = omega arith

-- a text that is not empty has a line
has_lines : (text : List ℕ) → 0 < length text → 0 < length (lines_of text)
unfolding lines_of
has_lines [] some = absurd (omega arith)
has_lines (byte ∷ bytes) some =
    elim (cases_Bool (byte == 10)) [
      | inl lf ↦ rw lf (omega arith)
      | inr inner ↦ rw inner (elim (cases_Bool ((byte == 13) && is_at_lf bytes)) [
        | inl end ↦ rw end (has_lines bytes (at_lf-some bytes (and_parts (byte == 13) (is_at_lf bytes) end).1))
        | inr other ↦ rw other (with_byte-some byte (lines_of bytes))
      ])
    ]

-- its lines are the first and the others
first-others : (lines : List (List ℕ)) → 0 < length lines → lines ≡ line_at lines 0 ∷ drop 1 lines
first-others [] some = absurd (omega arith)
first-others (line ∷ lines) some = refl

pub has_first : (text : List ℕ) → 0 < length text → lines_of text ≡ line_at (lines_of text) 0 ∷ drop 1 (lines_of text)
has_first text some = first-others (lines_of text) (has_lines text some)

-- ---- texts that LF ends

-- a byte before the first of some lines, and more lines
with_byte-more : (byte : ℕ) (first : List ℕ) (all lines more : List (List ℕ)) → all ≡ first ∷ lines → with_byte byte (all ++ more) ≡ with_byte byte all ++ more
with_byte-more byte first all lines more is = rw is refl

at_lf : (bytes rest : List ℕ) → is_at_lf (bytes ++ (10 ∷ []) ++ rest) ≡ is_at_lf (bytes ++ (10 ∷ []))
at_lf [] rest = refl
at_lf (byte ∷ bytes) rest = refl

-- a text gives the same lines before each of two others
same-cond : (b : Bool) (one other one' other' more : List (List ℕ)) → one' ≡ one ++ more → other' ≡ other ++ more → cond b one' other' ≡ cond b one other ++ more
same-cond true one other one' other' more first second = first
same-cond false one other one' other' more first second = second

whole-more : (bytes rest : List ℕ) → lines_of (bytes ++ (10 ∷ []) ++ rest) ≡ lines_of (bytes ++ (10 ∷ [])) ++ lines_of rest
unfolding lines_of
whole-more [] rest = refl
whole-more (byte ∷ bytes) rest =
    let text = bytes ++ (10 ∷ []) in
    let some : 0 < length text = omega (arith, length-append bytes (10 ∷ [])) in
    let tail = whole-more bytes rest in
    let kept : with_byte byte (lines_of (text ++ rest)) ≡ with_byte byte (lines_of text) ++ lines_of rest =
    ap (with_byte byte) tail ∙ with_byte-more byte (line_at (lines_of text) 0) (lines_of text) (drop 1 (lines_of text)) (lines_of rest) (has_first text some) in
    let at : is_at_lf (text ++ rest) ≡ is_at_lf text = at_lf bytes rest in
    rw at
    (same-cond (byte == 10) ([] ∷ lines_of text) _ ([] ∷ lines_of (text ++ rest)) _ (lines_of rest) (ap (λ lines. [] ∷ lines) tail)
    (same-cond ((byte == 13) && is_at_lf text) (lines_of text) (with_byte byte (lines_of text)) (lines_of (text ++ rest)) (with_byte byte (lines_of (text ++ rest))) (lines_of rest) tail kept))

-- a byte before some lines begins one of them, unless it is LF
length-with : (is_lf is_cr : Bool) (byte : ℕ) (first : List ℕ) (lines others : List (List ℕ)) → lines ≡ first ∷ others
    → cond is_lf 1 0 + length lines ≡ length (cond is_lf ([] ∷ lines) (cond is_cr lines (with_byte byte lines)))
length-with true is_cr byte first lines others is = omega arith
length-with false true byte first lines others is = omega arith
length-with false false byte first lines others is = rw is (omega arith)

-- each LF ends a line
whole-count : (bytes : List ℕ) → ended_lines (bytes ++ (10 ∷ [])) ≡ length (lines_of (bytes ++ (10 ∷ [])))
unfolding lines_of
whole-count [] = refl
whole-count (byte ∷ bytes) =
    let text = bytes ++ (10 ∷ []) in
    let some : 0 < length text = omega (arith, length-append bytes (10 ∷ [])) in
    ap (λ n. cond (byte == 10) 1 0 + n) (whole-count bytes)
    ∙ length-with (byte == 10) ((byte == 13) && is_at_lf text) byte (line_at (lines_of text) 0) (lines_of text) (drop 1 (lines_of text)) (has_first text some)

-- LF ends the last line of a text
pub whole-ended : (bytes : List ℕ) → HasWholeLines (bytes ++ (10 ∷ []))
whole-ended bytes = record { lines = whole-more bytes; count = whole-count bytes }

-- an empty text has no lines
pub whole-none : HasWholeLines []
unfolding lines_of
whole-none = record { lines = λ rest. refl; count = refl }

-- a text up to one of its LF
pub whole-at_lf : (text : List ℕ) (end : ℕ) → 0 < end → end ≤ length text → get_or text (end - 1) 0 ≡ 10 → HasWholeLines (take end text)
whole-at_lf text end some within is =
    let place : end - 1 + 1 ≡ end = omega arith in
    let parts : take (end - 1 + 1) text ≡ take (end - 1) text ++ (10 ∷ []) = take_more text (end - 1) 0 (omega arith) ∙ ap (λ byte. take (end - 1) text ++ (byte ∷ [])) is in
    let same : take end text ≡ take (end - 1) text ++ (10 ∷ []) = sym (ap (λ n. take n text) place) ∙ parts in
    subst HasWholeLines (sym same) (whole-ended (take (end - 1) text))

-- any bytes, and then a text up to one of its LF
pub whole-after : (kept text : List ℕ) (place : ℕ) → place < length text → get_or text place 0 ≡ 10 → HasWholeLines (kept ++ take (place + 1) text)
whole-after kept text place within is =
    let parts : take (place + 1) text ≡ take place text ++ (10 ∷ []) = take_more text place 0 within ∙ ap (λ byte. take place text ++ (byte ∷ [])) is in
    let same : kept ++ take (place + 1) text ≡ kept ++ take place text ++ (10 ∷ []) = ap (λ end. kept ++ end) parts ∙ sym (append_assoc kept (take place text) (10 ∷ [])) in
    subst HasWholeLines (sym same) (whole-ended (kept ++ take place text))

-- the number of ended lines is the sum of those in both parts
pub ended-append : (first second : List ℕ) → ended_lines (first ++ second) ≡ ended_lines first + ended_lines second
ended-append [] second = omega arith
ended-append (byte ∷ first) second = omega (arith, ended-append first second)

-- bytes none of which is LF
pub ended-none : (bytes : List ℕ) → All (λ byte. (byte == 10) ≡ false) bytes → ended_lines bytes ≡ 0
ended-none [] free = refl
ended-none (byte ∷ bytes) free =
    let inner : (byte == 10) ≡ false = All-head (λ byte. (byte == 10) ≡ false) byte bytes free in
    let none : ended_lines bytes ≡ 0 = ended-none bytes (All-tail (λ byte. (byte == 10) ≡ false) byte bytes free) in
    rw inner (omega (arith, none))

-- no line has ended if LF is at no place
pub ended-nowhere : (bytes : List ℕ) → position (λ byte. byte == 10) bytes ≡ None → ended_lines bytes ≡ 0
ended-nowhere bytes none = ended-none bytes (fail_whole (λ byte. byte == 10) bytes (omega (arith, position_or_len-none (λ byte. byte == 10) bytes none)))

-- one more byte, after which no line ends
pub ended-from : (text : List ℕ) (end : ℕ) → 0 < end → end ≤ length text → (get_or text (end - 1) 0 == 10) ≡ false → ended_lines (drop end text) ≡ 0 → ended_lines (drop (end - 1) text) ≡ 0
ended-from text end some within other none =
    let place : suc (end - 1) ≡ end = omega arith in
    let parts : drop (end - 1) text ≡ get_or text (end - 1) 0 ∷ drop (suc (end - 1)) text = drop-cons text (end - 1) 0 (omega arith) in
    let tail : ended_lines (drop (suc (end - 1)) text) ≡ 0 = ap (λ n. ended_lines (drop n text)) place ∙ none in
    ap ended_lines parts ∙ rw other (omega (arith, tail))

-- one text after the other
pub whole-then : (first second : List ℕ) → HasWholeLines first → HasWholeLines second → HasWholeLines (first ++ second)
whole-then first second one other =
    let both : lines_of (first ++ second) ≡ lines_of first ++ lines_of second = one.lines second in
    record {
      lines = λ rest.
          ap lines_of (append_assoc first second rest)
          ∙ one.lines (second ++ rest)
          ∙ ap (λ lines. lines_of first ++ lines) (other.lines rest)
          ∙ sym (append_assoc (lines_of first) (lines_of second) (lines_of rest))
          ∙ ap (λ lines. lines ++ lines_of rest) (sym both);
      count = omega (arith, ended-append first second, one.count, other.count, ap length both, length-append (lines_of first) (lines_of second));
    }

-- ---- texts cut after their last LF

-- an empty text
pub cut-none : IsCut [] [] []
cut-none = record { parts = refl; whole = whole-none; rest = refl }

-- bytes more, none of which is LF
pub cut-unended : (text front unended bytes : List ℕ) → IsCut text front unended → ended_lines bytes ≡ 0 → IsCut (text ++ bytes) front (unended ++ bytes)
cut-unended text front unended bytes cut none = record {
  parts = ap (λ t. t ++ bytes) cut.parts ∙ append_assoc front unended bytes;
  whole = cut.whole;
  rest = omega (arith, ended-append unended bytes, cut.rest, none);
}

-- bytes more that end the line, and perhaps others
pub cut-ended : (text front unended bytes : List ℕ) → IsCut text front unended → HasWholeLines (unended ++ bytes) → IsCut (text ++ bytes) (front ++ (unended ++ bytes)) []
cut-ended text front unended bytes cut whole = record {
  parts = ap (λ t. t ++ bytes) cut.parts ∙ append_assoc front unended bytes ∙ sym (append-nil (front ++ (unended ++ bytes)));
  whole = whole-then front (unended ++ bytes) cut.whole whole;
  rest = refl;
}
