-- The lines of a text, a line at a time, and of a text of lines.
use Rattle.std.proofs.Common.{◌≡◌, ℕ, suc, ◌+◌, ◌-◌, ◌<◌, ◌≤◌, Bool, true, false, ◌&&◌, cond, ◌==◌, List, [], ◌∷◌, ◌++◌, length, take, drop, get_or, refl, ap, ◌∙◌, append_assoc, arith}
use Rattle.std.proofs.lemmas.Bool.{ne_eqb, eqb-true, and_right}
use Rattle.std.proofs.lemmas.List.{take_rest, take_more}
use Rattle.std.proofs.lemmas.List.Elements.{All-head, All-tail, All-weaker}
use Rattle.std.specs.Prelude.{All}
use Rattle.std.specs.List.{position_or_len}
use Rattle.std.specs.List.{position_or_len}
use Rattle.text_lines.specs.Lines.{lines_of, whole_lines_of, with_byte}
use Rattle.text_lines.specs.Written.{text_of, IsPlain}
use Rattle.text_lines.proofs.Cuts.{fail_before, fail_whole, cut_at, passes_at_end}

-- whether a byte is LF
abbrev pub is_lf : ℕ → Bool
is_lf byte = byte == 10

-- the offset of the first LF, or the length of the text if there is none
abbrev pub lf_place : List ℕ → ℕ
lf_place text = position_or_len is_lf text

-- bytes none of which is LF
abbrev pub IsUnended : List ℕ → Type 0
IsUnended line = All (λ byte. is_lf byte ≡ false) line

-- a line that LF ends, without a CR at its end
abbrev pub chomped : List ℕ → List ℕ
chomped [] = []
chomped (byte ∷ []) = cond (byte == 13) [] (byte ∷ [])
chomped (byte ∷ next ∷ bytes) = byte ∷ chomped (next ∷ bytes)

-- a byte before either of two texts
cond-cons : (b : Bool) (byte : ℕ) (one other : List ℕ) → byte ∷ cond b one other ≡ cond b (byte ∷ one) (byte ∷ other)
cond-cons true byte one other = refl
cond-cons false byte one other = refl

-- a line without a CR at its end, by the place of its last byte
pub chomped-is : (line : List ℕ) → chomped line ≡ cond (get_or line (length line - 1) 0 == 13) (take (length line - 1) line) line
chomped-is [] = refl
chomped-is (byte ∷ []) = refl
chomped-is (byte ∷ next ∷ bytes) =
    let last : suc (suc (length bytes)) - 1 ≡ suc (length bytes) = omega arith in
    let before : suc (length bytes) - 1 ≡ length bytes = omega arith in
    rw last (ap (λ line. byte ∷ line) (rw before at (chomped-is (next ∷ bytes))) ∙ cond-cons (get_or (next ∷ bytes) (length bytes) 0 == 13) byte (take (length bytes) (next ∷ bytes)) (next ∷ bytes))

-- LF ends a line, and a CR before it belongs to the end
pub lines_of-lf : (line rest : List ℕ) → IsUnended line → lines_of (line ++ (10 ∷ rest)) ≡ chomped line ∷ lines_of rest
unfolding lines_of
lines_of-lf [] rest free = refl
lines_of-lf (byte ∷ []) rest free =
    let inner : (byte == 10) ≡ false = All-head (λ byte. is_lf byte ≡ false) byte [] free in
    rw inner (elim (byte == 13) as (λ t. cond (t && true) ([] ∷ lines_of rest) ((byte ∷ []) ∷ lines_of rest) ≡ cond t [] (byte ∷ []) ∷ lines_of rest) [
      | true ↦ refl
      | false ↦ refl
    ])
lines_of-lf (byte ∷ next ∷ bytes) rest free =
    let tail = All-tail (λ byte. is_lf byte ≡ false) byte (next ∷ bytes) free in
    let inner : (byte == 10) ≡ false = All-head (λ byte. is_lf byte ≡ false) byte (next ∷ bytes) free in
    let following : (next == 10) ≡ false = All-head (λ byte. is_lf byte ≡ false) next bytes tail in
    let kept : ((byte == 13) && (next == 10)) ≡ false = and_right (byte == 13) (next == 10) following in
    let more = lines_of-lf (next ∷ bytes) rest tail in
    rw (inner, kept) (ap (with_byte byte) more)

-- a last line that LF doesn't end
lines_of-last : (byte : ℕ) (bytes : List ℕ) → IsUnended (byte ∷ bytes) → lines_of (byte ∷ bytes) ≡ (byte ∷ bytes) ∷ []
unfolding lines_of
lines_of-last byte [] free =
    let inner : (byte == 10) ≡ false = All-head (λ byte. is_lf byte ≡ false) byte [] free in
    let kept : ((byte == 13) && false) ≡ false = and_right (byte == 13) false refl in
    rw (inner, kept) refl
lines_of-last byte (next ∷ bytes) free =
    let tail = All-tail (λ byte. is_lf byte ≡ false) byte (next ∷ bytes) free in
    let inner : (byte == 10) ≡ false = All-head (λ byte. is_lf byte ≡ false) byte (next ∷ bytes) free in
    let following : (next == 10) ≡ false = All-head (λ byte. is_lf byte ≡ false) next bytes tail in
    let kept : ((byte == 13) && (next == 10)) ≡ false = and_right (byte == 13) (next == 10) following in
    rw (inner, kept) (ap (with_byte byte) (lines_of-last next bytes tail))

-- a whole line that LF ends
whole_lines_of-lf : (line rest : List ℕ) → IsUnended line → whole_lines_of (line ++ (10 ∷ rest)) ≡ (line ++ (10 ∷ [])) ∷ whole_lines_of rest
unfolding whole_lines_of
whole_lines_of-lf [] rest free = refl
whole_lines_of-lf (byte ∷ bytes) rest free =
    let inner : (byte == 10) ≡ false = All-head (λ byte. is_lf byte ≡ false) byte bytes free in
    rw inner (ap (with_byte byte) (whole_lines_of-lf bytes rest (All-tail (λ byte. is_lf byte ≡ false) byte bytes free)))

-- a whole last line that LF doesn't end
whole_lines_of-last : (byte : ℕ) (bytes : List ℕ) → IsUnended (byte ∷ bytes) → whole_lines_of (byte ∷ bytes) ≡ (byte ∷ bytes) ∷ []
unfolding whole_lines_of
whole_lines_of-last byte [] free = rw (All-head (λ byte. is_lf byte ≡ false) byte [] free) refl
whole_lines_of-last byte (next ∷ bytes) free =
    let inner : (byte == 10) ≡ false = All-head (λ byte. is_lf byte ≡ false) byte (next ∷ bytes) free in
    rw inner (ap (with_byte byte) (whole_lines_of-last next bytes (All-tail (λ byte. is_lf byte ≡ false) byte (next ∷ bytes) free)))

-- a text is its bytes before the first LF, LF, and the bytes after it
cut_at_lf : (text : List ℕ) → lf_place text < length text → text ≡ take (lf_place text) text ++ (10 ∷ drop (lf_place text + 1) text)
cut_at_lf text lt =
    let is : get_or text (lf_place text) 0 ≡ 10 = eqb-true (get_or text (lf_place text) 0) 10 (passes_at_end is_lf text lt) in
    cut_at is_lf text lt ∙ ap (λ byte. take (lf_place text) text ++ (byte ∷ drop (lf_place text + 1) text)) is

-- a first line that LF ends, if its length is e
pub first_line-ended : (text : List ℕ) (e : ℕ) → e ≡ lf_place text → e < length text → lines_of text ≡ chomped (take e text) ∷ lines_of (take (length text - (e + 1)) (drop (e + 1) text))
first_line-ended text e is lt =
    let within : lf_place text < length text = omega arith in
    let step = lines_of-lf (take (lf_place text) text) (drop (lf_place text + 1) text) (fail_before is_lf text) in
    rw (take_rest text (e + 1), is) (ap lines_of (cut_at_lf text within) ∙ step)

-- the first whole line, if its length is e
pub whole_line-ended : (text : List ℕ) (e : ℕ) → e ≡ lf_place text → e < length text → whole_lines_of text ≡ take (e + 1) text ∷ whole_lines_of (take (length text - (e + 1)) (drop (e + 1) text))
whole_line-ended text e is lt =
    let within : lf_place text < length text = omega arith in
    let byte : get_or text (lf_place text) 0 ≡ 10 = eqb-true (get_or text (lf_place text) 0) 10 (passes_at_end is_lf text within) in
    let whole : take (lf_place text + 1) text ≡ take (lf_place text) text ++ (10 ∷ []) = take_more text (lf_place text) 0 within ∙ ap (λ byte. take (lf_place text) text ++ (byte ∷ [])) byte in
    let step = whole_lines_of-lf (take (lf_place text) text) (drop (lf_place text + 1) text) (fail_before is_lf text) in
    rw (take_rest text (e + 1), is, whole) (ap whole_lines_of (cut_at_lf text within) ∙ step)

-- a first line that no LF ends is the whole text
pub first_line-whole : (text : List ℕ) → (length text == 0) ≡ false → length text ≤ lf_place text → lines_of text ≡ text ∷ lines_of []
unfolding lines_of
first_line-whole [] full le = absurd cc
first_line-whole (byte ∷ bytes) full le = lines_of-last byte bytes (fail_whole is_lf (byte ∷ bytes) le)

-- a first whole line that no LF ends is the whole text
pub whole_line-whole : (text : List ℕ) → (length text == 0) ≡ false → length text ≤ lf_place text → whole_lines_of text ≡ text ∷ whole_lines_of []
unfolding whole_lines_of
whole_line-whole [] full le = absurd cc
whole_line-whole (byte ∷ bytes) full le = whole_lines_of-last byte bytes (fail_whole is_lf (byte ∷ bytes) le)

-- a plain line has no CR at its end
chomped-plain : (line : List ℕ) → IsPlain line → chomped line ≡ line
chomped-plain [] plain = refl
chomped-plain (byte ∷ []) plain =
    let high : 32 ≤ byte = All-head (λ byte. 32 ≤ byte) byte [] plain in
    rw (ne_eqb byte 13 (λ same. omega arith)) refl
chomped-plain (byte ∷ next ∷ bytes) plain =
    ap (λ line. byte ∷ line) (chomped-plain (next ∷ bytes) (All-tail (λ byte. 32 ≤ byte) byte (next ∷ bytes) plain))

-- a plain line with LF is the first line
pub lines_of-plain : (line rest : List ℕ) → IsPlain line → lines_of (line ++ (10 ∷ rest)) ≡ line ∷ lines_of rest
lines_of-plain line rest plain =
    let free : IsUnended line = All-weaker (λ byte. 32 ≤ byte) (λ byte. is_lf byte ≡ false) (λ byte high. ne_eqb byte 10 (λ same. omega arith)) line plain in
    lines_of-lf line rest free ∙ ap (λ first. first ∷ lines_of rest) (chomped-plain line plain)

-- a text of plain lines has these lines
pub lines_of-text_of : (lines : List (List ℕ)) → All IsPlain lines → lines_of (text_of lines) ≡ lines
unfolding lines_of text_of
lines_of-text_of [] plain = refl
lines_of-text_of (line ∷ lines) plain =
    rw (append_assoc line (10 ∷ []) (text_of lines)) (lines_of-plain line (text_of lines) (All-head IsPlain line lines plain) ∙ ap (λ more. line ∷ more) (lines_of-text_of lines (All-tail IsPlain line lines plain)))
