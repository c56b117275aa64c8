-- The lines of a file of memory words, one after the other.
use Rattle.std.proofs.Common.{◌≡◌, ℕ, suc, ◌+◌, ◌*◌, ◌<◌, ◌≤◌, Bool, ◌&&◌, ◌==◌, List, [], ◌∷◌, ◌++◌, length, drop, refl, sym, ap, ◌∙◌, subst, inl, inr, arith, length-append}
use Rattle.std.specs.Prelude.{Option, Some, None, map}
use Rattle.std.proofs.lemmas.Bool.{cases_lt, cases_Bool}
use Rattle.shared_lemmas.proofs.Cuts.{drop_end}
use Rattle.index_search.specs.Places.{or_else}
use Rattle.index_search.proofs.Places.{first_below-none, first_below-first, gathered_below-more, gathered_below-none}
use Rattle.text_lines.specs.Lines.{lines_of, whole_lines_of, line_at, with_byte, is_at_lf}
use Rattle.bram_replace.specs.declared.fault.HexFault.{HexFault}
use Rattle.bram_replace.specs.declared.fault.HexFault.TheVariants.{Digit, Width, Depth, Memory}
use Rattle.bram_replace.specs.HexText.{all_words, before_comment, begins_comment, contents_of, depth_cause, digits_set, hex_fault_of, line_cause, words_before, words_cause, words_in, bits_in, TellsHex}
use Rattle.bram_replace.specs.Collected.{Holds}

-- ---- lengths

abbrev first_length : List (List ℕ) → ℕ
first_length [] = 0
first_length (line ∷ lines) = length line

first_length-more : (byte : ℕ) (lines : List (List ℕ)) → first_length (with_byte byte lines) ≡ suc (first_length lines)
first_length-more byte [] = refl
first_length-more byte (line ∷ lines) = refl

content-first : (text : List ℕ) → first_length (lines_of text) ≤ first_length (whole_lines_of text)
unfolding lines_of whole_lines_of
content-first [] = omega arith
content-first (byte ∷ bytes) =
    let later = content-first bytes in
    elim (cases_Bool (byte == 10)) [
      | inl lf ↦ rw lf (omega arith)
      | inr other ↦ rw (other, first_length-more byte (whole_lines_of bytes)) (elim (cases_Bool ((byte == 13) && is_at_lf bytes)) [
        | inl cr ↦ rw cr (omega (arith, later))
        | inr inner ↦ rw (inner, first_length-more byte (lines_of bytes)) (omega (arith, later))
      ])
    ]

-- a line without its end is no longer than with it
pub content-within : (text content whole : List ℕ) (lines wholes : List (List ℕ)) → lines_of text ≡ content ∷ lines → whole_lines_of text ≡ whole ∷ wholes → length content ≤ length whole
content-within text content whole lines wholes is are =
    subst (λ ws. length content ≤ first_length ws) are (subst (λ ls. first_length ls ≤ first_length (whole_lines_of text)) is (content-first text))

before_comment-few : (line : List ℕ) → length (before_comment line) ≤ length line
unfolding before_comment
before_comment-few [] = omega arith
before_comment-few (byte ∷ bytes) =
    let later = before_comment-few bytes in
    elim (cases_Bool (begins_comment (byte ∷ bytes))) [
      | inl begins ↦ rw begins (omega arith)
      | inr inner ↦ rw inner (omega (arith, later))
    ]

-- the bits of a line have room in four bits for each byte of it
pub room-more : (text content whole rest : List ℕ) (lines wholes : List (List ℕ)) (old new all : ℕ) → lines_of text ≡ content ∷ lines → whole_lines_of text ≡ whole ∷ wholes
    → text ≡ whole ++ rest → old + 4 * length text ≤ all → new ≤ old + 4 * length (before_comment content) → new + 4 * length rest ≤ all
room-more text content whole rest lines wholes old new all is are parts room more =
    omega (arith, content-within text content whole lines wholes is are, before_comment-few content, ap length parts, length-append whole rest)

-- ---- lines by their index

-- no line is left
pub cut-end : (text left : List ℕ) (k : ℕ) → lines_of left ≡ drop k (lines_of text) → left ≡ [] → k ≤ length (lines_of text) → k ≡ length (lines_of text)
unfolding lines_of
cut-end text left k rest none within = drop_end (lines_of text) k (sym rest ∙ ap lines_of none) within

-- ---- what was read

pub record ReadSoFar (text : List ℕ) (count : ℕ) (digits : Option ℕ) (bits : List Bool) : Type 0 where
  pub holds : Holds (words_before (lines_of text) count) digits bits
  pub fine : (k : ℕ) → k < count → line_cause (lines_of text) k ≡ None

pub ReadSoFar-none : (text : List ℕ) (digits : Option ℕ) (bits : List Bool) → Holds [] digits bits → ReadSoFar text 0 digits bits
ReadSoFar-none text digits bits holds = record {
  holds = subst (λ words. Holds words digits bits) (sym (gathered_below-none 0 (λ k. words_in (line_at (lines_of text) k)) (λ k below. absurd (omega arith)))) holds;
  fine = λ k below. absurd (omega arith);
}

-- the words up to a line, that line's among them
words-more : (text line : List ℕ) (count : ℕ) → line_at (lines_of text) count ≡ line → words_before (lines_of text) (count + 1) ≡ words_before (lines_of text) count ++ words_in line
words-more text line count at = gathered_below-more count (λ k. words_in (line_at (lines_of text) k)) ∙ ap (λ l. words_before (lines_of text) count ++ words_in l) at

cause-is : (text line : List ℕ) (count : ℕ) → line_at (lines_of text) count ≡ line
    → line_cause (lines_of text) count ≡ words_cause (digits_set (words_before (lines_of text) count ++ words_in line)) (words_in line) (count + 1)
cause-is text line count at =
    ap (λ words. words_cause (digits_set words) (words_in (line_at (lines_of text) count)) (count + 1)) (words-more text line count at)
    ∙ ap (λ l. words_cause (digits_set (words_before (lines_of text) count ++ words_in line)) (words_in l) (count + 1)) at

-- a line more
pub ReadSoFar-more : (text line : List ℕ) (count : ℕ) (digits next : Option ℕ) (bits new : List Bool) → ReadSoFar text count digits bits → line_at (lines_of text) count ≡ line
    → ((words : List (List ℕ)) → Holds words digits bits → Holds (words ++ words_in line) next new)
    → ((words : List (List ℕ)) → Holds words digits bits → words_cause (digits_set (words ++ words_in line)) (words_in line) (count + 1) ≡ None)
    → ReadSoFar text (count + 1) next new
ReadSoFar-more text line count digits next bits new read at taken accepted = record {
  holds = subst (λ words. Holds words next new) (sym (words-more text line count at)) (taken (words_before (lines_of text) count) read.holds);
  fine = λ k below. elim (cases_lt k count) [
    | inl less ↦ read.fine k less
    | inr more ↦
        let e : count ≡ k = omega arith in
        subst (λ n. line_cause (lines_of text) n ≡ None) e (cause-is text line count at ∙ accepted (words_before (lines_of text) count) read.holds)
  ];
}

tells-carried : (fault other : Option HexFault) (told : HexFault) → TellsHex fault told → ((f : HexFault) → fault ≡ Some f → other ≡ Some f) → TellsHex other told
tells-carried fault other (Digit line) tells carry = carry (Digit line) tells
tells-carried fault other (Width line) tells carry = carry (Width line) tells
tells-carried fault other Depth tells carry = carry Depth tells
tells-carried fault other (Memory e) tells carry = tt

-- the first faulty line
pub first_fault : (text line : List ℕ) (count : ℕ) (digits : Option ℕ) (bits : List Bool) (told : HexFault) → ReadSoFar text count digits bits → count < length (lines_of text)
    → line_at (lines_of text) count ≡ line
    → ((words : List (List ℕ)) → Holds words digits bits → TellsHex (words_cause (digits_set (words ++ words_in line)) (words_in line) (count + 1)) told)
    → TellsHex (hex_fault_of text) told
unfolding hex_fault_of
first_fault text line count digits bits told read within at refused =
    tells-carried (words_cause (digits_set (words_before (lines_of text) count ++ words_in line)) (words_in line) (count + 1)) (hex_fault_of text) told
    (refused (words_before (lines_of text) count) read.holds)
    (λ f is. ap (λ o. or_else o (depth_cause (length (all_words text))))
    (first_below-first (length (lines_of text)) count (line_cause (lines_of text)) f within read.fine (cause-is text line count at ∙ is)))

-- at the end the number of words decides
pub end_fault : (text : List ℕ) (digits : Option ℕ) (bits : List Bool) → ReadSoFar text (length (lines_of text)) digits bits → hex_fault_of text ≡ depth_cause (length (all_words text))
unfolding hex_fault_of
end_fault text digits bits read =
    ap (λ o. or_else o (depth_cause (length (all_words text)))) (first_below-none (length (lines_of text)) (line_cause (lines_of text)) read.fine)

-- what all words say
pub contents-is : (text : List ℕ) → record { digits = digits_set (all_words text); words = map bits_in (all_words text) } ≡ contents_of text
unfolding contents_of
contents-is text = refl
