-- Words and the separators that part them.
use Rattle.std.proofs.Common.{◌≡◌, ℕ, suc, ◌+◌, ◌-◌, ◌<◌, ◌≤◌, true, false, not, cond, List, [], ◌∷◌, ◌++◌, length, take, take_while, drop, get_or, refl, sym, ap, ◌∙◌, arith, inl, inr}
use Rattle.std.proofs.lemmas.Bool.{cases_lt, cases_Bool, lt-ltb, le-ltb, ne_eqb}
use Rattle.std.proofs.lemmas.List.{take_all, drop_all, drop_more, take_rest, length-drop, length-take-le}
use Rattle.std.proofs.lemmas.List.Elements.{All-head, All-tail, All-weaker}
use Rattle.std.proofs.lemmas.List.Sums.{take_while-cons}
use Rattle.std.specs.Prelude.{Some, None, All, position}
use Rattle.std.specs.List.{position_or_len}
use Rattle.text_lines.specs.Lines.{with_byte}
use Rattle.text_lines.specs.declared.words.Separators.{Separators}
use Rattle.text_lines.specs.declared.words.Separators.TheVariants.{Spaces, SpacesAndTabs, Whitespace}
use Rattle.text_lines.specs.Words.{is_separator, pieces_of, words_of, from_word, first_word, after_word}
use Rattle.text_lines.proofs.Cuts.{end-within, fail_before, cut_at, passes_at_end, position_or_len-none}

-- bytes none of which parts words
abbrev pub IsUnparted : Separators → List ℕ → Type 0
IsUnparted s word = All (λ byte. is_separator s byte ≡ false) word

-- a word that a line can have: some bytes, and no separator among them
pub record IsWord (s : Separators) (word : List ℕ) : Type 0 where
  pub some : 0 < length word
  pub free : IsUnparted s word

-- the offset of the first separator, or the length of the line if there is none
abbrev pub end_of : Separators → List ℕ → ℕ
end_of s line = position_or_len (is_separator s) line

-- a byte above the space is no separator
high-inner : (s : Separators) (byte : ℕ) → 32 < byte → is_separator s byte ≡ false
high-inner Spaces byte high = ne_eqb byte 32 (λ same. omega arith)
high-inner SpacesAndTabs byte high = rw (ne_eqb byte 32 (λ same. omega arith), ne_eqb byte 9 (λ same. omega arith)) refl
high-inner Whitespace byte high =
    rw (ne_eqb byte 32 (λ same. omega arith), ne_eqb byte 9 (λ same. omega arith), ne_eqb byte 13 (λ same. omega arith)) refl

-- a space is one
pub space-parts : (s : Separators) → is_separator s 32 ≡ true
space-parts Spaces = refl
space-parts SpacesAndTabs = refl
space-parts Whitespace = refl

-- bytes above the space are a word
pub IsWord-high : (s : Separators) (word : List ℕ) → 0 < length word → All (λ byte. 32 < byte) word → IsWord s word
IsWord-high s word some high = record {
  some = some;
  free = All-weaker (λ byte. 32 < byte) (λ byte. is_separator s byte ≡ false) (high-inner s) word high;
}

-- a text of length 0
pub empty : (text : List ℕ) → length text ≡ 0 → text ≡ []
empty [] none = refl
empty (byte ∷ bytes) none = absurd (omega arith)

-- an empty line has no word
words_of-nothing : (s : Separators) → words_of s [] ≡ []
unfolding words_of pieces_of
words_of-nothing s = refl

-- a separator at the front parts no word
pub words_of-separator : (s : Separators) (byte : ℕ) (line : List ℕ) → is_separator s byte ≡ true → words_of s (byte ∷ line) ≡ words_of s line
unfolding words_of pieces_of
words_of-separator s byte line parts = rw parts refl

-- a piece that a separator ends
pieces_of-ended : (s : Separators) (word : List ℕ) (byte : ℕ) (rest : List ℕ) → IsUnparted s word → is_separator s byte ≡ true
    → pieces_of s (word ++ (byte ∷ rest)) ≡ word ∷ pieces_of s rest
unfolding pieces_of
pieces_of-ended s [] byte rest free parts = rw parts refl
pieces_of-ended s (first ∷ bytes) byte rest free parts =
    let inner : is_separator s first ≡ false = All-head (λ byte. is_separator s byte ≡ false) first bytes free in
    rw inner (ap (with_byte first) (pieces_of-ended s bytes byte rest (All-tail (λ byte. is_separator s byte ≡ false) first bytes free) parts))

-- a piece alone
pieces_of-free : (s : Separators) (word : List ℕ) → IsUnparted s word → pieces_of s word ≡ word ∷ []
unfolding pieces_of
pieces_of-free s [] free = refl
pieces_of-free s (byte ∷ bytes) free =
    let inner : is_separator s byte ≡ false = All-head (λ byte. is_separator s byte ≡ false) byte bytes free in
    rw inner (ap (with_byte byte) (pieces_of-free s bytes (All-tail (λ byte. is_separator s byte ≡ false) byte bytes free)))

-- a word that a separator ends is the first word
pub words_of-word : (s : Separators) (word : List ℕ) (byte : ℕ) (rest : List ℕ) → IsWord s word → is_separator s byte ≡ true
    → words_of s (word ++ (byte ∷ rest)) ≡ word ∷ words_of s rest
unfolding words_of
words_of-word s word byte rest is parts = rw (pieces_of-ended s word byte rest is.free parts, lt-ltb 0 (length word) is.some) refl

-- a word alone
pub words_of-last : (s : Separators) (word : List ℕ) → IsWord s word → words_of s word ≡ word ∷ []
unfolding words_of
words_of-last s word is = rw (pieces_of-free s word is.free, lt-ltb 0 (length word) is.some) refl

-- the line from its first word on

-- a line that begins with another byte than a separator begins with its first word
pub from_word-inner : (s : Separators) (byte : ℕ) (bytes : List ℕ) → is_separator s byte ≡ false → from_word s (byte ∷ bytes) ≡ byte ∷ bytes
unfolding from_word
from_word-inner s byte bytes inner = rw inner refl

-- a line and its rest from its first word on have the same words
pub words_of-from_word : (s : Separators) (line : List ℕ) → words_of s (from_word s line) ≡ words_of s line
unfolding words_of pieces_of from_word
words_of-from_word s [] = refl
words_of-from_word s (byte ∷ bytes) =
    elim (cases_Bool (is_separator s byte)) [
      | inl parts ↦ rw parts (words_of-from_word s bytes)
      | inr inner ↦ ap (words_of s) (from_word-inner s byte bytes inner)
    ]

-- if a line has a word, its first byte is no separator
from_word-starts : (s : Separators) (line : List ℕ) (byte : ℕ) (bytes : List ℕ) → from_word s line ≡ byte ∷ bytes → is_separator s byte ≡ false
unfolding from_word
from_word-starts s [] byte bytes is = absurd cc
from_word-starts s (first ∷ line) byte bytes is =
    elim (cases_Bool (is_separator s first)) [
      | inl parts ↦
          let later : from_word s line ≡ byte ∷ bytes = rw parts at is in
          from_word-starts s line byte bytes later
      | inr inner ↦
          let here : first ∷ line ≡ byte ∷ bytes = rw inner at is in
          let same : first ≡ byte = cc in
          rw same at inner
    ]

-- the first word starts at the first byte that is no separator
pub from_word-is : (s : Separators) (line : List ℕ) → from_word s line ≡ drop (position_or_len (λ byte. not (is_separator s byte)) line) line
unfolding from_word
from_word-is s [] = refl
from_word-is s (byte ∷ bytes) =
    let rest = position_or_len (λ byte. not (is_separator s byte)) bytes in
    let one : 1 + rest ≡ suc rest = omega arith in
    elim (is_separator s byte) as (λ t. cond t (from_word s bytes) (byte ∷ bytes) ≡ drop (cond (not (not t)) (1 + rest) 0) (byte ∷ bytes)) [
      | true ↦ rw one (from_word-is s bytes)
      | false ↦ refl
    ]

-- the place of the first byte that is no separator
pub from_word-place : (s : Separators) (line : List ℕ) (place : ℕ) → position (λ byte. not (is_separator s byte)) line ≡ Some place → from_word s line ≡ take (length line - place) (drop place line)
from_word-place s line place found =
    let first = position_or_len (λ byte. not (is_separator s byte)) line in
    elim (cases_lt first (length line)) [
      | inl lt ↦
          let chosen : Some first ≡ Some place = rw (lt-ltb first (length line) lt) at found in
          let same : first ≡ place = cc in
          rw (take_rest line place, ← same) (from_word-is s line)
      | inr le ↦
          let none : None ≡ Some place = rw (le-ltb first (length line) le) at found in
          absurd cc
    ]

-- a line of separators alone
pub from_word-none : (s : Separators) (line : List ℕ) → position (λ byte. not (is_separator s byte)) line ≡ None → from_word s line ≡ []
from_word-none s line none =
    let first = position_or_len (λ byte. not (is_separator s byte)) line in
    let end : first ≡ length line = position_or_len-none (λ byte. not (is_separator s byte)) line none in
    from_word-is s line ∙ drop_all first line (omega arith)

-- the first word

-- a line that begins with its first word
first_of-word : (s : Separators) (byte : ℕ) (bytes : List ℕ) → is_separator s byte ≡ false → words_of s (byte ∷ bytes) ≡ take (end_of s (byte ∷ bytes)) (byte ∷ bytes) ∷ words_of s (drop (end_of s (byte ∷ bytes)) (byte ∷ bytes))
first_of-word s byte bytes inner =
    let line : List ℕ = byte ∷ bytes in
    let end : ℕ = end_of s line in
    let positive : 0 < cond (not (is_separator s byte)) (1 + end_of s bytes) 0 = rw inner (omega arith) in
    let count : length (take end line) ≡ end = length-take-le end line (end-within (is_separator s) line) in
    let word : IsWord s (take end line) = record { some = omega arith; free = fail_before (is_separator s) line } in
    elim (cases_lt end (length line)) [
      | inl lt ↦
          let byte : ℕ = get_or line end 0 in
          let parts : is_separator s byte ≡ true = passes_at_end (is_separator s) line lt in
          let following : drop end line ≡ byte ∷ drop (end + 1) line = drop_more line end 0 lt in
          ap (words_of s) (cut_at (is_separator s) line lt) ∙ words_of-word s (take end line) byte (drop (end + 1) line) word parts
          ∙ ap (λ rest. take end line ∷ rest) (sym (words_of-separator s byte (drop (end + 1) line) parts) ∙ ap (words_of s) (sym following))
      | inr le ↦
          let all : take end line ≡ line = take_all end line le in
          let none : drop end line ≡ [] = drop_all end line le in
          ap (words_of s) (sym all) ∙ words_of-last s (take end line) word ∙ ap (λ rest. take end line ∷ rest) (sym (ap (words_of s) none ∙ words_of-nothing s))
    ]

-- a line from its first word on has a byte before its first separator
starts_late : (s : Separators) (rest line : List ℕ) → rest ≡ from_word s line → 0 < length rest → end_of s rest ≡ 0 → ⊥
starts_late s [] line is some at_front = omega arith
starts_late s (byte ∷ bytes) line is some at_front =
    let inner : is_separator s byte ≡ false = from_word-starts s line byte bytes (sym is) in
    let positive : 0 < cond (not (is_separator s byte)) (1 + end_of s bytes) 0 = rw inner (omega arith) in
    omega arith

-- the first word of a line is cut, at the first separator, from the line from its first word on
pub words_of-cut : (s : Separators) (line rest : List ℕ) → rest ≡ from_word s line → 0 < length rest → words_of s line ≡ take (end_of s rest) rest ∷ words_of s (drop (end_of s rest) rest)
words_of-cut s line [] is some = absurd (omega arith)
words_of-cut s line (byte ∷ bytes) is some =
    sym (words_of-from_word s line) ∙ ap (words_of s) (sym is) ∙ first_of-word s byte bytes (from_word-starts s line byte bytes (sym is))

-- a line from its first word on is a part of the line
pub length-from_word : (s : Separators) (line : List ℕ) → length (from_word s line) ≤ length line
unfolding from_word
length-from_word s [] = omega arith
length-from_word s (byte ∷ bytes) =
    elim (cases_Bool (is_separator s byte)) [
      | inl parts ↦ rw parts (omega (arith, length-from_word s bytes))
      | inr inner ↦ rw inner (omega arith)
    ]

-- what follows the first word is shorter than the line
pub length-after : (s : Separators) (line rest : List ℕ) → rest ≡ from_word s line → 0 < length rest → length (drop (end_of s rest) rest) < length line
length-after s line rest is some =
    let within : length rest ≤ length line = omega (arith, length-from_word s line, ap length is) in
    let late : end_of s rest ≡ 0 → ⊥ = starts_late s rest line is some in
    omega (arith, length-drop (end_of s rest) rest)

-- a line without a word
pub words_of-none : (s : Separators) (line : List ℕ) → from_word s line ≡ [] → words_of s line ≡ []
words_of-none s line none = sym (words_of-from_word s line) ∙ ap (words_of s) none ∙ words_of-nothing s

-- a line that begins with no separator has a first word
first_word-starts : (s : Separators) (byte : ℕ) (bytes : List ℕ) → is_separator s byte ≡ false → take_while (λ byte. not (is_separator s byte)) (byte ∷ bytes) ≡ [] → byte ∷ bytes ≡ []
first_word-starts s byte bytes inner none =
    let whole = sym (take_while-cons (λ (b : ℕ). not (is_separator s b)) byte bytes) ∙ none in
    let cut : byte ∷ take_while (λ (b : ℕ). not (is_separator s b)) bytes ≡ [] = rw inner at whole in
    absurd (cc cut)

-- if there is no first word, nothing is left from it on
from_word-nothing : (s : Separators) (line : List ℕ) → first_word s line ≡ [] → from_word s line ≡ []
unfolding from_word
from_word-nothing s [] none = refl
from_word-nothing s (byte ∷ bytes) none =
    elim (cases_Bool (is_separator s byte)) [
      | inl parts ↦ rw parts (from_word-nothing s bytes (rw parts at none))
      | inr inner ↦ rw inner (first_word-starts s byte bytes inner (rw inner at none))
    ]

-- nothing follows if there is no word
pub after_no_word : (s : Separators) (line : List ℕ) → first_word s line ≡ [] → after_word s line ≡ []
after_no_word s line none = rw (none, from_word-nothing s line none) refl

-- two words with a space between them
pub words_of-two : (s : Separators) (first second : List ℕ) → IsWord s first → IsWord s second → words_of s (first ++ (32 ∷ second)) ≡ first ∷ second ∷ []
words_of-two s first second one two = words_of-word s first 32 second one (space-parts s) ∙ ap (λ rest. first ∷ rest) (words_of-last s second two)

-- three words with a space between each two
pub words_of-three : (s : Separators) (first second third : List ℕ) → IsWord s first → IsWord s second → IsWord s third → words_of s (first ++ (32 ∷ (second ++ (32 ∷ third)))) ≡ first ∷ second ∷ third ∷ []
words_of-three s first second third one two three = words_of-word s first 32 (second ++ (32 ∷ third)) one (space-parts s) ∙ ap (λ rest. first ∷ rest) (words_of-two s second third two three)
