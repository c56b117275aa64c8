-- The words of a line of a pin file.
use Rattle.std.proofs.Common.{◌≡◌, ℕ, Bool, true, false, List, [], ◌∷◌, length, take, refl, sym, ap, ◌∙◌, inl, inr, arith}
use Rattle.std.specs.Prelude.{Some, None, position}
use Rattle.std.specs.List.{before_first, position_or_len}
use Rattle.std.proofs.lemmas.Bool.{cases_lt, lt-ltb, le-ltb}
use Rattle.std.proofs.lemmas.List.{take_all}
use Rattle.shared_lemmas.proofs.Searches.{position_or_len-none}
use Rattle.text_lines.specs.declared.words.Separators.TheVariants.{Spaces}
use Rattle.text_lines.specs.Words.{words_of}
use Rattle.pin_file.specs.Lines.{Line, begins_remark, after_options, is_option, line_of, line_of_words, plain_line, takes_word}

-- a word that is no option ends the options
options-end : (word : List ℕ) (words : List (List ℕ)) → is_option word ≡ false → after_options false (word ∷ words) ≡ word ∷ words
unfolding after_options
options-end word words other = rw other refl

options-next : (word : List ℕ) (words : List (List ℕ)) → is_option word ≡ true → after_options false (word ∷ words) ≡ after_options (takes_word word) words
unfolding after_options
options-next word words is = rw is refl

-- the options end before a word that is none
pub options-stopped : (left all : List (List ℕ)) (word : List ℕ) (words : List (List ℕ)) → after_options false left ≡ after_options false all → left ≡ word ∷ words
    → is_option word ≡ false → left ≡ after_options false all
options-stopped left all word words so_far is other = is ∙ sym (options-end word words other) ∙ ap (after_options false) (sym is) ∙ so_far

-- or if no word is left
pub options-none : (left all : List (List ℕ)) → after_options false left ≡ after_options false all → left ≡ [] → left ≡ after_options false all
unfolding after_options
options-none left all so_far none = none ∙ ap (after_options false) (sym none) ∙ so_far

-- they continue after an option
pub options-more : (left all next : List (List ℕ)) (word : List ℕ) (words : List (List ℕ)) → after_options false left ≡ after_options false all → left ≡ word ∷ words
    → is_option word ≡ true → after_options false next ≡ after_options (takes_word word) words → after_options false next ≡ after_options false all
options-more left all next word words so_far is option following =
    following ∙ sym (options-next word words option) ∙ ap (after_options false) (sym is) ∙ so_far

-- a word that belongs to an option
pub option-with : (word : List ℕ) (words all : List (List ℕ)) (belongs : Bool) → belongs ≡ true → all ≡ word ∷ words → after_options false words ≡ after_options belongs all
unfolding after_options
option-with word words all belongs with is = rw (with, is) refl

pub option-without : (words : List (List ℕ)) (belongs : Bool) → words ≡ [] → after_options false words ≡ after_options belongs words
unfolding after_options
option-without words belongs none = rw none refl

pub option-alone : (words : List (List ℕ)) (belongs : Bool) → belongs ≡ false → after_options false words ≡ after_options belongs words
option-alone words belongs alone = rw alone refl

-- ---- remarks

-- what comes before a comment
pub before-remark : (line : List ℕ) (offset : ℕ) → position begins_remark line ≡ Some offset → take offset line ≡ before_first begins_remark line
before-remark line offset found =
    let first = position_or_len begins_remark line in
    elim (cases_lt first (length line)) [
      | inl within ↦
          let chosen : Some first ≡ Some offset = rw (lt-ltb first (length line) within) at found in
          let same : offset ≡ first = cc in
          ap (λ n. take n line) same
      | inr over ↦
          let none : None ≡ Some offset = rw (le-ltb first (length line) over) at found in
          absurd cc
    ]

-- a line without a remark
pub no-remark : (line : List ℕ) → position begins_remark line ≡ None → line ≡ before_first begins_remark line
no-remark line none = sym (take_all (position_or_len begins_remark line) line (omega (arith, position_or_len-none begins_remark line none)))

-- ---- lines

-- what a line says by its plain words
pub line-said : (line plain : List ℕ) (said : Line) → plain ≡ plain_line line → said ≡ line_of_words (words_of Spaces plain) → said ≡ line_of line
unfolding line_of
line-said line plain said plain_is is = is ∙ ap (λ p. line_of_words (words_of Spaces p)) plain_is
