-- The definitions at small texts, worked out by hand.
use Rattle.std.proofs.Common.{◌≡◌, [], ◌∷◌, refl}
use Rattle.std.specs.Prelude.{codes, Some, None}
use Rattle.text_lines.specs.Lines.{lines_of, whole_lines_of, trimmed}
use Rattle.text_lines.specs.declared.words.Separators.TheVariants.{Spaces, SpacesAndTabs}
use Rattle.text_lines.specs.Words.{words_of, pieces_of, from_word, first_word, after_word, number_of, numbers_of}

-- an empty text has no line
lines_of_nothing : lines_of [] ≡ []
unfolding lines_of
lines_of_nothing = refl

-- LF alone ends an empty line
lines_of_lf : lines_of (codes "\n") ≡ [] ∷ []
unfolding lines_of
lines_of_lf = refl

-- a CR just before LF belongs to the end, and the last line may have no LF
lines_of_three : lines_of (codes "a\r\n\nb") ≡ codes "a" ∷ [] ∷ codes "b" ∷ []
unfolding lines_of
lines_of_three = refl

-- after a last LF there is no line
lines_of_ended : lines_of (codes "a\n") ≡ codes "a" ∷ []
unfolding lines_of
lines_of_ended = refl

-- CR LF alone ends an empty line
lines_of_cr_lf : lines_of (codes "\r\n") ≡ [] ∷ []
unfolding lines_of
lines_of_cr_lf = refl

-- of two CR before LF the first is a byte of its line
lines_of_two_cr : lines_of (codes "a\r\r\nb") ≡ codes "a\r" ∷ codes "b" ∷ []
unfolding lines_of
lines_of_two_cr = refl

-- a CR at the end of the text, or within a line, is a byte of its line
lines_of_last_cr : lines_of (codes "a\rb\nc\r") ≡ codes "a\rb" ∷ codes "c\r" ∷ []
unfolding lines_of
lines_of_last_cr = refl

-- lines with their ends
whole_lines_of_three : whole_lines_of (codes "a\r\n\nb\r") ≡ codes "a\r\n" ∷ codes "\n" ∷ codes "b\r" ∷ []
unfolding whole_lines_of
whole_lines_of_three = refl

-- spaces and tabs at the end go, those before another byte stay
trimmed_some : trimmed (codes " a \tb \t ") ≡ codes " a \tb"
unfolding trimmed
trimmed_some = refl

-- nothing is left of blanks alone
trimmed_blanks : trimmed (codes " \t") ≡ []
unfolding trimmed
trimmed_blanks = refl

-- a CR is no blank
trimmed_cr : trimmed (codes "a \r") ≡ codes "a \r"
unfolding trimmed
trimmed_cr = refl

-- an empty line has no word, nor has one of spaces
words_of_nothing : words_of Spaces [] ≡ []
unfolding words_of pieces_of
words_of_nothing = refl

words_of_spaces : words_of Spaces (codes "  ") ≡ []
unfolding words_of pieces_of
words_of_spaces = refl

-- several spaces part words as one does, and a tab is a byte of its word
words_of_some : words_of Spaces (codes " a  b\tc ") ≡ codes "a" ∷ codes "b\tc" ∷ []
unfolding words_of pieces_of
words_of_some = refl

-- or parts words too
words_of_tabs : words_of SpacesAndTabs (codes " a \tb\tc ") ≡ codes "a" ∷ codes "b" ∷ codes "c" ∷ []
unfolding words_of pieces_of
words_of_tabs = refl

-- the first word, and what follows it, spaces included
first_word_some : first_word Spaces (codes "  ab  c ") ≡ codes "ab"
unfolding from_word
first_word_some = refl

after_word_some : after_word Spaces (codes "  ab  c ") ≡ codes "  c "
unfolding from_word
after_word_some = refl

first_word_none : first_word Spaces (codes "  ") ≡ []
unfolding from_word
first_word_none = refl

after_word_none : after_word Spaces (codes "  ") ≡ []
unfolding from_word
after_word_none = refl

-- leading zeros count as digits
number_of_seven : number_of (codes "007") ≡ Some 7
unfolding number_of
number_of_seven = refl

number_of_nine : number_of (codes "123456789") ≡ Some 123456789
unfolding number_of
number_of_nine = refl

-- ten digits are no number, nor is an empty word, nor one with another byte
number_of_ten : number_of (codes "0123456789") ≡ None
unfolding number_of
number_of_ten = refl

number_of_nothing : number_of [] ≡ None
unfolding number_of
number_of_nothing = refl

number_of_letter : number_of (codes "1a") ≡ None
unfolding number_of
number_of_letter = refl

-- the numbers of all words; none if one of them is no number
numbers_of_two : numbers_of (codes "12" ∷ codes "3" ∷ []) ≡ Some (12 ∷ 3 ∷ [])
unfolding numbers_of number_of
numbers_of_two = refl

numbers_of_none : numbers_of (codes "12" ∷ codes "x" ∷ []) ≡ None
unfolding numbers_of number_of
numbers_of_none = refl

numbers_of_nothing : numbers_of [] ≡ Some []
unfolding numbers_of
numbers_of_nothing = refl
