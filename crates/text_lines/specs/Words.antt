-- Words and decimal numbers. Source of the words: Project IceStorm, 'iCE40 ASCII format'. That a number has at most nine digits is this
-- project's choice.
use Rattle.std.specs.Prelude.{ℕ, ◌+◌, ◌-◌, ◌*◌, Bool, not, ◌&&◌, ◌||◌, List, [], ◌∷◌, length, fold, filter, take_while, drop, nat_lt, nat_le, ◌==◌, if◌then◌else◌, Option, Some, None}
use Rattle.std.specs.List.{list_all}
use Rattle.std.specs.Char.{is_ascii_digit}
use Rattle.text_lines.specs.declared.words.Separators.{Separators}
use Rattle.text_lines.specs.declared.words.Separators.TheVariants.{Spaces, SpacesAndTabs, Whitespace}
use Rattle.text_lines.specs.Lines.{with_byte, is_blank}

-- whether a byte separates words: a space always does, a tab and a CR only if the caller asks for it
abbrev pub is_separator : Separators → ℕ → Bool
is_separator Spaces byte = byte == 32
is_separator SpacesAndTabs byte = is_blank byte
is_separator Whitespace byte = is_blank byte || (byte == 13)

-- the pieces between single separators; two separators in a row have an empty piece between them
unfoldable pub pieces_of : Separators → List ℕ → List (List ℕ)
pieces_of separators [] = [] ∷ []
pieces_of separators (byte ∷ bytes) =
    if is_separator separators byte then [] ∷ pieces_of separators bytes else with_byte byte (pieces_of separators bytes)

-- the words, separated by one or more separators
unfoldable pub words_of : Separators → List ℕ → List (List ℕ)
words_of separators line = filter (λ piece. nat_lt 0 (length piece)) (pieces_of separators line)

-- a line from its first word on
unfoldable pub from_word : Separators → List ℕ → List ℕ
from_word separators [] = []
from_word separators (byte ∷ bytes) = if is_separator separators byte then from_word separators bytes else byte ∷ bytes

-- the first word, or nothing if there is none
abbrev pub first_word : Separators → List ℕ → List ℕ
first_word separators line = take_while (λ byte. not (is_separator separators byte)) (from_word separators line)

-- what follows the first word, with its separators
abbrev pub after_word : Separators → List ℕ → List ℕ
after_word separators line = drop (length (first_word separators line)) (from_word separators line)

-- the number that decimal digits write
abbrev pub digits_value : List ℕ → ℕ
digits_value digits = fold (λ n digit. 10 * n + (digit - 48)) 0 digits

-- one to nine decimal digits
abbrev pub is_number : List ℕ → Bool
is_number word = nat_lt 0 (length word) && nat_le (length word) 9 && list_all is_ascii_digit word

-- the number that a word writes
unfoldable pub number_of : List ℕ → Option ℕ
number_of word = if is_number word then Some (digits_value word) else None

-- a number in front of others, if each of them exists
abbrev pub with_number : Option ℕ → Option (List ℕ) → Option (List ℕ)
with_number (Some number) (Some numbers) = Some (number ∷ numbers)
with_number (Some number) None = None
with_number None numbers = None

-- the numbers that words write, if each word writes one
unfoldable pub numbers_of : List (List ℕ) → Option (List ℕ)
numbers_of [] = Some []
numbers_of (word ∷ words) = with_number (number_of word) (numbers_of words)
