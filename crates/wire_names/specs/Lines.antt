-- What a line of a list of names says: WIRE and NAME. The form is this project's choice.
use Rattle.std.specs.Prelude.{ℕ, Bool, ◌&&◌, List, [], ◌∷◌, length, nat_lt, if◌then◌else◌}
use Rattle.std.specs.Char.{is_ascii_graphic}
use Rattle.std.specs.List.{list_all}
use Rattle.text_lines.specs.Words.{words_of}
use Rattle.text_lines.specs.declared.words.Separators.TheVariants.{SpacesAndTabs}

-- what a wire can be called: one or more printable ASCII characters without spaces, as in an escaped identifier (IEEE Std 1364-2005, 3.7.1)
abbrev pub is_label : List ℕ → Bool
is_label name = nat_lt 0 (length name) && list_all is_ascii_graphic name

-- What a line says: nothing (it is skipped), or that a wire is called so. Or it isn't a line of a list of names.
pub data Line : Type 0 where
  Passed : Line
  Named : (wire name : List ℕ) → Line
  Unknown : Line

abbrev pub line_of_two : List ℕ → List ℕ → Line
line_of_two wire name = if is_label name then Named wire name else Unknown

-- a line by its words: there are two, or none
abbrev pub line_of_words : List (List ℕ) → Line
line_of_words [] = Passed
line_of_words (wire ∷ []) = Unknown
line_of_words (wire ∷ name ∷ []) = line_of_two wire name
line_of_words (wire ∷ name ∷ word ∷ words) = Unknown

-- spaces and tabs separate the words
unfoldable pub line_of : List ℕ → Line
line_of line = line_of_words (words_of SpacesAndTabs line)
