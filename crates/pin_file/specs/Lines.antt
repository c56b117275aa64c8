-- What a line of a pin file says. The form is that of nextpnr's PCF files (physical constraints).
use Rattle.std.specs.Prelude.{ℕ, Bool, true, false, ◌||◌, List, [], ◌∷◌, map, get_or, codes, bytes_eq, ◌==◌, if◌then◌else◌}
use Rattle.std.specs.List.{before_first}
use Rattle.text_lines.specs.Words.{words_of}
use Rattle.text_lines.specs.declared.words.Separators.TheVariants.{Spaces}

-- ---- words

-- space, tab, vertical tab, form feed and CR
abbrev pub is_blank : ℕ → Bool
is_blank byte = (byte == 32) || (byte == 9) || (byte == 11) || (byte == 12) || (byte == 13)

-- each blank counts as a space
abbrev pub plain_byte : ℕ → ℕ
plain_byte byte = if is_blank byte then 32 else byte

-- `#`
abbrev pub begins_remark : ℕ → Bool
begins_remark byte = byte == 35

-- a line without `#` and what follows it, and with a space for each blank
unfoldable pub plain_line : List ℕ → List ℕ
plain_line line = map plain_byte (before_first begins_remark line)

-- the words of a line: blanks separate them, and `#` and what follows it doesn't count
abbrev pub words_in : List ℕ → List (List ℕ)
words_in line = words_of Spaces (plain_line line)

-- ---- statements

-- What a line says: nothing (it is skipped), or that the port NAME is at a pin. Or it isn't a line of a pin file.
pub data Line : Type 0 where
  Passed : Line
  Port : (name pin : List ℕ) → Line
  Unknown : Line

-- an option begins with `-`
abbrev pub is_option : List ℕ → Bool
is_option word = get_or word 0 0 == 45

-- the options that take the next word as their value
abbrev pub takes_word : List ℕ → Bool
takes_word word = bytes_eq word (codes "-pullup") || bytes_eq word (codes "-pullup_resistor")

-- the words after the options at the front; the flag says whether the first word is the value of an option before it
unfoldable pub after_options : Bool → List (List ℕ) → List (List ℕ)
after_options belongs [] = []
after_options true (word ∷ words) = after_options false words
after_options false (word ∷ words) = if is_option word then after_options (takes_word word) words else word ∷ words

-- `NAME PIN`; words after PIN don't count, as in nextpnr
abbrev pub port_line : List (List ℕ) → Line
port_line (name ∷ pin ∷ words) = Port name pin
port_line words = Unknown

-- a line by its words: `set_io OPTIONS NAME PIN`, or `set_frequency` and anything
abbrev pub line_of_words : List (List ℕ) → Line
line_of_words [] = Passed
line_of_words (word ∷ words) =
    if bytes_eq word (codes "set_io") then port_line (after_options false words)
    else if bytes_eq word (codes "set_frequency") then Passed
    else Unknown

unfoldable pub line_of : List ℕ → Line
line_of line = line_of_words (words_in line)
