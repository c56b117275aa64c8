-- What a line of a layout file says. The form of these files is this project's own.
use Rattle.std.specs.Prelude.{ℕ, Bool, true, false, List, [], ◌∷◌, codes, bytes_eq, ◌==◌, if◌then◌else◌, Option, Some, None}
use Rattle.text_lines.specs.Lines.{is_blank, trimmed}
use Rattle.text_lines.specs.Words.{words_of, numbers_of}
use Rattle.text_lines.specs.declared.words.Separators.TheVariants.{Spaces}
use Rattle.layout_file.specs.declared.field.Numbers.{Numbers}
use Rattle.layout_file.specs.declared.field.Numbers.TheVariants.{Widths, SideColumns, PadColumns, PadRows, Banks}
use Rattle.layout_file.specs.declared.field.Flag.{Flag}
use Rattle.layout_file.specs.declared.field.Flag.TheVariants.{Mirror, Flip, PadMirror, RamFlip}

-- What a line is: one that is skipped, the beginning of a section with the word for its device, a field with its numbers,
-- a field with `yes` or `no`, or anything else.
pub data Line : Type 0 where
  Passed : Line
  Section : (word : List ℕ) → Line
  List_of : (field : Numbers) (numbers : List ℕ) → Line
  Flag_of : (field : Flag) (value : Bool) → Line
  Unknown : Line

-- the field of numbers that a word names
abbrev pub numbers_named : List ℕ → Option Numbers
numbers_named word =
    if bytes_eq word (codes "widths") then Some Widths
    else if bytes_eq word (codes "sidecols") then Some SideColumns
    else if bytes_eq word (codes "iocols") then Some PadColumns
    else if bytes_eq word (codes "iorows") then Some PadRows
    else if bytes_eq word (codes "banks") then Some Banks
    else None

-- the field of `yes` or `no` that a word names
abbrev pub flag_named : List ℕ → Option Flag
flag_named word =
    if bytes_eq word (codes "mirror") then Some Mirror
    else if bytes_eq word (codes "flip") then Some Flip
    else if bytes_eq word (codes "padmirror") then Some PadMirror
    else if bytes_eq word (codes "ramflip") then Some RamFlip
    else None

-- what `yes` and `no` say
abbrev pub answer_of : List ℕ → Option Bool
answer_of word =
    if bytes_eq word (codes "yes") then Some true
    else if bytes_eq word (codes "no") then Some false
    else None

-- a field with numbers, if each word after its name is one
abbrev pub list_line : Numbers → Option (List ℕ) → Line
list_line field None = Unknown
list_line field (Some numbers) = List_of field numbers

-- a field with `yes` or `no`, if the word after its name is one of them
abbrev pub flag_line : Flag → Option Bool → Line
flag_line field None = Unknown
flag_line field (Some value) = Flag_of field value

-- a field with `yes` or `no` by the words after its name, of which there has to be exactly one
abbrev pub flag_line_of : Flag → List (List ℕ) → Line
flag_line_of field (word ∷ []) = flag_line field (answer_of word)
flag_line_of field words = Unknown

-- the beginning of a section by the words after `.layout`, of which there has to be exactly one
abbrev pub section_of : List (List ℕ) → Line
section_of (word ∷ []) = Section word
section_of words = Unknown

-- a field by its name, with the words after it
abbrev pub field_of : Option Numbers → Option Flag → List (List ℕ) → Line
field_of (Some field) flag words = list_line field (numbers_of words)
field_of None (Some field) words = flag_line_of field words
field_of None None words = Unknown

-- a line by its words
abbrev pub line_of_words : List (List ℕ) → Line
line_of_words [] = Passed
line_of_words (word ∷ words) =
    if bytes_eq word (codes ".layout") then section_of words
    else field_of (numbers_named word) (flag_named word) words

-- a line without the blanks at its start
unfoldable pub without_blanks : List ℕ → List ℕ
without_blanks [] = []
without_blanks (byte ∷ bytes) = if is_blank byte then without_blanks bytes else byte ∷ bytes

-- whether a line begins with `#`
abbrev pub is_remark : List ℕ → Bool
is_remark [] = false
is_remark (byte ∷ bytes) = byte == 0x23

-- What a line says. Spaces and tabs before its first word and at its end don't count; only spaces separate its words.
unfoldable pub line_of : List ℕ → Line
line_of line = if is_remark line then Passed else line_of_words (words_of Spaces (without_blanks (trimmed line)))
