-- The lines for standard error.
use Rattle.std.specs.Prelude.{ℕ, ◌+◌, ◌/◌, ◌%◌, List, [], ◌∷◌, ◌++◌, codes, decimal, Option, None, Some, flat_map}
use Rattle.hex.specs.Hex.{encode_lower}
use Rattle.tool_run.specs.Needs.{Need, text_of}
use Rattle.std.specs.Borrow.{Bor}
use Rattle.tool_run.specs.declared.line.Number.{Number}
use Rattle.tool_run.specs.declared.line.Number.TheVariants as number
use Rattle.tool_run.specs.declared.line.Phrase.{Phrase}
use Rattle.tool_run.specs.declared.line.Refusal.{Refusal}
use Rattle.tool_run.specs.declared.line.Part.{Part}
use Rattle.tool_run.specs.declared.line.Part.TheVariants as part

-- a number of 16 bits as four hexadecimal digits in lower case, the high ones first
abbrev pub four_digits : ℕ → List ℕ
four_digits n = encode_lower (n / 256 ∷ n % 256 ∷ [])

-- the lowest six bits of a number as binary digits, the high ones first
abbrev pub six_digits : ℕ → List ℕ
six_digits n = (48 + n / 32 % 2) ∷ (48 + n / 16 % 2) ∷ (48 + n / 8 % 2) ∷ (48 + n / 4 % 2) ∷ (48 + n / 2 % 2) ∷ (48 + n % 2) ∷ []

-- a number of a line as text
abbrev pub number_text : Number → List ℕ
number_text number.Missing = []
number_text (number.Decimal n) = decimal n
number_text (number.Hexadecimal n) = four_digits n
number_text (number.Binary n) = six_digits n

-- a text, and the number after it
abbrev pub phrase_text : Phrase → List ℕ
phrase_text phrase = phrase.text.now ++ number_text phrase.number

-- a text without a number, and with one in decimal digits
abbrev pub plain : Bor (List ℕ) → Phrase
plain text = record { text = text; number = number.Missing }

abbrev pub numbered : Bor (List ℕ) → ℕ → Phrase
numbered text n = record { text = text; number = number.Decimal n }

-- what is said of a file, after its name and a space if it is named
abbrev pub in_file : Option (List ℕ) → List ℕ → List ℕ
in_file None text = text
in_file (Some name) text = name ++ codes " " ++ text

abbrev pub phrases_text : Refusal → List ℕ
phrases_text refusal = phrase_text refusal.first ++ phrase_text refusal.second ++ phrase_text refusal.third ++ phrase_text refusal.fourth

-- why a tool refuses what it was given
abbrev pub refusal_text : Refusal → List ℕ
refusal_text refusal = in_file (text_of refusal.file) (phrases_text refusal)

-- a part of a line as text
abbrev pub part_text : Part → List ℕ
part_text (part.Text text) = text.now
part_text (part.Number n) = number_text n

abbrev pub parts_text : List Part → List ℕ
parts_text parts = flat_map part_text parts

-- a line: who speaks, a text, and LF
abbrev pub line_of : List ℕ → List ℕ → List ℕ
line_of tool_name text = tool_name ++ codes ": " ++ text ++ 10 ∷ []

-- a file by its name, and standard input
abbrev pub source_name : Option (List ℕ) → List ℕ
source_name None = codes "standard input"
source_name (Some name) = name

-- a file by its name, and standard output
abbrev pub target_name : Option (List ℕ) → List ℕ
target_name None = codes "standard output"
target_name (Some name) = name

-- what a failure says
abbrev pub read_failed : Need → List ℕ
read_failed need = codes "read failed: " ++ source_name need.name

abbrev pub too_long : Need → List ℕ
too_long need = codes "too long: " ++ source_name need.name ++ codes " limit " ++ decimal need.limit

abbrev pub write_failed : Option (List ℕ) → List ℕ
write_failed target = codes "write failed: " ++ target_name target

abbrev pub out_of_memory : List ℕ
out_of_memory = codes "out of memory"

-- what is said if the command line isn't taken
abbrev pub usage_text : List ℕ → List ℕ
usage_text usage = codes "usage: " ++ usage
