-- The text of a run: one line after the start, and one after each event.
use Rattle.std.specs.Prelude.{ℕ, ◌+◌, ◌/◌, ◌%◌, Bool, List, [], ◌∷◌, ◌++◌, flat_map, map, nat_lt, if◌then◌else◌}
use Rattle.vlog_module.specs.Parts.{Parts}
use Rattle.vlog_semantics.specs.declared.event.Event.{Event}
use Rattle.vlog_semantics.specs.Entries.{Entry}
use Rattle.vlog_semantics.specs.Named.{values_of}
use Rattle.vlog_semantics.specs.Run.{module_run}

-- `0` or `1`
abbrev pub bit_digit : Bool → ℕ
bit_digit bit = if bit then 49 else 48

-- a digit below 16, in lower case
abbrev pub hex_digit : ℕ → ℕ
hex_digit digit = if nat_lt digit 10 then 48 + digit else 87 + digit

-- a space and the four hexadecimal digits of a word
abbrev pub word_text : ℕ → List ℕ
word_text word = 32 ∷ hex_digit (word / 4096 % 16) ∷ hex_digit (word / 256 % 16) ∷ hex_digit (word / 16 % 16) ∷ hex_digit (word % 16) ∷ []

-- one space and the registers of one bit, then a space and a word for each register of 16 bits, in the order of their declarations
abbrev pub registers_text : Entry → List ℕ
registers_text entry = 32 ∷ map bit_digit (values_of entry.registers) ++ flat_map word_text (values_of entry.words)

-- the outputs in the order of the ports, then the registers if they are asked for
unfoldable pub entry_line : Bool → Entry → List ℕ
entry_line registers entry =
    map bit_digit (values_of entry.outputs) ++ (if registers then registers_text entry else []) ++ 10 ∷ []

unfoldable pub run_text : Parts → List Event → Bool → List ℕ
run_text m events registers = flat_map (entry_line registers) (module_run m events)
