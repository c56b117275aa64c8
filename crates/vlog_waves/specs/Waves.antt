-- The waves of a run: a VCD, the value change dump of IEEE Std 1364-2005, 18.2. Identifiers and the order are this project's choice.
use Rattle.std.specs.Prelude.{ℕ, zero, suc, ◌+◌, ◌/◌, ◌%◌, ◌^◌, ◌==◌, Bool, false, not, List, [], ◌∷◌, ◌++◌, codes, decimal, map, nat_lt, if◌then◌else◌}
use Rattle.text_lines.specs.Written.{text_of}
use Rattle.vlog_module.specs.Parts.{Parts}
use Rattle.vlog_semantics.specs.declared.event.Event.{Event}
use Rattle.vlog_semantics.specs.Entries.{Entry}
use Rattle.vlog_semantics.specs.Run.{module_run}
use Rattle.vlog_run.specs.Text.{bit_digit}
use Rattle.vlog_waves.specs.Variables.{Kind, Value, Variable, values_in, variables_of}
use Rattle.vlog_waves.specs.Variables.Kind.{wire_kind, register_kind, word_kind}
use Rattle.vlog_waves.specs.Variables.Value.{one_bit, sixteen_bits}

-- ---- identifiers

-- the digits of a number in base 94, the lowest first and no more than needed; there are at most `most`
unfoldable pub identifier_digits : ℕ → ℕ → List ℕ
identifier_digits zero number = []
identifier_digits (suc most) number = number % 94 ∷ (if nat_lt number 94 then [] else identifier_digits most (number / 94))

-- the identifier code of the variable with this number: digit 0 is the byte 33, `!`, and digit 93 is the byte 126, `~`
unfoldable pub identifier : ℕ → List ℕ
identifier number = map (λ digit. 33 + digit) (identifier_digits (suc number) number)

-- ---- the declarations

abbrev pub kind_text : Kind → List ℕ
kind_text wire_kind = codes "wire 1 "
kind_text register_kind = codes "reg 1 "
kind_text word_kind = codes "reg 16 "

-- the range of a variable that has more than one bit
abbrev pub range_text : Kind → List ℕ
range_text word_kind = codes " [15:0]"
range_text _ = []

abbrev pub variable_line : ℕ → Variable → List ℕ
variable_line number variable =
    codes "$var " ++ (kind_text variable.kind ++ (identifier number ++ (32 ∷ variable.name ++ (range_text variable.kind ++ codes " $end"))))

-- the declarations of variables, whose numbers begin with this one
abbrev pub variable_lines : ℕ → List Variable → List (List ℕ)
variable_lines number [] = []
variable_lines number (variable ∷ variables) = variable_line number variable ∷ variable_lines (suc number) variables

-- the lines before the values, by wires with the names that are given to them
unfoldable pub head_lines : List (List ℕ × List ℕ) → Parts → List (List ℕ)
head_lines names m =
    codes "$timescale 1 ns $end"
    ∷ (codes "$scope module " ++ (m.name ++ codes " $end"))
    ∷ variable_lines 0 (variables_of names m)
    ++ (codes "$upscope $end" ∷ codes "$enddefinitions $end" ∷ [])

-- ---- the values

-- the lowest bits of a word as digits, the highest first
unfoldable pub word_digits : ℕ → ℕ → List ℕ
word_digits zero word = []
word_digits (suc bits) word = (48 + word / 2 ^ bits % 2) ∷ word_digits bits word

abbrev pub value_line : ℕ → Value → List ℕ
value_line number (one_bit bit) = bit_digit bit ∷ identifier number
value_line number (sixteen_bits word) = 98 ∷ word_digits 16 word ++ 32 ∷ identifier number

-- the values of variables, whose numbers begin with this one
abbrev pub value_lines : ℕ → List Value → List (List ℕ)
value_lines number [] = []
value_lines number (value ∷ values) = value_line number value ∷ value_lines (suc number) values

abbrev pub is_same : Value → Value → Bool
is_same (one_bit a) (one_bit b) = if a then b else not b
is_same (sixteen_bits a) (sixteen_bits b) = a == b
is_same _ _ = false

-- the values that are new, of variables whose numbers begin with this one
abbrev pub changed_lines : ℕ → List Value → List Value → List (List ℕ)
changed_lines number (old ∷ before) (new ∷ after) =
    (if is_same old new then [] else value_line number new ∷ []) ++ changed_lines (suc number) before after
changed_lines number _ _ = []

abbrev pub time_line : ℕ → List ℕ
time_line time = 35 ∷ decimal time

-- the values at the start
abbrev pub start_lines : List Value → List (List ℕ)
start_lines values = time_line 0 ∷ codes "$dumpvars" ∷ value_lines 0 values ++ codes "$end" ∷ []

-- for each event its number as the time, and the values that it changed
abbrev pub event_lines : Parts → ℕ → Entry → List Entry → List (List ℕ)
event_lines m time before [] = []
event_lines m time before (after ∷ entries) =
    time_line time ∷ changed_lines 0 (values_in m before) (values_in m after) ++ event_lines m (suc time) after entries

abbrev pub run_lines : Parts → List Entry → List (List ℕ)
run_lines m [] = []
run_lines m (entry ∷ entries) = start_lines (values_in m entry) ++ event_lines m 1 entry entries

-- the VCD of the run of a module over events; wires have the names that are given to them
unfoldable pub waves_text : List (List ℕ × List ℕ) → Parts → List Event → List ℕ
waves_text names m events = text_of (head_lines names m ++ run_lines m (module_run m events))
