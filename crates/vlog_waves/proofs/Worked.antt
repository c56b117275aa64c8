-- Worked values of the definitions.
use Rattle.std.proofs.Common.{◌≡◌, ℕ, Bool, true, false, [], ◌∷◌, refl}
use Rattle.std.specs.Prelude.{codes}
use Rattle.std.specs.Fmt.{digits}
use Rattle.text_lines.specs.Written.{text_of}
use Rattle.vlog_module.specs.declared.atoms.Atom.TheVariants.{Bit, Whole}
use Rattle.vlog_module.specs.declared.item.Item.TheVariants.{Register, Word, Wire, Assign, FlipFlop}
use Rattle.vlog_module.specs.declared.item.Right.TheVariants.{Whole as RightWhole}
use Rattle.vlog_module.specs.Parts.{Parts}
use Rattle.vlog_semantics.specs.declared.event.Event.{Event}
use Rattle.vlog_semantics.specs.Run.{acted, changed, followed, module_run, run_from, settled, start, waved}
use Rattle.vlog_waves.specs.Variables.{values_in, variables_of, written_name}
use Rattle.vlog_waves.specs.Waves.{head_lines, identifier, identifier_digits, waves_text, word_digits}

-- ---- identifiers: one digit up to number 93, two up to number 8835

first_digit : identifier 0 ≡ codes "!"
unfolding identifier identifier_digits
first_digit = refl

last_digit : identifier 93 ≡ codes "~"
unfolding identifier identifier_digits
last_digit = refl

first_two : identifier 94 ≡ codes "!\""
unfolding identifier identifier_digits
first_two = refl

last_two : identifier 8835 ≡ codes "~~"
unfolding identifier identifier_digits
last_two = refl

first_three : identifier 8836 ≡ codes "!!\""
unfolding identifier identifier_digits
first_three = refl

-- ---- a run

event : ℕ → Bool → Event
event pin bit = record { pin = pin; bit = bit }

-- the register becomes 0 at rising edges of `c`; the second event changes nothing
small : Parts
small = record {
  name = codes "m";
  ports = record { name = codes "c"; output = false } ∷ record { name = codes "q"; output = true } ∷ [];
  items = Register (codes "r") true ∷ Word (codes "w") 4660 ∷ Wire (codes "n") (RightWhole (codes "c")) ∷ Assign (codes "q") (Whole (codes "n"))
      ∷ FlipFlop false (codes "c") (Bit true) (Bit false) false (codes "r") (record { word = 0; ins = Bit false ∷ Bit false ∷ Bit false ∷ Bit false ∷ [] }) ∷ [];
}

told : waves_text [] small (event 0 true ∷ event 0 true ∷ [])
    ≡ codes "$timescale 1 ns $end\n$scope module m $end\n$var wire 1 ! c $end\n$var wire 1 \" q $end\n$var reg 1 # r $end\n$var reg 16 $ w [15:0] $end\n$var wire 1 % n $end\n$upscope $end\n$enddefinitions $end\n#0\n$dumpvars\n0!\n0\"\n1#\nb0001001000110100 $\n0%\n$end\n#1\n1!\n1\"\n0#\n1%\n#2\n"
unfolding digits waves_text text_of head_lines variables_of values_in identifier identifier_digits word_digits module_run run_from followed changed acted waved start settled small event
told = refl

-- a simple identifier is written as it is
simple : written_name (codes "_clk$1") ≡ codes "_clk$1"
simple = refl

-- and any other name with a backslash before it
escaped : written_name (codes "uart.tx_state[2]") ≡ codes "\\uart.tx_state[2]"
escaped = refl

begins_with_digit : written_name (codes "1x") ≡ codes "\\1x"
begins_with_digit = refl

begins_with_dollar : written_name (codes "$end") ≡ codes "\\$end"
begins_with_dollar = refl

begins_with_backslash : written_name (codes "\\a") ≡ codes "\\\\a"
begins_with_backslash = refl

-- a wire with a name
named : head_lines ((codes "n", codes "a[0]") ∷ []) small
    ≡ codes "$timescale 1 ns $end" ∷ codes "$scope module m $end" ∷ codes "$var wire 1 ! c $end" ∷ codes "$var wire 1 \" q $end" ∷ codes "$var reg 1 # r $end"
    ∷ codes "$var reg 16 $ w [15:0] $end" ∷ codes "$var wire 1 % \\a[0] $end" ∷ codes "$upscope $end" ∷ codes "$enddefinitions $end" ∷ []
unfolding head_lines variables_of identifier identifier_digits small
named = refl
