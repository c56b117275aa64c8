-- Worked values of the definitions.
use Rattle.std.proofs.Common.{◌≡◌, ℕ, Bool, true, false, List, [], ◌∷◌, refl}
use Rattle.std.specs.Prelude.{codes}
use Rattle.vlog_module.specs.declared.atoms.Atom.TheVariants.{Bit, Whole, Part}
use Rattle.vlog_module.specs.declared.item.Item.TheVariants.{Register, Wire, Assign, FlipFlop, Read}
use Rattle.vlog_module.specs.declared.item.Lut.{Lut}
use Rattle.vlog_module.specs.declared.item.Right.TheVariants.{Whole as RightWhole}
use Rattle.vlog_module.specs.declared.modules.Port.{Port}
use Rattle.vlog_module.specs.Parts.{Parts}
use Rattle.vlog_semantics.specs.declared.event.Event.{Event}
use Rattle.vlog_semantics.specs.Entries.{Entry}
use Rattle.vlog_semantics.specs.Run.{acted, changed, followed, module_run, run_from, settled, start, waved}
use Rattle.port_names.specs.Renamed.{entry_renamed, new_name, renamed, renamed_item}

port : List ℕ → Bool → Port
port name output = record { name = name; output = output }

-- a flip-flop that becomes the opposite of itself at each falling edge of the clock, its wire and its output, under any names of the ports
inverter : Lut
inverter = record { word = 21845; ins = Whole (codes "n_2") ∷ Bit false ∷ Bit false ∷ Bit false ∷ [] }

chip : List ℕ → List ℕ → Parts
chip clock light = record {
  name = codes "chip";
  ports = port clock false ∷ port light true ∷ [];
  items = Register (codes "ff_1_1_0") false ∷ Wire (codes "n_0") (RightWhole clock) ∷ Wire (codes "n_2") (RightWhole (codes "ff_1_1_0"))
      ∷ Assign light (Whole (codes "n_2")) ∷ FlipFlop true clock (Bit true) (Bit false) false (codes "ff_1_1_0") inverter ∷ [];
}

-- the clock's pin and the light's; the line for a pin that is no port changes nothing
names : List (List ℕ × List ℕ)
names = (codes "io_0_1_0", codes "clk") ∷ (codes "io_0_2_0", codes "led_3") ∷ (codes "io_0_9_1", codes "spare") ∷ []

-- ---- names

has_new_name : new_name names (codes "io_0_1_0") ≡ codes "clk"
unfolding names
has_new_name = refl

keeps_name : new_name names (codes "n_2") ≡ codes "n_2"
unfolding names
keeps_name = refl

-- the first pair of an old name counts
first_pair : new_name ((codes "a", codes "b") ∷ (codes "a", codes "c") ∷ []) (codes "a") ≡ codes "b"
first_pair = refl

-- ---- modules

-- the clock of an item is exchanged, and so is the output that is assigned
renames_clock : renamed names (chip (codes "io_0_1_0") (codes "io_0_2_0")) ≡ chip (codes "clk") (codes "led_3")
unfolding names chip inverter port
renames_clock = refl

-- so are the names in addresses
renames_address : renamed_item (new_name names) (Read false (codes "io_0_1_0") (Bit true) (Whole (codes "io_0_1_0")) (codes "rd_1_1") (codes "mem_1_1") (Whole (codes "io_0_2_0") ∷ Part (codes "rd_1_1") 3 ∷ []))
    ≡ Read false (codes "clk") (Bit true) (Whole (codes "clk")) (codes "rd_1_1") (codes "mem_1_1") (Whole (codes "led_3") ∷ Part (codes "rd_1_1") 3 ∷ [])
unfolding names
renames_address = refl

-- ---- runs

up : Event
up = record { pin = 0; bit = true }

down : Event
down = record { pin = 0; bit = false }

-- what the chip holds, by its clock's bit and its register's
held : List ℕ → List ℕ → Bool → Bool → Entry
held clock light bit register = record {
  inputs = (clock, bit) ∷ [];
  registers = (codes "ff_1_1_0", register) ∷ [];
  words = [];
  memories = [];
  wires = (codes "n_0", bit) ∷ (codes "n_2", register) ∷ [];
  outputs = (light, register) ∷ [];
}

runs : module_run (renamed names (chip (codes "io_0_1_0") (codes "io_0_2_0"))) (up ∷ down ∷ [])
    ≡ held (codes "clk") (codes "led_3") false false ∷ held (codes "clk") (codes "led_3") true false ∷ held (codes "clk") (codes "led_3") false true ∷ []
unfolding module_run run_from followed changed acted waved start settled names chip inverter port up down held
runs = refl

renames_entry : entry_renamed names (held (codes "io_0_1_0") (codes "io_0_2_0") true false) ≡ held (codes "clk") (codes "led_3") true false
unfolding names held
renames_entry = refl
