-- The names in a module that is written for a fabric.
use Rattle.std.specs.Prelude.{ℕ, List, ◌++◌, codes, decimal, if◌then◌else◌}
use Rattle.fabric_model.specs.declared.input_port.InputPort.{InputPort}
use Rattle.fabric_model.specs.declared.input_port.InputPort.TheVariants.{Pad, Outside, Pll}
use Rattle.fabric_model.specs.declared.pll.PllOutput.{PllOutput}
use Rattle.fabric_model.specs.declared.pll.PllOutput.TheVariants as output
use Rattle.fabric_model.specs.declared.register.PinRegister.{PinRegister}
use Rattle.fabric_model.specs.declared.register.PinRegister.TheVariants as kind
use Rattle.fabric_model.specs.declared.register.RegisterKind.{RegisterKind}
use Rattle.fabric_model.specs.declared.register.RegisterKind.TheVariants.{FlipFlop, OfPin}
use Rattle.fabric_model.specs.declared.register.Register.{Register}
use Rattle.fabric_model.specs.declared.ram.RamCell.{RamCell}
use Rattle.fabric_model.specs.declared.pin.Pin.{Pin}
use Rattle.fabric_model.specs.Outputs.{Output as OutputPort}

-- two numbers with `_` between them
unfoldable pub two_numbers : ℕ → ℕ → List ℕ
two_numbers x y = decimal x ++ (codes "_" ++ decimal y)

-- three numbers with `_` between them
unfoldable pub three_numbers : ℕ → ℕ → ℕ → List ℕ
three_numbers x y n = decimal x ++ (codes "_" ++ (decimal y ++ (codes "_" ++ decimal n)))

-- the port of pin n of the tile at (x, y): `io_X_Y_N`
unfoldable pub pad_name : ℕ → ℕ → ℕ → List ℕ
pad_name x y n = codes "io_" ++ three_numbers x y n

-- the port at which a pin puts out what it drives its pad with
abbrev pub port_name : Pin → List ℕ
port_name pin = pad_name pin.x pin.y pin.n

-- the port that is the output enable of a pin that drives its pad at times: `io_X_Y_N_en`
unfoldable pub enable_name : Pin → List ℕ
enable_name pin = port_name pin ++ codes "_en"

-- the port of an output
abbrev pub output_name : OutputPort → List ℕ
output_name output = if output.enable then enable_name output.pin else port_name output.pin

-- the port at which such a pin gets what the outside puts on its pad: `io_X_Y_N_in`
unfoldable pub outside_name : ℕ → ℕ → ℕ → List ℕ
outside_name x y n = pad_name x y n ++ codes "_in"

-- the last part of the name of an output of a PLL
abbrev pub output_word : PllOutput → List ℕ
output_word output.A = codes "a"
output_word output.B = codes "b"
output_word output.Lock = codes "lock"
output_word output.Sdo = codes "sdo"

-- the port of an output of the PLL at (x, y): `pll_X_Y_a`, `pll_X_Y_b`, `pll_X_Y_lock` or `pll_X_Y_sdo`
unfoldable pub pll_name : ℕ → ℕ → PllOutput → List ℕ
pll_name x y output = codes "pll_" ++ (decimal x ++ (codes "_" ++ (decimal y ++ (codes "_" ++ output_word output))))

-- an input port
abbrev pub input_port_name : InputPort → List ℕ
input_port_name (Pad x y n) = pad_name x y n
input_port_name (Outside x y n) = outside_name x y n
input_port_name (Pll x y output) = pll_name x y output

-- the beginning of the name of a register of a pin
abbrev pub pin_prefix : PinRegister → List ℕ
pin_prefix kind.Input = codes "pi_"
pin_prefix kind.SecondInput = codes "pj_"
pin_prefix kind.InputClockEnable = codes "ci_"
pin_prefix kind.Output = codes "po_"
pin_prefix kind.SecondOutput = codes "pq_"
pin_prefix kind.OutputClockEnable = codes "co_"
pin_prefix kind.OutputEnable = codes "pe_"

-- the beginning of a register's name
abbrev pub register_prefix : RegisterKind → List ℕ
register_prefix (FlipFlop i) = codes "ff_"
register_prefix (OfPin n register) = pin_prefix register

-- the number of a register in its tile
abbrev pub register_number : RegisterKind → ℕ
register_number (FlipFlop i) = i
register_number (OfPin n register) = n

-- a register: `ff_X_Y_I` for the flip-flop of a cell; for a register of a pin `pi_X_Y_N`, `pj_X_Y_N`, `ci_X_Y_N`, `po_X_Y_N`, `pq_X_Y_N`,
-- `co_X_Y_N` or `pe_X_Y_N`, by what it is
unfoldable pub register_name : Register → List ℕ
register_name register = register_prefix register.kind ++ three_numbers register.x register.y (register_number register.kind)

-- the read register of a RAM: `rd_X_Y`
unfoldable pub read_name : RamCell → List ℕ
read_name ram = codes "rd_" ++ two_numbers ram.x ram.y

-- the memory of a RAM: `mem_X_Y`
unfoldable pub memory_name : RamCell → List ℕ
memory_name ram = codes "mem_" ++ two_numbers ram.x ram.y

-- the wire of a class of joined nets: `n_K`
unfoldable pub wire_name : ℕ → List ℕ
wire_name class = codes "n_" ++ decimal class
