-- Registers of one bit.
use Rattle.std.specs.Prelude.{ℕ, ◌+◌, Bool, true, false, not, ◌&&◌, List, [], ◌∷◌, ◌++◌, length, map, filter, flat_map, position, unwrap_or, ◌==◌, if◌then◌else◌, Option, None}
use Rattle.fabric_model.specs.declared.cell.LogicCell.{LogicCell}
use Rattle.fabric_model.specs.declared.pin.Pin.{Pin}
use Rattle.fabric_model.specs.declared.pin.PadDrive.{PadDrive}
use Rattle.fabric_model.specs.declared.pin.PadDrive.TheVariants as drive
use Rattle.fabric_model.specs.declared.pin.PadData.{PadData}
use Rattle.fabric_model.specs.declared.pin.PadData.TheVariants as sends
use Rattle.fabric_model.specs.declared.lut_inputs.LutInputs.{LutInputs}
use Rattle.fabric_model.specs.declared.input_port.InputPort.TheVariants.{Pad}
use Rattle.fabric_model.specs.declared.driver.ClockUser.{ClockUser}
use Rattle.fabric_model.specs.declared.driver.ClockUser.TheVariants as user
use Rattle.fabric_model.specs.declared.driver.ClockUser.TheVariants.{Cell}
use Rattle.fabric_model.specs.declared.signal.Signal.{Signal}
use Rattle.fabric_model.specs.declared.signal.Signal.TheVariants as signal
use Rattle.fabric_model.specs.declared.register.LutTable.{LutTable}
use Rattle.fabric_model.specs.declared.register.PinRegister.{PinRegister}
use Rattle.fabric_model.specs.declared.register.PinRegister.TheVariants as kind
use Rattle.fabric_model.specs.declared.register.RegisterKind.{RegisterKind}
use Rattle.fabric_model.specs.declared.register.RegisterKind.TheVariants.{FlipFlop, OfPin}
use Rattle.fabric_model.specs.declared.register.Register.{Register}
use Rattle.fabric_model.specs.Tiles.{item_if}
use Rattle.fabric_model.specs.Signals.{net_or_0, net_or_1}
use Rattle.fabric_model.specs.Luts.{inputs_read}
use Rattle.fabric_model.specs.PinTypes.{has_register, is_double, is_by_register, takes_by_register}
use Rattle.fabric_model.specs.Pins.{drives}
use Rattle.fabric_model.specs.InputPorts.{is_same_place, input_place}

-- ---- flip-flops

-- the LUT of a cell, whose inputs are the nets that it reads
abbrev pub table_of : LutInputs → LogicCell → LutTable
table_of inputs lc = record { word = lc.lut; ins = map net_or_0 (inputs_read inputs lc.lut lc.ins) }

-- the flip-flop of a cell (`SB_DFF` and its forms)
unfoldable pub register_of : LutInputs → LogicCell → Register
register_of inputs lc = record {
  x = lc.x;
  y = lc.y;
  kind = FlipFlop lc.i;
  out = lc.out;
  clk = lc.clk;
  neg = lc.neg;
  enable = net_or_1 lc.cen;
  sr = lc.sr;
  «set» = lc.«set»;
  is_async = lc.is_async;
  table = table_of inputs lc;
}

-- the registers of cells: the flip-flops, in the order of the cells
unfoldable pub registers_of : LutInputs → List LogicCell → List Register
registers_of inputs lcs = map (register_of inputs) (filter (λ lc. lc.flip) lcs)

-- the number of flip-flops of cells
abbrev pub flips_among : List LogicCell → ℕ
flips_among lcs = length (filter (λ lc. lc.flip) lcs)

-- ---- registers of pins

-- The registers of a pin, in their order (`SB_IO`). There is one on `io_n/D_IN_0` if that is read and takes the pad by a register. There is
-- one on `io_n/D_IN_1`, and one for its clock enable, if `io_n/D_IN_1` is the pin's and is read. There is one for `io_n/D_OUT_0` if what the pin drives its pad with is made
-- of registers, and if of two in turn, one for `io_n/D_OUT_1` and one for the clock enable of that. And there is one for the output enable
-- if it is by register.
abbrev pub registers_in : Pin → List PinRegister
registers_in pin =
    item_if (pin.reads_0 && takes_by_register pin.takes) kind.Input
    ++ (item_if pin.reads_1 kind.SecondInput
    ++ (item_if pin.reads_1 kind.InputClockEnable
    ++ (item_if (drives pin && has_register pin.sends) kind.Output
    ++ (item_if (drives pin && is_double pin.sends) kind.SecondOutput
    ++ (item_if (drives pin && is_double pin.sends) kind.OutputClockEnable
    ++ item_if (is_by_register pin.drive) kind.OutputEnable)))))

-- a register of a pin, by the place of the pin and its kind
pub record PinKey : Type 0 where
  pub x : ℕ
  pub y : ℕ
  pub n : ℕ
  pub register : PinRegister

abbrev pub key_in : Pin → PinRegister → PinKey
key_in pin register = record { x = pin.x; y = pin.y; n = pin.n; register = register }

-- the registers of pins, by pin
abbrev pub pin_keys : List Pin → List PinKey
pin_keys pins = flat_map (λ pin. map (key_in pin) (registers_in pin)) pins

-- the kinds of registers of a pin by numbers
abbrev pub kind_number : PinRegister → ℕ
kind_number kind.Input = 0
kind_number kind.SecondInput = 1
kind_number kind.InputClockEnable = 2
kind_number kind.Output = 3
kind_number kind.SecondOutput = 4
kind_number kind.OutputClockEnable = 5
kind_number kind.OutputEnable = 6

abbrev pub is_same_key : PinKey → PinKey → Bool
is_same_key key other = is_same_place key.x key.y key.n other.x other.y other.n && (kind_number key.register == kind_number other.register)

-- The register of a pin among all registers, given the number of flip-flops and the pins: it is after the flip-flops, in the order of the
-- registers of pins.
abbrev pub register_in : ℕ → List Pin → Pin → PinRegister → Signal
register_in flips pins pin register =
    signal.Register (flips + unwrap_or (position (is_same_key (key_in pin register)) (pin_keys pins)) (length (pin_keys pins)))

-- ---- what a pin drives its pad with, its pad, and when it drives it

abbrev pub data_by : ℕ → List Pin → Pin → PadData → Signal
data_by flips pins pin sends.Plain = net_or_0 pin.dout_0
data_by flips pins pin sends.Registered = register_in flips pins pin kind.Output
data_by flips pins pin sends.Inverted = net_or_0 pin.data_net
data_by flips pins pin sends.Double = net_or_0 pin.data_net

-- what a pin drives its pad with
abbrev pub data_signal : ℕ → List Pin → Pin → Signal
data_signal flips pins pin = data_by flips pins pin pin.sends

abbrev pub pad_by : ℕ → List Pin → Pin → PadDrive → Signal
pad_by flips pins pin drive.Never = signal.Input (input_place pins (Pad pin.x pin.y pin.n))
pad_by flips pins pin drive.Always = data_signal flips pins pin
pad_by flips pins pin drive.ByNet = net_or_0 pin.pad_net
pad_by flips pins pin drive.ByRegister = net_or_0 pin.pad_net

-- the pad of a pin
abbrev pub pad_signal : ℕ → List Pin → Pin → Signal
pad_signal flips pins pin = pad_by flips pins pin pin.drive

-- when a switched pin drives its pad
abbrev pub enable_signal : ℕ → List Pin → Pin → Signal
enable_signal flips pins pin = if is_by_register pin.drive then register_in flips pins pin kind.OutputEnable else net_or_1 pin.enable

-- ---- the registers

-- the LUT whose value is that of its input in_0
abbrev pub table_as : Signal → LutTable
table_as source = record { word = 43690; ins = source ∷ net_or_0 None ∷ net_or_0 None ∷ net_or_0 None ∷ [] }

-- whether a register of a pin is clocked by `io_global/inclk`; the others are by `io_global/outclk`
abbrev pub is_of_inputs : PinRegister → Bool
is_of_inputs kind.Input = true
is_of_inputs kind.SecondInput = true
is_of_inputs kind.InputClockEnable = true
is_of_inputs register = false

-- Whether it takes its value at the other edge: those of `io_n/D_IN_1` and of `io_n/D_OUT_1` do. The own edge of a tile's registers is the
-- rising edge of the clock, or the falling one if `NegClk` is on, and the other edge is the opposite one.
abbrev pub is_at_other_edge : PinRegister → Bool
is_at_other_edge kind.SecondInput = true
is_at_other_edge kind.SecondOutput = true
is_at_other_edge register = false

-- the net that it drives
abbrev pub driven_net : Pin → PinRegister → Option ℕ
driven_net pin kind.Input = pin.din_0
driven_net pin kind.SecondInput = pin.din_1
driven_net pin register = None

-- Its clock enable: `io_global/cen`, but for the two at the other edge, which obey it as it was at the last own edge, and the two that keep
-- it, which are always enabled.
abbrev pub clock_enable : ℕ → List Pin → Pin → PinRegister → Signal
clock_enable flips pins pin kind.SecondInput = register_in flips pins pin kind.InputClockEnable
clock_enable flips pins pin kind.SecondOutput = register_in flips pins pin kind.OutputClockEnable
clock_enable flips pins pin kind.InputClockEnable = net_or_1 None
clock_enable flips pins pin kind.OutputClockEnable = net_or_1 None
clock_enable flips pins pin register = net_or_1 pin.cen

-- what it becomes
abbrev pub taken_by : ℕ → List Pin → Pin → PinRegister → Signal
taken_by flips pins pin kind.Input = pad_signal flips pins pin
taken_by flips pins pin kind.SecondInput = pad_signal flips pins pin
taken_by flips pins pin kind.InputClockEnable = net_or_1 pin.cen
taken_by flips pins pin kind.Output = net_or_0 pin.dout_0
taken_by flips pins pin kind.SecondOutput = net_or_0 pin.dout_1
taken_by flips pins pin kind.OutputClockEnable = net_or_1 pin.cen
taken_by flips pins pin kind.OutputEnable = net_or_1 pin.enable

-- A register of a pin (`SB_IO`), which has no set or reset.
unfoldable pub pin_register : ℕ → List Pin → Pin → PinRegister → Register
pin_register flips pins pin register = record {
  x = pin.x;
  y = pin.y;
  kind = OfPin pin.n register;
  out = driven_net pin register;
  clk = if is_of_inputs register then pin.inclk else pin.outclk;
  neg = if is_at_other_edge register then not pin.neg else pin.neg;
  enable = clock_enable flips pins pin register;
  sr = None;
  «set» = false;
  is_async = false;
  table = table_as (taken_by flips pins pin register);
}

-- the registers of pins, by pin
unfoldable pub pin_registers_of : ℕ → List Pin → List Register
pin_registers_of flips pins = flat_map (λ pin. map (pin_register flips pins pin) (registers_in pin)) pins

-- ---- users of clocks

-- what a register is as a user of its clock
abbrev pub user_of : RegisterKind → ClockUser
user_of (FlipFlop i) = Cell i
user_of (OfPin n register) = if is_of_inputs register then user.Input n else user.Output n
