-- What the parts of a fabric name is there: nets are the numbers below their count.
use Rattle.std.specs.Prelude.{◌≡◌, ℕ, ◌+◌, ◌<◌, ◌≤◌, Bool, false, List, length, map, get_or, All, Option, Some, None}
use Rattle.fabric_model.specs.declared.cell.LogicCell.{LogicCell}
use Rattle.fabric_model.specs.declared.cell.CarrySet.{CarrySet}
use Rattle.fabric_model.specs.declared.signal.Signal.{Signal}
use Rattle.fabric_model.specs.declared.signal.Signal.TheVariants as signal
use Rattle.fabric_model.specs.declared.register.Register.{Register}
use Rattle.fabric_model.specs.declared.ram.RamCell.{RamCell}
use Rattle.fabric_model.specs.declared.pin.Pin.{Pin}
use Rattle.fabric_model.specs.declared.pin.GlobalNet.{GlobalNet}
use Rattle.fabric_model.specs.declared.pin.GlobalFrom.{GlobalFrom}
use Rattle.fabric_model.specs.declared.pin.GlobalFrom.TheVariants.{Pad, Pll, Fabout}
use Rattle.fabric_model.specs.Registers.{pin_keys}
use Rattle.fabric_model.specs.Fabric.{Fabric, Buffer, flip_count}

-- a net is among the nets, or is missing
abbrev pub IsNetIn : ℕ → Option ℕ → Type 0
IsNetIn nets None = Unit {0}
IsNetIn nets (Some net) = net < nets

pub record IsPinIn (nets : ℕ) (pin : Pin) : Type 0 where
  pub inclk : IsNetIn nets pin.inclk
  pub outclk : IsNetIn nets pin.outclk
  pub cen : IsNetIn nets pin.cen
  pub din_0 : IsNetIn nets pin.din_0
  pub din_1 : IsNetIn nets pin.din_1
  pub dout_0 : IsNetIn nets pin.dout_0
  pub dout_1 : IsNetIn nets pin.dout_1
  pub enable : IsNetIn nets pin.enable
  pub data_net : IsNetIn nets pin.data_net
  pub pad_net : IsNetIn nets pin.pad_net

pub record IsCellIn (nets : ℕ) (lc : LogicCell) : Type 0 where
  pub ins : All (IsNetIn nets) lc.ins
  pub out : IsNetIn nets lc.out
  pub lout : IsNetIn nets lc.lout
  pub cout : IsNetIn nets lc.cout
  pub cin : IsNetIn nets lc.cin
  pub clk : IsNetIn nets lc.clk
  pub cen : IsNetIn nets lc.cen
  pub sr : IsNetIn nets lc.sr

abbrev pub IsSignalIn : ℕ → Signal → Type 0
IsSignalIn nets (signal.Net net otherwise) = IsNetIn nets net
IsSignalIn nets (signal.Input place) = Unit {0}
IsSignalIn nets (signal.Register place) = Unit {0}

pub record IsRegisterIn (nets : ℕ) (register : Register) : Type 0 where
  pub out : IsNetIn nets register.out
  pub clk : IsNetIn nets register.clk
  pub enable : IsSignalIn nets register.enable
  pub sr : IsNetIn nets register.sr
  pub ins : All (IsSignalIn nets) register.table.ins

abbrev pub IsSetIn : ℕ → CarrySet → Type 0
IsSetIn nets set = set.net < nets

pub record IsRamIn (nets : ℕ) (ram : RamCell) : Type 0 where
  pub rdata : All (IsNetIn nets) ram.rdata
  pub wdata : All (IsNetIn nets) ram.wdata
  pub mask : All (IsNetIn nets) ram.mask
  pub waddr : All (IsNetIn nets) ram.waddr
  pub raddr : All (IsNetIn nets) ram.raddr
  pub wclk : IsNetIn nets ram.wclk
  pub wclke : IsNetIn nets ram.wclke
  pub we : IsNetIn nets ram.we
  pub rclk : IsNetIn nets ram.rclk
  pub rclke : IsNetIn nets ram.rclke
  pub re : IsNetIn nets ram.re

abbrev pub IsFromIn : ℕ → GlobalFrom → Type 0
IsFromIn nets (Pad x y n) = Unit {0}
IsFromIn nets (Pll x y output) = Unit {0}
IsFromIn nets (Fabout net) = net < nets

pub record IsGlobalIn (nets : ℕ) (global : GlobalNet) : Type 0 where
  pub net : global.net < nets
  pub from : IsFromIn nets global.from

pub record IsBufferIn (nets : ℕ) (buffer : Buffer) : Type 0 where
  pub src : buffer.src < nets
  pub dst : buffer.dst < nets

pub record IsJoinIn (nets : ℕ) (join : ℕ × ℕ) : Type 0 where
  pub first : join.0 < nets
  pub second : join.1 < nets

-- whether the register with an index has an asynchronous set or reset; false if there is no such register
abbrev pub is_async_at : List Register → ℕ → Bool
is_async_at registers place = get_or (map (λ register. register.is_async) registers) place false

-- A fabric is closed if all nets that its parts name are among its nets. After the flip-flops come the registers of the pins, of which none
-- has an asynchronous set or reset.
pub record IsClosed (fabric : Fabric) : Type 0 where
  pub joins : All (IsJoinIn fabric.nets) fabric.joins
  pub buffers : All (IsBufferIn fabric.nets) fabric.buffers
  pub pins : All (IsPinIn fabric.nets) fabric.pins
  pub plls : All (λ port. IsNetIn fabric.nets port.net) fabric.plls
  pub globals : All (IsGlobalIn fabric.nets) fabric.globals
  pub lcs : All (IsCellIn fabric.nets) fabric.lcs
  pub registers : All (IsRegisterIn fabric.nets) fabric.registers
  pub sets : All (IsSetIn fabric.nets) fabric.sets
  pub rams : All (IsRamIn fabric.nets) fabric.rams
  pub pinned : flip_count fabric + length (pin_keys fabric.pins) ≡ length fabric.registers
  pub steady : (place : ℕ) → flip_count fabric ≤ place → is_async_at fabric.registers place ≡ false
