-- The values of clocks.
use Rattle.std.specs.Prelude.{◌≡◌, ℕ, Bool, false, List, get_or, Contains, Option, Some, None}
use Rattle.fabric_model.specs.declared.register.Register.{Register}
use Rattle.fabric_model.specs.declared.ram.RamCell.{RamCell}
use Rattle.fabric_model.specs.Fabric.{Fabric}
use Rattle.fabric_model.specs.Values.{State, bit_in}
use Rattle.fabric_model.specs.ClockLuts.{turned_bit}
use Rattle.fabric_model.specs.Clocks.{ClockEnd, clock_end}
use Rattle.fabric_model.specs.Clocks.ClockEnd.{at_pin, at_register, still, logic}
use Rattle.fabric_model.specs.Steps.{settled_state}

-- each register whose asynchronous set or reset is 1 has its set bit
abbrev pub IsSettled : Fabric → State → List Bool → Type 0
IsSettled fabric state v = settled_state fabric (bit_in v) state ≡ state

-- A clock has the value of the pin at which its clock chain ends, or that of the register, if the state is settled; it is the inverse of it if
-- the chain is turned. Or it is the bit at which the chain ends.
abbrev pub HasEndBit : Fabric → State → (pins v : List Bool) → ClockEnd → Bool → Type 0
HasEndBit fabric state pins v (at_pin place turned) bit = bit ≡ turned_bit turned (get_or pins place false)
HasEndBit fabric state pins v (at_register class place turned) bit =
    IsSettled fabric state v → bit ≡ turned_bit turned (get_or state.bits place false)
HasEndBit fabric state pins v (still it) bit = bit ≡ it
HasEndBit fabric state pins v logic bit = ⊥

-- a clock net, if there is one, has the value at the end of its clock chain
abbrev pub HasClock : Fabric → State → (pins v : List Bool) → Option ℕ → Type 0
HasClock fabric state pins v None = Unit {0}
HasClock fabric state pins v (Some net) = HasEndBit fabric state pins v (clock_end fabric net) (bit_in v net)

-- with this state and these values of the input ports and of nets the clock of each register and each RAM port has the value at the end of its
-- clock chain
pub record HasClocks (fabric : Fabric) (state : State) (pins v : List Bool) : Type 0 where
  pub registers : (register : Register) → Contains fabric.registers register → HasClock fabric state pins v register.clk
  pub reads : (ram : RamCell) → Contains fabric.rams ram → HasClock fabric state pins v ram.rclk
  pub writes : (ram : RamCell) → Contains fabric.rams ram → HasClock fabric state pins v ram.wclk
