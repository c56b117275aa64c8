-- Where clocks come from, and what uses them. A clock chain leads from a clock net, driver by driver, to the clock's source.
use Rattle.std.specs.Prelude.{◌≡◌, ℕ, zero, suc, Bool, false, ◌&&◌, List, [], ◌∷◌, ◌++◌, map, flat_map, filter, ◌==◌, if◌then◌else◌, Option, Some, None}
use Rattle.plane_map.specs.declared.device.DeviceName.{DeviceName}
use Rattle.fabric_model.specs.declared.register.Register.{Register}
use Rattle.fabric_model.specs.declared.ram.RamCell.{RamCell}
use Rattle.fabric_model.specs.declared.driver.ClockUser.{ClockUser}
use Rattle.fabric_model.specs.declared.driver.ClockUser.TheVariants.{Read, Write}
use Rattle.fabric_model.specs.Registers.{user_of}
use Rattle.fabric_model.specs.Tiles.{over_grid}
use Rattle.fabric_model.specs.Joins.{class_of}
use Rattle.fabric_model.specs.Fabric.{Fabric}
use Rattle.fabric_model.specs.Drivers.{Rule, Drive, drivers_of}
use Rattle.fabric_model.specs.Drivers.Rule.{pin_bit, table_entry, register_bit, copied}
use Rattle.fabric_model.specs.Values.{is_connected}
use Rattle.fabric_model.specs.ClockLuts.{LutPass, turned_bit, pass_of}
use Rattle.fabric_model.specs.ClockLuts.LutPass.{holds, follows, mixes}

-- ---- chains

-- Where a clock chain ends: at the input port with that index, upright or turned (inverted); at a register, by its class of joined nets and
-- its index, upright or turned, if registers may be clocks; at a bit that is always the same; or at logic, which is any other driver.
pub data ClockEnd : Type 0 where
  at_pin : (place : ℕ) (turned : Bool) → ClockEnd
  at_register : (class place : ℕ) (turned : Bool) → ClockEnd
  still : Bool → ClockEnd
  logic : ClockEnd

-- the end of a chain, if the chain is turned before it comes there
abbrev pub turned_end : Bool → ClockEnd → ClockEnd
turned_end turned (at_pin place other) = at_pin place (turned_bit turned other)
turned_end turned (at_register class place other) = at_register class place (turned_bit turned other)
turned_end turned (still bit) = still (turned_bit turned bit)
turned_end turned logic = logic

-- whether a chain ends at an input port or a register and is turned there
abbrev pub is_turned : ClockEnd → Bool
is_turned (at_pin place turned) = turned
is_turned (at_register class place turned) = turned
is_turned (still bit) = false
is_turned logic = false

-- what a clock chain does at a class of joined nets: it ends, or goes on to the class of another net, upright or turned
pub data Turn : Type 0 where
  ends : ClockEnd → Turn
  goes_to : (turned : Bool) (net : ℕ) → Turn

-- what a clock chain does at a LUT
abbrev pub turn_through : LutPass → Turn
turn_through (holds bit) = ends (still bit)
turn_through (follows turned net) = goes_to turned net
turn_through mixes = ends logic

-- A buffer, and a global network that a net `fabout` drives, lead the chain on to their source. A LUT that follows a net leads it on to that
-- net, and one that holds a bit ends it at that bit. An input port ends it, and so does a register: as a clock if registers may be clocks,
-- else as logic.
abbrev pub turn_by : (ℕ → Bool) → Bool → ℕ → Rule → Turn
turn_by connected taken class (pin_bit place) = ends (at_pin place false)
turn_by connected taken class (copied net) = goes_to false net
turn_by connected taken class (table_entry table) = turn_through (pass_of connected table)
turn_by connected taken class (register_bit place register) = ends (if taken then at_register class place false else logic)
turn_by connected taken class rule = ends logic

-- a class of joined nets without a driver is always 0
abbrev pub turn_of : (ℕ → Bool) → Bool → ℕ → List Drive → Turn
turn_of connected taken class [] = ends (still false)
turn_of connected taken class (drive ∷ drives) = turn_by connected taken class drive.rule

-- what a clock chain does at a class of joined nets
unfoldable pub turn_at : Fabric → ℕ → Turn
turn_at fabric class = turn_of (is_connected fabric) fabric.register_clocks class (drivers_of fabric class)

-- the clock chain from a class of joined nets has this end
pub data LeadsTo (fabric : Fabric) : ℕ → ClockEnd → Type 0 where
  ends_here : {class : ℕ} {end : ClockEnd} → turn_at fabric class ≡ ends end → LeadsTo fabric class end
  goes_on : {class : ℕ} {end : ClockEnd} (turned : Bool) (net : ℕ) (later : ClockEnd) → turn_at fabric class ≡ goes_to turned net
      → end ≡ turned_end turned later → LeadsTo fabric (class_of fabric.joins net) later → LeadsTo fabric class end

-- where a clock chain ends, from what it does at a class of joined nets and from where it ends if it goes on to another net
abbrev pub end_by : (ℕ → ClockEnd) → Turn → ClockEnd
end_by later (ends end) = end
end_by later (goes_to turned net) = turned_end turned (later net)

-- Where the clock chain from a class of joined nets ends if it passes at most this many classes; a longer chain counts as one that ends
-- at logic. A chain that passes more classes than there are nets is a cycle, and a fabric with a cycle isn't taken.
unfoldable pub end_within : Fabric → ℕ → ℕ → ClockEnd
end_within fabric zero class = logic
end_within fabric (suc more) class = end_by (λ net. end_within fabric more (class_of fabric.joins net)) (turn_at fabric class)

-- where the clock of a net comes from
unfoldable pub clock_end : Fabric → ℕ → ClockEnd
clock_end fabric net = end_within fabric (suc fabric.nets) (class_of fabric.joins net)

-- the class of a chain that ends at a register
abbrev pub register_class : ClockEnd → Option ℕ
register_class (at_register class place turned) = Some class
register_class _ = None

-- the class of the register that is the clock of a net, if one is
unfoldable pub clock_class : Fabric → Option ℕ → Option ℕ
clock_class fabric None = None
clock_class fabric (Some net) = register_class (clock_end fabric net)

-- ---- users

-- what takes its value at edges of a clock, and the net of the clock
pub record User : Type 0 where
  pub x : ℕ
  pub y : ℕ
  pub user : ClockUser
  pub net : Option ℕ

-- a register as a user of its clock
abbrev pub register_user : Register → User
register_user register = record { x = register.x; y = register.y; user = user_of register.kind; net = register.clk }

-- the ports of a RAM as users of their clocks: the read port comes first
abbrev pub ram_users : RamCell → List User
ram_users ram =
    record { x = ram.x; y = ram.y; user = Read; net = ram.rclk }
    ∷ record { x = ram.x; y = ram.y; user = Write; net = ram.wclk } ∷ []

-- the users at a tile, registers in their order
abbrev pub users_at : Fabric → ℕ → ℕ → List User
users_at fabric x y =
    map register_user (filter (λ register. (register.x == x) && (register.y == y)) fabric.registers)
    ++ flat_map ram_users (filter (λ ram. (ram.x == x) && (ram.y == y)) fabric.rams)

-- all users, by tile
unfoldable pub users_of : DeviceName → Fabric → List User
users_of device fabric = over_grid device (users_at fabric)
