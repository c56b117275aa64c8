-- Why a database and an image aren't taken: the first cause that holds, with the first tile, pin, net or user that has it. Each list of
-- faults is in the order of the tiles, pins, nets or users.
use Rattle.std.specs.Prelude.{ℕ, Bool, List, [], ◌∷◌, flat_map, if◌then◌else◌, Option, Some, None, option_map}
use Rattle.plane_map.specs.declared.device.DeviceName.{DeviceName}
use Rattle.plane_map.specs.Devices.{is_same_device}
use Rattle.ice_image.specs.Configuration.{Configuration}
use Rattle.chipdb_reader.specs.Database.{Database}
use Rattle.index_search.specs.Places.{gathered_below, or_else}
use Rattle.fabric_model.specs.declared.options.FabricOptions.{FabricOptions}
use Rattle.fabric_model.specs.declared.driver.Driver.{Driver}
use Rattle.fabric_model.specs.declared.driver.ClockUser.{ClockUser}
use Rattle.fabric_model.specs.Tiles.{item_if, first_of}
use Rattle.fabric_model.specs.Rams.{over_rams, is_cascaded}
use Rattle.fabric_model.specs.PinTypes.{pintype_of}
use Rattle.fabric_model.specs.Plls.{pll_tile}
use Rattle.fabric_model.specs.Pins.{PinPlace, pin_places, pin_with, is_refused_with, is_refused_of_all}
use Rattle.fabric_model.specs.Fabric.{Fabric, numbered, fabric_with}
use Rattle.fabric_model.specs.Drivers.{Drive, drivers_of}
use Rattle.graph_order.specs.Wiring.{Wiring, is_on_cycle}
use Rattle.fabric_model.specs.Wiring.{wiring_of, clocked_wiring}
use Rattle.fabric_model.specs.Clocks.{ClockEnd, User, users_of, clock_end}
use Rattle.fabric_model.specs.Clocks.ClockEnd.{at_pin, at_register, still, logic}

-- a cause, and what has it
pub data Fault : Type 0 where
  -- the devices differ
  other_device : Fault
  -- PLLs that aren't taken: the tile of a PLL, which may be outside of the grid, or of a function that no PLL names
  pll : (x y : ℕ) → Fault
  -- a pin of a type that isn't taken
  pin_mode : (x y n pintype : ℕ) → Fault
  -- a RAM that is cascaded
  cascade : (x y : ℕ) → Fault
  -- a class of joined nets with two drivers or more, and the first two
  two_drivers : (net : ℕ) (first second : Driver) → Fault
  -- a class of joined nets that lies on a combinational cycle, or on one by registers that are clocks
  loop : (net : ℕ) → Fault
  -- a user of a clock whose clock chain ends at logic
  clock : (x y : ℕ) (user : ClockUser) (net : ℕ) → Fault

-- ---- devices

unfoldable pub device_faults : Database → Configuration → List Fault
device_faults db image = if is_same_device db.chip.device image.layout.device then [] else other_device ∷ []

-- ---- pins

abbrev pub pll_at : ℕ × ℕ → Fault
pll_at tile = pll tile.0 tile.1

-- what is wrong with PLLs
abbrev pub pll_fault : Bool → Database → Configuration → Option Fault
pll_fault all db image = option_map pll_at (pll_tile all db image)

-- whether a pin, by its number and place, isn't taken, if pins of every kind are or if not
abbrev pub is_refused_at : Bool → Database → Configuration → ℕ × PinPlace → Bool
is_refused_at all db image place =
    let pin = place.1 in
    if all then is_refused_of_all db image (pin_with all db image place.0 pin.x pin.y pin.n)
    else is_refused_with db image pin.x pin.y pin.n (pintype_of db image pin.x pin.y pin.n)

abbrev pub pin_fault_at : Bool → Database → Configuration → ℕ × PinPlace → List Fault
pin_fault_at all db image place =
    let pin = place.1 in
    item_if (is_refused_at all db image place) (pin_mode pin.x pin.y pin.n (pintype_of db image pin.x pin.y pin.n))

unfoldable pub pin_faults : Bool → Database → Configuration → List Fault
pin_faults all db image = flat_map (pin_fault_at all db image) (numbered (pin_places image.layout.device))

-- ---- RAMs

unfoldable pub cascade_faults : Database → Configuration → List Fault
cascade_faults db image = over_rams db image (λ x y. item_if (is_cascaded db image x y) (cascade x y))

-- ---- drivers

abbrev pub drivers_fault : ℕ → List Drive → List Fault
drivers_fault class (first ∷ second ∷ others) = two_drivers class first.driver second.driver ∷ []
drivers_fault class drives = []

-- classes of joined nets with two drivers or more
unfoldable pub driver_faults : Fabric → List Fault
driver_faults fabric = gathered_below fabric.nets (λ class. drivers_fault class (drivers_of fabric class))

-- classes of joined nets that lie on a cycle: of logic, or also of registers that are clocks
unfoldable pub loop_faults : Wiring → List Fault
loop_faults wiring = gathered_below wiring.count (λ class. item_if (is_on_cycle wiring class) (loop class))

-- ---- clocks

abbrev pub end_fault : User → ℕ → ClockEnd → List Fault
end_fault user net (at_pin place turned) = []
end_fault user net (at_register class place turned) = []
end_fault user net (still bit) = []
end_fault user net logic = clock user.x user.y user.user net ∷ []

-- a user without a net has no clock
abbrev pub user_fault : Fabric → User → Option ℕ → List Fault
user_fault fabric user None = []
user_fault fabric user (Some net) = end_fault user net (clock_end fabric net)

-- users whose clock comes from logic
unfoldable pub clock_faults : DeviceName → Fabric → List Fault
clock_faults device fabric = flat_map (λ user. user_fault fabric user user.net) (users_of device fabric)

-- ---- the first cause

-- what is wrong with PLLs and pins: the first cause, with the first tile or pin that has it
unfoldable pub pins_fault : Bool → Database → Configuration → Option Fault
pins_fault all db image = or_else (pll_fault all db image) (first_of (pin_faults all db image))

-- what is wrong with RAMs
unfoldable pub rams_fault : Database → Configuration → Option Fault
rams_fault db image = first_of (cascade_faults db image)

-- what is wrong with a fabric
unfoldable pub fabric_fault : DeviceName → Fabric → Option Fault
fabric_fault device fabric =
    or_else (first_of (driver_faults fabric))
    (or_else (first_of (loop_faults (wiring_of fabric)))
    (or_else (first_of (loop_faults (clocked_wiring fabric)))
    (first_of (clock_faults device fabric))))

-- why a database and an image aren't taken, with these options
unfoldable pub design_fault : FabricOptions → Database → Configuration → Option Fault
design_fault options db image =
    or_else (first_of (device_faults db image))
    (or_else (pins_fault options.all_pins db image)
    (or_else (rams_fault db image)
    (fabric_fault image.layout.device (fabric_with options db image))))
