-- Users of clocks whose clock comes from logic, and the first of them in the order of tiles.
use Rattle.std.specs.Prelude.{ℕ, Bool, true, false, ◌&&◌, ◌||◌, ◌==◌, nat_lt, List, [], ◌∷◌, filter, flat_map, Option, Some, None}
use Rattle.plane_map.specs.Layout.{grid_width, grid_height}
use Rattle.plane_map.specs.declared.device.DeviceName.{DeviceName}
use Rattle.fabric_model.specs.declared.register.Register.{Register}
use Rattle.fabric_model.specs.declared.ram.RamCell.{RamCell}
use Rattle.fabric_model.specs.declared.driver.ClockUser.TheVariants.{Read, Write}
use Rattle.fabric_model.specs.Registers.{user_of}
use Rattle.fabric_model.specs.Tiles.{over_grid, item_if, first_of}
use Rattle.fabric_model.specs.Clocks.{ClockEnd}
use Rattle.fabric_model.specs.Clocks.ClockEnd.{at_pin, at_register, still, logic}
use Rattle.fabric_model.specs.Links.{LinkSet, class_in}
use Rattle.fabric_wiring.specs.declared.ends.ClockEnd.{ClockEnd as KeptEnd}
use Rattle.fabric_wiring.specs.declared.users.Unclocked.{Unclocked}
use Rattle.fabric_wiring.specs.declared.users.ClockInput.{ClockInput}
use Rattle.fabric_wiring.specs.Ends.{end_in}

-- ---- users of clocks

-- a register as a user of its clock
abbrev pub register_inputs : Register → List ClockInput
register_inputs register = record { x = register.x; y = register.y; user = user_of register.kind; net = register.clk } ∷ []

-- the ports of a RAM as users of their clocks: the read port comes first
abbrev pub ram_inputs : RamCell → List ClockInput
ram_inputs ram =
    record { x = ram.x; y = ram.y; user = Read; net = ram.rclk }
    ∷ record { x = ram.x; y = ram.y; user = Write; net = ram.wclk } ∷ []

-- whether a clock chain ends at logic
abbrev pub is_other : ClockEnd → Bool
is_other (at_pin place turned) = false
is_other (at_register class place turned) = false
is_other (still bit) = false
is_other logic = true

-- a user with that clock net, if the clock comes from logic
abbrev pub unclocked_with : LinkSet → List KeptEnd → ClockInput → Option ℕ → List Unclocked
unclocked_with links ends input None = []
unclocked_with links ends input (Some net) =
    item_if (is_other (end_in ends (class_in links net))) (record { x = input.x; y = input.y; user = input.user; net = net })

abbrev pub unclocked_by : LinkSet → List KeptEnd → ClockInput → List Unclocked
unclocked_by links ends input = unclocked_with links ends input input.net

-- the users in a list whose clock comes from logic
abbrev pub unclocked_in : LinkSet → List KeptEnd → List ClockInput → List Unclocked
unclocked_in links ends inputs = flat_map (unclocked_by links ends) inputs

-- ---- the first

abbrev pub is_at : ℕ → ℕ → Unclocked → Bool
is_at x y found = (found.x == x) && (found.y == y)

-- the first user at a tile of the grid, in the order of tiles
unfoldable pub first_on : DeviceName → List Unclocked → Option Unclocked
first_on device list = first_of (over_grid device (λ x y. filter (is_at x y) list))

abbrev pub is_on_grid : DeviceName → Unclocked → Bool
is_on_grid device found = nat_lt found.x (grid_width device) && nat_lt found.y (grid_height device)

-- whether the tile of one user comes before the tile of another: by row, then by column
abbrev pub is_before : Unclocked → Unclocked → Bool
is_before one two = nat_lt one.y two.y || ((one.y == two.y) && nat_lt one.x two.x)

-- whether the tile of one user comes before the tile of another; true if there is no other
abbrev pub is_before_any : Unclocked → Option Unclocked → Bool
is_before_any one None = true
is_before_any one (Some two) = is_before one two
