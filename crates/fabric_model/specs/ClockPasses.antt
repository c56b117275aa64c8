-- What LUTs do to clocks, as the code represents it.
use Rattle.std.specs.Prelude.{◌≡◌, ℕ, ◌<◌, Bool, false, not, ◌&&◌, ◌||◌, List, get_or, Option, Some, None}
use Rattle.fabric_model.specs.Signals.{net_or_0}
use Rattle.fabric_model.specs.declared.register.LutTable.{LutTable}
use Rattle.fabric_model.specs.declared.clock_lut.LutPass.{LutPass as KeptPass}
use Rattle.fabric_model.specs.declared.clock_lut.LutPass.TheVariants.{Holds, Follows, Mixes}
use Rattle.fabric_model.specs.ClockLuts.{LutPass, turned_bit, can_be_1, input_at}
use Rattle.fabric_model.specs.ClockLuts.LutPass.{holds, follows, mixes}

-- what a LUT does, as the code represents it
abbrev pub pass_in : KeptPass → LutPass
pass_in (Holds bit) = holds bit
pass_in (Follows turned net) = follows turned net
pass_in Mixes = mixes

-- flags say which inputs of a LUT can be 1
abbrev pub AreOpen : (ℕ → Bool) → LutTable → List Bool → Type 0
AreOpen connected table can = (k : ℕ) → k < 4 → get_or can k false ≡ can_be_1 connected (get_or table.ins k (net_or_0 None))

-- whether in_k can have its value at entry n
abbrev pub is_input_open_by : List Bool → ℕ → ℕ → Bool
is_input_open_by can k n = not (input_at k n) || get_or can k false

-- whether entry n can occur
abbrev pub is_open_by : List Bool → ℕ → Bool
is_open_by can n =
    is_input_open_by can 0 n && (is_input_open_by can 1 n && (is_input_open_by can 2 n && is_input_open_by can 3 n))

-- the value of an input at entry n, or the inverse of it if it is turned; 0 if there is no input
abbrev pub value_by : Bool → Option ℕ → ℕ → Bool
value_by turned None n = turned
value_by turned (Some k) n = turned_bit turned (input_at k n)
