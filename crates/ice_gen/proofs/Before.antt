-- How many logic tiles and RAMs come before a place of the grid, place by place.
use Rattle.std.proofs.Common.{◌≡◌, ◌≢◌, ℕ, ◌+◌, ◌*◌, ◌<◌, true, refl, arith}
use Rattle.std.specs.Prelude.{Some}
use Rattle.std.proofs.lemmas.Bool.Decides.{nat_tests}
use Rattle.plane_map.specs.Devices.{has_database}
use Rattle.plane_map.specs.Layout.{kind_of, grid_width, grid_height}
use Rattle.plane_map.specs.declared.device.DeviceName.{DeviceName}
use Rattle.plane_map.specs.declared.device.DeviceName.TheVariants.{Lp384, Hx1k, Hx8k}
use Rattle.plane_map.specs.declared.tile.TileKind.TheVariants.{Logic, RamB}
use Rattle.ice_gen.specs.Numbers.{cells, cell_number, ram_number}
use Rattle.ice_gen.specs.Inside.{logic_before, rams_before}

-- a logic tile
pub logic-number : (device : DeviceName) (x y : ℕ) → kind_of device x y ≡ Some Logic → 16 * logic_before device x y ≡ 2 * cell_number device x y 0
unfolding kind_of
logic-number Lp384 x y is = grind (arith, nat_tests)
logic-number Hx1k x y is = grind (arith, nat_tests)
logic-number Hx8k x y is = grind (arith, nat_tests)

pub logic-more : (device : DeviceName) (x y : ℕ) → has_database device ≡ true → kind_of device x y ≡ Some Logic → logic_before device (x + 1) y ≡ logic_before device x y + 1
unfolding kind_of
logic-more Lp384 x y database is = absurd cc
logic-more Hx1k x y database is = grind (arith, nat_tests)
logic-more Hx8k x y database is = grind (arith, nat_tests)

-- another place of the grid
pub logic-same : (device : DeviceName) (x y : ℕ) → has_database device ≡ true → x < grid_width device → y < grid_height device → kind_of device x y ≢ Some Logic → logic_before device (x + 1) y ≡ logic_before device x y
unfolding kind_of
logic-same Lp384 x y database column row other = absurd cc
logic-same Hx1k x y database column row other = grind (arith, nat_tests)
logic-same Hx8k x y database column row other = grind (arith, nat_tests)

-- the end of a row
pub logic-edge : (device : DeviceName) (x y : ℕ) → x ≡ grid_width device → y < grid_height device → logic_before device x y ≡ logic_before device 0 (y + 1)
logic-edge Lp384 x y last row = grind (arith, nat_tests)
logic-edge Hx1k x y last row = grind (arith, nat_tests)
logic-edge Hx8k x y last row = grind (arith, nat_tests)

pub logic-first : (device : DeviceName) → logic_before device 0 0 ≡ 0
logic-first Lp384 = refl
logic-first Hx1k = refl
logic-first Hx8k = refl

pub logic-all : (device : DeviceName) (y : ℕ) → y ≡ grid_height device → 16 * logic_before device 0 y ≡ 2 * cells device
logic-all Lp384 y last = grind (arith, nat_tests)
logic-all Hx1k y last = grind (arith, nat_tests)
logic-all Hx8k y last = grind (arith, nat_tests)

-- the lower tile of a RAM
pub ram-number : (device : DeviceName) (x y : ℕ) → kind_of device x y ≡ Some RamB → rams_before device x y ≡ ram_number device x y
unfolding kind_of
ram-number Lp384 x y is = grind (arith, nat_tests)
ram-number Hx1k x y is = grind (arith, nat_tests)
ram-number Hx8k x y is = grind (arith, nat_tests)

pub ram-more : (device : DeviceName) (x y : ℕ) → kind_of device x y ≡ Some RamB → rams_before device (x + 1) y ≡ rams_before device x y + 1
unfolding kind_of
ram-more Lp384 x y is = grind (arith, nat_tests)
ram-more Hx1k x y is = grind (arith, nat_tests)
ram-more Hx8k x y is = grind (arith, nat_tests)

-- another place of the grid
pub ram-same : (device : DeviceName) (x y : ℕ) → has_database device ≡ true → x < grid_width device → y < grid_height device → kind_of device x y ≢ Some RamB → rams_before device (x + 1) y ≡ rams_before device x y
unfolding kind_of
ram-same Lp384 x y database column row other = absurd cc
ram-same Hx1k x y database column row other = grind (arith, nat_tests)
ram-same Hx8k x y database column row other = grind (arith, nat_tests)

-- the end of a row
pub ram-edge : (device : DeviceName) (x y : ℕ) → x ≡ grid_width device → y < grid_height device → rams_before device x y ≡ rams_before device 0 (y + 1)
ram-edge Lp384 x y last row = grind (arith, nat_tests)
ram-edge Hx1k x y last row = grind (arith, nat_tests)
ram-edge Hx8k x y last row = grind (arith, nat_tests)

pub ram-first : (device : DeviceName) → rams_before device 0 0 ≡ 0
ram-first Lp384 = refl
ram-first Hx1k = refl
ram-first Hx8k = refl
