-- Which rows of the grid, and which tiles, give a net no name.
use Rattle.std.proofs.Common.{◌≡◌, ◌≢◌, ℕ, ◌+◌, ◌-◌, ◌*◌, ◌<◌, ◌≤◌, ◌⊎◌, true, false, ◌&&◌, ◌||◌, ◌==◌, [], map, refl, ap, ◌∙◌, arith}
use Rattle.std.specs.Prelude.{nat_le, nat_lt, Option, Some, None}
use Rattle.std.proofs.lemmas.Bool.Decides.{nat_tests}
use Rattle.std.proofs.lemmas.Bool.{or_parts}
use Rattle.index_search.specs.Places.{gathered_below}
use Rattle.index_search.proofs.Places.{gathered_below-none}
use Rattle.plane_map.specs.Devices.{has_database}
use Rattle.plane_map.specs.Layout.{kind_of, grid_width}
use Rattle.plane_map.specs.declared.device.DeviceName.{DeviceName}
use Rattle.plane_map.specs.declared.device.DeviceName.TheVariants.{Lp384, Hx1k, Hx8k}
use Rattle.plane_map.specs.declared.tile.TileKind.{TileKind}
use Rattle.plane_map.specs.declared.tile.TileKind.TheVariants.{Io, Logic, RamB, RamT}
use Rattle.ice_gen.specs.Numbers.{rams, logic_columns, cell_number, ram_number, clock_net, input_net, out_net, in_0_net, address_net, write_net, read_net, in_3_net, read_enable_net, write_enable_net, middle_net}
use Rattle.ice_gen.specs.Database.{cell_names, logic_names, ram_names, pin_names, names_by_kind, names_at, names_in_row, name_line}
use Rattle.ice_gen.specs.Inside.{is_of_cells, is_shared, is_of_row, first_of_row}

-- a logic tile is one of its row
logic-in : (device : DeviceName) (x y : ℕ) → has_database device ≡ true → kind_of device x y ≡ Some Logic → (first_of_row device y ≤ cell_number device x y 0) × (cell_number device x y 0 + 8 ≤ first_of_row device y + 8 * logic_columns device)
unfolding kind_of
logic-in Lp384 x y database is = absurd cc
logic-in Hx1k x y database is = grind (arith, nat_tests)
logic-in Hx8k x y database is = grind (arith, nat_tests)

-- the number of RAMs
ram-in : (device : DeviceName) (x y : ℕ) → kind_of device x y ≡ Some RamB → ram_number device x y < rams device
unfolding kind_of
ram-in Lp384 x y is = grind (arith, nat_tests)
ram-in Hx1k x y is = grind (arith, nat_tests)
ram-in Hx8k x y is = grind (arith, nat_tests)

-- a net that is neither shared nor of a row, in numbers
pub record IsElsewhere (device : DeviceName) (net y : ℕ) : Type 0 where
  low : 2 + 16 * rams device ≤ net
  high : net < read_net device 0 0
  write : net ≢ write_enable_net device
  read : net ≢ read_enable_net device
  middle : net ≢ middle_net device
  out : (net < first_of_row device y) ⊎ (first_of_row device y + (8 * logic_columns device + 2) ≤ net)
  in_0 : (net < in_0_net device (first_of_row device y)) ⊎ (in_0_net device (first_of_row device y) + 8 * logic_columns device ≤ net)

elsewhere : (device : DeviceName) (net y : ℕ) → is_shared device net ≡ false → is_of_row device net y ≡ false → IsElsewhere device net y
elsewhere device net y shared of_row = record {
  low = grind (arith, nat_tests);
  high = grind (arith, nat_tests);
  write = grind (arith, nat_tests);
  read = grind (arith, nat_tests);
  middle = grind (arith, nat_tests);
  out = grind (arith, nat_tests);
  in_0 = grind (arith, nat_tests);
}

-- a cell of the row
cell-nameless : (device : DeviceName) (net y j i : ℕ) → IsElsewhere device net y → first_of_row device y ≤ j → j < first_of_row device y + 8 * logic_columns device → cell_names device net j i ≡ []
unfolding cell_names
cell-nameless device net y j i away from below =
    let out = away.out in
    let in_0 = away.in_0 in
    let e0 : (net == in_0_net device j) ≡ false = grind (arith, nat_tests, away.in_0) in
    let e1 : (nat_le 2 j && (net == out_net (j - 2))) ≡ false = grind (arith, nat_tests, away.out) in
    let e2 : (nat_lt j (rams device) && (net == in_3_net device j)) ≡ false = grind (arith, nat_tests, away.high) in
    let e3 : (net == out_net j) ≡ false = grind (arith, nat_tests, away.out) in
    rw (e0, e1, e2, e3) refl

module _ (device : DeviceName) (net y : ℕ) (database : has_database device ≡ true) (away : IsElsewhere device net y) where
  io-nameless : (x : ℕ) → pin_names device net x y ≡ []
  unfolding pin_names
  io-nameless x =
      let e0 : ((x == 0) && (y == 2) && (net == input_net)) ≡ false = grind (arith, nat_tests, away.low) in
      let e1 : ((x == 0) && (y == 3) && (net == read_enable_net device)) ≡ false = grind (arith, nat_tests, away.read) in
      let e2 : ((x == 0) && (y == 4) && (net == middle_net device)) ≡ false = grind (arith, nat_tests, away.middle) in
      rw (e0, e1, e2) refl

  logic-nameless : (x : ℕ) → kind_of device x y ≡ Some Logic → logic_names device net x y ≡ []
  unfolding logic_names
  logic-nameless x is =
      let inside = logic-in device x y database is in
      let e0 : (net == clock_net) ≡ false = grind (arith, nat_tests, away.low) in
      let none = gathered_below-none 8 (λ i. cell_names device net (cell_number device x y i) i) (λ i within. cell-nameless device net y (cell_number device x y i) i away (omega (arith, inside.0)) (omega (arith, inside.1))) in
      rw (e0, none) refl

  ram-nameless : (r : ℕ) → r < rams device → ram_names device net r ≡ []
  unfolding ram_names
  ram-nameless r few =
      let e0 : (net == clock_net) ≡ false = grind (arith, nat_tests, away.low) in
      let e1 : (net == read_enable_net device) ≡ false = grind (arith, nat_tests, away.read) in
      let e2 : (net == write_enable_net device) ≡ false = grind (arith, nat_tests, away.write) in
      let a : (nat_le (address_net r 0) net && nat_lt net (address_net r 0 + 8)) ≡ false = grind (arith, nat_tests, away.low) in
      let b : (nat_le (read_net device r 0) net && nat_lt net (read_net device r 0 + 16)) ≡ false = grind (arith, nat_tests, away.high) in
      let w : (nat_le (write_net r 0) net && nat_lt net (write_net r 0 + 16)) ≡ false = grind (arith, nat_tests, away.low) in
      rw (e0, e1, e2, a, b, w) refl

  names-none : (x : ℕ) (kind : Option TileKind) → kind_of device x y ≡ kind → names_by_kind device net x y kind ≡ []
  names-none x None is = refl
  names-none x (Some Io) is = io-nameless x
  names-none x (Some Logic) is = logic-nameless x is
  names-none x (Some RamB) is = ram-nameless (ram_number device x y) (ram-in device x y is)
  names-none x (Some RamT) is = refl

  row-none : names_in_row device net y ≡ []
  row-none = gathered_below-none (grid_width device) (λ x. map (name_line x y) (names_at device net x y)) (λ x within. ap (map (name_line x y)) (names-none x (kind_of device x y) refl))

-- a cell of a tile
one-nameless : (device : DeviceName) (net first i : ℕ) → i < 8 → is_of_cells device net first ≡ false → cell_names device net (first + i) i ≡ []
unfolding cell_names
one-nameless device net first i within none =
    let out : (net < first) ⊎ (first + 10 ≤ net) = grind (arith, nat_tests) in
    let in_0 : (net < in_0_net device first) ⊎ (in_0_net device first + 8 ≤ net) = grind (arith, nat_tests) in
    let in_3 : (net < in_3_net device first) ⊎ (in_3_net device first + 8 ≤ net) = grind (arith, nat_tests) in
    let e0 : (net == in_0_net device (first + i)) ≡ false = grind (arith, nat_tests, in_0) in
    let e1 : (nat_le 2 (first + i) && (net == out_net (first + i - 2))) ≡ false = grind (arith, nat_tests, out) in
    let e2 : (nat_lt (first + i) (rams device) && (net == in_3_net device (first + i))) ≡ false = grind (arith, nat_tests, in_3) in
    let e3 : (net == out_net (first + i)) ≡ false = grind (arith, nat_tests, out) in
    rw (e0, e1, e2, e3) refl

-- all cells of a tile
pub cells-nameless : (device : DeviceName) (net x y : ℕ) → is_of_cells device net (cell_number device x y 0) ≡ false → gathered_below 8 (λ i. cell_names device net (cell_number device x y i) i) ≡ []
cells-nameless device net x y none =
    gathered_below-none 8 (λ i. cell_names device net (cell_number device x y i) i) (λ i within.
    let same : cell_number device x y i ≡ cell_number device x y 0 + i = omega arith in
    ap (λ j. cell_names device net j i) same ∙ one-nameless device net (cell_number device x y 0) i within none)

pub row-nameless : (device : DeviceName) (net y : ℕ) → has_database device ≡ true → (is_shared device net || is_of_row device net y) ≡ false → names_in_row device net y ≡ []
row-nameless device net y database none =
    let parts = or_parts (is_shared device net) (is_of_row device net y) none in
    row-none device net y database (elsewhere device net y parts.0 parts.1)
