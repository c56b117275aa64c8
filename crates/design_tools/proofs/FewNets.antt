-- A fabric has few nets, with the inner nets of its pins too.
use Rattle.std.proofs.Common.{ℕ, zero, suc, ◌*◌, ◌^◌, ◌≤◌, Bool, true, false, List, [], ◌∷◌, length, arith}
use Rattle.std.specs.Prelude.{if◌then◌else◌}
use Rattle.std.proofs.lemmas.List.{length-append}
use Rattle.plane_map.specs.Layout.{grid_width, grid_height}
use Rattle.plane_map.specs.declared.device.DeviceName.{DeviceName}
use Rattle.plane_map.specs.declared.device.DeviceName.TheVariants.{Lp384, Hx1k, Hx8k}
use Rattle.plane_map.specs.declared.tile.TileKind.TheVariants.{Io}
use Rattle.ice_image.specs.Configuration.{Configuration}
use Rattle.chipdb_reader.specs.Database.{Database}
use Rattle.index_search.specs.Places.{gathered_below}
use Rattle.fabric_model.specs.declared.options.FabricOptions.{FabricOptions}
use Rattle.fabric_model.specs.Tiles.{over_grid}
use Rattle.fabric_model.specs.TilesOfKind.{tile_if, tiles_of}
use Rattle.fabric_model.specs.Pins.{net_count}
use Rattle.fabric_model.specs.Fabric.{fabric_with}
use Rattle.fabric_model.proofs.InOrder.{pin_places-count}

-- ---- the tiles of a device

-- each place gives one item at most
gathered-ones : {A : Type 0} (n : ℕ) (given : ℕ → List A) → ((k : ℕ) → length (given k) ≤ 1) → length (gathered_below n given) ≤ n
unfolding gathered_below
gathered-ones zero given one = omega arith
gathered-ones (suc n) given one =
    let both = length-append (gathered_below n given) (given n) in
    let rest = gathered-ones n given one in
    let here = one n in
    omega (arith, both, rest, here)

-- each place gives 34 items at most
gathered-rows : {A : Type 0} (n : ℕ) (given : ℕ → List A) → ((k : ℕ) → length (given k) ≤ 34) → length (gathered_below n given) ≤ 34 * n
unfolding gathered_below
gathered-rows zero given few = omega arith
gathered-rows (suc n) given few =
    let both = length-append (gathered_below n given) (given n) in
    let rest = gathered-rows n given few in
    let here = few n in
    omega (arith, both, rest, here)

if-one : {A : Type 0} (passes : Bool) (item : A) → length (if passes then item ∷ [] else []) ≤ 1
if-one true item = omega arith
if-one false item = omega arith

-- no device has more than 34 columns and 34 rows
width-few : (device : DeviceName) → grid_width device ≤ 34
width-few Lp384 = omega arith
width-few Hx1k = omega arith
width-few Hx8k = omega arith

height-few : (device : DeviceName) → grid_height device ≤ 34
height-few Lp384 = omega arith
height-few Hx1k = omega arith
height-few Hx8k = omega arith

row-few : (device : DeviceName) (y : ℕ) → length (gathered_below (grid_width device) (λ x. tile_if device Io x y)) ≤ 34
row-few device y =
    let row = gathered-ones (grid_width device) (λ x. tile_if device Io x y) (λ x. if-one _ _) in
    let width = width-few device in
    omega (arith, row, width)

tiles-few : (device : DeviceName) → length (tiles_of device Io) ≤ 34 * 34
unfolding tiles_of over_grid
tiles-few device =
    let rows = gathered-rows (grid_height device) (λ y. gathered_below (grid_width device) (λ x. tile_if device Io x y)) (row-few device) in
    let height = height-few device in
    omega (arith, rows, height)

-- ---- the nets of a fabric

nets-few : (all : Bool) (db : Database) (image : Configuration) → db.chip.nets ≤ 16777216 → net_count all db image ≤ 2 ^ 64
nets-few true db image few =
    let pins = pin_places-count image.layout.device in
    let tiles = tiles-few image.layout.device in
    omega (arith, pins, tiles, few)
nets-few false db image few = omega (arith, few)

-- a database that is read has few nets, and so has a fabric
pub few-nets : (options : FabricOptions) (db : Database) (image : Configuration) → db.chip.nets ≤ 16777216 → (fabric_with options db image).nets ≤ 2 ^ 64
unfolding fabric_with
few-nets options db image few = nets-few options.all_pins db image few
