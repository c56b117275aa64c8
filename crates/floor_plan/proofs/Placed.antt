-- Used cells, used RAMs and pins that are ports stand in tiles of their kind, in the order of the tiles.
use Rattle.std.proofs.Common.{◌≡◌, ℕ, suc, ◌+◌, ◌*◌, ◌<◌, ◌≤◌, Bool, List, [], ◌∷◌, refl, arith}
use Rattle.std.specs.Prelude.{All, Some, if◌then◌else◌}
use Rattle.std.proofs.lemmas.List.Elements.{All-weaker}
use Rattle.index_search.specs.Places.{gathered_below}
use Rattle.index_search.proofs.Gathered.{All-gathered_below}
use Rattle.plane_map.specs.Layout.{kind_of, grid_width, grid_height}
use Rattle.plane_map.specs.declared.device.DeviceName.{DeviceName}
use Rattle.plane_map.specs.declared.tile.TileKind.{TileKind}
use Rattle.plane_map.specs.declared.tile.TileKind.TheVariants.{Io, Logic, RamB}
use Rattle.plane_map.proofs.Grids.{grid_width-le}
use Rattle.ice_image.specs.Configuration.{Configuration}
use Rattle.chipdb_lines.specs.Statements.{is_kind_there}
use Rattle.chipdb_reader.specs.Database.{Database}
use Rattle.fabric_model.specs.declared.cell.LogicCell.{LogicCell}
use Rattle.fabric_model.specs.declared.pin.Pin.{Pin}
use Rattle.fabric_model.specs.declared.ram.RamCell.{RamCell}
use Rattle.fabric_model.specs.Cells.{cells_of, cells_at, cell_with, cell_bits, is_used, used_cell}
use Rattle.fabric_model.specs.Fabric.{numbered}
use Rattle.fabric_model.specs.Pins.{PinPlace, pins_of, pin_places, pin_with, port_at, is_port}
use Rattle.fabric_model.specs.Rams.{rams_of, ram_at, is_ram_used}
use Rattle.fabric_model.specs.Tiles.{over_grid, over_tiles, at_kind, each_below}
use Rattle.fabric_model.proofs.InOrder.{is_kind_there-is}
use Rattle.fabric_model.proofs.Within.{All-flat_map, All-if, All-item_if, All-numbered, All-over_grid, All-single, if-when}
use Rattle.floor_plan.proofs.Ordered.{Ascends, Ascends-equal, Ascends-flat_map, Ascends-gathered, Ascends-numbered, place}

-- the items stand in tiles of a kind, in the order of the tiles
pub record ArePlaced {A : Type 0} (column row : A → ℕ) (device : DeviceName) (kind : TileKind) (items : List A) : Type 0 where
  pub ascends : Ascends (place column row) items
  pub there : All (λ item. kind_of device (column item) (row item) ≡ Some kind) items

module _ {A : Type 0} (column row : A → ℕ) (device : DeviceName) (kind : TileKind) (given : ℕ → ℕ → List A) (at : (x y : ℕ) → All (λ item. (column item ≡ x) × (row item ≡ y)) (given x y)) where
  abbrev here : ℕ → ℕ → List A
  here x y = at_kind device kind given x y

  at-here : (x y : ℕ) → All (λ item. (column item ≡ x) × (row item ≡ y)) (here x y)
  at-here x y = All-if (λ item. (column item ≡ x) × (row item ≡ y)) (is_kind_there kind (kind_of device x y)) (given x y) (at x y)

  row-ascends : (y : ℕ) → Ascends (place column row) (gathered_below (grid_width device) (λ x. here x y))
  row-ascends y = Ascends-gathered (place column row) (grid_width device) (λ x. 64 * y + x) (λ x. here x y) (λ j k le. omega arith)
      (λ x lt. Ascends-equal (place column row) (64 * y + x) (here x y)
      (All-weaker (λ item. (column item ≡ x) × (row item ≡ y)) (λ item. place column row item ≡ 64 * y + x) (λ item is. omega (arith, is.0, is.1)) (here x y) (at-here x y)))
      (λ x lt. All-weaker (λ item. (column item ≡ x) × (row item ≡ y)) (λ item. 64 * y + x ≤ place column row item) (λ item is. omega (arith, is.0, is.1)) (here x y) (at-here x y))
      (λ x lt. All-weaker (λ item. (column item ≡ x) × (row item ≡ y)) (λ item. place column row item < 64 * y + suc x) (λ item is. omega (arith, is.0, is.1)) (here x y) (at-here x y))

  in-row : (y : ℕ) → All (λ item. (64 * y ≤ place column row item) × (place column row item < 64 * suc y)) (gathered_below (grid_width device) (λ x. here x y))
  in-row y = All-gathered_below (λ item. (64 * y ≤ place column row item) × (place column row item < 64 * suc y)) (grid_width device) (λ x. here x y)
      (λ x lt. All-weaker (λ item. (column item ≡ x) × (row item ≡ y)) (λ item. (64 * y ≤ place column row item) × (place column row item < 64 * suc y))
      (λ item is. (omega (arith, is.0, is.1), omega (arith, is.0, is.1, lt, grid_width-le device))) (here x y) (at-here x y))

  all-ascend : Ascends (place column row) (over_tiles device kind given)
  unfolding over_grid
  all-ascend = Ascends-gathered (place column row) (grid_height device) (λ y. 64 * y) (λ y. gathered_below (grid_width device) (λ x. here x y)) (λ j k le. omega arith)
      (λ y lt. row-ascends y)
      (λ y lt. All-weaker (λ item. (64 * y ≤ place column row item) × (place column row item < 64 * suc y)) (λ item. 64 * y ≤ place column row item) (λ item is. is.0) (gathered_below (grid_width device) (λ x. here x y)) (in-row y))
      (λ y lt. All-weaker (λ item. (64 * y ≤ place column row item) × (place column row item < 64 * suc y)) (λ item. place column row item < 64 * suc y) (λ item is. is.1) (gathered_below (grid_width device) (λ x. here x y)) (in-row y))

  -- what tiles of a kind give, each at its place
  pub over_tiles-placed : ArePlaced column row device kind (over_tiles device kind given)
  over_tiles-placed = record {
    ascends = all-ascend;
    there = All-over_grid (λ item. kind_of device (column item) (row item) ≡ Some kind) device here
        (λ x y left low. if-when (λ item. kind_of device (column item) (row item) ≡ Some kind) (is_kind_there kind (kind_of device x y)) (given x y)
        (λ is. All-weaker (λ item. (column item ≡ x) × (row item ≡ y)) (λ item. kind_of device (column item) (row item) ≡ Some kind)
        (λ item at. rw (at.0, at.1) (is_kind_there-is kind (kind_of device x y) is)) (given x y) (at x y)));
  }

module _ (db : Database) (image : Configuration) where
  abbrev device : DeviceName
  device = image.layout.device

  -- ---- cells

  cell-at : (x y i : ℕ) → All (λ (lc : LogicCell). (lc.x ≡ x) × (lc.y ≡ y)) (used_cell db image x y i)
  unfolding cell_with
  cell-at x y i = All-item_if (λ (lc : LogicCell). (lc.x ≡ x) × (lc.y ≡ y)) (is_used (cell_bits db image x y i)) (cell_with db image x y i (cell_bits db image x y i)) (refl, refl)

  cells-at : (x y : ℕ) → All (λ (lc : LogicCell). (lc.x ≡ x) × (lc.y ≡ y)) (cells_at db image x y)
  unfolding cells_at
  cells-at x y = All-gathered_below (λ (lc : LogicCell). (lc.x ≡ x) × (lc.y ≡ y)) 8 (used_cell db image x y) (λ i lt. cell-at x y i)

  pub cells-placed : ArePlaced (λ (lc : LogicCell). lc.x) (λ lc. lc.y) device Logic (cells_of db image)
  unfolding cells_of
  cells-placed = over_tiles-placed (λ (lc : LogicCell). lc.x) (λ lc. lc.y) device Logic (cells_at db image) cells-at

  -- ---- RAMs

  ram-at : (x y : ℕ) → All (λ (ram : RamCell). (ram.x ≡ x) × (ram.y ≡ y)) (if is_ram_used db image x y then ram_at db image x y ∷ [] else [])
  unfolding ram_at
  ram-at x y = All-if (λ (ram : RamCell). (ram.x ≡ x) × (ram.y ≡ y)) (is_ram_used db image x y) (ram_at db image x y ∷ []) (All-single (λ (ram : RamCell). (ram.x ≡ x) × (ram.y ≡ y)) (ram_at db image x y) (refl, refl))

  pub rams-placed : ArePlaced (λ (ram : RamCell). ram.x) (λ ram. ram.y) device RamB (rams_of db image)
  unfolding rams_of
  rams-placed = over_tiles-placed (λ (ram : RamCell). ram.x) (λ ram. ram.y) device RamB (λ x y. if is_ram_used db image x y then ram_at db image x y ∷ [] else []) ram-at

  -- ---- pins

  places-at : (x y : ℕ) → All (λ (pin : PinPlace). (pin.x ≡ x) × (pin.y ≡ y)) (each_below 2 (λ n. record { x = x; y = y; n = n }))
  places-at x y = All-gathered_below (λ (pin : PinPlace). (pin.x ≡ x) × (pin.y ≡ y)) 2 (λ n. record { x = x; y = y; n = n } ∷ []) (λ n lt. All-single (λ (pin : PinPlace). (pin.x ≡ x) × (pin.y ≡ y)) (record { x = x; y = y; n = n }) (refl, refl))

  places-placed : ArePlaced (λ (pin : PinPlace). pin.x) (λ pin. pin.y) device Io (pin_places device)
  unfolding pin_places
  places-placed = over_tiles-placed (λ (pin : PinPlace). pin.x) (λ pin. pin.y) device Io (λ x y. each_below 2 (λ n. record { x = x; y = y; n = n })) places-at

  module _ (all : Bool) where
    port-at : (found : ℕ × PinPlace) → All (λ (pin : Pin). (pin.x ≡ found.1.x) × (pin.y ≡ found.1.y)) (port_at all db image found)
    unfolding pin_with
    port-at found =
        let pin = pin_with all db image found.0 found.1.x found.1.y found.1.n in
        All-item_if (λ (pin : Pin). (pin.x ≡ found.1.x) × (pin.y ≡ found.1.y)) (is_port pin) pin (refl, refl)

    pub pins-placed : ArePlaced (λ (pin : Pin). pin.x) (λ pin. pin.y) device Io (pins_of all db image)
    unfolding pins_of
    pins-placed =
        let placed = places-placed in
        record {
          ascends = Ascends-flat_map (λ (found : ℕ × PinPlace). 64 * found.1.y + found.1.x) (λ (pin : Pin). 64 * pin.y + pin.x) (port_at all db image) (numbered (pin_places device))
              (λ found. All-weaker (λ (pin : Pin). (pin.x ≡ found.1.x) × (pin.y ≡ found.1.y)) (λ (pin : Pin). 64 * pin.y + pin.x ≡ 64 * found.1.y + found.1.x) (λ pin is. omega (arith, is.0, is.1)) (port_at all db image found) (port-at found))
              (Ascends-numbered (λ (pin : PinPlace). 64 * pin.y + pin.x) 0 (pin_places device) placed.ascends);
          there = All-flat_map (λ (pin : Pin). kind_of device pin.x pin.y ≡ Some Io) (port_at all db image) (numbered (pin_places device))
              (All-weaker (λ (found : ℕ × PinPlace). kind_of device found.1.x found.1.y ≡ Some Io) (λ (found : ℕ × PinPlace). All (λ (pin : Pin). kind_of device pin.x pin.y ≡ Some Io) (port_at all db image found))
              (λ found there. All-weaker (λ (pin : Pin). (pin.x ≡ found.1.x) × (pin.y ≡ found.1.y)) (λ (pin : Pin). kind_of device pin.x pin.y ≡ Some Io) (λ pin is. rw (is.0, is.1) there) (port_at all db image found) (port-at found))
              (numbered (pin_places device)) (All-numbered (λ (pin : PinPlace). kind_of device pin.x pin.y ≡ Some Io) 0 (pin_places device) placed.there));
        }
