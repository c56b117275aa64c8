-- Floor plans: what stands where on a device. That a plan has a mark for each used logic cell, each tile of a used RAM and each pin that is a
-- port, and no other, is this project's choice.
use Rattle.std.specs.Prelude.{ℕ, Bool, ◌==◌, List, map, flat_map, codes, count_by, sum_by, if◌then◌else◌}
use Rattle.std.specs.List.{list_any}
use Rattle.plane_map.specs.declared.device.DeviceName.{DeviceName}
use Rattle.plane_map.specs.declared.tile.TileKind.{TileKind}
use Rattle.plane_map.specs.declared.tile.TileKind.TheVariants.{Io, Logic, RamB, RamT}
use Rattle.plan_marks.specs.declared.plan.CellPart.{CellPart}
use Rattle.plan_marks.specs.declared.plan.PinPart.{PinPart}
use Rattle.plan_marks.specs.declared.plan.Part.{Part}
use Rattle.plan_marks.specs.declared.plan.Part.TheVariants.{Cell, Lower, Upper, Pin}
use Rattle.plan_marks.specs.declared.plan.Mark.{Mark}
use Rattle.plan_marks.specs.declared.plan.PlanTile.{PlanTile}
use Rattle.plan_marks.specs.declared.plan.GlobalMark.{GlobalMark}
use Rattle.plan_marks.specs.declared.plan.PllMark.{PllMark}
use Rattle.plan_marks.specs.declared.plan.FloorPlan.{FloorPlan}

-- ---- plans

-- a tile: its place, its kind, how many links are on in it, and the marks at its place
pub record TilePlan : Type 0 where
  pub x : ℕ
  pub y : ℕ
  pub kind : TileKind
  pub links : ℕ
  pub marks : List Mark

-- a plan: the tiles by row, then by column, the PLLs that are on, and the global networks that drive a net
pub record Plan : Type 0 where
  pub device : DeviceName
  pub tiles : List TilePlan
  pub plls : List PllMark
  pub globals : List GlobalMark

-- a tile and a plan, as they are kept
abbrev pub tile_in : PlanTile → TilePlan
tile_in tile = record { x = tile.x; y = tile.y; kind = tile.kind; links = tile.links; marks = tile.marks.items }

abbrev pub plan_in : FloorPlan → Plan
plan_in plan = record { device = plan.device; tiles = map tile_in plan.tiles.items; plls = plan.plls.items; globals = plan.globals.items }

-- ---- classes of marks, by letters

-- `l` a LUT alone, `f` with a flip-flop, `c` with a carry, `d` with both
abbrev pub cell_class : CellPart → ℕ
cell_class cell = if cell.carry then (if cell.flip then 100 else 99) else (if cell.flip then 102 else 108)

-- `i` a pin that never drives its pad, `o` one that always does, `b` one that does at times; `j`, `p` and `q` are those with a register
abbrev pub pin_class : PinPart → ℕ
pin_class pin =
    if pin.is_switched then (if pin.has_register then 113 else 98)
    else if pin.is_output then (if pin.has_register then 112 else 111)
    else if pin.has_register then 106 else 105

-- `r` and `u` are the lower and the upper tile of a RAM
abbrev pub class_of : Part → ℕ
class_of (Cell cell) = cell_class cell
class_of (Lower ram) = 114
class_of (Upper ram) = 117
class_of (Pin pin) = pin_class pin

-- ---- counts

-- the marks of all tiles, one tile after the other
abbrev pub marks_in : Plan → List Mark
marks_in plan = flat_map (λ tile. tile.marks) plan.tiles

-- whether a mark has one of these classes
abbrev pub has_class : List ℕ → Mark → Bool
has_class classes mark = list_any (λ class. class == class_of mark.part) classes

-- how many marks have one of these classes
unfoldable pub count_of : List ℕ → Plan → ℕ
count_of classes plan = count_by (has_class classes) (marks_in plan)

-- how many logic cells, RAMs and pins a tile has, a RAM being counted in its lower tile
abbrev pub cells_in : TileKind → ℕ
cells_in Logic = 8
cells_in Io = 0
cells_in RamB = 0
cells_in RamT = 0

abbrev pub rams_in : TileKind → ℕ
rams_in Logic = 0
rams_in Io = 0
rams_in RamB = 1
rams_in RamT = 0

abbrev pub pins_in : TileKind → ℕ
pins_in Logic = 0
pins_in Io = 2
pins_in RamB = 0
pins_in RamT = 0

-- how many the device has
unfoldable pub all_cells : Plan → ℕ
all_cells plan = sum_by (λ tile. cells_in tile.kind) plan.tiles

unfoldable pub all_rams : Plan → ℕ
all_rams plan = sum_by (λ tile. rams_in tile.kind) plan.tiles

unfoldable pub all_pins : Plan → ℕ
all_pins plan = sum_by (λ tile. pins_in tile.kind) plan.tiles

-- how many a plan uses
abbrev pub used_cells : Plan → ℕ
used_cells plan = count_of (codes "lfcd") plan

abbrev pub used_rams : Plan → ℕ
used_rams plan = count_of (codes "r") plan

abbrev pub used_pins : Plan → ℕ
used_pins plan = count_of (codes "ijopbq") plan
