-- Laws of floor plans: each used cell, each used RAM and each pin that is a port stands in the plan once, at its place and as what it is, and
-- nothing else has such a mark. So what icebox_stat counts can be read off the plan.
use Rattle.std.specs.Prelude.{◌≡◌, ℕ, ◌+◌, Bool, true, false, not, ◌&&◌, ◌||◌, List, [], ◌∷◌, ◌++◌, All, IsTrue, length, map, filter, count_by, sum_by, codes, Option, None, Some}
use Rattle.std.specs.List.{AllZip}
use Rattle.plane_map.specs.Layout.{kind_of}
use Rattle.plane_map.specs.declared.tile.TileKind.{TileKind}
use Rattle.ice_image.specs.Configuration.{Configuration}
use Rattle.chipdb_reader.specs.Database.{Database}
use Rattle.chipdb_reader.specs.Fit.{IsFit}
use Rattle.fabric_model.specs.declared.cell.LogicCell.{LogicCell}
use Rattle.fabric_model.specs.declared.pin.PadData.{PadData}
use Rattle.fabric_model.specs.declared.pin.PadData.TheVariants as sends
use Rattle.fabric_model.specs.declared.pin.Pin.{Pin as PortPin}
use Rattle.fabric_model.specs.declared.ram.RamCell.{RamCell}
use Rattle.fabric_model.specs.Cells.{cells_of}
use Rattle.fabric_model.specs.PinKeys.{input_registers_in, output_registers_in}
use Rattle.fabric_model.specs.Pins.{drives, globals_of, has_input, has_outside, is_switched, pins_of}
use Rattle.fabric_model.specs.Rams.{rams_of}
use Rattle.fabric_model.specs.Tiles.{over_grid}
use Rattle.image_stat.specs.Counts.{counts_of, globals_among}
use Rattle.plan_marks.specs.declared.plan.CellPart.{CellPart}
use Rattle.plan_marks.specs.declared.plan.Mark.{Mark}
use Rattle.plan_marks.specs.declared.plan.Part.{Part}
use Rattle.plan_marks.specs.declared.plan.Part.TheVariants.{Cell, Lower, Upper, Pin}
use Rattle.plan_marks.specs.declared.plan.PinPart.{PinPart}
use Rattle.plan_marks.specs.Plans.{Plan, TilePlan, count_of, marks_in}
use Rattle.floor_plan.specs.Plans.{floor_plan, is_mark_at, links_at}

-- ---- what the marks of a plan are

abbrev pub is_cell : Part → Bool
is_cell (Cell cell) = true
is_cell (Lower ram) = false
is_cell (Upper ram) = false
is_cell (Pin pin) = false

abbrev pub is_lower : Part → Bool
is_lower (Cell cell) = false
is_lower (Lower ram) = true
is_lower (Upper ram) = false
is_lower (Pin pin) = false

abbrev pub is_upper : Part → Bool
is_upper (Cell cell) = false
is_upper (Lower ram) = false
is_upper (Upper ram) = true
is_upper (Pin pin) = false

abbrev pub is_pin : Part → Bool
is_pin (Cell cell) = false
is_pin (Lower ram) = false
is_pin (Upper ram) = false
is_pin (Pin pin) = true

-- the marks of one kind, in the order of the tiles
abbrev pub marks_that : (Part → Bool) → Plan → List Mark
marks_that test plan = filter (λ mark. test mark.part) (marks_in plan)

-- ---- marks of parts

-- the mark of a used logic cell: its place, its LUT, and what it has beside
pub record ShowsCell (lc : LogicCell) (mark : Mark) : Type 0 where
  pub cell : CellPart
  pub is : mark.part ≡ Cell cell
  pub column : mark.x ≡ lc.x
  pub row : mark.y ≡ lc.y
  pub index : cell.i ≡ lc.i
  pub lut : cell.lut ≡ lc.lut
  pub carry : cell.carry ≡ lc.carry
  pub flip : cell.flip ≡ lc.flip
  pub sets : cell.«set» ≡ lc.«set»
  pub async : cell.is_async ≡ lc.is_async
  pub negative : cell.neg ≡ lc.neg

-- the mark of the lower tile of a used RAM, which has the mode of writing, and that of the upper tile, which has the mode of reading
pub record ShowsLower (ram : RamCell) (mark : Mark) : Type 0 where
  pub is : mark.part ≡ Lower (record { read = ram.read; write = ram.write })
  pub column : mark.x ≡ ram.x
  pub row : mark.y ≡ ram.y

pub record ShowsUpper (ram : RamCell) (mark : Mark) : Type 0 where
  pub is : mark.part ≡ Upper (record { read = ram.read; write = ram.write })
  pub column : mark.x ≡ ram.x
  pub row : mark.y ≡ ram.y + 1

-- whether a pin drives its pad by two registers in turn, or by the inverse of one
abbrev pub sends_twice : PadData → Bool
sends_twice sends.Plain = false
sends_twice sends.Registered = false
sends_twice sends.Inverted = false
sends_twice sends.Double = true

abbrev pub sends_inverted : PadData → Bool
sends_inverted sends.Plain = false
sends_inverted sends.Registered = false
sends_inverted sends.Inverted = true
sends_inverted sends.Double = false

abbrev pub has_item : {A : Type 0} → List A → Bool
has_item [] = false
has_item (item ∷ items) = true

-- whether a pin has a register in the fabric
abbrev pub has_registers : PortPin → Bool
has_registers pin = has_item (input_registers_in pin ++ output_registers_in pin)

-- the mark of a pin that is a port: its place, and what it does
pub record ShowsPin (pin : PortPin) (mark : Mark) : Type 0 where
  pub part : PinPart
  pub is : mark.part ≡ Pin part
  pub column : mark.x ≡ pin.x
  pub row : mark.y ≡ pin.y
  pub number : part.n ≡ pin.n
  pub input : part.is_input ≡ (has_input pin || has_outside pin)
  pub output : part.is_output ≡ drives pin
  pub switched : part.is_switched ≡ is_switched pin
  pub register : part.has_register ≡ has_registers pin
  pub double : part.is_double ≡ ((drives pin && sends_twice pin.sends) || pin.reads_1)
  pub inverted : part.is_inverted ≡ (drives pin && sends_inverted pin.sends)
  pub global : part.is_global ≡ pin.is_global

-- The marks of each kind are, one by one, those of the parts that icebox_stat counts, and each mark stands in the tile at its place.
pub record StandsOnce (all : Bool) (db : Database) (image : Configuration) (plan : Plan) : Type 0 where
  pub cells : AllZip ShowsCell (cells_of db image) (marks_that is_cell plan)
  pub lower : AllZip ShowsLower (rams_of db image) (marks_that is_lower plan)
  pub upper : AllZip ShowsUpper (rams_of db image) (marks_that is_upper plan)
  pub pins : AllZip ShowsPin (pins_of all db image) (marks_that is_pin plan)
  pub places : All (λ tile. All (λ mark. IsTrue (is_mark_at tile.x tile.y mark)) tile.marks) plan.tiles

-- ---- tiles

abbrev pub place_of : TilePlan → ℕ × ℕ × TileKind
place_of tile = (tile.x, tile.y, tile.kind)

abbrev pub place_by : ℕ → ℕ → Option TileKind → List (ℕ × ℕ × TileKind)
place_by x y None = []
place_by x y (Some kind) = (x, y, kind) ∷ []

-- the tiles of a plan are those of the device, once each and in their order, each with the number of links that are on in it
pub record HasTiles (db : Database) (image : Configuration) (plan : Plan) : Type 0 where
  pub device : plan.device ≡ image.layout.device
  pub places : map place_of plan.tiles ≡ over_grid image.layout.device (λ x y. place_by x y (kind_of image.layout.device x y))
  pub links : All (λ tile. tile.links ≡ links_at db image tile.x tile.y) plan.tiles

-- ---- what can be counted in it

-- The marks of a plan, by their classes, are as many as icebox_stat tells, and so are the global networks.
pub record CountsAgree (all : Bool) (db : Database) (image : Configuration) (plan : Plan) : Type 0 where
  pub luts : count_of (codes "lfcd") plan ≡ (counts_of all db image).luts
  pub flops : count_of (codes "fd") plan ≡ (counts_of all db image).flops
  pub carries : count_of (codes "cd") plan ≡ (counts_of all db image).carries
  pub rams : count_of (codes "r") plan ≡ (counts_of all db image).rams
  pub upper_rams : count_of (codes "u") plan ≡ (counts_of all db image).rams
  pub pins : count_of (codes "ijopbq") plan ≡ (counts_of all db image).pins
  pub inputs : count_of (codes "ij") plan ≡ count_by (λ pin. not (drives pin)) (pins_of all db image)
  pub outputs : count_of (codes "op") plan ≡ count_by (λ pin. drives pin && not (is_switched pin)) (pins_of all db image)
  pub switched : count_of (codes "bq") plan ≡ count_by is_switched (pins_of all db image)
  pub registered : count_of (codes "jpq") plan ≡ count_by has_registers (pins_of all db image)
  pub numbers : map (λ global. global.g) plan.globals ≡ globals_among (globals_of all db image)
  pub globals : length plan.globals ≡ (counts_of all db image).globals

-- So are the links of all tiles, if the database is for the device of the image, and its lines name tiles of that device.
abbrev pub LinksAgree : Bool → Database → Configuration → Type 0
LinksAgree all db image =
    db.chip.device ≡ image.layout.device → IsFit db
    → sum_by (λ tile. tile.links) (floor_plan all db image).tiles ≡ (counts_of all db image).buffers + (counts_of all db image).routings
