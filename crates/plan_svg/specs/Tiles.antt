-- The picture of a tile. Shapes are named by letters: see the shapes in `src/literals.rt`.
use Rattle.std.specs.Prelude.{ℕ, List, [], ◌∷◌, ◌++◌, flat_map, decimal, codes}
use Rattle.std.specs.List.{concat}
use Rattle.plane_map.specs.declared.tile.TileKind.{TileKind}
use Rattle.plane_map.specs.declared.tile.TileKind.TheVariants.{Io, Logic, RamB, RamT}
use Rattle.plan_marks.specs.declared.plan.CellPart.{CellPart}
use Rattle.plan_marks.specs.declared.plan.PinPart.{PinPart}
use Rattle.plan_marks.specs.declared.plan.Part.{Part}
use Rattle.plan_marks.specs.declared.plan.Part.TheVariants.{Cell, Lower, Upper, Pin}
use Rattle.plan_svg.specs.declared.sheet.Sheet.{Sheet}
use Rattle.plan_svg.specs.declared.sheet.Side.{Side}
use Rattle.plan_svg.specs.declared.sheet.Side.TheVariants as side
use Rattle.plan_svg.specs.Hover.{hover}
use Rattle.plan_svg.specs.Names.{Names}
use Rattle.plan_marks.specs.Plans.{TilePlan, cell_class, pin_class}
use Rattle.plan_svg.specs.Sheet.{left, top, side_of, shade, turn, cell_offset, pin_offset, bits_of}

-- ---- marks

-- a used cell: one element, which has its class
unfoldable pub cell_mark : CellPart → List ℕ
cell_mark cell = concat (
    codes "<use class=\"" ∷ (cell_class cell ∷ []) ∷ codes "\" xlink:href=\"#" ∷ (cell_class cell ∷ [])
    ∷ codes "\" x=\"" ∷ decimal (cell_offset cell.i).x ∷ codes "\" y=\"" ∷ decimal (cell_offset cell.i).y ∷ codes "\"/>" ∷ [])

-- the lower and the upper tile of a used RAM, with how many bits are written and read
unfoldable pub lower_mark : ℕ → List ℕ
lower_mark mode = concat (codes "<use class=\"r\" xlink:href=\"#write" ∷ decimal mode ∷ codes "\"/><text class=\"m\" x=\"20\" y=\"33\">W" ∷ decimal (bits_of mode) ∷ codes "</text>" ∷ [])

unfoldable pub upper_mark : ℕ → List ℕ
upper_mark mode = concat (codes "<use class=\"u\" xlink:href=\"#read" ∷ decimal mode ∷ codes "\"/><text class=\"m\" x=\"20\" y=\"14\">R" ∷ decimal (bits_of mode) ∷ codes "</text>" ∷ [])

-- a pin that is a port
unfoldable pub pin_mark : Side → PinPart → List ℕ
pin_mark side pin = concat (
    codes "<use class=\"" ∷ (pin_class pin ∷ []) ∷ codes "\" xlink:href=\"#" ∷ (pin_class pin ∷ [])
    ∷ codes "\" transform=\"translate(" ∷ decimal (pin_offset side pin.n).x ∷ codes " " ∷ decimal (pin_offset side pin.n).y
    ∷ codes ") rotate(" ∷ decimal (turn side) ∷ codes ")\"/>" ∷ [])

abbrev pub part_mark : Side → Part → List ℕ
part_mark side (Cell cell) = cell_mark cell
part_mark side (Lower ram) = lower_mark ram.write
part_mark side (Upper ram) = upper_mark ram.read
part_mark side (Pin pin) = pin_mark side pin

-- ---- tiles

-- the shape of an io tile by its side
abbrev pub io_shape : Side → List ℕ
io_shape side.Left = codes "I0"
io_shape side.Top = codes "I1"
io_shape side.Right = codes "I2"
io_shape side.Bottom = codes "I3"

-- the shape of a tile: what stands in it if it is unused
abbrev pub shape : Side → TileKind → List ℕ
shape side Io = io_shape side
shape side Logic = codes "L"
shape side RamB = codes "B"
shape side RamT = codes "T"

-- where the tile begins
unfoldable pub place_text : Sheet → TilePlan → List ℕ
place_text sheet tile = concat (codes "<g transform=\"translate(" ∷ decimal (left sheet tile.x) ∷ codes " " ∷ decimal (top sheet tile.y) ∷ codes ")\"><title>" ∷ [])

-- its shape with its shade, after what hovering shows
unfoldable pub ground : Side → TilePlan → List ℕ
ground side tile = concat (codes "</title><use class=\"s" ∷ decimal (shade tile.links) ∷ codes "\" xlink:href=\"#" ∷ shape side tile.kind ∷ codes "\"/>" ∷ [])

-- a tile: a group with its title, its shape and its marks
unfoldable pub tile_text : Sheet → Names → TilePlan → List ℕ
tile_text sheet names tile =
    let side = side_of sheet tile.x tile.y in
    place_text sheet tile ++ hover names tile ++ ground side tile ++ flat_map (λ mark. part_mark side mark.part) tile.marks ++ codes "</g>\n"
