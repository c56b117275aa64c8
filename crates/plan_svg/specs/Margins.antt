-- What stands around the grid: the numbers of its columns and rows, and the names of pins.
use Rattle.std.specs.Prelude.{ℕ, ◌+◌, ◌-◌, ◌*◌, List, [], ◌∷◌, ◌++◌, flat_map, decimal, codes, Option, Some, None}
use Rattle.std.specs.List.{concat}
use Rattle.index_search.specs.Places.{gathered_below}
use Rattle.plane_map.specs.declared.tile.TileKind.{TileKind}
use Rattle.plane_map.specs.declared.tile.TileKind.TheVariants.{Io, Logic, RamB, RamT}
use Rattle.plan_svg.specs.declared.sheet.Sheet.{Sheet}
use Rattle.plan_svg.specs.declared.sheet.Side.{Side}
use Rattle.plan_svg.specs.declared.sheet.Side.TheVariants as side
use Rattle.plan_svg.specs.Names.{Names, label, name_of}
use Rattle.plan_marks.specs.Plans.{Plan}
use Rattle.plan_svg.specs.Sheet.{left, top, side_of, pin_offset}

-- ---- numbers of columns and rows

unfoldable pub axis_number : ℕ → ℕ → ℕ → List ℕ
axis_number x y number = concat (codes "<text class=\"a\" x=\"" ∷ decimal x ∷ codes "\" y=\"" ∷ decimal y ∷ codes "\">" ∷ decimal number ∷ codes "</text>\n" ∷ [])

-- above and below each column
unfoldable pub column_numbers : Sheet → List ℕ
column_numbers sheet = gathered_below sheet.columns (λ x.
    axis_number (left sheet x + 20) (52 + sheet.margin) x ++ axis_number (left sheet x + 20) (72 + sheet.margin + 42 * sheet.rows) x)

-- left and right of each row
unfoldable pub row_numbers : Sheet → List ℕ
row_numbers sheet = gathered_below sheet.rows (λ y.
    axis_number (sheet.margin - 12) (top sheet y + 24) y ++ axis_number (sheet.margin + 42 * sheet.columns + 10) (top sheet y + 24) y)

-- ---- names

-- the beginning of a text; the class says whether it begins or ends there: `n` or `e`
unfoldable pub beside : ℕ → ℕ → ℕ → List ℕ
beside class x y = concat (codes "<text class=\"" ∷ (class ∷ []) ∷ codes "\" x=\"" ∷ decimal x ∷ codes "\" y=\"" ∷ decimal y ∷ codes "\">" ∷ [])

-- of one that runs upwards
unfoldable pub upwards : ℕ → ℕ → ℕ → List ℕ
upwards class x y =
    concat (codes "<text class=\"" ∷ (class ∷ []) ∷ codes "\" transform=\"translate(" ∷ decimal x ∷ codes " " ∷ decimal y ∷ codes ") rotate(270)\">" ∷ [])

-- a name stands beside its tile, outside of the grid; at the top and at the bottom it runs upwards
abbrev pub name_place : Sheet → Side → ℕ → ℕ → ℕ → List ℕ
name_place sheet side.Left x y n = beside 101 (left sheet x - 24) (top sheet y + (pin_offset side.Left n).y + 4)
name_place sheet side.Right x y n = beside 110 (left sheet x + 64) (top sheet y + (pin_offset side.Right n).y + 4)
name_place sheet side.Top x y n = upwards 110 (left sheet x + (pin_offset side.Top n).x + 4) (top sheet y - 24)
name_place sheet side.Bottom x y n = upwards 101 (left sheet x + (pin_offset side.Bottom n).x + 4) (top sheet y + 64)

abbrev pub name_text : Sheet → ℕ → ℕ → ℕ → Option (List ℕ) → List ℕ
name_text sheet x y n None = []
name_text sheet x y n (Some name) = name_place sheet (side_of sheet x y) x y n ++ label 9 7 name ++ codes "</text>\n"

-- the names of the two pins of an io tile
abbrev pub tile_names : Sheet → Names → ℕ → ℕ → TileKind → List ℕ
tile_names sheet names x y Io = name_text sheet x y 0 (name_of names x y 0) ++ name_text sheet x y 1 (name_of names x y 1)
tile_names sheet names x y Logic = []
tile_names sheet names x y RamB = []
tile_names sheet names x y RamT = []

-- the names of all pins that have one, ports or not
unfoldable pub pin_names : Sheet → Names → Plan → List ℕ
pin_names sheet names plan = flat_map (λ tile. tile_names sheet names tile.x tile.y tile.kind) plan.tiles
