-- Where things stand on the sheet, in units of the picture. All numbers are this project's choice.
use Rattle.std.specs.Prelude.{ℕ, ◌+◌, ◌-◌, ◌*◌, ◌/◌, ◌%◌, Bool, ◌==◌, if◌then◌else◌, min}
use Rattle.plane_map.specs.Layout.{grid_width, grid_height}
use Rattle.plane_map.specs.declared.device.DeviceName.{DeviceName}
use Rattle.plan_svg.specs.declared.sheet.Offset.{Offset}
use Rattle.plan_svg.specs.declared.sheet.Sheet.{Sheet}
use Rattle.plan_svg.specs.declared.sheet.Side.{Side}
use Rattle.plan_svg.specs.declared.sheet.Side.TheVariants as side

-- the margin around the grid, which has room for names if there are some
abbrev pub sheet_of : DeviceName → Bool → Sheet
sheet_of device named = record { margin = if named then 150 else 34; columns = grid_width device; rows = grid_height device }

-- a tile is 40 wide and 40 high, and the next one begins 42 after it: the left edge of a column of tiles
abbrev pub left : Sheet → ℕ → ℕ
left sheet x = sheet.margin + 42 * x

-- the top edge of a row of tiles; row 0 is at the bottom, and the title is 60 high
abbrev pub top : Sheet → ℕ → ℕ
top sheet y = 60 + sheet.margin + 42 * (sheet.rows - 1 - y)

-- the left edge of the legend, at the right of the grid
abbrev pub legend_left : Sheet → ℕ
legend_left sheet = 2 * sheet.margin + 42 * sheet.columns + 8

abbrev pub width : Sheet → ℕ
width sheet = legend_left sheet + 300

abbrev pub height : Sheet → ℕ
height sheet = 76 + 2 * sheet.margin + 42 * sheet.rows

abbrev pub at : ℕ → ℕ → Offset
at x y = record { x = x; y = y }

-- the corner of cell i in its tile: cell 0 is at the bottom left, cell 1 right of it, and so upwards
abbrev pub cell_offset : ℕ → Offset
cell_offset i = at (3 + 18 * (i % 2)) (30 - 9 * (i / 2))

-- ---- io tiles

-- the side of the grid at which an io tile is
abbrev pub side_of : Sheet → ℕ → ℕ → Side
side_of sheet x y =
    if x == 0 then side.Left
    else if x + 1 == sheet.columns then side.Right
    else if y + 1 == sheet.rows then side.Top
    else side.Bottom

-- by how many degrees a pin is turned, so that it points out of the grid
abbrev pub turn : Side → ℕ
turn side.Left = 270
turn side.Top = 0
turn side.Right = 90
turn side.Bottom = 180

-- the centre of pin n: pin 0 is the lower or the left one
abbrev pub pin_offset : Side → ℕ → Offset
pin_offset side.Left n = if n == 0 then at 11 30 else at 11 10
pin_offset side.Top n = if n == 0 then at 10 11 else at 30 11
pin_offset side.Right n = if n == 0 then at 29 30 else at 29 10
pin_offset side.Bottom n = if n == 0 then at 10 29 else at 30 29

-- the centre of the badge of a global network at pin n, nearer to the grid than the pin
abbrev pub pin_badge : Side → ℕ → Offset
pin_badge side.Left n = if n == 0 then at 31 33 else at 31 7
pin_badge side.Top n = if n == 0 then at 7 31 else at 33 31
pin_badge side.Right n = if n == 0 then at 9 33 else at 9 7
pin_badge side.Bottom n = if n == 0 then at 7 9 else at 33 9

-- that of a network which the fabric drives
abbrev pub fabric_badge : Side → Offset
fabric_badge side.Left = at 31 20
fabric_badge side.Top = at 20 31
fabric_badge side.Right = at 9 20
fabric_badge side.Bottom = at 20 9

-- ---- shades

-- the shade of a tile, by tens of links: 0 without links, 1 with fewer than 10, and so up to 6 with 50 or more
abbrev pub shade : ℕ → ℕ
shade links = if links == 0 then 0 else min 6 (1 + links / 10)

-- how many bits a word has in a mode
abbrev pub bits_of : ℕ → ℕ
bits_of mode = if mode == 0 then 16 else if mode == 1 then 8 else if mode == 2 then 4 else 2
