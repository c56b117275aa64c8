-- PLLs that are on and global networks: their marks in the grid, and their rows in the legend.
use Rattle.std.specs.Prelude.{ℕ, ◌+◌, ◌-◌, ◌*◌, Bool, List, [], ◌∷◌, ◌++◌, decimal, codes, nat_lt, ◌&&◌, if◌then◌else◌}
use Rattle.std.specs.List.{concat}
use Rattle.plan_marks.specs.declared.plan.GlobalMark.{GlobalMark}
use Rattle.plan_marks.specs.declared.plan.GlobalSource.{GlobalSource}
use Rattle.plan_marks.specs.declared.plan.GlobalSource.TheVariants as source
use Rattle.plan_marks.specs.declared.plan.PllMark.{PllMark}
use Rattle.plan_svg.specs.declared.sheet.Offset.{Offset}
use Rattle.plan_svg.specs.declared.sheet.Sheet.{Sheet}
use Rattle.plan_svg.specs.declared.sheet.Side.{Side}
use Rattle.plan_svg.specs.Sheet.{left, top, side_of, pin_badge, fabric_badge}

-- ---- in the grid

-- a frame around the tile of a PLL, if the tile is in the grid
unfoldable pub pll_frame : Sheet → PllMark → List ℕ
pll_frame sheet pll = concat (codes "<use class=\"y\" xlink:href=\"#Y\" x=\"" ∷ decimal (left sheet pll.x) ∷ codes "\" y=\"" ∷ decimal (top sheet pll.y) ∷ codes "\"/>\n" ∷ [])

abbrev pub pll_mark : Sheet → PllMark → List ℕ
pll_mark sheet pll = if nat_lt pll.x sheet.columns && nat_lt pll.y sheet.rows then pll_frame sheet pll else []

-- the class of a global network is `g` if it is read, else `z`
abbrev pub global_class : Bool → ℕ
global_class is_read = if is_read then 103 else 122

-- a pad is round, also if a PLL comes in its place, and the fabric is square
abbrev pub global_shape : GlobalSource → ℕ
global_shape (source.Pin n) = 67
global_shape (source.Pll n x y is_b) = 67
global_shape source.Fabric = 70

abbrev pub badge : Side → GlobalSource → Offset
badge side (source.Pin n) = pin_badge side n
badge side (source.Pll n x y is_b) = pin_badge side n
badge side source.Fabric = fabric_badge side

-- a badge at (x, y) with the number of the network, whose foot is given
unfoldable pub badge_text : ℕ → ℕ → ℕ → GlobalMark → List ℕ
badge_text x y foot global = concat (
    codes "<use class=\"" ∷ (global_class global.is_read ∷ []) ∷ codes "\" xlink:href=\"#" ∷ (global_shape global.source ∷ [])
    ∷ codes "\" x=\"" ∷ decimal x ∷ codes "\" y=\"" ∷ decimal y ∷ codes "\"/><text class=\"gt\" x=\"" ∷ decimal x ∷ codes "\" y=\"" ∷ decimal foot
    ∷ codes "\">" ∷ decimal global.g ∷ codes "</text>\n" ∷ [])

-- at the tile that drives the network
abbrev pub global_mark : Sheet → GlobalMark → List ℕ
global_mark sheet global =
    let offset = badge (side_of sheet global.x global.y) global.source in
    let y = top sheet global.y + offset.y in
    badge_text (left sheet global.x + offset.x) y (y + 3) global

-- ---- in the legend

abbrev pub output_words : Bool → List ℕ
output_words is_b = if is_b then codes " output b" else codes " output a"

-- what drives a network: `pin X Y N`, `PLL X Y output a`, or `fabric X Y`
unfoldable pub source_words : ℕ → ℕ → GlobalSource → List ℕ
source_words x y (source.Pin n) = concat (codes "pin " ∷ decimal x ∷ codes " " ∷ decimal y ∷ codes " " ∷ decimal n ∷ [])
source_words x y (source.Pll n pll_x pll_y is_b) = concat (codes "PLL " ∷ decimal pll_x ∷ codes " " ∷ decimal pll_y ∷ output_words is_b ∷ [])
source_words x y source.Fabric = concat (codes "fabric " ∷ decimal x ∷ codes " " ∷ decimal y ∷ [])

-- the badge of a row, and where its words begin
unfoldable pub global_badge : ℕ → GlobalMark → List ℕ
global_badge y global = concat (
    codes "<use class=\"k" ∷ (global_class global.is_read ∷ []) ∷ codes "\" xlink:href=\"#" ∷ (global_shape global.source ∷ [])
    ∷ codes "\" x=\"16\" y=\"" ∷ decimal (y - 5) ∷ codes "\"/><text class=\"gt\" x=\"16\" y=\"" ∷ decimal (y - 2) ∷ codes "\">" ∷ decimal global.g
    ∷ codes "</text><text class=\"k\" x=\"48\" y=\"" ∷ decimal y ∷ codes "\">" ∷ [])

-- the end of a row, which says if a network isn't read
unfoldable pub read_words : ℕ → Bool → List ℕ
read_words y is_read = if is_read then codes "</text>\n" else concat (codes "</text><text class=\"v\" x=\"284\" y=\"" ∷ decimal y ∷ codes "\">not read</text>\n" ∷ [])

-- the row of a global network: rows are 20 apart
unfoldable pub global_row : GlobalMark → List ℕ
global_row global =
    let y = 654 + 20 * global.g in
    global_badge y global ++ source_words global.x global.y global.source ++ read_words y global.is_read

abbrev pub outputs_words : Bool → List ℕ
outputs_words has_b = if has_b then codes " outputs a b</text>\n" else codes " output a</text>\n"

-- the row of a PLL
unfoldable pub pll_row : ℕ → PllMark → List ℕ
pll_row y pll = concat (
    codes "<rect class=\"ky\" x=\"4\" y=\"" ∷ decimal (y - 12) ∷ codes "\" width=\"24\" height=\"13\"/><text class=\"k\" x=\"48\" y=\"" ∷ decimal y
    ∷ codes "\">PLL " ∷ decimal pll.x ∷ codes " " ∷ decimal pll.y ∷ outputs_words pll.has_b ∷ [])

-- the rows of PLLs, 20 apart, the first one at y
unfoldable pub pll_rows : ℕ → List PllMark → List ℕ
pll_rows y [] = []
pll_rows y (pll ∷ plls) = pll_row y pll ++ pll_rows (y + 20) plls
