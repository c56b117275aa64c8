-- The picture of a floor plan as SVG 1.1 (Scalable Vector Graphics 1.1), in which row 0 of the grid is at the bottom.
use Rattle.std.specs.Prelude.{ℕ, List, [], ◌∷◌, ◌++◌, flat_map, decimal, codes, is_some}
use Rattle.std.specs.List.{concat}
use Rattle.plane_map.specs.declared.device.DeviceName.{DeviceName}
use Rattle.plane_map.specs.declared.device.DeviceName.TheVariants.{Lp384, Hx1k, Hx8k}
use Rattle.plan_svg.specs.declared.literals.TheConstants.{BEGINNING, STYLE, SHAPES}
use Rattle.plan_svg.specs.declared.sheet.Sheet.{Sheet}
use Rattle.plan_svg.specs.Legend.{legend}
use Rattle.plan_svg.specs.Margins.{column_numbers, row_numbers, pin_names}
use Rattle.plan_svg.specs.Names.{Names}
use Rattle.plan_marks.specs.Plans.{Plan, all_cells, all_rams, all_pins, used_cells, used_rams, used_pins}
use Rattle.plan_svg.specs.Sheet.{sheet_of, width, height}
use Rattle.plan_svg.specs.Sources.{pll_mark, global_mark}
use Rattle.plan_svg.specs.Tiles.{tile_text}

-- ---- the title

abbrev pub device_text : DeviceName → List ℕ
device_text Lp384 = codes "LP384"
device_text Hx1k = codes "HX1K"
device_text Hx8k = codes "HX8K"

-- the device, and how many of its cells, RAMs and pins are used
unfoldable pub title : Plan → List ℕ
title plan = concat (
    device_text plan.device ∷ codes ": " ∷ decimal (used_cells plan) ∷ codes " of " ∷ decimal (all_cells plan) ∷ codes " logic cells, "
    ∷ decimal (used_rams plan) ∷ codes " of " ∷ decimal (all_rams plan) ∷ codes " block RAMs, "
    ∷ decimal (used_pins plan) ∷ codes " of " ∷ decimal (all_pins plan) ∷ codes " pins" ∷ [])

-- ---- the whole

-- the sizes of the picture
unfoldable pub sizes : Sheet → List ℕ
sizes sheet = concat (
    BEGINNING.now ∷ decimal (width sheet) ∷ codes "\" height=\"" ∷ decimal (height sheet)
    ∷ codes "\" viewBox=\"0 0 " ∷ decimal (width sheet) ∷ codes " " ∷ decimal (height sheet) ∷ codes "\">\n" ∷ [])

-- a white ground
unfoldable pub paper : Sheet → List ℕ
paper sheet = concat (codes "<rect class=\"wh\" width=\"" ∷ decimal (width sheet) ∷ codes "\" height=\"" ∷ decimal (height sheet) ∷ codes "\"/>\n" ∷ [])

-- the title of the document, and the title to be seen
unfoldable pub document_title : Plan → List ℕ
document_title plan = codes "<title>" ++ title plan ++ codes "</title>\n"

unfoldable pub seen_title : Plan → List ℕ
seen_title plan = codes "<text class=\"h\" x=\"20\" y=\"40\">" ++ title plan ++ codes "</text>\n"

-- what comes before the legend
unfoldable pub beginning : Sheet → Plan → List ℕ
beginning sheet plan = sizes sheet ++ document_title plan ++ STYLE.now ++ SHAPES.now ++ paper sheet ++ seen_title plan

-- the legend, the tiles, and what stands around them and on them
unfoldable pub inside : Sheet → Names → Plan → List ℕ
inside sheet names plan =
    legend sheet plan
    ++ flat_map (tile_text sheet names) plan.tiles
    ++ column_numbers sheet
    ++ row_numbers sheet
    ++ pin_names sheet names plan
    ++ flat_map (pll_mark sheet) plan.plls
    ++ flat_map (global_mark sheet) plan.globals

-- the picture on a sheet
unfoldable pub drawn : Sheet → Names → Plan → List ℕ
drawn sheet names plan = beginning sheet plan ++ inside sheet names plan ++ codes "</svg>\n"

-- the picture of a plan, with the names of a pin file if there is one
unfoldable pub plan_svg : Names → Plan → List ℕ
plan_svg names plan = drawn (sheet_of plan.device (is_some names)) names plan
