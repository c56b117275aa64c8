-- Laws of pictures: a picture is a well-formed document, in which the classes of marks are those of the plan, each mark has its element in the group of
-- its tile, and places on the sheet tell the places on the chip.
use Rattle.std.specs.Prelude.{◌≡◌, ℕ, ◌+◌, ◌<◌, ◌≤◌, Bool, ◌&&◌, ◌==◌, IsTrue, List, [], ◌∷◌, ◌++◌, drop, length, flat_map, bytes_eq, count_by, codes, nat_lt, if◌then◌else◌, is_some, Some}
use Rattle.std.specs.List.{list_any}
use Rattle.plan_marks.specs.declared.plan.GlobalMark.{GlobalMark}
use Rattle.plan_marks.specs.declared.plan.Mark.{Mark}
use Rattle.plan_marks.specs.declared.plan.PllMark.{PllMark}
use Rattle.plan_svg.specs.declared.sheet.Offset.{Offset}
use Rattle.plan_svg.specs.declared.sheet.Sheet.{Sheet}
use Rattle.plan_svg.specs.declared.sheet.Side.{Side}
use Rattle.plan_svg.specs.declared.sheet.Side.TheVariants as side
use Rattle.plan_marks.specs.Plans.{Plan, TilePlan, count_of, has_class}
use Rattle.plan_svg.specs.Names.{Names}
use Rattle.plan_svg.specs.Reader.{before, classes_read, content, declaration, read, reading}
use Rattle.plan_svg.specs.Sheet.{left, top, sheet_of, side_of, cell_offset, pin_offset}
use Rattle.plan_svg.specs.Sources.{global_mark, pll_frame}
use Rattle.plan_svg.specs.Svg.{plan_svg}
use Rattle.plan_svg.specs.Tiles.{part_mark, place_text}

-- ---- classes

-- the classes of marks: cells, RAMs, pins, PLLs, and global networks
abbrev pub is_mark : ℕ → Bool
is_mark letter = list_any (λ mark. mark == letter) (codes "lfcdruijopbqygz")

-- a PLL with a frame: its tile is in the grid
abbrev pub is_framed : Sheet → PllMark → Bool
is_framed sheet pll = nat_lt pll.x sheet.columns && nat_lt pll.y sheet.rows

-- how many elements have the class of a mark: the marks of the plan, `y` for each framed PLL, and `g` and `z` for networks that are read and that aren't
abbrev pub drawn_with : Sheet → Plan → ℕ → ℕ
drawn_with sheet plan letter =
    count_of (letter ∷ []) plan
    + count_by (λ pll. (letter == 121) && is_framed sheet pll) plan.plls
    + count_by (λ (global : GlobalMark). letter == (if global.is_read then 103 else 122)) plan.globals

-- the names in the value of an attribute `class`, which spaces separate; `word` is what is read so far of the next one
abbrev pub names_onto : List ℕ → List ℕ → List (List ℕ)
names_onto word [] = word ∷ []
names_onto word (byte ∷ bytes) = if byte == 32 then word ∷ names_onto [] bytes else names_onto (byte ∷ word) bytes

-- whether a value has this letter as a name
abbrev pub has_name : ℕ → List ℕ → Bool
has_name letter value = list_any (bytes_eq (letter ∷ [])) (names_onto [] value)

-- The bytes are a document, and each mark of the plan is one element with its class. No other element has such a class.
pub record Draws (sheet : Sheet) (plan : Plan) (bytes : List ℕ) : Type 0 where
  pub classes : List (List ℕ)
  pub document : classes_read bytes ≡ Some classes
  pub marks : (letter : ℕ) → IsTrue (is_mark letter) → count_by (has_name letter) classes ≡ drawn_with sheet plan letter

-- the picture of a plan is such a document
abbrev pub DrawsPlan : Names → Plan → Type 0
DrawsPlan names plan = Draws (sheet_of plan.device (is_some names)) plan (plan_svg names plan)

-- ---- elements in their groups

-- After these bytes of a picture a reader is in the picture itself, and in no group. They have these classes.
abbrev pub IsInPicture : List ℕ → List (List ℕ) → Type 0
IsInPicture bytes classes = read (reading before [] []) (drop (length declaration) bytes) ≡ reading content (codes "gvs" ∷ []) classes

-- These bytes end the title of an element, and have whole elements besides: after them a reader is in that element still, whatever it is called. They
-- have these classes.
abbrev pub EndsTitle : List ℕ → List (List ℕ) → Type 0
EndsTitle bytes found =
    (element : List ℕ) (elements classes : List (List ℕ))
    → read (reading content (codes "eltit" ∷ element ∷ elements) classes) bytes ≡ reading content (element ∷ elements) (found ++ classes)

-- An element is in the picture itself.
pub record StandsAlone (element bytes : List ℕ) : Type 0 where
  pub first : List ℕ
  pub last : List ℕ
  pub classes : List (List ℕ)
  pub text : bytes ≡ first ++ element ++ last
  pub in_picture : IsInPicture first classes

-- The element of a mark, with its place in the tile, is in the group whose title and content begin these bytes. For each class, as many elements of marks
-- come before it in the group as there are earlier marks of that class in the tile.
pub record StandsInGroup (side : Side) (earlier : List Mark) (mark : Mark) (bytes : List ℕ) : Type 0 where
  pub first : List ℕ
  pub last : List ℕ
  pub classes : List (List ℕ)
  pub text : bytes ≡ first ++ part_mark side mark.part ++ last
  pub in_group : EndsTitle first classes
  pub order : (letter : ℕ) → IsTrue (is_mark letter) → count_by (has_name letter) classes ≡ count_by (has_class (letter ∷ [])) earlier

-- A tile has one group, with the place of the tile, which is in the picture itself. The elements of its marks are in this group. For each class, as many
-- elements of marks come before the group as there are marks of that class in earlier tiles.
pub record HasGroup (sheet : Sheet) (earlier : List TilePlan) (tile : TilePlan) (bytes : List ℕ) : Type 0 where
  pub first : List ℕ
  pub rest : List ℕ
  pub classes : List (List ℕ)
  pub text : bytes ≡ first ++ place_text sheet tile ++ rest
  pub in_picture : IsInPicture first classes
  pub order : (letter : ℕ) → IsTrue (is_mark letter) → count_by (has_name letter) classes ≡ count_by (has_class (letter ∷ [])) (flat_map (λ tile. tile.marks) earlier)
  pub marks : (marks : List Mark) (mark : Mark) (more : List Mark) → tile.marks ≡ marks ++ mark ∷ more → StandsInGroup (side_of sheet tile.x tile.y) marks mark rest

-- Each tile of the plan has its group, in the order of the tiles, in which its marks are. Each framed PLL has its frame, and each global network its badge.
pub record Places (sheet : Sheet) (plan : Plan) (bytes : List ℕ) : Type 0 where
  pub tiles : (tiles : List TilePlan) (tile : TilePlan) (more : List TilePlan) → plan.tiles ≡ tiles ++ tile ∷ more → HasGroup sheet tiles tile bytes
  pub frames : (plls : List PllMark) (pll : PllMark) (more : List PllMark) → plan.plls ≡ plls ++ pll ∷ more → IsTrue (is_framed sheet pll)
      → StandsAlone (pll_frame sheet pll) bytes
  pub badges : (globals : List GlobalMark) (global : GlobalMark) (more : List GlobalMark) → plan.globals ≡ globals ++ global ∷ more
      → StandsAlone (global_mark sheet global) bytes

-- so it is in the picture of a plan
abbrev pub PlacesMarks : Names → Plan → Type 0
PlacesMarks names plan = Places (sheet_of plan.device (is_some names)) plan (plan_svg names plan)

-- ---- places

-- Tiles of a sheet lie apart, columns from left to right and rows from the bottom to the top.
pub record LiesAsOnChip (sheet : Sheet) : Type 0 where
  pub columns : (x : ℕ) → left sheet x + 40 < left sheet (x + 1)
  pub rows : (y : ℕ) → y + 1 < sheet.rows → top sheet (y + 1) + 40 < top sheet y

-- In a tile, cells of 16 by 7 lie apart, the one of an even number left of the next one, and below the one after that.
pub record CellsLie : Type 0 where
  pub beside : (i : ℕ) → i < 4 → (cell_offset (i + i)).x + 16 < (cell_offset (i + i + 1)).x × ((cell_offset (i + i)).y ≡ (cell_offset (i + i + 1)).y)
  pub upwards : (i : ℕ) → i < 6 → (cell_offset (i + 2)).y + 7 < (cell_offset i).y × ((cell_offset i).x ≡ (cell_offset (i + 2)).x)
  pub inside : (i : ℕ) → i < 8 → ((cell_offset i).x + 16 ≤ 40) × ((cell_offset i).y + 7 ≤ 40)

-- whether a place in a tile of 40 by 40 is in the half at a side
abbrev pub IsAt : Side → Offset → Type 0
IsAt side.Left at = at.x < 20
IsAt side.Right at = 20 < at.x
IsAt side.Top at = at.y < 20
IsAt side.Bottom at = 20 < at.y

-- Pins lie inside of their tile, in the half at its outer side. Pin 0 lies below pin 1 at the left and at the right, and left of it at the top and at the
-- bottom.
pub record PinsLie : Type 0 where
  pub inside : (to : Side) (n : ℕ) → ((pin_offset to n).x < 40) × ((pin_offset to n).y < 40)
  pub outward : (to : Side) (n : ℕ) → IsAt to (pin_offset to n)
  pub at_left : (pin_offset side.Left 1).y < (pin_offset side.Left 0).y
  pub at_right : (pin_offset side.Right 1).y < (pin_offset side.Right 0).y
  pub at_top : (pin_offset side.Top 0).x < (pin_offset side.Top 1).x
  pub at_bottom : (pin_offset side.Bottom 0).x < (pin_offset side.Bottom 1).x
