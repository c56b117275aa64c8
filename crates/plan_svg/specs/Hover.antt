-- What hovering over a tile shows: its statement, a line for each mark and for each other pin that has a name, and how many links are on in it.
use Rattle.std.specs.Prelude.{ℕ, ◌-◌, ◌==◌, Bool, false, ◌&&◌, if◌then◌else◌, List, [], ◌∷◌, ◌++◌, flat_map, decimal, codes, Option, Some, None}
use Rattle.std.specs.List.{concat, list_any}
use Rattle.asc_text.specs.Statements.{tile_keyword}
use Rattle.plane_map.specs.declared.tile.TileKind.{TileKind}
use Rattle.plane_map.specs.declared.tile.TileKind.TheVariants.{Io, Logic, RamB, RamT}
use Rattle.plan_marks.specs.declared.plan.CellPart.{CellPart}
use Rattle.plan_marks.specs.declared.plan.RamPart.{RamPart}
use Rattle.plan_marks.specs.declared.plan.PinPart.{PinPart}
use Rattle.plan_marks.specs.declared.plan.Part.{Part}
use Rattle.plan_marks.specs.declared.plan.Part.TheVariants.{Cell, Lower, Upper, Pin}
use Rattle.plan_marks.specs.declared.plan.Mark.{Mark}
use Rattle.plan_svg.specs.Names.{Names, label, name_of}
use Rattle.plan_svg.specs.Pieces.{word_digits, word_if}
use Rattle.plan_marks.specs.Plans.{TilePlan}
use Rattle.plan_svg.specs.Sheet.{bits_of}

-- a cell: its LUT as a number, whose lowest bit is entry 0, and what it has beside; how a flip-flop works is told only where there is one
unfoldable pub cell_line : CellPart → List ℕ
cell_line cell = concat (
    codes "\nlc " ∷ decimal cell.i ∷ codes ": LUT 0x" ∷ word_digits cell.lut
    ∷ word_if cell.flip (codes " flip-flop") ∷ word_if cell.carry (codes " carry") ∷ word_if (cell.flip && cell.«set») (codes " set")
    ∷ word_if cell.is_async (codes " async") ∷ word_if (cell.flip && cell.neg) (codes " negclk") ∷ [])

-- a RAM, by its lower tile: how many bits a word has where it is written and where it is read
unfoldable pub ram_line : ℕ → ℕ → RamPart → List ℕ
ram_line x y ram = concat (
    codes "\nram " ∷ decimal x ∷ codes " " ∷ decimal y ∷ codes ": write " ∷ decimal (bits_of ram.write) ∷ codes " read " ∷ decimal (bits_of ram.read) ∷ [])

-- a pin: what it does
unfoldable pub pin_words : PinPart → List ℕ
pin_words pin = concat (
    codes "\npin " ∷ decimal pin.n ∷ codes ":"
    ∷ word_if pin.is_input (codes " input") ∷ word_if pin.is_output (codes " output") ∷ word_if pin.is_switched (codes " enable")
    ∷ word_if pin.has_register (codes " register") ∷ word_if pin.is_double (codes " double") ∷ word_if pin.is_inverted (codes " inverted")
    ∷ word_if pin.is_global (codes " global") ∷ [])

-- its name, if it has one
abbrev pub name_words : Option (List ℕ) → List ℕ
name_words None = []
name_words (Some name) = codes " name " ++ label 40 22 name

-- the line of what stands at (x, y)
abbrev pub part_line : Names → ℕ → ℕ → Part → List ℕ
part_line names x y (Cell cell) = cell_line cell
part_line names x y (Lower ram) = ram_line x y ram
part_line names x y (Upper ram) = ram_line x (y - 1) ram
part_line names x y (Pin pin) = pin_words pin ++ name_words (name_of names x y pin.n)

abbrev pub mark_line : Names → Mark → List ℕ
mark_line names mark = part_line names mark.x mark.y mark.part

-- ---- pins that are no ports

abbrev pub is_pin : ℕ → Part → Bool
is_pin n (Cell cell) = false
is_pin n (Lower ram) = false
is_pin n (Upper ram) = false
is_pin n (Pin pin) = pin.n == n

-- the line of a pin that has a name, unless it has a mark
abbrev pub other_line : ℕ → Bool → Option (List ℕ) → List ℕ
other_line n marked None = []
other_line n marked (Some name) = if marked then [] else concat (codes "\npin " ∷ decimal n ∷ codes ":" ∷ name_words (Some name) ∷ [])

abbrev pub other_pin : Names → TilePlan → ℕ → List ℕ
other_pin names tile n = other_line n (list_any (λ mark. is_pin n mark.part) tile.marks) (name_of names tile.x tile.y n)

abbrev pub other_pins : Names → TilePlan → TileKind → List ℕ
other_pins names tile Io = other_pin names tile 0 ++ other_pin names tile 1
other_pins names tile Logic = []
other_pins names tile RamB = []
other_pins names tile RamT = []

-- ---- the whole

-- the statement of a tile, as in a text
unfoldable pub statement : TilePlan → List ℕ
statement tile = concat (tile_keyword tile.kind ∷ codes " " ∷ decimal tile.x ∷ codes " " ∷ decimal tile.y ∷ [])

unfoldable pub links_line : ℕ → List ℕ
links_line links = codes "\nlinks " ++ decimal links

-- all lines, with LF between them
unfoldable pub hover : Names → TilePlan → List ℕ
hover names tile = statement tile ++ flat_map (mark_line names) tile.marks ++ other_pins names tile tile.kind ++ links_line tile.links
