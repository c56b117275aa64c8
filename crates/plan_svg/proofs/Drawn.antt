-- How a reader goes through the parts of a picture.
use Rattle.std.proofs.Common.{◌≡◌, ℕ, ◌+◌, ◌-◌, ◌*◌, Bool, true, false, ◌&&◌, List, [], ◌∷◌, ◌++◌, append_assoc, refl, sym, ap, ◌∙◌}
use Rattle.std.specs.Prelude.{codes, decimal, flat_map, if◌then◌else◌, Option, None, Some}
use Rattle.std.specs.List.{concat}
use Rattle.asc_text.specs.Statements.{tile_keyword}
use Rattle.plane_map.specs.declared.tile.TileKind.{TileKind}
use Rattle.plane_map.specs.declared.tile.TileKind.TheVariants.{Io, Logic, RamB, RamT}
use Rattle.plan_marks.specs.declared.plan.CellPart.{CellPart}
use Rattle.plan_marks.specs.declared.plan.RamPart.{RamPart}
use Rattle.plan_marks.specs.declared.plan.PinPart.{PinPart}
use Rattle.plan_marks.specs.declared.plan.Part.{Part}
use Rattle.plan_marks.specs.declared.plan.Part.TheVariants.{Cell, Lower, Upper, Pin}
use Rattle.plan_marks.specs.declared.plan.Mark.{Mark}
use Rattle.plan_marks.specs.declared.plan.GlobalMark.{GlobalMark}
use Rattle.plan_marks.specs.declared.plan.GlobalSource.{GlobalSource}
use Rattle.plan_marks.specs.declared.plan.GlobalSource.TheVariants as source
use Rattle.plan_marks.specs.declared.plan.PllMark.{PllMark}
use Rattle.plan_svg.specs.declared.sheet.Sheet.{Sheet}
use Rattle.plan_svg.specs.declared.sheet.Side.{Side}
use Rattle.plan_svg.specs.declared.sheet.Side.TheVariants as side
use Rattle.plan_svg.specs.Hover.{cell_line, hover, links_line, mark_line, name_words, other_line, other_pin, other_pins, part_line, pin_words, ram_line, statement}
use Rattle.plan_svg.specs.Laws.{is_framed}
use Rattle.plan_svg.specs.Margins.{axis_number, beside, column_numbers, name_place, name_text, pin_names, row_numbers, tile_names, upwards}
use Rattle.plan_svg.specs.Names.{Names, label, name_of}
use Rattle.plan_svg.specs.Pieces.{word_digits, word_if}
use Rattle.plan_marks.specs.Plans.{Plan, TilePlan, cell_class, pin_class}
use Rattle.plan_svg.specs.Reader.{content, read, reading}
use Rattle.plan_svg.specs.Sheet.{bits_of, cell_offset, left, pin_offset, shade, side_of, top, turn}
use Rattle.plan_svg.specs.Sources.{badge, badge_text, global_mark, global_shape, pll_frame, pll_mark}
use Rattle.plan_svg.specs.Tiles.{cell_mark, ground, lower_mark, part_mark, pin_mark, place_text, shape, tile_text, upper_mark}
use Rattle.plan_marks.proofs.Classes.{cell-classes, pin-classes}
use Rattle.plan_svg.proofs.Said.{label-says}
use Rattle.plan_svg.proofs.Reading.{Bit, IsCalm, Reads, calm-append, calm-none, calm-number, calm-says, calm-word, evaluated, evaluates, onto, read-then, reads-append, reads-below, reads-each, reads-none, words_below, words_of, lit, num}

-- ---- marks

cell_bits : ℕ → ℕ → ℕ → List Bit
cell_bits class x y =
    lit (codes "<use class=\"") ∷ lit (class ∷ []) ∷ lit (codes "\" xlink:href=\"#") ∷ lit (class ∷ []) ∷ lit (codes "\" x=\"") ∷ num x ∷ lit (codes "\" y=\"") ∷ num y
    ∷ lit (codes "\"/>") ∷ []

cell-reads : (cell : CellPart) → Reads (cell_mark cell) ((cell_class cell ∷ []) ∷ [])
unfolding cell_bits cell_mark read
cell-reads cell element elements classes =
    let now = reading content (element ∷ elements) classes in
    let x = (cell_offset cell.i).x in
    let y = (cell_offset cell.i).y in
    evaluates now (cell_bits (cell_class cell) x y)
    ∙ cell-classes (λ class. evaluated now (cell_bits class x y) ≡ reading content (element ∷ elements) ((class ∷ []) ∷ classes)) refl refl refl refl cell

lower-reads : (mode : ℕ) → Reads (lower_mark mode) (codes "m" ∷ codes "r" ∷ [])
unfolding lower_mark read
lower-reads mode element elements classes = evaluates (reading content (element ∷ elements) classes)
    (lit (codes "<use class=\"r\" xlink:href=\"#write") ∷ num mode ∷ lit (codes "\"/><text class=\"m\" x=\"20\" y=\"33\">W") ∷ num (bits_of mode) ∷ lit (codes "</text>") ∷ [])

upper-reads : (mode : ℕ) → Reads (upper_mark mode) (codes "m" ∷ codes "u" ∷ [])
unfolding upper_mark read
upper-reads mode element elements classes = evaluates (reading content (element ∷ elements) classes)
    (lit (codes "<use class=\"u\" xlink:href=\"#read") ∷ num mode ∷ lit (codes "\"/><text class=\"m\" x=\"20\" y=\"14\">R") ∷ num (bits_of mode) ∷ lit (codes "</text>") ∷ [])

pin_bits : ℕ → ℕ → ℕ → ℕ → List Bit
pin_bits class x y degrees =
    lit (codes "<use class=\"") ∷ lit (class ∷ []) ∷ lit (codes "\" xlink:href=\"#") ∷ lit (class ∷ []) ∷ lit (codes "\" transform=\"translate(") ∷ num x ∷ lit (codes " ") ∷ num y
    ∷ lit (codes ") rotate(") ∷ num degrees ∷ lit (codes ")\"/>") ∷ []

pin-reads : (at : Side) (pin : PinPart) → Reads (pin_mark at pin) ((pin_class pin ∷ []) ∷ [])
unfolding pin_bits pin_mark read
pin-reads at pin element elements classes =
    let now = reading content (element ∷ elements) classes in
    let x = (pin_offset at pin.n).x in
    let y = (pin_offset at pin.n).y in
    evaluates now (pin_bits (pin_class pin) x y (turn at))
    ∙ pin-classes (λ class. evaluated now (pin_bits class x y (turn at)) ≡ reading content (element ∷ elements) ((class ∷ []) ∷ classes)) refl refl refl refl refl refl pin

-- the classes of a part
abbrev pub part_words : Part → List (List ℕ)
part_words (Cell cell) = (cell_class cell ∷ []) ∷ []
part_words (Lower ram) = codes "m" ∷ codes "r" ∷ []
part_words (Upper ram) = codes "m" ∷ codes "u" ∷ []
part_words (Pin pin) = (pin_class pin ∷ []) ∷ []

pub part-reads : (at : Side) (part : Part) → Reads (part_mark at part) (part_words part)
part-reads at (Cell cell) = cell-reads cell
part-reads at (Lower ram) = lower-reads ram.write
part-reads at (Upper ram) = upper-reads ram.read
part-reads at (Pin pin) = pin-reads at pin

-- ---- hovering

-- all these texts are calm
abbrev pub AreCalm : List (List ℕ) → Type 0
AreCalm [] = Unit {0}
AreCalm (text ∷ texts) = IsCalm text × AreCalm texts

pub calm-concat : (texts : List (List ℕ)) → AreCalm texts → IsCalm (concat texts)
calm-concat [] all = calm-none
calm-concat (text ∷ texts) all = calm-append text (concat texts) all.0 (calm-concat texts all.1)

calm-each : {A : Type 0} (made : A → List ℕ) → ((item : A) → IsCalm (made item)) → (items : List A) → IsCalm (flat_map made items)
calm-each made each [] = calm-none
calm-each made each (item ∷ items) = calm-append (made item) (flat_map made items) (each item) (calm-each made each items)

calm-word_if : (passes : Bool) (word : List ℕ) → IsCalm word → IsCalm (word_if passes word)
calm-word_if true word calm = calm
calm-word_if false word calm = calm-none

calm-cell : (cell : CellPart) → IsCalm (cell_line cell)
unfolding cell_line read
calm-cell cell =
    calm-concat (codes "\nlc " ∷ decimal cell.i ∷ codes ": LUT 0x" ∷ word_digits cell.lut
    ∷ word_if cell.flip (codes " flip-flop") ∷ word_if cell.carry (codes " carry") ∷ word_if (cell.flip && cell.«set») (codes " set")
    ∷ word_if cell.is_async (codes " async") ∷ word_if (cell.flip && cell.neg) (codes " negclk") ∷ []) (λ elements classes. refl, (calm-number cell.i, (λ elements classes. refl, (calm-word cell.lut, (calm-word_if cell.flip (codes " flip-flop") (λ elements classes. refl), (calm-word_if cell.carry (codes " carry") (λ elements classes. refl), (calm-word_if (cell.flip && cell.«set») (codes " set") (λ elements classes. refl), (calm-word_if cell.is_async (codes " async") (λ elements classes. refl), (calm-word_if (cell.flip && cell.neg) (codes " negclk") (λ elements classes. refl), tt)))))))))

calm-ram : (x y : ℕ) (ram : RamPart) → IsCalm (ram_line x y ram)
unfolding ram_line read
calm-ram x y ram =
    calm-concat (codes "\nram " ∷ decimal x ∷ codes " " ∷ decimal y ∷ codes ": write " ∷ decimal (bits_of ram.write) ∷ codes " read " ∷ decimal (bits_of ram.read) ∷ []) (λ elements classes. refl, (calm-number x, (λ elements classes. refl, (calm-number y, (λ elements classes. refl, (calm-number (bits_of ram.write), (λ elements classes. refl, (calm-number (bits_of ram.read), tt))))))))

calm-pin : (pin : PinPart) → IsCalm (pin_words pin)
unfolding pin_words read
calm-pin pin =
    calm-concat (codes "\npin " ∷ decimal pin.n ∷ codes ":"
    ∷ word_if pin.is_input (codes " input") ∷ word_if pin.is_output (codes " output") ∷ word_if pin.is_switched (codes " enable")
    ∷ word_if pin.has_register (codes " register") ∷ word_if pin.is_double (codes " double") ∷ word_if pin.is_inverted (codes " inverted")
    ∷ word_if pin.is_global (codes " global") ∷ []) (λ elements classes. refl, (calm-number pin.n, (λ elements classes. refl, (calm-word_if pin.is_input (codes " input") (λ elements classes. refl), (calm-word_if pin.is_output (codes " output") (λ elements classes. refl), (calm-word_if pin.is_switched (codes " enable") (λ elements classes. refl), (calm-word_if pin.has_register (codes " register") (λ elements classes. refl), (calm-word_if pin.is_double (codes " double") (λ elements classes. refl), (calm-word_if pin.is_inverted (codes " inverted") (λ elements classes. refl), (calm-word_if pin.is_global (codes " global") (λ elements classes. refl), tt))))))))))

calm-label : (first last : ℕ) (name : List ℕ) → IsCalm (label first last name)
calm-label first last name = calm-says (label-says first last name)

calm-name : (name : Option (List ℕ)) → IsCalm (name_words name)
unfolding read
calm-name None = calm-none
calm-name (Some name) = calm-append (codes " name ") (label 40 22 name) (λ elements classes. refl) (calm-label 40 22 name)

calm-part : (names : Names) (x y : ℕ) (part : Part) → IsCalm (part_line names x y part)
calm-part names x y (Cell cell) = calm-cell cell
calm-part names x y (Lower ram) = calm-ram x y ram
calm-part names x y (Upper ram) = calm-ram x (y - 1) ram
calm-part names x y (Pin pin) = calm-append (pin_words pin) (name_words (name_of names x y pin.n)) (calm-pin pin) (calm-name (name_of names x y pin.n))

calm-other : (n : ℕ) (marked : Bool) (name : Option (List ℕ)) → IsCalm (other_line n marked name)
unfolding read
calm-other n marked None = calm-none
calm-other n true (Some name) = calm-none
calm-other n false (Some name) = calm-concat (codes "\npin " ∷ decimal n ∷ codes ":" ∷ name_words (Some name) ∷ []) (λ elements classes. refl, (calm-number n, (λ elements classes. refl, (calm-name (Some name), tt))))

calm-others : (names : Names) (tile : TilePlan) (kind : TileKind) → IsCalm (other_pins names tile kind)
calm-others names tile Io = calm-append (other_pin names tile 0) (other_pin names tile 1) (calm-other 0 _ _) (calm-other 1 _ _)
calm-others names tile Logic = calm-none
calm-others names tile RamB = calm-none
calm-others names tile RamT = calm-none

calm-keyword : (kind : TileKind) → IsCalm (tile_keyword kind)
unfolding read
calm-keyword Io elements classes = refl
calm-keyword Logic elements classes = refl
calm-keyword RamB elements classes = refl
calm-keyword RamT elements classes = refl

calm-statement : (tile : TilePlan) → IsCalm (statement tile)
unfolding statement read
calm-statement tile = calm-concat (tile_keyword tile.kind ∷ codes " " ∷ decimal tile.x ∷ codes " " ∷ decimal tile.y ∷ []) (calm-keyword tile.kind, (λ elements classes. refl, (calm-number tile.x, (λ elements classes. refl, (calm-number tile.y, tt)))))

calm-links : (links : ℕ) → IsCalm (links_line links)
unfolding links_line read
calm-links links = calm-append (codes "\nlinks ") (decimal links) (λ elements classes. refl) (calm-number links)

pub calm-hover : (names : Names) (tile : TilePlan) → IsCalm (hover names tile)
unfolding hover
calm-hover names tile =
    let lines = flat_map (mark_line names) tile.marks in
    let others = other_pins names tile tile.kind in
    calm-append (statement tile ++ lines ++ others) (links_line tile.links)
    (calm-append (statement tile ++ lines) others
    (calm-append (statement tile) lines (calm-statement tile) (calm-each (mark_line names) (λ mark. calm-part names mark.x mark.y mark.part) tile.marks))
    (calm-others names tile tile.kind)) (calm-links tile.links)

-- ---- tiles

-- the class of a shade: `s` and a number
abbrev pub shade_word : ℕ → List ℕ
shade_word links = onto (decimal (shade links)) (codes "s")

-- what holds of the shapes of tiles
shapes : (P : List ℕ → Type 0) → P (codes "I0") → P (codes "I1") → P (codes "I2") → P (codes "I3") → P (codes "L") → P (codes "B") → P (codes "T") → (at : Side) (kind : TileKind) → P (shape at kind)
shapes P i0 i1 i2 i3 l b t side.Left Io = i0
shapes P i0 i1 i2 i3 l b t side.Top Io = i1
shapes P i0 i1 i2 i3 l b t side.Right Io = i2
shapes P i0 i1 i2 i3 l b t side.Bottom Io = i3
shapes P i0 i1 i2 i3 l b t at Logic = l
shapes P i0 i1 i2 i3 l b t at RamB = b
shapes P i0 i1 i2 i3 l b t at RamT = t

ground_bits : ℕ → List ℕ → List Bit
ground_bits step form = lit (codes "</title><use class=\"s") ∷ num step ∷ lit (codes "\" xlink:href=\"#") ∷ lit form ∷ lit (codes "\"/>") ∷ []

-- the elements of a tile, each with its last letter first
abbrev pub group : List ℕ
group = codes "g"

abbrev pub heading : List ℕ
heading = codes "eltit"

-- a group ends
pub group-ends : (element : List ℕ) (elements classes : List (List ℕ)) → read (reading content (group ∷ element ∷ elements) classes) (codes "</g>\n") ≡ reading content (element ∷ elements) classes
unfolding read
group-ends element elements classes = refl

module _ (sheet : Sheet) (names : Names) (tile : TilePlan) where
  abbrev pub at : Side
  at = side_of sheet tile.x tile.y

  abbrev marks : List ℕ
  marks = flat_map (λ (mark : Mark). part_mark at mark.part) tile.marks

  -- the classes of a tile
  abbrev pub tile_words : List (List ℕ)
  tile_words = words_of (λ (mark : Mark). part_words mark.part) tile.marks ++ shade_word tile.links ∷ []

  module _ (element : List ℕ) (elements classes : List (List ℕ)) where
    in-place : read (reading content (element ∷ elements) classes) (place_text sheet tile) ≡ reading content (heading ∷ group ∷ element ∷ elements) classes
    unfolding place_text read
    in-place = evaluates (reading content (element ∷ elements) classes)
        (lit (codes "<g transform=\"translate(") ∷ num (left sheet tile.x) ∷ lit (codes " ") ∷ num (top sheet tile.y) ∷ lit (codes ")\"><title>") ∷ [])

    pub on-ground : read (reading content (heading ∷ element ∷ elements) classes) (ground at tile) ≡ reading content (element ∷ elements) (shade_word tile.links ∷ classes)
    unfolding ground ground_bits read
    on-ground =
        let now = reading content (heading ∷ element ∷ elements) classes in
        evaluates now (ground_bits (shade tile.links) (shape at tile.kind))
        ∙ shapes (λ form. evaluated now (ground_bits (shade tile.links) form) ≡ reading content (element ∷ elements) (shade_word tile.links ∷ classes)) refl refl refl refl refl refl refl at tile.kind

    with-marks : read (reading content (group ∷ element ∷ elements) (shade_word tile.links ∷ classes)) marks
        ≡ reading content (group ∷ element ∷ elements) (words_of (λ (mark : Mark). part_words mark.part) tile.marks ++ shade_word tile.links ∷ classes)
    with-marks =
        reads-each (λ (mark : Mark). part_mark at mark.part) (λ mark. part_words mark.part) (λ mark. part-reads at mark.part) tile.marks group (element ∷ elements) (shade_word tile.links ∷ classes)

  pub tile-reads : Reads (tile_text sheet names tile) tile_words
  unfolding tile_text
  tile-reads element elements classes =
      let now = reading content (element ∷ elements) classes in
      let shown = hover names tile in
      let inner = words_of (λ (mark : Mark). part_words mark.part) tile.marks in
      read-then now (place_text sheet tile ++ shown ++ ground at tile ++ marks) (codes "</g>\n")
      (read-then now (place_text sheet tile ++ shown ++ ground at tile) marks
      (read-then now (place_text sheet tile ++ shown) (ground at tile)
      (read-then now (place_text sheet tile) shown (in-place element elements classes) (calm-hover names tile (heading ∷ group ∷ element ∷ elements) classes))
      (on-ground group (element ∷ elements) classes)) (with-marks element elements classes))
      (group-ends element elements (inner ++ shade_word tile.links ∷ classes)
      ∙ ap (reading content (element ∷ elements)) (sym (append_assoc inner (shade_word tile.links ∷ []) classes)))

-- ---- margins

axis-reads : (x y number : ℕ) → Reads (axis_number x y number) (codes "a" ∷ [])
unfolding axis_number read
axis-reads x y number element elements classes = evaluates (reading content (element ∷ elements) classes)
    (lit (codes "<text class=\"a\" x=\"") ∷ num x ∷ lit (codes "\" y=\"") ∷ num y ∷ lit (codes "\">") ∷ num number ∷ lit (codes "</text>\n") ∷ [])

abbrev pub axis_words : ℕ → List (List ℕ)
axis_words n = words_below n (λ k. codes "a" ∷ codes "a" ∷ [])

pub columns-read : (sheet : Sheet) → Reads (column_numbers sheet) (axis_words sheet.columns)
unfolding column_numbers
columns-read sheet =
    reads-below sheet.columns (λ x. axis_number (left sheet x + 20) (52 + sheet.margin) x ++ axis_number (left sheet x + 20) (72 + sheet.margin + 42 * sheet.rows) x) (λ k. codes "a" ∷ codes "a" ∷ [])
    (λ x. reads-append (axis_number (left sheet x + 20) (52 + sheet.margin) x) (axis_number (left sheet x + 20) (72 + sheet.margin + 42 * sheet.rows) x) (codes "a" ∷ []) (codes "a" ∷ [])
    (axis-reads (left sheet x + 20) (52 + sheet.margin) x) (axis-reads (left sheet x + 20) (72 + sheet.margin + 42 * sheet.rows) x))

pub rows-read : (sheet : Sheet) → Reads (row_numbers sheet) (axis_words sheet.rows)
unfolding row_numbers
rows-read sheet =
    reads-below sheet.rows (λ y. axis_number (sheet.margin - 12) (top sheet y + 24) y ++ axis_number (sheet.margin + 42 * sheet.columns + 10) (top sheet y + 24) y) (λ k. codes "a" ∷ codes "a" ∷ [])
    (λ y. reads-append (axis_number (sheet.margin - 12) (top sheet y + 24) y) (axis_number (sheet.margin + 42 * sheet.columns + 10) (top sheet y + 24) y) (codes "a" ∷ []) (codes "a" ∷ [])
    (axis-reads (sheet.margin - 12) (top sheet y + 24) y) (axis-reads (sheet.margin + 42 * sheet.columns + 10) (top sheet y + 24) y))

-- the class of a name, which says whether it begins or ends at its place
abbrev pub side_letter : Side → ℕ
side_letter side.Left = 101
side_letter side.Right = 110
side_letter side.Top = 110
side_letter side.Bottom = 101

abbrev pub words : List ℕ
words = codes "txet"

beside_bits : ℕ → ℕ → ℕ → List Bit
beside_bits class x y = lit (codes "<text class=\"") ∷ lit (class ∷ []) ∷ lit (codes "\" x=\"") ∷ num x ∷ lit (codes "\" y=\"") ∷ num y ∷ lit (codes "\">") ∷ []

upwards_bits : ℕ → ℕ → ℕ → List Bit
upwards_bits class x y = lit (codes "<text class=\"") ∷ lit (class ∷ []) ∷ lit (codes "\" transform=\"translate(") ∷ num x ∷ lit (codes " ") ∷ num y ∷ lit (codes ") rotate(270)\">") ∷ []

at-place : (sheet : Sheet) (to : Side) (x y n : ℕ) (element : List ℕ) (elements classes : List (List ℕ))
    → read (reading content (element ∷ elements) classes) (name_place sheet to x y n) ≡ reading content (words ∷ element ∷ elements) ((side_letter to ∷ []) ∷ classes)
unfolding beside upwards beside_bits upwards_bits read
at-place sheet side.Left x y n element elements classes =
    evaluates (reading content (element ∷ elements) classes) (beside_bits 101 (left sheet x - 24) (top sheet y + (pin_offset side.Left n).y + 4))
at-place sheet side.Right x y n element elements classes =
    evaluates (reading content (element ∷ elements) classes) (beside_bits 110 (left sheet x + 64) (top sheet y + (pin_offset side.Right n).y + 4))
at-place sheet side.Top x y n element elements classes =
    evaluates (reading content (element ∷ elements) classes) (upwards_bits 110 (left sheet x + (pin_offset side.Top n).x + 4) (top sheet y - 24))
at-place sheet side.Bottom x y n element elements classes =
    evaluates (reading content (element ∷ elements) classes) (upwards_bits 101 (left sheet x + (pin_offset side.Bottom n).x + 4) (top sheet y + 64))

-- the classes of a name
abbrev pub name_classes : Side → Option (List ℕ) → List (List ℕ)
name_classes to None = []
name_classes to (Some name) = (side_letter to ∷ []) ∷ []

-- a text ends
words-end : (element : List ℕ) (elements classes : List (List ℕ)) → read (reading content (words ∷ element ∷ elements) classes) (codes "</text>\n") ≡ reading content (element ∷ elements) classes
unfolding read
words-end element elements classes = refl

name-reads : (sheet : Sheet) (x y n : ℕ) (name : Option (List ℕ)) → Reads (name_text sheet x y n name) (name_classes (side_of sheet x y) name)
name-reads sheet x y n None element elements classes = reads-none element elements classes
name-reads sheet x y n (Some name) element elements classes =
    let to = side_of sheet x y in
    let now = reading content (element ∷ elements) classes in
    let found = (side_letter to ∷ []) ∷ classes in
    read-then now (name_place sheet to x y n ++ label 9 7 name) (codes "</text>\n")
    (read-then now (name_place sheet to x y n) (label 9 7 name) (at-place sheet to x y n element elements classes) (calm-label 9 7 name (words ∷ element ∷ elements) found))
    (words-end element elements found)

-- the classes of the names of a tile
abbrev pub tile_name_words : Sheet → Names → ℕ → ℕ → TileKind → List (List ℕ)
tile_name_words sheet names x y Io = name_classes (side_of sheet x y) (name_of names x y 1) ++ name_classes (side_of sheet x y) (name_of names x y 0)
tile_name_words sheet names x y Logic = []
tile_name_words sheet names x y RamB = []
tile_name_words sheet names x y RamT = []

tile-names-read : (sheet : Sheet) (names : Names) (x y : ℕ) (kind : TileKind) → Reads (tile_names sheet names x y kind) (tile_name_words sheet names x y kind)
tile-names-read sheet names x y Io =
    reads-append (name_text sheet x y 0 (name_of names x y 0)) (name_text sheet x y 1 (name_of names x y 1)) (name_classes (side_of sheet x y) (name_of names x y 0)) (name_classes (side_of sheet x y) (name_of names x y 1))
    (name-reads sheet x y 0 (name_of names x y 0)) (name-reads sheet x y 1 (name_of names x y 1))
tile-names-read sheet names x y Logic = reads-none
tile-names-read sheet names x y RamB = reads-none
tile-names-read sheet names x y RamT = reads-none

abbrev pub names_words : Sheet → Names → Plan → List (List ℕ)
names_words sheet names plan = words_of (λ (tile : TilePlan). tile_name_words sheet names tile.x tile.y tile.kind) plan.tiles

pub names-read : (sheet : Sheet) (names : Names) (plan : Plan) → Reads (pin_names sheet names plan) (names_words sheet names plan)
unfolding pin_names
names-read sheet names plan =
    reads-each (λ (tile : TilePlan). tile_names sheet names tile.x tile.y tile.kind) (λ tile. tile_name_words sheet names tile.x tile.y tile.kind) (λ tile. tile-names-read sheet names tile.x tile.y tile.kind) plan.tiles

-- ---- PLLs and global networks

frame-reads : (sheet : Sheet) (pll : PllMark) → Reads (pll_frame sheet pll) (codes "y" ∷ [])
unfolding pll_frame read
frame-reads sheet pll element elements classes = evaluates (reading content (element ∷ elements) classes)
    (lit (codes "<use class=\"y\" xlink:href=\"#Y\" x=\"") ∷ num (left sheet pll.x) ∷ lit (codes "\" y=\"") ∷ num (top sheet pll.y) ∷ lit (codes "\"/>\n") ∷ [])

abbrev pub pll_words : Sheet → PllMark → List (List ℕ)
pll_words sheet pll = if is_framed sheet pll then codes "y" ∷ [] else []

pub pll-reads : (sheet : Sheet) (pll : PllMark) → Reads (pll_mark sheet pll) (pll_words sheet pll)
pll-reads sheet pll = by (is_framed sheet pll)
  where
    by : (framed : Bool) → Reads (if framed then pll_frame sheet pll else []) (if framed then codes "y" ∷ [] else [])
    by true = frame-reads sheet pll
    by false = reads-none

abbrev pub read_letter : Bool → ℕ
read_letter is_read = if is_read then 103 else 122

badge_bits : ℕ → ℕ → ℕ → ℕ → ℕ → ℕ → List Bit
badge_bits class form x y foot g =
    lit (codes "<use class=\"") ∷ lit (class ∷ []) ∷ lit (codes "\" xlink:href=\"#") ∷ lit (form ∷ []) ∷ lit (codes "\" x=\"") ∷ num x ∷ lit (codes "\" y=\"") ∷ num y
    ∷ lit (codes "\"/><text class=\"gt\" x=\"") ∷ num x ∷ lit (codes "\" y=\"") ∷ num foot ∷ lit (codes "\">") ∷ num g ∷ lit (codes "</text>\n") ∷ []

-- the classes of a badge
abbrev pub badge_words : GlobalMark → List (List ℕ)
badge_words global = codes "tg" ∷ (read_letter global.is_read ∷ []) ∷ []

-- what holds of the shapes of badges
pub badge-shapes : (P : ℕ → Type 0) → P 67 → P 70 → (from : GlobalSource) → P (global_shape from)
badge-shapes P pad fabric (source.Pin n) = pad
badge-shapes P pad fabric (source.Pll n x y is_b) = pad
badge-shapes P pad fabric source.Fabric = fabric

badge-reads : (x y foot : ℕ) (global : GlobalMark) → Reads (badge_text x y foot global) (badge_words global)
unfolding badge_text badge_bits read
badge-reads x y foot global element elements classes =
    let now = reading content (element ∷ elements) classes in
    evaluates now (badge_bits (read_letter global.is_read) (global_shape global.source) x y foot global.g)
    ∙ badge-shapes (λ form. evaluated now (badge_bits (read_letter global.is_read) form x y foot global.g) ≡ reading content (element ∷ elements) (codes "tg" ∷ (read_letter global.is_read ∷ []) ∷ classes))
    (by 67 refl refl global.is_read) (by 70 refl refl global.is_read) global.source
  where
    by : (form : ℕ) → evaluated (reading content (element ∷ elements) classes) (badge_bits 103 form x y foot global.g) ≡ reading content (element ∷ elements) (codes "tg" ∷ codes "g" ∷ classes)
        → evaluated (reading content (element ∷ elements) classes) (badge_bits 122 form x y foot global.g) ≡ reading content (element ∷ elements) (codes "tg" ∷ codes "z" ∷ classes)
        → (is_read : Bool) → evaluated (reading content (element ∷ elements) classes) (badge_bits (read_letter is_read) form x y foot global.g) ≡ reading content (element ∷ elements) (codes "tg" ∷ (read_letter is_read ∷ []) ∷ classes)
    by form g z true = g
    by form g z false = z

pub global-reads : (sheet : Sheet) (global : GlobalMark) → Reads (global_mark sheet global) (badge_words global)
global-reads sheet global =
    let offset = badge (side_of sheet global.x global.y) global.source in
    let y = top sheet global.y + offset.y in
    badge-reads (left sheet global.x + offset.x) y (y + 3) global
