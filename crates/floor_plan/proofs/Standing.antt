-- Each mark stands in the tile at its place: the marks of all tiles, one tile after the other, are the marks of a database and an image.
use Rattle.std.proofs.Common.{◌≡◌, ℕ, ◌+◌, ◌<◌, Bool, true, false, ◌&&◌, ◌||◌, ◌==◌, List, [], ◌∷◌, ◌++◌, filter, map, refl, subst, sym, ap, ◌∙◌, arith, append-nil, inl, inr}
use Rattle.std.specs.Prelude.{All, Some, None, Option, flat_map, IsTrue}
use Rattle.std.specs.List.{AllZip}
use Rattle.std.proofs.lemmas.Bool.{and_parts, cases_Bool, eqb-true}
use Rattle.std.proofs.lemmas.List.Elements.{All-append, All-map, All-weaker, All-nil, filter-append, filter_passes}
use Rattle.index_search.specs.Places.{gathered_below}
use Rattle.index_search.proofs.Places.{gathered_below-same}
use Rattle.index_search.proofs.Gathered.{flat_map-gathered_below}
use Rattle.plane_map.specs.Layout.{kind_of, grid_width, grid_height}
use Rattle.plane_map.specs.declared.device.DeviceName.{DeviceName}
use Rattle.plane_map.specs.declared.tile.TileKind.{TileKind}
use Rattle.plane_map.specs.declared.tile.TileKind.TheVariants.{Io, Logic, RamB, RamT}
use Rattle.plane_map.proofs.Grids.{grid_width-le, kind_of-inside}
use Rattle.plane_map.proofs.Words.{upper-tile}
use Rattle.ice_image.specs.Configuration.{Configuration}
use Rattle.chipdb_reader.specs.Database.{Database}
use Rattle.fabric_model.specs.declared.cell.LogicCell.{LogicCell}
use Rattle.fabric_model.specs.declared.pin.Pin.{Pin as PortPin}
use Rattle.fabric_model.specs.declared.ram.RamCell.{RamCell}
use Rattle.fabric_model.specs.declared.pin.PadData.{PadData}
use Rattle.fabric_model.specs.declared.pin.PadData.TheVariants as sends
use Rattle.fabric_model.specs.declared.register.PinRegister.TheVariants as kind
use Rattle.fabric_model.specs.Cells.{cells_of}
use Rattle.fabric_model.specs.Pins.{drives, pins_of}
use Rattle.fabric_model.specs.PinTypes.{has_register, is_by_register, is_double, takes_by_register}
use Rattle.fabric_model.specs.Rams.{rams_of}
use Rattle.fabric_model.specs.Tiles.{item_if, over_grid}
use Rattle.fabric_model.proofs.Within.{All-over_grid, All-single}
use Rattle.plan_marks.specs.declared.plan.Mark.{Mark}
use Rattle.plan_marks.specs.declared.plan.Part.{Part}
use Rattle.plan_marks.specs.Plans.{Plan, TilePlan}
use Rattle.floor_plan.specs.Laws.{HasTiles, ShowsCell, ShowsLower, ShowsPin, ShowsUpper, StandsOnce, has_item, has_registers, is_cell, is_lower, is_upper, is_pin, marks_that, place_by, place_of, sends_inverted, sends_twice}
use Rattle.floor_plan.specs.Marks.{cell_mark, is_registered, lower_mark, marks_of, pin_mark, sends_inverse, upper_mark}
use Rattle.floor_plan.specs.Plans.{floor_plan, is_mark_at, links_at, marks_at, tile_of, tiles_of}
use Rattle.floor_plan.proofs.Kept.{filter-gathered, filter-map_all, filter-map_none, filter-none, filter-turned, map-gathered}
use Rattle.floor_plan.proofs.Ordered.{Ascends, Ascends-by, Ascends-map, gathered-by_place, place}
use Rattle.floor_plan.proofs.Placed.{ArePlaced, cells-placed, rams-placed, pins-placed}

-- there is a tile at the place of a mark
abbrev pub IsThere : DeviceName → Mark → Type 0
IsThere device mark = (kind : TileKind) × (kind_of device mark.x mark.y ≡ Some kind)

-- marks in the order of their tiles
pub record Stand (device : DeviceName) (marks : List Mark) : Type 0 where
  pub ascends : Ascends (place (λ (mark : Mark). mark.x) (λ mark. mark.y)) marks
  pub there : All (IsThere device) marks

-- ---- marks of parts

pairs-made : {A B : Type 0} (R : A → B → Type 0) (made : A → B) → ((item : A) → R item (made item)) → (items : List A) → AllZip R items (map made items)
pairs-made R made each [] = tt
pairs-made R made each (item ∷ items) = (each item, pairs-made R made each items)

shows-cell : (lc : LogicCell) → ShowsCell lc (cell_mark lc)
shows-cell lc = record { cell = _; is = refl; column = refl; row = refl; index = refl; lut = refl; carry = refl; flip = refl; sets = refl; async = refl; negative = refl }

shows-lower : (ram : RamCell) → ShowsLower ram (lower_mark ram)
shows-lower ram = record { is = refl; column = refl; row = refl }

shows-upper : (ram : RamCell) → ShowsUpper ram (upper_mark ram)
shows-upper ram = record { is = refl; column = refl; row = refl }

double-twice : (to : PadData) → is_double to ≡ sends_twice to
double-twice sends.Plain = refl
double-twice sends.Registered = refl
double-twice sends.Inverted = refl
double-twice sends.Double = refl

inverse-inverted : (to : PadData) → sends_inverse to ≡ sends_inverted to
inverse-inverted sends.Plain = refl
inverse-inverted sends.Registered = refl
inverse-inverted sends.Inverted = refl
inverse-inverted sends.Double = refl

-- a register of the second output comes with one of the first
either : (a b drives by_register : Bool) (to : PadData)
    → (a || (b || ((drives && has_register to) || ((drives && is_double to) || by_register)))) ≡ (a || (b || ((drives && has_register to) || by_register)))
either true b drives by_register to = refl
either false true drives by_register to = refl
either false false false by_register to = refl
either false false true by_register sends.Plain = refl
either false false true by_register sends.Registered = refl
either false false true by_register sends.Inverted = refl
either false false true by_register sends.Double = refl

some-listed : (a b c d e : Bool)
    → has_item ((item_if a kind.Input ++ (item_if b kind.SecondInput ++ item_if b kind.InputClockEnable))
    ++ (item_if c kind.Output ++ (item_if d kind.SecondOutput ++ (item_if d kind.OutputClockEnable ++ item_if e kind.OutputEnable)))) ≡ (a || (b || (c || (d || e))))
some-listed true b c d e = refl
some-listed false true c d e = refl
some-listed false false true d e = refl
some-listed false false false true e = refl
some-listed false false false false true = refl
some-listed false false false false false = refl

pub registers-are : (pin : PortPin) → has_registers pin ≡ is_registered pin
registers-are pin =
    some-listed (pin.reads_0 && takes_by_register pin.takes) pin.reads_1 (drives pin && has_register pin.sends) (drives pin && is_double pin.sends) (is_by_register pin.drive)
    ∙ either (pin.reads_0 && takes_by_register pin.takes) pin.reads_1 (drives pin) (is_by_register pin.drive) pin.sends

shows-pin : (pin : PortPin) → ShowsPin pin (pin_mark pin)
shows-pin pin = record {
  part = _;
  is = refl;
  column = refl;
  row = refl;
  number = refl;
  input = refl;
  output = refl;
  switched = refl;
  register = sym (registers-are pin);
  double = ap (λ twice. (drives pin && twice) || pin.reads_1) (double-twice pin.sends);
  inverted = ap (λ inverse. drives pin && inverse) (inverse-inverted pin.sends);
  global = refl;
}

-- ---- the four lists of marks

stand-made : {A : Type 0} (column row : A → ℕ) (device : DeviceName) (kind : TileKind) (made : A → Mark) (items : List A)
    → ((item : A) → ((made item).x ≡ column item) × ((made item).y ≡ row item)) → ArePlaced column row device kind items → Stand device (map made items)
stand-made column row device kind made items at placed = record {
  ascends = Ascends-map (place column row) (place (λ (mark : Mark). mark.x) (λ mark. mark.y)) made items (λ item. omega (arith, (at item).0, (at item).1)) placed.ascends;
  there = All-map (IsThere device) made items
      (All-weaker (λ item. kind_of device (column item) (row item) ≡ Some kind) (λ item. IsThere device (made item)) (λ item there. (kind, rw ((at item).0, (at item).1) there)) items placed.there);
}

module _ (db : Database) (image : Configuration) where
  abbrev device : DeviceName
  device = image.layout.device

  pub stand-cells : Stand device (map cell_mark (cells_of db image))
  stand-cells = stand-made (λ (lc : LogicCell). lc.x) (λ lc. lc.y) device Logic cell_mark (cells_of db image) (λ lc. (refl, refl)) (cells-placed db image)

  pub stand-lower : Stand device (map lower_mark (rams_of db image))
  stand-lower = stand-made (λ (ram : RamCell). ram.x) (λ ram. ram.y) device RamB lower_mark (rams_of db image) (λ ram. (refl, refl)) (rams-placed db image)

  -- the upper tiles
  upper-placed : ArePlaced (λ (ram : RamCell). ram.x) (λ ram. ram.y + 1) device RamT (rams_of db image)
  upper-placed =
      let placed = rams-placed db image in
      record {
        ascends = Ascends-by (place (λ (ram : RamCell). ram.x) (λ ram. ram.y)) (place (λ (ram : RamCell). ram.x) (λ ram. ram.y + 1)) (rams_of db image) (λ one two le. omega arith) placed.ascends;
        there = All-weaker (λ (ram : RamCell). kind_of device ram.x ram.y ≡ Some RamB) (λ (ram : RamCell). kind_of device ram.x (ram.y + 1) ≡ Some RamT) (λ ram lower. upper-tile device ram.x ram.y lower) (rams_of db image) placed.there;
      }

  pub stand-upper : Stand device (map upper_mark (rams_of db image))
  stand-upper = stand-made (λ (ram : RamCell). ram.x) (λ ram. ram.y + 1) device RamT upper_mark (rams_of db image) (λ ram. (refl, refl)) upper-placed

  module _ (all : Bool) where
    pub stand-pins : Stand device (map pin_mark (pins_of all db image))
    stand-pins = stand-made (λ (pin : PortPin). pin.x) (λ pin. pin.y) device Io pin_mark (pins_of all db image) (λ pin. (refl, refl)) (pins-placed db image all)

    -- ---- all marks

    abbrev marks : List Mark
    marks = marks_of all db image

    pub all-there : All (IsThere device) marks
    unfolding marks_of
    all-there =
        All-append (IsThere device) (map cell_mark (cells_of db image) ++ map lower_mark (rams_of db image) ++ map upper_mark (rams_of db image)) (map pin_mark (pins_of all db image))
        (All-append (IsThere device) (map cell_mark (cells_of db image) ++ map lower_mark (rams_of db image)) (map upper_mark (rams_of db image))
        (All-append (IsThere device) (map cell_mark (cells_of db image)) (map lower_mark (rams_of db image)) stand-cells.there stand-lower.there) stand-upper.there) stand-pins.there

    apart : (x y : ℕ) → kind_of device x y ≡ None → (mark : Mark) → IsThere device mark → is_mark_at x y mark ≡ false
    apart x y away mark there =
        elim (cases_Bool (is_mark_at x y mark)) [
          | inl is ↦
              let both = and_parts (mark.x == x) (mark.y == y) is in
              let same_x : mark.x ≡ x = eqb-true mark.x x both.0 in
              let same_y : mark.y ≡ y = eqb-true mark.y y both.1 in
              let here : kind_of device x y ≡ Some there.0 = rw (← same_x, ← same_y) there.1 in
              absurd cc
          | inr other ↦ other
        ]

    -- no mark is where no tile is
    none-away : (x y : ℕ) → kind_of device x y ≡ None → marks_at x y marks ≡ []
    none-away x y away = filter-none (is_mark_at x y) marks (All-weaker (IsThere device) (λ mark. is_mark_at x y mark ≡ false) (λ mark there. apart x y away mark there) marks all-there)

    -- the marks of a tile
    in-tile : (x y : ℕ) (kind : Option TileKind) → kind_of device x y ≡ kind → flat_map (λ tile. tile.marks) (tile_of all db image x y kind) ≡ marks_at x y marks
    in-tile x y None is = sym (none-away x y is)
    in-tile x y (Some kind) is = append-nil (marks_at x y marks)

    -- the marks of all tiles
    pub all-marks : flat_map (λ tile. tile.marks) (tiles_of all db image) ≡ over_grid device (λ x y. marks_at x y marks)
    unfolding tiles_of over_grid
    all-marks =
        flat_map-gathered_below (λ (tile : TilePlan). tile.marks) (grid_height device) (λ y. gathered_below (grid_width device) (λ x. tile_of all db image x y (kind_of device x y)))
        ∙ gathered_below-same (grid_height device) (λ y. flat_map (λ (tile : TilePlan). tile.marks) (gathered_below (grid_width device) (λ x. tile_of all db image x y (kind_of device x y)))) (λ y. gathered_below (grid_width device) (λ x. marks_at x y marks))
        (λ y lt. flat_map-gathered_below (λ (tile : TilePlan). tile.marks) (grid_width device) (λ x. tile_of all db image x y (kind_of device x y))
        ∙ gathered_below-same (grid_width device) (λ x. flat_map (λ (tile : TilePlan). tile.marks) (tile_of all db image x y (kind_of device x y))) (λ x. marks_at x y marks) (λ x lt. in-tile x y (kind_of device x y) refl))

    -- those that pass a test are these, if they stand so
    kept : (test : Part → Bool) (those : List Mark) → filter (λ mark. test mark.part) marks ≡ those → Stand device those → marks_that test (floor_plan all db image) ≡ those
    unfolding floor_plan over_grid
    kept test those are stand =
        let passes : Mark → Bool = λ mark. test mark.part in
        let each : (x y : ℕ) → filter passes (marks_at x y marks) ≡ filter (is_mark_at x y) those = λ x y. filter-turned passes (is_mark_at x y) marks ∙ ap (filter (is_mark_at x y)) are in
        ap (filter passes) all-marks
        ∙ filter-gathered passes (grid_height device) (λ y. gathered_below (grid_width device) (λ x. marks_at x y marks))
        ∙ gathered_below-same (grid_height device) (λ y. filter passes (gathered_below (grid_width device) (λ x. marks_at x y marks))) (λ y. gathered_below (grid_width device) (λ x. filter (is_mark_at x y) those))
        (λ y lt. filter-gathered passes (grid_width device) (λ x. marks_at x y marks)
        ∙ gathered_below-same (grid_width device) (λ x. filter passes (marks_at x y marks)) (λ x. filter (is_mark_at x y) those) (λ x lt. each x y))
        ∙ gathered-by_place (λ (mark : Mark). mark.x) (λ mark. mark.y) (grid_width device) (grid_height device) those (omega (arith, grid_width-le device))
        (All-weaker (IsThere device) (λ mark. mark.x < grid_width device) (λ mark there. (kind_of-inside device mark.x mark.y there.0 there.1).0) those stand.there)
        (All-weaker (IsThere device) (λ mark. mark.y < grid_height device) (λ mark there. (kind_of-inside device mark.x mark.y there.0 there.1).1) those stand.there)
        stand.ascends

    -- ---- the marks of each kind

    parts : (test : Part → Bool) (a b c d : List Mark) → filter (λ (mark : Mark). test mark.part) (map cell_mark (cells_of db image)) ≡ a → filter (λ (mark : Mark). test mark.part) (map lower_mark (rams_of db image)) ≡ b
        → filter (λ (mark : Mark). test mark.part) (map upper_mark (rams_of db image)) ≡ c → filter (λ (mark : Mark). test mark.part) (map pin_mark (pins_of all db image)) ≡ d
        → filter (λ mark. test mark.part) marks ≡ a ++ b ++ c ++ d
    unfolding marks_of
    parts test a b c d of_cells of_lower of_upper of_pins =
        let passes : Mark → Bool = λ mark. test mark.part in
        filter-append passes (map cell_mark (cells_of db image) ++ map lower_mark (rams_of db image) ++ map upper_mark (rams_of db image)) (map pin_mark (pins_of all db image))
        ∙ ap (λ list. list ++ filter passes (map pin_mark (pins_of all db image)))
        (filter-append passes (map cell_mark (cells_of db image) ++ map lower_mark (rams_of db image)) (map upper_mark (rams_of db image))
        ∙ ap (λ list. list ++ filter passes (map upper_mark (rams_of db image))) (filter-append passes (map cell_mark (cells_of db image)) (map lower_mark (rams_of db image))))
        ∙ rw (of_cells, of_lower, of_upper, of_pins) refl

    alone : (list : List Mark) → list ++ [] ++ [] ++ [] ≡ list
    alone list = simp append-nil

    pub cell-marks : filter (λ (mark : Mark). is_cell mark.part) marks ≡ map cell_mark (cells_of db image)
    cell-marks = parts is_cell (map cell_mark (cells_of db image)) [] [] [] (filter-map_all (λ (mark : Mark). is_cell mark.part) cell_mark (cells_of db image) (λ lc. refl))
        (filter-map_none (λ (mark : Mark). is_cell mark.part) lower_mark (rams_of db image) (λ ram. refl)) (filter-map_none (λ (mark : Mark). is_cell mark.part) upper_mark (rams_of db image) (λ ram. refl))
        (filter-map_none (λ (mark : Mark). is_cell mark.part) pin_mark (pins_of all db image) (λ pin. refl))
        ∙ alone (map cell_mark (cells_of db image))

    pub lower-marks : filter (λ (mark : Mark). is_lower mark.part) marks ≡ map lower_mark (rams_of db image)
    lower-marks = parts is_lower [] (map lower_mark (rams_of db image)) [] [] (filter-map_none (λ (mark : Mark). is_lower mark.part) cell_mark (cells_of db image) (λ lc. refl))
        (filter-map_all (λ (mark : Mark). is_lower mark.part) lower_mark (rams_of db image) (λ ram. refl)) (filter-map_none (λ (mark : Mark). is_lower mark.part) upper_mark (rams_of db image) (λ ram. refl))
        (filter-map_none (λ (mark : Mark). is_lower mark.part) pin_mark (pins_of all db image) (λ pin. refl))
        ∙ append-nil (map lower_mark (rams_of db image) ++ []) ∙ append-nil (map lower_mark (rams_of db image))

    pub upper-marks : filter (λ (mark : Mark). is_upper mark.part) marks ≡ map upper_mark (rams_of db image)
    upper-marks = parts is_upper [] [] (map upper_mark (rams_of db image)) [] (filter-map_none (λ (mark : Mark). is_upper mark.part) cell_mark (cells_of db image) (λ lc. refl))
        (filter-map_none (λ (mark : Mark). is_upper mark.part) lower_mark (rams_of db image) (λ ram. refl)) (filter-map_all (λ (mark : Mark). is_upper mark.part) upper_mark (rams_of db image) (λ ram. refl))
        (filter-map_none (λ (mark : Mark). is_upper mark.part) pin_mark (pins_of all db image) (λ pin. refl))
        ∙ append-nil (map upper_mark (rams_of db image))

    pub pin-marks : filter (λ (mark : Mark). is_pin mark.part) marks ≡ map pin_mark (pins_of all db image)
    pin-marks = parts is_pin [] [] [] (map pin_mark (pins_of all db image)) (filter-map_none (λ (mark : Mark). is_pin mark.part) cell_mark (cells_of db image) (λ lc. refl))
        (filter-map_none (λ (mark : Mark). is_pin mark.part) lower_mark (rams_of db image) (λ ram. refl)) (filter-map_none (λ (mark : Mark). is_pin mark.part) upper_mark (rams_of db image) (λ ram. refl))
        (filter-map_all (λ (mark : Mark). is_pin mark.part) pin_mark (pins_of all db image) (λ pin. refl))

    -- ---- the law

    -- the marks of a tile are at its place
    at-place : (x y : ℕ) (kind : Option TileKind) → All (λ tile. All (λ mark. IsTrue (is_mark_at tile.x tile.y mark)) tile.marks) (tile_of all db image x y kind)
    at-place x y None = All-nil (λ (tile : TilePlan). All (λ mark. IsTrue (is_mark_at tile.x tile.y mark)) tile.marks)
    at-place x y (Some kind) =
        All-single (λ (tile : TilePlan). All (λ mark. IsTrue (is_mark_at tile.x tile.y mark)) tile.marks)
        (record { x = x; y = y; kind = kind; links = links_at db image x y; marks = marks_at x y marks }) (filter_passes (is_mark_at x y) marks)

    abbrev plan : Plan
    plan = floor_plan all db image

    pub cells-stand : marks_that is_cell plan ≡ map cell_mark (cells_of db image)
    cells-stand = kept is_cell (map cell_mark (cells_of db image)) cell-marks stand-cells

    pub lower-stand : marks_that is_lower plan ≡ map lower_mark (rams_of db image)
    lower-stand = kept is_lower (map lower_mark (rams_of db image)) lower-marks stand-lower

    pub upper-stand : marks_that is_upper plan ≡ map upper_mark (rams_of db image)
    upper-stand = kept is_upper (map upper_mark (rams_of db image)) upper-marks stand-upper

    pub pins-stand : marks_that is_pin plan ≡ map pin_mark (pins_of all db image)
    pins-stand = kept is_pin (map pin_mark (pins_of all db image)) pin-marks stand-pins

    pub stands-once : StandsOnce all db image plan
    unfolding floor_plan tiles_of
    stands-once = record {
      cells = subst (AllZip ShowsCell (cells_of db image)) (sym cells-stand) (pairs-made ShowsCell cell_mark shows-cell (cells_of db image));
      lower = subst (AllZip ShowsLower (rams_of db image)) (sym lower-stand) (pairs-made ShowsLower lower_mark shows-lower (rams_of db image));
      upper = subst (AllZip ShowsUpper (rams_of db image)) (sym upper-stand) (pairs-made ShowsUpper upper_mark shows-upper (rams_of db image));
      pins = subst (AllZip ShowsPin (pins_of all db image)) (sym pins-stand) (pairs-made ShowsPin pin_mark shows-pin (pins_of all db image));
      places = All-over_grid (λ (tile : TilePlan). All (λ mark. IsTrue (is_mark_at tile.x tile.y mark)) tile.marks) device (λ x y. tile_of all db image x y (kind_of device x y))
          (λ x y left low. at-place x y (kind_of device x y));
    }

    -- ---- tiles

    place-in : (x y : ℕ) (kind : Option TileKind) → map place_of (tile_of all db image x y kind) ≡ place_by x y kind
    place-in x y None = refl
    place-in x y (Some kind) = refl

    links-in : (x y : ℕ) (kind : Option TileKind) → All (λ tile. tile.links ≡ links_at db image tile.x tile.y) (tile_of all db image x y kind)
    links-in x y None = All-nil (λ (tile : TilePlan). tile.links ≡ links_at db image tile.x tile.y)
    links-in x y (Some kind) =
        All-single (λ (tile : TilePlan). tile.links ≡ links_at db image tile.x tile.y)
        (record { x = x; y = y; kind = kind; links = links_at db image x y; marks = marks_at x y marks }) refl

    pub has-tiles : HasTiles db image plan
    unfolding floor_plan tiles_of over_grid
    has-tiles = record {
      device = refl;
      places = map-gathered place_of (grid_height device) (λ y. gathered_below (grid_width device) (λ x. tile_of all db image x y (kind_of device x y)))
          ∙ gathered_below-same (grid_height device) (λ y. map place_of (gathered_below (grid_width device) (λ x. tile_of all db image x y (kind_of device x y))))
          (λ y. gathered_below (grid_width device) (λ x. place_by x y (kind_of device x y)))
          (λ y lt. map-gathered place_of (grid_width device) (λ x. tile_of all db image x y (kind_of device x y))
          ∙ gathered_below-same (grid_width device) (λ x. map place_of (tile_of all db image x y (kind_of device x y))) (λ x. place_by x y (kind_of device x y)) (λ x lt. place-in x y (kind_of device x y)));
      links = All-over_grid (λ (tile : TilePlan). tile.links ≡ links_at db image tile.x tile.y) device (λ x y. tile_of all db image x y (kind_of device x y))
          (λ x y left low. links-in x y (kind_of device x y));
    }
