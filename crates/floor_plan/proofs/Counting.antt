-- What can be counted in a plan is what icebox_stat tells.
use Rattle.std.proofs.Common.{◌≡◌, ℕ, ◌+◌, ◌<◌, Bool, true, false, ◌&&◌, ◌==◌, List, [], ◌∷◌, count_by, map, refl, sym, ap, ap₂, subst, ◌∙◌, inl, inr, arith}
use Rattle.std.specs.Prelude.{All, not, None, Option, Some, sum_by, codes, if◌then◌else◌}
use Rattle.std.specs.List.{list_any}
use Rattle.std.proofs.lemmas.Bool.{and_parts, both_ways, cases_Bool, eqb-true}
use Rattle.std.proofs.lemmas.List.Elements.{All-head, All-tail, All-weaker}
use Rattle.index_search.specs.Places.{gathered_below}
use Rattle.plane_map.specs.Layout.{kind_of, grid_width, grid_height}
use Rattle.plane_map.specs.declared.device.DeviceName.{DeviceName}
use Rattle.plane_map.specs.declared.tile.TileKind.{TileKind}
use Rattle.plane_map.proofs.Grids.{kind_of-inside}
use Rattle.ice_image.specs.Configuration.{Configuration}
use Rattle.chipdb_reader.specs.Database.{Database, Link}
use Rattle.chipdb_reader.specs.Faults.{DbMeans}
use Rattle.chipdb_reader.specs.Fit.{IsFit, IsLink}
use Rattle.chipdb_reader.proofs.FitPlaces.{database-fit}
use Rattle.fabric_model.specs.declared.cell.LogicCell.{LogicCell}
use Rattle.fabric_model.specs.declared.pin.Pin.{Pin as PortPin}
use Rattle.fabric_model.specs.declared.ram.RamCell.{RamCell}
use Rattle.fabric_model.specs.Cells.{cells_of}
use Rattle.fabric_model.specs.Nets.{is_read}
use Rattle.fabric_model.specs.On.{is_link_on}
use Rattle.fabric_model.specs.Pins.{drives, is_switched, pins_of}
use Rattle.fabric_model.specs.PinTypes.{drives_at_times, ever_drives}
use Rattle.fabric_model.specs.declared.pin.PadDrive.{PadDrive}
use Rattle.fabric_model.specs.declared.pin.PadDrive.TheVariants.{Never, Always, ByNet, ByRegister}
use Rattle.fabric_model.specs.Rams.{rams_of}
use Rattle.fabric_model.specs.Tiles.{over_grid}
use Rattle.image_stat.specs.Counts.{counts_of}
use Rattle.plan_marks.specs.declared.plan.Mark.{Mark}
use Rattle.plan_marks.specs.declared.plan.Part.{Part}
use Rattle.plan_marks.specs.declared.plan.Part.TheVariants.{Cell, Lower, Upper, Pin}
use Rattle.plan_marks.specs.Plans.{Plan, TilePlan, class_of, count_of, has_class, marks_in}
use Rattle.plan_marks.proofs.Classes.{cell-classes, pin-classes}
use Rattle.floor_plan.specs.Laws.{CountsAgree, LinksAgree, has_registers, is_cell, is_lower, is_pin, is_upper, marks_that}
use Rattle.floor_plan.specs.Marks.{cell_mark, is_registered, lower_mark, pin_mark, pin_part, upper_mark}
use Rattle.floor_plan.specs.Plans.{floor_plan, is_on_at, links_at, tile_of, tiles_of}
use Rattle.floor_plan.proofs.Kept.{count_by-all, count_by-both, count_by-cons, count_by-map, count_by-same}
use Rattle.floor_plan.proofs.Networks.{globals-marked, globals-numbered}
use Rattle.floor_plan.proofs.Standing.{cells-stand, lower-stand, pins-stand, registers-are, upper-stand}
use Rattle.floor_plan.proofs.Sums.{over, over-counts, over-plus, over-same, sum_by-gathered, total, total-same}

-- ---- classes

-- whether a class is one of these
abbrev is_among : List ℕ → ℕ → Bool
is_among classes letter = list_any (λ class. class == letter) classes

-- cells alone have these classes
cells-alone : (classes : List ℕ) → is_among classes 114 ≡ false → is_among classes 117 ≡ false
    → is_among classes 113 ≡ false → is_among classes 98 ≡ false → is_among classes 112 ≡ false → is_among classes 111 ≡ false → is_among classes 106 ≡ false → is_among classes 105 ≡ false
    → (part : Part) → is_among classes (class_of part) ≡ (is_cell part && is_among classes (class_of part))
cells-alone classes r u q b p o j i (Cell cell) = refl
cells-alone classes r u q b p o j i (Lower ram) = r
cells-alone classes r u q b p o j i (Upper ram) = u
cells-alone classes r u q b p o j i (Pin pin) = pin-classes (λ letter. is_among classes letter ≡ false) q b p o j i pin

lower-alone : (part : Part) → is_among (codes "r") (class_of part) ≡ (is_lower part && is_among (codes "r") (class_of part))
lower-alone (Cell cell) = cell-classes (λ letter. is_among (codes "r") letter ≡ false) refl refl refl refl cell
lower-alone (Lower ram) = refl
lower-alone (Upper ram) = refl
lower-alone (Pin pin) = pin-classes (λ letter. is_among (codes "r") letter ≡ false) refl refl refl refl refl refl pin

upper-alone : (part : Part) → is_among (codes "u") (class_of part) ≡ (is_upper part && is_among (codes "u") (class_of part))
upper-alone (Cell cell) = cell-classes (λ letter. is_among (codes "u") letter ≡ false) refl refl refl refl cell
upper-alone (Lower ram) = refl
upper-alone (Upper ram) = refl
upper-alone (Pin pin) = pin-classes (λ letter. is_among (codes "u") letter ≡ false) refl refl refl refl refl refl pin

-- pins alone have these classes
pins-alone : (classes : List ℕ) → is_among classes 114 ≡ false → is_among classes 117 ≡ false
    → is_among classes 100 ≡ false → is_among classes 99 ≡ false → is_among classes 102 ≡ false → is_among classes 108 ≡ false
    → (part : Part) → is_among classes (class_of part) ≡ (is_pin part && is_among classes (class_of part))
pins-alone classes r u d c f l (Cell cell) = cell-classes (λ letter. is_among classes letter ≡ false) d c f l cell
pins-alone classes r u d c f l (Lower ram) = r
pins-alone classes r u d c f l (Upper ram) = u
pins-alone classes r u d c f l (Pin pin) = refl

-- the classes of a pin, by what it does
abbrev letter_of : Bool → Bool → Bool → ℕ
letter_of switched output register =
    if switched then (if register then 113 else 98) else if output then (if register then 112 else 111) else if register then 106 else 105

-- a pin that drives its pad at times drives it ever
ever-at-times : (drive : PadDrive) → drives_at_times drive ≡ true → ever_drives drive ≡ true
ever-at-times Never is = absurd cc
ever-at-times Always is = refl
ever-at-times ByNet is = refl
ever-at-times ByRegister is = refl

input-letter : (switched output register : Bool) → (switched ≡ true → output ≡ true) → is_among (codes "ij") (letter_of switched output register) ≡ not output
input-letter true true true ever = refl
input-letter true true false ever = refl
input-letter true false register ever = absurd (both_ways false refl (ever refl))
input-letter false true true ever = refl
input-letter false true false ever = refl
input-letter false false true ever = refl
input-letter false false false ever = refl

output-letter : (switched output register : Bool) → is_among (codes "op") (letter_of switched output register) ≡ (output && not switched)
output-letter true true true = refl
output-letter true true false = refl
output-letter true false true = refl
output-letter true false false = refl
output-letter false true true = refl
output-letter false true false = refl
output-letter false false true = refl
output-letter false false false = refl

switched-letter : (switched output register : Bool) → is_among (codes "bq") (letter_of switched output register) ≡ switched
switched-letter true output true = refl
switched-letter true output false = refl
switched-letter false true true = refl
switched-letter false true false = refl
switched-letter false false true = refl
switched-letter false false false = refl

register-letter : (switched output register : Bool) → is_among (codes "jpq") (letter_of switched output register) ≡ register
register-letter true output true = refl
register-letter true output false = refl
register-letter false true true = refl
register-letter false true false = refl
register-letter false false true = refl
register-letter false false false = refl

-- the items that a list of marks was made of, counted by a class
counted : {A : Type 0} (classes : List ℕ) (kind : Part → Bool) (made : A → Mark) (wanted : A → Bool) (items : List A) (plan : Plan) → marks_that kind plan ≡ map made items
    → ((part : Part) → is_among classes (class_of part) ≡ (kind part && is_among classes (class_of part)))
    → ((item : A) → has_class classes (made item) ≡ wanted item) → count_of classes plan ≡ count_by wanted items
unfolding count_of
counted classes kind made wanted items plan are alone each =
    count_by-both (has_class classes) (λ (mark : Mark). kind mark.part) (has_class classes) (marks_in plan) (λ mark. alone mark.part)
    ∙ ap (count_by (has_class classes)) are ∙ count_by-map (has_class classes) made items ∙ count_by-same (λ item. has_class classes (made item)) wanted items each

-- ---- links

count_by-none : {A : Type 0} (test : A → Bool) (items : List A) → All (λ item. test item ≡ false) items → count_by test items ≡ 0
count_by-none test [] all = refl
count_by-none test (item ∷ items) all =
    count_by-cons test item items ∙ rw (All-head (λ item. test item ≡ false) item items all, count_by-none test items (All-tail (λ item. test item ≡ false) item items all)) refl

module _ (all : Bool) (db : Database) (image : Configuration) (device_is : db.chip.device ≡ image.layout.device) where
  abbrev device : DeviceName
  device = image.layout.device

  -- a link is in a tile of the grid
  inside : (link : Link) → IsLink db.chip link → (link.x < grid_width device) × (link.y < grid_height device)
  inside link is = kind_of-inside device link.x link.y is.kind (subst (λ device. kind_of device link.x link.y ≡ Some is.kind) device_is is.tile)

  apart : (x y : ℕ) → kind_of device x y ≡ None → (link : Link) → IsLink db.chip link → is_on_at image x y link ≡ false
  apart x y away link is =
      elim (cases_Bool (is_on_at image x y link)) [
        | inl here ↦
            let both = and_parts (link.x == x) (link.y == y) (and_parts (is_link_on image link) ((link.x == x) && (link.y == y)) here).1 in
            let same_x : link.x ≡ x = eqb-true link.x x both.0 in
            let same_y : link.y ≡ y = eqb-true link.y y both.1 in
            let there : kind_of device x y ≡ Some is.kind = rw (← same_x, ← same_y) (subst (λ device. kind_of device link.x link.y ≡ Some is.kind) device_is is.tile) in
            absurd cc
        | inr other ↦ other
      ]

  module _ (fit : IsFit db) where
    none-on : (x y : ℕ) → kind_of device x y ≡ None → (links : List Link) → All (IsLink db.chip) links → count_by (is_on_at image x y) links ≡ 0
    none-on x y away links are =
        count_by-none (is_on_at image x y) links (All-weaker (IsLink db.chip) (λ link. is_on_at image x y link ≡ false) (λ link is. apart x y away link is) links are)

    in-tile : (x y : ℕ) (kind : Option TileKind) → kind_of device x y ≡ kind → sum_by (λ (tile : TilePlan). tile.links) (tile_of all db image x y kind) ≡ links_at db image x y
    in-tile x y None is = omega (arith, none-on x y is db.buffers fit.buffers, none-on x y is db.routings fit.routings)
    in-tile x y (Some kind) is = omega arith

    on-grid : (links : List Link) → All (IsLink db.chip) links → over (grid_width device) (grid_height device) (λ x y. count_by (is_on_at image x y) links) ≡ count_by (is_link_on image) links
    on-grid links are =
        over-counts (grid_width device) (grid_height device) (λ (link : Link). link.x) (λ link. link.y) (is_link_on image) links
        (All-weaker (IsLink db.chip) (λ (link : Link). (link.x < grid_width device) × (link.y < grid_height device)) inside links are)

    links-agree : sum_by (λ (tile : TilePlan). tile.links) (tiles_of all db image) ≡ count_by (is_link_on image) db.buffers + count_by (is_link_on image) db.routings
    unfolding tiles_of over_grid
    links-agree =
        let links : TilePlan → ℕ = λ tile. tile.links in
        sum_by-gathered links (grid_height device) (λ y. gathered_below (grid_width device) (λ x. tile_of all db image x y (kind_of device x y)))
        ∙ total-same (grid_height device) (λ y. sum_by links (gathered_below (grid_width device) (λ x. tile_of all db image x y (kind_of device x y))))
        (λ y. total (grid_width device) (λ x. sum_by links (tile_of all db image x y (kind_of device x y))))
        (λ y lt. sum_by-gathered links (grid_width device) (λ x. tile_of all db image x y (kind_of device x y)))
        ∙ over-same (grid_width device) (grid_height device) (λ x y. sum_by links (tile_of all db image x y (kind_of device x y))) (λ x y. links_at db image x y)
        (λ x y left low. in-tile x y (kind_of device x y) refl)
        ∙ over-plus (grid_width device) (grid_height device) (λ x y. count_by (is_on_at image x y) db.buffers) (λ x y. count_by (is_on_at image x y) db.routings)
        ∙ ap₂ (λ n m. n + m) (on-grid db.buffers fit.buffers) (on-grid db.routings fit.routings)

-- ---- the laws

pub links-told : (all : Bool) (db : Database) (image : Configuration) → LinksAgree all db image
unfolding counts_of floor_plan
links-told all db image device_is fit = links-agree all db image device_is fit

pub fit-read : (text : List ℕ) (db : Database) → DbMeans text db → IsFit db
fit-read text db means = subst IsFit (sym means.lines) (database-fit db.chip _ means.device)

module _ (all : Bool) (db : Database) (image : Configuration) where
  lut : (carry flip : Bool) → is_among (codes "lfcd") (if carry then (if flip then 100 else 99) else (if flip then 102 else 108)) ≡ true
  lut true true = refl
  lut true false = refl
  lut false true = refl
  lut false false = refl

  flop : (carry flip : Bool) → is_among (codes "fd") (if carry then (if flip then 100 else 99) else (if flip then 102 else 108)) ≡ flip
  flop true true = refl
  flop true false = refl
  flop false true = refl
  flop false false = refl

  carry : (carry flip : Bool) → is_among (codes "cd") (if carry then (if flip then 100 else 99) else (if flip then 102 else 108)) ≡ carry
  carry true true = refl
  carry true false = refl
  carry false true = refl
  carry false false = refl

  abbrev plan : Plan
  plan = floor_plan all db image

  -- the cells with these classes, and the pins with these
  cells-with : (classes : List ℕ) (wanted : LogicCell → Bool) → is_among classes 114 ≡ false → is_among classes 117 ≡ false
      → is_among classes 113 ≡ false → is_among classes 98 ≡ false → is_among classes 112 ≡ false → is_among classes 111 ≡ false → is_among classes 106 ≡ false → is_among classes 105 ≡ false
      → ((lc : LogicCell) → has_class classes (cell_mark lc) ≡ wanted lc) → count_of classes plan ≡ count_by wanted (cells_of db image)
  cells-with classes wanted r u q b p o j i each =
      counted classes is_cell cell_mark wanted (cells_of db image) plan (cells-stand db image all) (cells-alone classes r u q b p o j i) each

  pins-with : (classes : List ℕ) (wanted : PortPin → Bool) → is_among classes 114 ≡ false → is_among classes 117 ≡ false
      → is_among classes 100 ≡ false → is_among classes 99 ≡ false → is_among classes 102 ≡ false → is_among classes 108 ≡ false
      → ((pin : PortPin) → has_class classes (pin_mark pin) ≡ wanted pin) → count_of classes plan ≡ count_by wanted (pins_of all db image)
  pins-with classes wanted r u d c f l each =
      counted classes is_pin pin_mark wanted (pins_of all db image) plan (pins-stand db image all) (pins-alone classes r u d c f l) each

  pub counts-agree : CountsAgree all db image plan
  unfolding counts_of floor_plan
  counts-agree = record {
    luts = cells-with (codes "lfcd") (λ lc. true) refl refl refl refl refl refl refl refl (λ (lc : LogicCell). lut lc.carry lc.flip) ∙ count_by-all (cells_of db image);
    flops = cells-with (codes "fd") (λ (lc : LogicCell). lc.flip) refl refl refl refl refl refl refl refl (λ lc. flop lc.carry lc.flip);
    carries = cells-with (codes "cd") (λ (lc : LogicCell). lc.carry) refl refl refl refl refl refl refl refl (λ lc. carry lc.carry lc.flip);
    rams = counted (codes "r") is_lower lower_mark (λ ram. true) (rams_of db image) plan (lower-stand db image all) lower-alone (λ (ram : RamCell). refl) ∙ count_by-all (rams_of db image);
    upper_rams = counted (codes "u") is_upper upper_mark (λ ram. true) (rams_of db image) plan (upper-stand db image all) upper-alone (λ (ram : RamCell). refl) ∙ count_by-all (rams_of db image);
    pins = pins-with (codes "ijopbq") (λ pin. true) refl refl refl refl refl refl
        (λ (pin : PortPin). pin-classes (λ letter. is_among (codes "ijopbq") letter ≡ true) refl refl refl refl refl refl (pin_part pin))
        ∙ count_by-all (pins_of all db image);
    inputs = pins-with (codes "ij") (λ (pin : PortPin). not (drives pin)) refl refl refl refl refl refl
        (λ (pin : PortPin). input-letter (is_switched pin) (drives pin) (is_registered pin) (λ is. ever-at-times pin.drive is));
    outputs = pins-with (codes "op") (λ (pin : PortPin). drives pin && not (is_switched pin)) refl refl refl refl refl refl
        (λ (pin : PortPin). output-letter (is_switched pin) (drives pin) (is_registered pin));
    switched = pins-with (codes "bq") is_switched refl refl refl refl refl refl (λ (pin : PortPin). switched-letter (is_switched pin) (drives pin) (is_registered pin));
    registered = pins-with (codes "jpq") has_registers refl refl refl refl refl refl
        (λ (pin : PortPin). register-letter (is_switched pin) (drives pin) (is_registered pin) ∙ sym (registers-are pin));
    numbers = globals-numbered db all image (is_read db image);
    globals = globals-marked db all image (is_read db image);
  }
