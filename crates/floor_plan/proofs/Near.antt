-- Marks and links are at places of the grid, and the plan is what its parts are.
use Rattle.std.proofs.Common.{◌≡◌, ℕ, ◌<◌, ◌≤◌, Bool, true, false, ◌&&◌, ◌||◌, ◌==◌, ap₂, List, [], ◌∷◌, ◌++◌, map, replicate, length, refl, ap, ◌∙◌, subst, sym, arith}
use Rattle.std.specs.Prelude.{All, Some, nat_lt}
use Rattle.std.proofs.Math.Path.{fun_ext}
use Rattle.std.proofs.lemmas.Bool.{ltb-false, ne_eqb}
use Rattle.std.proofs.lemmas.List.{length-replicate}
use Rattle.std.proofs.lemmas.List.Folds.{list_any_none}
use Rattle.std.proofs.lemmas.List.Elements.{All-cons, All-head, All-nil, All-tail, All-weaker}
use Rattle.plane_map.specs.Layout.{kind_of}
use Rattle.plane_map.specs.declared.device.DeviceName.{DeviceName}
use Rattle.plane_map.specs.declared.tile.RowCol.{RowCol}
use Rattle.plane_map.specs.declared.tile.TileKind.TheVariants.{RamB}
use Rattle.plane_map.proofs.Grids.{grid_height-le, grid_width-le, kind_of-inside}
use Rattle.ice_image.specs.Configuration.{Configuration}
use Rattle.chipdb_lines.specs.declared.chip.Chip.{Chip}
use Rattle.chipdb_reader.specs.Database.{Database, Link}
use Rattle.chipdb_reader.specs.Fit.{IsFit, IsLink}
use Rattle.chipdb_reader.specs.Kept.{link_line, link_lines}
use Rattle.chipdb_reader.specs.declared.items.LinkLine.{LinkLine}
use Rattle.fabric_model.specs.declared.cell.LogicCell.{LogicCell}
use Rattle.fabric_model.specs.declared.pin.Pin.{Pin as PortPin}
use Rattle.fabric_model.specs.declared.ram.RamCell.{RamCell}
use Rattle.fabric_model.specs.Cells.{cells_of}
use Rattle.fabric_model.specs.Links.{AreLinks, LinkSet, is_read_in}
use Rattle.fabric_model.specs.Nets.{is_end, is_read, is_source}
use Rattle.fabric_model.specs.On.{is_link_on}
use Rattle.fabric_model.specs.Pins.{globals_of, pins_of}
use Rattle.fabric_model.specs.Plls.{pll_sources}
use Rattle.fabric_model.specs.Rams.{rams_of}
use Rattle.plan_marks.specs.declared.plan.GlobalMark.{GlobalMark}
use Rattle.plan_marks.specs.declared.plan.Mark.{Mark}
use Rattle.plan_marks.specs.declared.plan.PllMark.{PllMark}
use Rattle.plan_marks.specs.Plans.{Plan, TilePlan}
use Rattle.floor_plan.specs.ByTile.{IsLinkNear, IsNear, reads_in}
use Rattle.floor_plan.specs.Marks.{cell_mark, lower_mark, marks_of, pin_mark, upper_mark}
use Rattle.floor_plan.specs.Plans.{floor_plan, global_marks, plls_of, tiles_of}
use Rattle.floor_plan.proofs.Placed.{rams-placed}
use Rattle.floor_plan.proofs.Standing.{IsThere, all-there}

-- ---- RAMs and marks

-- above a used RAM there is a row
pub rams-low : (db : Database) (image : Configuration) (rams : List RamCell) → rams ≡ rams_of db image → All (λ ram. ram.y < 255) rams
rams-low db image rams are =
    let device = image.layout.device in
    subst (All (λ (ram : RamCell). ram.y < 255)) (sym are)
    (All-weaker (λ (ram : RamCell). kind_of device ram.x ram.y ≡ Some RamB) (λ (ram : RamCell). ram.y < 255)
    (λ ram there. omega (arith, (kind_of-inside device ram.x ram.y RamB there).1, grid_height-le device)) (rams_of db image) (rams-placed db image).there)

-- the marks are those of a plan
pub marks-are : (all : Bool) (db : Database) (image : Configuration) (cells : List LogicCell) (rams : List RamCell) (pins : List PortPin) (marks : List Mark)
    → cells ≡ cells_of db image → rams ≡ rams_of db image → pins ≡ pins_of all db image
    → marks ≡ map cell_mark cells ++ map lower_mark rams ++ map upper_mark rams ++ map pin_mark pins → marks ≡ marks_of all db image
unfolding marks_of
marks-are all db image cells rams pins marks cells_are rams_are pins_are are = are ∙ rw (cells_are, rams_are, pins_are) refl

pub marks-near : (all : Bool) (db : Database) (image : Configuration) (marks : List Mark) → marks ≡ marks_of all db image → All IsNear marks
marks-near all db image marks are =
    let device = image.layout.device in
    subst (All IsNear) (sym are)
    (All-weaker (IsThere device) IsNear
    (λ mark there. let inside = kind_of-inside device mark.x mark.y there.0 there.1 in (omega (arith, inside.0, grid_width-le device), omega (arith, inside.1, grid_height-le device)))
    (marks_of all db image) (all-there db image all))

-- ---- links

pub links-near : (chip : Chip) (bits : List (List RowCol)) (lines : List LinkLine) → All (IsLink chip) (link_lines bits lines) → All IsLinkNear lines
links-near chip bits [] all = All-nil IsLinkNear
links-near chip bits (line ∷ lines) all =
    let first : IsLink chip (link_line bits line) = All-head (IsLink chip) (link_line bits line) (link_lines bits lines) all in
    let inside = kind_of-inside chip.device line.x line.y first.kind first.tile in
    All-cons IsLinkNear line lines (omega (arith, inside.0, grid_width-le chip.device), omega (arith, inside.1, grid_height-le chip.device))
    (links-near chip bits lines (All-tail (IsLink chip) (link_line bits line) (link_lines bits lines) all))

-- there is a count for each tile
pub counts-all : (counts : List ℕ) → counts ≡ replicate 4096 0 → length counts ≡ 4096
counts-all counts are = ap length are ∙ length-replicate {A = ℕ} 4096 0

-- ---- nets

away : (net end : ℕ) → end < net → (end == net) ≡ false
away net end less = ne_eqb end net (λ same. omega arith)

last-false : (b : Bool) → (b && false) ≡ false
last-false true = refl
last-false false = refl

-- a net that the database doesn't have isn't read
pub not-read : (db : Database) (image : Configuration) (net : ℕ) → IsFit db → db.chip.nets ≤ net → is_read db image net ≡ false
unfolding is_read
not-read db image net fit above =
    rw (
      list_any_none (is_source image net) db.buffers (All-weaker (IsLink db.chip) (λ link. is_source image net link ≡ false) source db.buffers fit.buffers),
      list_any_none (is_end image net) db.routings (All-weaker (IsLink db.chip) (λ link. is_end image net link ≡ false) end db.routings fit.routings),
    ) refl
  where
    source : (link : Link) → IsLink db.chip link → is_source image net link ≡ false
    source link is = ap (λ b. is_link_on image link && b) (away net link.src (omega (arith, is.src_in))) ∙ last-false (is_link_on image link)

    end : (link : Link) → IsLink db.chip link → is_end image net link ≡ false
    end link is =
        ap₂ (λ b c. is_link_on image link && (b || c)) (away net link.src (omega (arith, is.src_in))) (away net link.dst (omega (arith, is.dst_in))) ∙ last-false (is_link_on image link)

-- what is kept says which nets are read
pub reads-are : (db : Database) (image : Configuration) (links : LinkSet) → AreLinks db image links → IsFit db → (net : ℕ) → reads_in links net ≡ is_read db image net
reads-are db image links are fit net = by (nat_lt net (length links.classes)) refl
  where
    by : (inside : Bool) → nat_lt net (length links.classes) ≡ inside → reads_in links net ≡ is_read db image net
    by true is = ap (λ b. b && is_read_in links net) is ∙ are.reads net
    by false is =
        let above : length links.classes ≤ net = ltb-false net (length links.classes) is in
        ap (λ b. b && is_read_in links net) is ∙ sym (not-read db image net fit (omega (arith, are.nets)))

-- ---- the plan

abbrev plan_with : DeviceName → List TilePlan → List PllMark → List GlobalMark → Plan
plan_with device tiles plls globals = record { device = device; tiles = tiles; plls = plls; globals = globals }

-- a plan of such parts
pub plan-is : (all : Bool) (db : Database) (image : Configuration) (device : DeviceName) (tiles : List TilePlan) (plls : List PllMark) (globals : List GlobalMark) (reads : ℕ → Bool)
    → device ≡ image.layout.device → tiles ≡ tiles_of all db image → plls ≡ plls_of (pll_sources all db image) → globals ≡ global_marks db reads (globals_of all db image)
    → ((net : ℕ) → reads net ≡ is_read db image net) → plan_with device tiles plls globals ≡ floor_plan all db image
unfolding floor_plan
plan-is all db image device tiles plls globals reads device_is tiles_are plls_are globals_are reads_are =
    rw (device_is, tiles_are, plls_are, globals_are, fun_ext reads_are) refl
