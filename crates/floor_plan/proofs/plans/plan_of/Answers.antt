use Rattle.std.proofs.Common.{◌≡◌, List, map, sym, ap, ap₂, subst, ◌∙◌, refl}
use Rattle.std.specs.Prelude.{All}
use Rattle.ice_image.specs.Either.{configuration_of}
use Rattle.chipdb_reader.specs.Kept.{database_in}
use Rattle.chipdb_reader.specs.declared.items.LinkLine.{LinkLine}
use Rattle.plan_marks.specs.declared.plan.Mark.{Mark}
use Rattle.plan_marks.specs.Plans.{tile_in}
use Rattle.floor_plan.specs.ByTile.{AreByTile, CountsLinks, IsLinkNear, lists_of, reads_in, tiles_by}
use Rattle.floor_plan.specs.Marks.{marks_of}
use Rattle.floor_plan.specs.Plans.{global_marks, plls_of}
use Rattle.floor_plan.proofs.ByTiles.{tiles-are}
use Rattle.floor_plan.proofs.Near.{links-near, marks-are, marks-near, plan-is, rams-low, reads-are}
use Rattle.floor_plan.proofs.plans.plan_of.Goals as goal

pub marks_of-requires : goal.marks_of-requires
marks_of-requires c = rams-low (database_in c.args.db.now) (configuration_of c.args.image.now) c.args.parts.now.rams.items c.requires.rams

pub of-requires : goal.of-requires
of-requires c =
    let db = database_in c.args.db.now in
    let image = configuration_of c.args.image.now in
    let parts = c.args.parts.now in
    marks-near c.args.all_pins db image c.deref.result.now
    (c.deref.ensures.value ∙ marks-are c.args.all_pins db image parts.cells.lcs.items parts.rams.items parts.pins.pins.items c.in_ok-marks.marks.items c.requires.cells c.requires.rams c.requires.pins c.in_ok-marks.ensures)

pub links_by_tile-requires-clause-buffers : goal.links_by_tile-requires-clause-buffers
links_by_tile-requires-clause-buffers c =
    let db = c.args.db.now in
    subst (All IsLinkNear) (sym c.buffers-buffers.ensures.buffers) (links-near db.chip db.bits db.buffers c.buffers-buffers.ensures.fit.buffers)

pub links_by_tile-requires-clause-routings : goal.links_by_tile-requires-clause-routings
links_by_tile-requires-clause-routings c =
    let db = c.args.db.now in
    subst (All IsLinkNear) (sym c.routings-routings.ensures.routings) (links-near db.chip db.bits db.routings c.routings-routings.ensures.fit.routings)

pub returns : goal.returns
returns c =
    let all = c.args.all_pins in
    let kept = c.args.db.now in
    let db = database_in kept in
    let image = configuration_of c.args.image.now in
    let parts = c.args.parts.now in
    let reads = reads_in parts.links in
    let lists : List (List Mark) = lists_of c.in_ok-marks-2.marks.lists.items in
    let marks : c.deref.result.now ≡ marks_of all db image =
    c.deref.ensures.value ∙ marks-are all db image parts.cells.lcs.items parts.rams.items parts.pins.pins.items c.in_ok-marks.marks.items c.requires.cells c.requires.rams c.requires.pins c.in_ok-marks.ensures in
    let by_tile : AreByTile (marks_of all db image) lists = subst (λ (list : List Mark). AreByTile list lists) marks c.in_ok-marks-2.ensures in
    let counted : CountsLinks kept.buffers kept.routings parts.links c.in_ok-counts.counts.items =
    subst (λ (lines : List LinkLine). CountsLinks kept.buffers lines parts.links c.in_ok-counts.counts.items) c.routings-routings.ensures.routings
    (subst (λ (lines : List LinkLine). CountsLinks lines c.routings-routings.result.now parts.links c.in_ok-counts.counts.items) c.buffers-buffers.ensures.buffers c.in_ok-counts.ensures) in
    plan-is all db image c.device.result (map tile_in c.in_ok-tiles.field-0.items) c.in_ok-plls_of.field-0.items c.in_ok-global_marks.field-0.items reads
    c.device.ensures.device
    (c.in_ok-tiles.ensures ∙ ap₂ (λ device counts. tiles_by device lists counts) c.device-2.ensures.device c.deref-2.ensures.value
    ∙ tiles-are all db image parts.links kept.bits kept.buffers kept.routings refl refl c.requires.links lists c.in_ok-counts.counts.items by_tile counted)
    (c.in_ok-plls_of.ensures ∙ ap plls_of (c.deref-3.ensures.value ∙ c.requires.sources))
    (c.in_ok-global_marks.ensures ∙ ap (global_marks db reads) (c.deref-4.ensures.value ∙ c.requires.globals))
    (reads-are db image parts.links c.requires.links c.buffers-buffers.ensures.fit)
