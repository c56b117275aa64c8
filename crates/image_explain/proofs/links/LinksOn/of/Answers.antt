use Rattle.ice_image.specs.Either.{configuration_of}
use Rattle.chipdb_reader.specs.Fit.{IsLink}
use Rattle.chipdb_reader.specs.Kept.{link_line, link_lines}
use Rattle.image_explain.specs.Inside.{lists_of}
use Rattle.image_explain.proofs.Gathered.{all-at, line-at}
use Rattle.image_explain.proofs.TileKinds.{x-below, y-below}
use Rattle.image_explain.proofs.Lists.{AreLists-more, AreLists-none}
use Rattle.image_explain.proofs.links.LinksOn.of.Goals as goal

pub loop-index-init : goal.loop-index-init
loop-index-init c = AreLists-none (configuration_of c.args.image.now) (link_lines c.args.db.now.bits c.args.links.now) _ c.in_ok-lists.ensures

pub add_if_on-requires-clause-fit : goal.add_if_on-requires-clause-fit
add_if_on-requires-clause-fit c = all-at (IsLink c.args.db.now.chip) (link_line c.args.db.now.bits) c.args.links.now c.loop-index.index _ c.requires.fit c.loop-index-test.true

pub loop-index-preserved : goal.loop-index-preserved
loop-index-preserved c =
    let fit = all-at (IsLink c.args.db.now.chip) (link_line c.args.db.now.bits) c.args.links.now c.loop-index.index (record { x = 0; y = 0; dst = 0; src = 0; bits = record { place = 0 }; values = 0 }) c.requires.fit c.loop-index-test.true in
    AreLists-more (configuration_of c.args.image.now) (link_lines c.args.db.now.bits c.args.links.now) c.loop-index.index (lists_of c.loop-index.lists.items) (lists_of c.add_if_on.new.lists.items) _
    (line-at (link_line c.args.db.now.bits) c.args.links.now c.loop-index.index _ c.loop-index-test.true)
    (x-below c.args.db.now.chip.device _ _ fit.kind fit.tile) (y-below c.args.db.now.chip.device _ _ fit.kind fit.tile) c.loop-index.invariant c.in_ok-add_if_on.ensures
