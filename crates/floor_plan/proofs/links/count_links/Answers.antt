use Rattle.std.proofs.Common.{subst, sym}
use Rattle.std.specs.Prelude.{IfSome, Option}
use Rattle.chipdb_reader.specs.declared.items.LinkLine.{LinkLine}
use Rattle.floor_plan.specs.ByTile.{IsLinkNear}
use Rattle.floor_plan.proofs.ByTiles.{near-at, raises-next, raises-none}
use Rattle.floor_plan.proofs.links.count_links.Goals as goal

pub loop-place-init : goal.loop-place-init
loop-place-init c = raises-none c.args.links.now c.args.counts.now c.requires.all

pub count_link-requires-clause-near : goal.count_link-requires-clause-near
count_link-requires-clause-near c =
    subst (λ (link : Option LinkLine). IfSome link IsLinkNear) (sym c.link_at.ensures) (near-at c.args.links.now c.requires.near _)

pub loop-place-preserved : goal.loop-place-preserved
loop-place-preserved c =
    raises-next c.args.links.now c.args.places.now c.loop-place.place-index _ c.link_at.result c.args.counts.now c.loop-place.counts c.count_link.new.counts c.requires.near c.loop-place-test.true
    c.loop-place.invariant c.link_at.ensures c.in_ok-count_link.ensures
