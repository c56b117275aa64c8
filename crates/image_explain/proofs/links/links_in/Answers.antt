use Rattle.std.proofs.Common.{[], ◌∷◌, sym, ap, ◌∙◌}
use Rattle.std.specs.Prelude.{if◌then◌else◌, slice_get}
use Rattle.ice_image.specs.Either.{configuration_of}
use Rattle.chipdb_reader.specs.Fit.{IsLink}
use Rattle.chipdb_reader.specs.Kept.{link_line, link_lines}
use Rattle.image_explain.specs.Items.{link_here}
use Rattle.image_explain.proofs.Gathered.{all-at, gathered-step, line-at}
use Rattle.image_explain.proofs.links.links_in.Goals as goal

pub is_on_at-is_on-requires-clause-fit : goal.is_on_at-is_on-requires-clause-fit
is_on_at-is_on-requires-clause-fit c = all-at (IsLink c.args.db.now.chip) (link_line c.args.db.now.bits) c.args.links.now c.loop-index.index _ c.requires.fit c.loop-index-test.true

pub loop-index-preserved : goal.loop-index-preserved
loop-index-preserved c =
    gathered-step c.loop-index.index (λ place. link_here (configuration_of c.args.image.now) c.args.x c.args.y place (slice_get (link_lines c.args.db.now.bits c.args.links.now) place)) c.loop-index.places.items c.push_where.new.places.items _ c.loop-index.invariant c.in_ok-push_where.ensures
    (ap (λ on. if on then c.loop-index.index ∷ [] else []) c.is_on_at-is_on.ensures ∙ sym (ap (link_here (configuration_of c.args.image.now) c.args.x c.args.y c.loop-index.index) (line-at (link_line c.args.db.now.bits) c.args.links.now c.loop-index.index _ c.loop-index-test.true)))
