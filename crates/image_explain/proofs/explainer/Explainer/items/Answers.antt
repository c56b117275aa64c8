use Rattle.std.proofs.Common.{◌∙◌}
use Rattle.ice_image.specs.Either.{configuration_of}
use Rattle.image_explain.specs.Items.{on_links}
use Rattle.image_explain.proofs.TileKinds.{x-below, y-below}
use Rattle.image_explain.proofs.explainer.Explainer.items.Goals as goal

pub items_of_tile-requires-clause-buffers : goal.items_of_tile-requires-clause-buffers
unfolding on_links
items_of_tile-requires-clause-buffers c =
    let device = (configuration_of c.args.image.now).layout.device in
    c.at-buffers.ensures ∙ c.requires.explains.buffers.places c.args.at.x c.args.at.y (x-below device _ _ c.args.at.kind c.requires.tile) (y-below device _ _ c.args.at.kind c.requires.tile)

pub items_of_tile-requires-clause-routings : goal.items_of_tile-requires-clause-routings
unfolding on_links
items_of_tile-requires-clause-routings c =
    let device = (configuration_of c.args.image.now).layout.device in
    c.at-routings.ensures ∙ c.requires.explains.routings.places c.args.at.x c.args.at.y (x-below device _ _ c.args.at.kind c.requires.tile) (y-below device _ _ c.args.at.kind c.requires.tile)
