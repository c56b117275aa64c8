use Rattle.std.proofs.Common.{◌<◌, arith}
use Rattle.image_explain.proofs.TileKinds.{x-below, y-below}
use Rattle.image_explain.proofs.links.add_if_on.Goals as goal

pub add-requires : goal.add-requires
add-requires c =
    let x_in : c.args.link.x < 64 = x-below c.args.db.now.chip.device c.args.link.x c.args.link.y c.requires.fit.kind c.requires.fit.tile in
    let y_in : c.args.link.y < 64 = y-below c.args.db.now.chip.device c.args.link.x c.args.link.y c.requires.fit.kind c.requires.fit.tile in
    omega arith
