use Rattle.std.proofs.Common.{◌≡◌, [], Some, None, ap, sym, ◌∙◌}
use Rattle.std.specs.Prelude.{if◌then◌else◌}
use Rattle.plane_map.specs.Layout.{kind_of}
use Rattle.ice_image.specs.Either.{configuration_of}
use Rattle.asc_text.proofs.Pieces.{nothing-written}
use Rattle.chipdb_reader.specs.Kept.{database_in}
use Rattle.image_explain.specs.Explained.{set_tile_lines, tile_lines}
use Rattle.image_explain.proofs.explaining.append_place.Goals as goal

pub returns-in-None : goal.returns-in-None
returns-in-None c =
    let none : kind_of (configuration_of c.args.image.now).layout.device c.args.x c.args.y ≡ None = cc (c.in-None.ensures.kind, c.device.ensures.device, c.from.ensures, c.from-2.ensures) in
    nothing-written c.args.text.now.items (set_tile_lines (database_in c.args.db.now) (configuration_of c.args.image.now) c.args.x c.args.y (kind_of (configuration_of c.args.image.now).layout.device c.args.x c.args.y)) (ap (set_tile_lines (database_in c.args.db.now) (configuration_of c.args.image.now) c.args.x c.args.y) none)

pub returns-else-is_set_tile : goal.returns-else-is_set_tile
returns-else-is_set_tile c =
    let database = database_in c.args.db.now in
    let image = configuration_of c.args.image.now in
    let there : kind_of image.layout.device c.args.x c.args.y ≡ Some c.in-Some.kind = cc (c.in-Some.ensures.kind, c.device.ensures.device, c.from.ensures, c.from-2.ensures) in
    nothing-written c.args.text.now.items (set_tile_lines database image c.args.x c.args.y (kind_of image.layout.device c.args.x c.args.y))
    (ap (set_tile_lines database image c.args.x c.args.y) there ∙ ap (λ set. if set then tile_lines database image c.args.x c.args.y c.in-Some.kind else []) (sym c.is_set_tile.ensures ∙ c.if-is_set_tile.false))
