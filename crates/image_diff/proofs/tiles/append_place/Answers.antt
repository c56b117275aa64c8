use Rattle.std.proofs.Common.{◌≡◌, [], Some, None, ap, sym, ◌∙◌}
use Rattle.std.specs.Prelude.{if◌then◌else◌}
use Rattle.plane_map.specs.Layout.{kind_of}
use Rattle.ice_image.specs.Either.{configuration_of}
use Rattle.asc_text.proofs.Pieces.{nothing-written}
use Rattle.chipdb_reader.specs.Kept.{database_in}
use Rattle.image_diff.specs.Differences.{changes_at, tile_changes}
use Rattle.image_diff.proofs.tiles.append_place.Goals as goal

pub returns-in-None : goal.returns-in-None
returns-in-None c =
    let database = database_in c.args.db.now in
    let first = configuration_of c.args.first.now in
    let second = configuration_of c.args.second.now in
    let none : kind_of first.layout.device c.args.x c.args.y ≡ None = cc (c.in-None.ensures.kind, c.device.ensures.device, c.from.ensures, c.from-2.ensures) in
    nothing-written c.args.text.now.items (changes_at database first second c.args.x c.args.y (kind_of first.layout.device c.args.x c.args.y)) (ap (changes_at database first second c.args.x c.args.y) none)

pub returns-else-is_other_tile : goal.returns-else-is_other_tile
returns-else-is_other_tile c =
    let database = database_in c.args.db.now in
    let first = configuration_of c.args.first.now in
    let second = configuration_of c.args.second.now in
    let there : kind_of first.layout.device c.args.x c.args.y ≡ Some c.in-Some.kind = cc (c.in-Some.ensures.kind, c.device.ensures.device, c.from.ensures, c.from-2.ensures) in
    nothing-written c.args.text.now.items (changes_at database first second c.args.x c.args.y (kind_of first.layout.device c.args.x c.args.y))
    (ap (changes_at database first second c.args.x c.args.y) there ∙ ap (λ other. if other then tile_changes database first second c.args.x c.args.y c.in-Some.kind else []) (sym c.is_other_tile.ensures ∙ c.if-is_other_tile.false))
