use Rattle.std.proofs.Common.{sym, ◌∙◌}
use Rattle.ice_image.specs.Either.{configuration_of}
use Rattle.asc_text.proofs.Pieces.{nothing-written}
use Rattle.chipdb_reader.specs.Kept.{database_in}
use Rattle.image_diff.specs.Differences.{all_tile_changes}
use Rattle.image_diff.proofs.OtherTiles.{no-other-tile}
use Rattle.image_diff.proofs.tiles.append_tiles.Goals as goal

pub returns-then-not-has_other_tile : goal.returns-then-not-has_other_tile
returns-then-not-has_other_tile c =
    let database = database_in c.args.db.now in
    let first = configuration_of c.args.first.now in
    let second = configuration_of c.args.second.now in
    nothing-written c.args.text.now.items (all_tile_changes database first second)
    (no-other-tile database first second (sym c.has_other_tile.ensures ∙ c.if-not-has_other_tile.true))
