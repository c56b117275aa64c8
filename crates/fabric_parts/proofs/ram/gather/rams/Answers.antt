use Rattle.std.proofs.Common.{◌<◌, List, sym, ◌∙◌, subst}
use Rattle.std.specs.Prelude.{All}
use Rattle.std.proofs.lemmas.List.Elements.{All-filter}
use Rattle.ice_image.specs.Either.{configuration_of}
use Rattle.chipdb_reader.specs.Kept.{database_in}
use Rattle.chipdb_reader.specs.declared.items.TileXy8.{TileXy8}
use Rattle.fabric_model.specs.Rams.{is_ram_used}
use Rattle.fabric_parts.specs.Rams.{HasRam}
use Rattle.fabric_parts.proofs.Upper.{have_rams}
use Rattle.fabric_parts.proofs.ram.gather.rams.Goals as goal

pub used_rams-requires-clause-upper : goal.used_rams-requires-clause-upper
used_rams-requires-clause-upper c =
    let Each : List TileXy8 → Type 0 = λ tiles. All (λ tile. tile.y < 255) tiles in
    let rams = have_rams c.args.image.now c.in_ok-tiles.tiles.items c.in_ok-tiles.ensures.each in
    subst Each (sym c.deref.ensures.value) (λ k d inside. (rams k d inside).room)

pub rams_at-requires-clause-each : goal.rams_at-requires-clause-each
rams_at-requires-clause-each c =
    let Each : List TileXy8 → Type 0 = λ tiles. All (λ tile. HasRam c.args.image.now tile.x tile.y) tiles in
    let passes = λ (tile : TileXy8). is_ram_used (database_in c.args.db.now) (configuration_of c.args.image.now) tile.x tile.y in
    let rams = have_rams c.args.image.now c.in_ok-tiles.tiles.items c.in_ok-tiles.ensures.each in
    let here = subst Each (sym c.deref.ensures.value) rams in
    subst Each (sym (c.deref-2.ensures.value ∙ c.in_ok-used.ensures))
    (All-filter passes (λ (tile : TileXy8). HasRam c.args.image.now tile.x tile.y) c.deref.result.now here)
