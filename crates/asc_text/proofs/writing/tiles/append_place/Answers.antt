use Rattle.std.proofs.Common.{◌≡◌, Some, None}
use Rattle.std.proofs.lemmas.Result.{on_ok_weaker}
use Rattle.plane_map.specs.Layout.{kind_of}
use Rattle.plane_map.specs.declared.tile.TileKind.TheVariants.{RamB}
use Rattle.ice_image.specs.Either.{configuration_of, device_of}
use Rattle.asc_text.proofs.Pieces.{none-written, ram_tile-written}
use Rattle.asc_text.proofs.writing.tiles.append_place.Goals as goal

pub returns-in-None-clause-text : goal.returns-in-None-clause-text
returns-in-None-clause-text c =
    none-written (configuration_of c.args.image.now) c.args.x c.args.y c.args.text.now.items (let there : kind_of (device_of c.args.image.now) c.args.x c.args.y ≡ None = cc in there)

pub returns-in_ok-append_tile-in-Some-RamB-clause-text : goal.returns-in_ok-append_tile-in-Some-RamB-clause-text
returns-in_ok-append_tile-in-Some-RamB-clause-text c =
    on_ok_weaker c.append_ram.result (λ ram. ram_tile-written (configuration_of c.args.image.now) c.args.x c.args.y c.args.text.now.items c.append_tile.new.text.items c.append_ram.new.text.items (let there : kind_of (device_of c.args.image.now) c.args.x c.args.y ≡ Some RamB = cc in there) c.in_ok-append_tile-in-Some-RamB.ensures.text ram) c.append_ram.ensures.text
