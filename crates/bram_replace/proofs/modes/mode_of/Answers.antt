use Rattle.std.proofs.Common.{arith}
use Rattle.plane_map.specs.declared.tile.TileKind.TheVariants.{RamB}
use Rattle.ice_image.specs.Either.{device_of}
use Rattle.asc_text.proofs.Refusals.{in_grid}
use Rattle.bram_replace.proofs.modes.mode_of.Goals as goal

pub overflow_cast-ram : goal.overflow_cast-ram
overflow_cast-ram c =
    let ram = c.ram_named-ram.result in
    omega (arith, (in_grid (device_of c.args.image.now) ram.x ram.y RamB (c.requires.there ram c.ram_named-ram.ensures)).0)

pub overflow_cast-ram-in-Followed : goal.overflow_cast-ram-in-Followed
overflow_cast-ram-in-Followed c =
    let ram = c.ram_named-ram.result in
    omega (arith, (in_grid (device_of c.args.image.now) ram.x ram.y RamB (c.requires.there ram c.ram_named-ram.ensures)).1)
