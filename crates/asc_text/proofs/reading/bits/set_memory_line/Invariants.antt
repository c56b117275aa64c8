use Rattle.std.specs.Prelude.{◌≡◌}
use Rattle.ice_image.specs.Either.{configuration_of, device_of}
use Rattle.ice_image.specs.Bits.{Gains}
use Rattle.asc_text.specs.inside.Gains.{bytes_set_below}
use Rattle.asc_text.proofs.reading.bits.set_memory_line.Given as goal

abbrev pub invariant-loop-index : goal.invariant-loop-index
invariant-loop-index l = (device_of l.image ≡ device_of l.initial.image)
    × Gains (bytes_set_below l.x l.y l.row l.bytes l.index) (configuration_of l.initial.image) (configuration_of l.image)
