use Rattle.std.proofs.Common.{◌≡◌, take}
use Rattle.std.specs.List.{flat_map}
use Rattle.ice_image.specs.Either.{configuration_of}
use Rattle.chipdb_reader.specs.Kept.{database_in}
use Rattle.fabric_model.specs.Numbered.{numbered}
use Rattle.fabric_parts.specs.PinRecords.{tile_pins}
use Rattle.fabric_parts.proofs.io.records.pin_records.Given as goal

abbrev pub invariant-loop-i : goal.invariant-loop-i
invariant-loop-i l = l.pins.items ≡ flat_map (tile_pins l.all_pins (database_in l.db) (configuration_of l.image)) (numbered (take l.i l.tiles))
