use Rattle.std.proofs.Common.{◌≡◌, drop}
use Rattle.bit_plane.specs.BitList.{word_of}
use Rattle.bit_plane.specs.Rows.{row_from}
use Rattle.ice_image.specs.Either.{configuration_of}
use Rattle.chipdb_reader.specs.Kept.{database_in}
use Rattle.fabric_model.specs.PinTypes.{pintype_bit}
use Rattle.fabric_parts.proofs.io.pintype.pintype.Given as goal

abbrev pub invariant-loop-k : goal.invariant-loop-k
invariant-loop-k l = l.pintype ≡ word_of (drop l.k (row_from 6 (pintype_bit (database_in l.db) (configuration_of l.image) l.x l.y l.n)))
