use Rattle.std.proofs.Common.{◌∙◌}
use Rattle.bit_plane.specs.BitList.{bits_of}
use Rattle.bin_stream.proofs.Powers.{entered_all-from_start}
use Rattle.bin_stream.proofs.check_value.check_value.Goals as goal

pub returns : goal.returns
returns c = c.enter_bytes.ensures ∙ entered_all-from_start (bits_of c.args.bytes.now)
