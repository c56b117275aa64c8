use Rattle.std.proofs.Common.{◌≡◌, ◌*◌, take}
use Rattle.bit_plane.specs.BitList.{bits_of}
use Rattle.bin_stream.specs.inside.Register.{entered_all}
use Rattle.bin_stream.proofs.check_value.enter_eights.Given as goal

abbrev pub invariant-loop-index : goal.invariant-loop-index
invariant-loop-index l = l.value ≡ entered_all l.initial.value (bits_of (take (8 * l.index) l.bytes))
