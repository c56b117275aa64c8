use Rattle.std.proofs.Common.{◌≡◌, ◌*◌, take}
use Rattle.bit_plane.specs.BitList.{bits_of}
use Rattle.bin_stream.specs.inside.Register.{entered_all}
use Rattle.bin_stream.proofs.check_value.enter_pairs.Given as goal

abbrev pub invariant-loop-pair : goal.invariant-loop-pair
invariant-loop-pair l = l.value ≡ entered_all l.initial.value (bits_of (take (2 * l.pair) l.bytes))
