use Rattle.std.proofs.Common.{◌≡◌, drop, slice_index}
use Rattle.bit_plane.specs.BitList.{word_of}
use Rattle.bit_plane.specs.Rows.{row_from}
use Rattle.ice_image.specs.Bits.{number_bit}
use Rattle.ice_image.proofs.columns.gathered_from.Given as goal

abbrev pub invariant-loop-col : goal.invariant-loop-col
invariant-loop-col l = l.gathered ≡ word_of (drop l.col (row_from 18 (λ col. number_bit l.run_bits (slice_index l.columns col))))
