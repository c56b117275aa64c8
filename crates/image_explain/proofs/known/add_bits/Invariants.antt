use Rattle.std.proofs.Common.{take}
use Rattle.std.specs.List.{list_any}
use Rattle.image_explain.specs.Inside.{Adds}
use Rattle.image_explain.specs.Items.{is_bit}
use Rattle.image_explain.proofs.known.add_bits.Given as goal

abbrev pub invariant-loop-bit : goal.invariant-loop-bit
invariant-loop-bit l = Adds (λ row col. list_any (is_bit row col) (take l.bit-index l.bits)) l.initial.known l.known
