use Rattle.std.proofs.Common.{◌≡◌, ℕ, ◌<◌, false}
use Rattle.bin_stream.specs.Front.{is_preamble_at}
use Rattle.tool_inputs.proofs.image.has_preamble.Given as goal

abbrev pub invariant-loop-offset : goal.invariant-loop-offset
invariant-loop-offset l = (k : ℕ) → k < l.offset → is_preamble_at l.bytes k ≡ false
