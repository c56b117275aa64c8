use Rattle.std.proofs.Common.{◌≡◌, ◌+◌, ◌*◌, length}
use Rattle.vlog_semantics.proofs.gates.cells_room.Given as goal

abbrev pub invariant-loop-word : goal.invariant-loop-word
invariant-loop-word l = length l.cells.items ≡ length l.bits + 16 * l.word-index
