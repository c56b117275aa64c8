use Rattle.std.proofs.Common.{◌≡◌, ◌-◌, ◌≤◌, ◌++◌, length, take}
use Rattle.name_arena.proofs.chunk.write_all.Given as goal

-- the first bytes are written, in the same memory
abbrev pub invariant-loop-done : goal.invariant-loop-done
invariant-loop-done l =
    (l.done ≤ length l.bytes) × (l.memory.bytes ≡ l.fn.memory.bytes ++ take l.done l.bytes) × (l.memory.at ≡ l.fn.memory.at) × (l.memory.room ≡ l.fn.memory.room) × (l.start.ptr ≡ l.fn.memory.at)

abbrev pub decreases-loop-done : goal.decreases-loop-done
decreases-loop-done l = length l.bytes - l.done
