use Rattle.std.proofs.Common.{◌≡◌, ℕ, ◌+◌, ◌-◌, ◌≤◌, List, Option, length, drop}
use Rattle.bin_stream.specs.inside.Stages.{IsReading}
use Rattle.bin_stream.proofs.reading.taking.take_commands.Given as goal

abbrev pub invariant-loop-machine : goal.invariant-loop-machine
invariant-loop-machine l = record {
  layouts : l.machine.layouts ≡ l.fn.machine.layouts;
  within : l.end ≤ length l.at.bytes.now;
  read : (all : List ℕ) (comment : Option (List (List ℕ))) → IsReading l.fn.machine.layouts all comment l.fn.machine.registers l.fn.machine.image l.at.offset l.at.bytes.now → IsReading l.fn.machine.layouts all comment l.machine.registers l.machine.image (l.at.offset + l.end) (drop l.end l.at.bytes.now);
}

abbrev pub decreases-loop-machine : goal.decreases-loop-machine
decreases-loop-machine l = length l.at.bytes.now - l.end
