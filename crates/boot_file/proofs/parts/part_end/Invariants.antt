use Rattle.boot_file.proofs.Ends.{IsEnd}
use Rattle.boot_file.proofs.parts.part_end.Given as goal

abbrev pub invariant-loop-entry : goal.invariant-loop-entry
invariant-loop-entry l = IsEnd l.bytes l.address l.entry l.end
