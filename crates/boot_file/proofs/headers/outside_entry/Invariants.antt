use Rattle.std.proofs.Common.{◌≡◌, ◌<◌, ℕ, true}
use Rattle.boot_file.specs.Headers.{entry_address, is_within}
use Rattle.boot_file.proofs.headers.outside_entry.Given as goal

abbrev pub invariant-loop-entry : goal.invariant-loop-entry
invariant-loop-entry l = (k : ℕ) → k < l.entry → is_within l.bytes (entry_address l.bytes k) ≡ true
