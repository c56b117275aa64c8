use Rattle.std.proofs.Common.{◌≡◌, ◌<◌, ◌==◌, ℕ, false}
use Rattle.boot_file.specs.Headers.{entry_address}
use Rattle.boot_file.proofs.headers.is_named.Given as goal

abbrev pub invariant-loop-entry : goal.invariant-loop-entry
invariant-loop-entry l = (k : ℕ) → k < l.entry → (entry_address l.bytes k == l.address) ≡ false
