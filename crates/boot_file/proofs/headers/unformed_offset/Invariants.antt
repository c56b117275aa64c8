use Rattle.std.proofs.Common.{◌≡◌, ◌<◌, ℕ, true}
use Rattle.boot_file.specs.Headers.{is_formed}
use Rattle.boot_file.proofs.headers.unformed_offset.Given as goal

abbrev pub invariant-loop-offset : goal.invariant-loop-offset
invariant-loop-offset l = (k : ℕ) → k < l.offset → is_formed l.bytes k ≡ true
