use Rattle.std.proofs.Common.{◌≡◌, ℕ, ◌*◌, ◌<◌, ◌≤◌, false, get_or}
use Rattle.bram_replace.proofs.ram.changes.Given as goal

abbrev pub invariant-loop-place : goal.invariant-loop-place
invariant-loop-place l = (place : ℕ) → 256 * l.row ≤ place → place < l.place → get_or l.old place false ≡ get_or l.new place false
