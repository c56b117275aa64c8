use Rattle.std.proofs.Common.{ℕ, ◌<◌, get_or}
use Rattle.fabric_tests.proofs.tests.orders.is_row.Given as goal

abbrev pub invariant-loop-class : goal.invariant-loop-class
invariant-loop-class l = (place : ℕ) → place < l.class-index → get_or l.row place 0 < l.count
