use Rattle.std.proofs.Common.{◌≡◌, ◌<◌, ℕ, false}
use Rattle.fabric_model.specs.ClockLuts.{is_open_otherwise}
use Rattle.fabric_model.specs.ClockPasses.{value_by}
use Rattle.fabric_model.proofs.clock_lut.is_at_open.Given as goal

abbrev pub ghost-is_open_otherwise : goal.ghost-is_open_otherwise
ghost-is_open_otherwise g a = g.connected

abbrev pub invariant-loop-n : goal.invariant-loop-n
invariant-loop-n g l = (number : ℕ) → number < l.n → is_open_otherwise g.connected l.table (value_by l.turned l.input) number ≡ false
