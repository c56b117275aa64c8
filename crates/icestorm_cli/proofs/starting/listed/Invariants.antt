use Rattle.std.proofs.Common.{◌≡◌, ◌++◌}
use Rattle.std.specs.Vec.Iter.{into_iter_items}
use Rattle.icestorm_cli.proofs.starting.listed.Given as goal

abbrev pub invariant-loop-arg : goal.invariant-loop-arg
invariant-loop-arg l = into_iter_items l.fn.args ≡ l.list.items ++ into_iter_items l.arg-iterator
