use Rattle.std.proofs.Common.{arith, refl}
use Rattle.vlog_engine.proofs.Placed.{all-apart}
use Rattle.vlog_engine.proofs.watching.are_apart.Goals as goal

pub returns : goal.returns
returns c = (λ on. all-apart c.args.flips.now (λ k inside. c.loop-place.invariant k (omega (arith, inside, c.loop-place-test.false))), λ apart. refl)
