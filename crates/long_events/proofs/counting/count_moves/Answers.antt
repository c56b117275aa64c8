use Rattle.std.proofs.Common.{◌≡◌, ◌+◌, ◌-◌, drop, subst, arith, List}
use Rattle.long_events.specs.declared.step.Step.{Step}
use Rattle.long_events.specs.inside.Counting.{Tallies}
use Rattle.long_events.proofs.Counts.{taken-room, tallies-all}
use Rattle.long_events.proofs.counting.count_moves.Goals as goal

pub take-requires-clause-room : goal.take-requires-clause-room
take-requires-clause-room c =
    let steps : List Step = c.args.steps.now in
    let place = c.loop-place.place - 1 in
    let more : c.loop-place.place ≡ place + 1 = omega (arith, c.loop-place-test.true) in
    taken-room c.loop-place.tally steps place _ c.requires (omega (arith, c.loop-place-test.true, c.loop-place.invariant.within))
    (subst (λ n. Tallies c.loop-place.tally (drop n steps)) more c.loop-place.invariant.tallies)

pub returns : goal.returns
returns c =
    let steps : List Step = c.args.steps.now in
    let first : c.loop-place.place ≡ 0 = omega (arith, c.loop-place-test.false) in
    tallies-all c.loop-place.tally steps c.requires (subst (λ n. Tallies c.loop-place.tally (drop n steps)) first c.loop-place.invariant.tallies)
