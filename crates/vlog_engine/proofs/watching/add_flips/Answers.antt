use Rattle.std.proofs.Common.{◌+◌, ◌∷◌, [], arith, map, subst, sym, take}
use Rattle.std.proofs.lemmas.List.{length-map, length-take, map_more}
use Rattle.vlog_engine.specs.Flips.{flip_gate, flip_in, no_flip}
use Rattle.vlog_engine.specs.Watching.{AddsWires}
use Rattle.vlog_engine.proofs.Placed.{wires-more, wires-one}
use Rattle.vlog_engine.proofs.watching.add_flips.Goals as goal

pub loop-place-preserved : goal.loop-place-preserved
loop-place-preserved c =
    let first = c.args.first in
    let flips = c.args.flips.now in
    let i = c.loop-place.place in
    let old = c.args.readers.now.items in
    let middle = c.loop-place.readers.items in
    let new = c.add_flip.new.readers.items in
    subst (λ wires. AddsWires first wires old new) (sym (map_more flip_gate flips i no_flip c.loop-place-test.true))
    (wires-more first (first + i) (map flip_gate (take i flips)) (flip_gate (flip_in flips i) ∷ []) old middle new
    (omega (arith, length-map (take i flips) flip_gate, length-take i flips, c.loop-place-test.true))
    c.loop-place.invariant (wires-one (first + i) (flip_in flips i) middle new c.in_ok-add_flip.ensures))
