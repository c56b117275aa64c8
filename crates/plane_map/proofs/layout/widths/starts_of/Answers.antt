use Rattle.std.proofs.Common.{[], refl, ◌∙◌, ◌+◌, arith}
use Rattle.std.proofs.lemmas.List.{length-set}
use Rattle.plane_map.proofs.Starts.{start_in-room, starts-none, starts-more, starts-all}
use Rattle.plane_map.proofs.layout.widths.starts_of.Goals as goal

pub overflow_add-start : goal.overflow_add-start
overflow_add-start c = omega (arith, start_in-room c.args.widths.now c.loop-distance.distance 17 (omega arith), c.loop-distance.invariant.0, c.requires)

pub loop-distance-init : goal.loop-distance-init
loop-distance-init c = let none = starts-none c.args.widths.now [] in (none.0, none.1, refl)

pub loop-distance-preserved : goal.loop-distance-preserved
loop-distance-preserved c =
    let more = starts-more c.args.widths.now c.loop-distance.starts c.loop-distance.distance c.loop-distance.start (c.loop-distance.distance + 1) (omega arith) (omega (arith, c.loop-distance.invariant.2)) c.loop-distance.invariant.0 c.loop-distance.invariant.1 in
    (more.0, more.1, length-set c.loop-distance.starts c.loop-distance.distance c.loop-distance.start ∙ c.loop-distance.invariant.2)

pub returns : goal.returns
returns c = starts-all c.args.widths.now c.loop-distance.starts 17 c.loop-distance.distance c.loop-distance.invariant.2 (omega arith) c.loop-distance.invariant.1
