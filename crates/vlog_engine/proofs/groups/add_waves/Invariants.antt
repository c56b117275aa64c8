use Rattle.std.proofs.Common.{flat_map, take}
use Rattle.vlog_engine.proofs.groups.add_waves.Given as goal

abbrev pub invariant-loop-item : goal.invariant-loop-item
invariant-loop-item g l =
    let T = g.T.Clocked in
    T.Grows l.initial.group (flat_map (T.waved l.from l.end l.end l.bits l.words l.roots) (take l.item-index l.items)) l.group
