use Rattle.std.proofs.Common.{flat_map, take}
use Rattle.vlog_engine.specs.Groups.{EachGets, event_of}
use Rattle.vlog_engine.proofs.groups.add_all.Given as goal

abbrev pub invariant-loop-item : goal.invariant-loop-item
invariant-loop-item g l =
    let T = g.T.Clocked in
    EachGets T.Grows (λ pin. flat_map (T.given (event_of pin l.bit) l.first l.bits l.words l.roots) (take l.item-index l.items)) l.initial.groups.items l.groups.items
