use Rattle.std.proofs.Common.{◌≡◌, ◌<◌, ◌≤◌, ℕ, Bool, List, fold, take}
use Rattle.vlog_semantics.specs.Steps.{settle_slot}
use Rattle.vlog_engine.specs.Changes.{change_slot, step_in}
use Rattle.vlog_engine.specs.Lanes.{lane_bits}
use Rattle.vlog_engine.proofs.changes.note_settles.Given as goal

abbrev pub invariant-loop-settle : goal.invariant-loop-settle
invariant-loop-settle g l = record {
  count : l.count ≤ l.settle-index;
  noted : (lane : ℕ) (next : List Bool) → lane < g.V.Value.LANES → fold (change_slot g.V.Value.at lane) next (take l.count l.changes)
      ≡ fold (step_in (g.V.Value.at l.active lane) (settle_slot (lane_bits g.V.Value.at lane l.cells))) next (take l.settle-index l.settles);
}
