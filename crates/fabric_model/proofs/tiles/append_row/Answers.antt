use Rattle.fabric_model.proofs.tiles.append_row.Goals as goal
use Rattle.index_search.proofs.Gathered.{appended-none, appended-more}

pub loop-x-init : goal.loop-x-init
loop-x-init c = appended-none _ _

pub loop-x-preserved : goal.loop-x-preserved
loop-x-preserved c = appended-more _ _ _ _ _ c.loop-x.invariant c.in_ok-append_place.ensures
