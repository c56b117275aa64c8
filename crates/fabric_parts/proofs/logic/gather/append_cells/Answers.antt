use Rattle.std.proofs.Common.{◌≡◌, ◌++◌, arith, ap, ◌∙◌}
use Rattle.index_search.proofs.Gathered.{appended-none, appended-more}
use Rattle.index_search.specs.Places.{gathered_below}
use Rattle.ice_image.specs.Either.{configuration_of}
use Rattle.chipdb_reader.specs.Kept.{database_in}
use Rattle.fabric_model.specs.Cells.{cells_at, used_cell}
use Rattle.fabric_parts.proofs.logic.gather.append_cells.Goals as goal

pub loop-i-init : goal.loop-i-init
loop-i-init c = appended-none _ _

pub loop-i-preserved : goal.loop-i-preserved
loop-i-preserved c = appended-more _ _ _ _ _ c.loop-i.invariant c.in_ok-append_cell.ensures

pub returns : goal.returns
unfolding cells_at
returns c =
    let all : c.loop-i.i ≡ 8 = omega arith in
    let given = used_cell (database_in c.args.db.now) (configuration_of c.args.image.now) c.args.x c.args.y in
    c.loop-i.invariant ∙ ap (λ n. c.args.lcs.now.items ++ gathered_below n given) all
