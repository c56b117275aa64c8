use Rattle.std.proofs.Common.{[], ◌∙◌}
use Rattle.std.specs.Prelude.{find}
use Rattle.chipdb_reader.specs.Kept.{database_in}
use Rattle.plan_marks.proofs.Gathered.{gathered-more, gathered-none}
use Rattle.floor_plan.specs.ByTile.{reads_in}
use Rattle.floor_plan.specs.Plans.{is_global_read, is_of, mark_by}
use Rattle.floor_plan.proofs.globals.global_marks.Goals as goal

pub loop-g-init : goal.loop-g-init
loop-g-init c = c.new-marks.ensures.items ∙ gathered-none [] _

pub loop-g-preserved : goal.loop-g-preserved
loop-g-preserved c =
    let db = database_in c.args.db.now in
    let reads = reads_in c.args.links.now in
    gathered-more [] c.loop-g.marks.items _ c.loop-g.g (λ g. mark_by db g (is_global_read reads c.args.nets.now g) (find (is_of g) c.args.nets.now)) c.loop-g.invariant c.in_ok-push_mark.ensures
