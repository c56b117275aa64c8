use Rattle.std.proofs.Common.{◌≡◌}
use Rattle.std.specs.Prelude.{find}
use Rattle.index_search.specs.Places.{gathered_below}
use Rattle.chipdb_reader.specs.Kept.{database_in}
use Rattle.floor_plan.specs.ByTile.{reads_in}
use Rattle.floor_plan.specs.Plans.{is_global_read, is_of, mark_by}
use Rattle.floor_plan.proofs.globals.global_marks.Given as goal

abbrev pub invariant-loop-g : goal.invariant-loop-g
invariant-loop-g l =
    l.marks.items ≡ gathered_below l.g (λ g. mark_by (database_in l.db) g (is_global_read (reads_in l.links) l.nets g) (find (is_of g) l.nets))
