use Rattle.std.proofs.Common.{◌≡◌, false, map, take}
use Rattle.std.specs.Prelude.{All}
use Rattle.vlog_module.specs.Parts.{Parts}
use Rattle.vlog_semantics.specs.Run.{start}
use Rattle.vlog_run.specs.Text.{entry_line}
use Rattle.vlog_sweep.specs.Strands.{Stands}
use Rattle.vlog_sweep.proofs.beginning.begin.Given as goal

abbrev pub invariant-loop-list : goal.invariant-loop-list
invariant-loop-list l = record {
  stands : (m : Parts) → l.line ≡ entry_line false (start m) → Stands m l.line l.strands.items l.text.items;
  lists : map (λ strand. strand.list.now) l.strands.items ≡ take l.list-index l.lists;
  taken : All (λ strand. strand.taken ≡ 0) l.strands.items;
}
