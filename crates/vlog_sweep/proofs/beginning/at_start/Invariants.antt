use Rattle.std.proofs.Common.{◌≡◌, map, take}
use Rattle.std.specs.Prelude.{All}
use Rattle.vlog_sweep.proofs.beginning.at_start.Given as goal

abbrev pub invariant-loop-list : goal.invariant-loop-list
invariant-loop-list l = record {
  lists : map (λ strand. strand.list.now) l.strands.items ≡ take l.list-index l.lists;
  taken : All (λ strand. strand.taken ≡ 0) l.strands.items;
}
