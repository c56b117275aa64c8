use Rattle.std.proofs.Common.{◌≡◌, ◌≤◌, ◌++◌, map, take, reverse, length}
use Rattle.vlog_forms.specs.Values.Value.{AnAtom}
use Rattle.vlog_print.specs.Rest.{all_seen}
use Rattle.vlog_print.proofs.values.push_atoms.Given as goal

abbrev pub invariant-loop-place : goal.invariant-loop-place
invariant-loop-place l = record {
  within : l.place ≤ length l.atoms;
  rest : all_seen l.values.items ++ map AnAtom (reverse (take l.place l.atoms)) ≡ all_seen l.initial.values.items ++ map AnAtom (reverse l.atoms);
}

abbrev pub decreases-loop-place : goal.decreases-loop-place
decreases-loop-place l = l.place
