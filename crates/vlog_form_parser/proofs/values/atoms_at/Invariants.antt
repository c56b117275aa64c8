use Rattle.std.proofs.Common.{◌≡◌, ◌≤◌, ◌++◌, reverse}
use Rattle.vlog_forms.specs.Items.{atoms_in, following}
use Rattle.vlog_forms.specs.Reading.{values_of}
use Rattle.vlog_form_parser.specs.Found.{all_found}
use Rattle.vlog_form_parser.proofs.values.atoms_at.Given as goal

abbrev pub invariant-loop-left : goal.invariant-loop-left
invariant-loop-left l = record {
  within : l.left ≤ l.count;
  rest : l.atoms ++ reverse (atoms_in l.left (following l.place (values_of (all_found l.values)))) ≡ reverse (atoms_in l.count (following l.place (values_of (all_found l.values))));
}

abbrev pub decreases-loop-left : goal.decreases-loop-left
decreases-loop-left l = l.left
