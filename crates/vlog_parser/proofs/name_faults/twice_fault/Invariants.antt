use Rattle.std.proofs.Common.{◌≡◌, [], drop}
use Rattle.vlog_forms.specs.Outcome.{twice_fault}
use Rattle.vlog_form_parser.specs.Found.{all_found}
use Rattle.vlog_parser.proofs.name_faults.twice_fault.Given as goal

abbrev pub invariant-loop-one : goal.invariant-loop-one
invariant-loop-one l = twice_fault [] (all_found l.names) ≡ twice_fault l.before (all_found (drop l.one-index l.names))
