use Rattle.std.proofs.Common.{◌≡◌, ◌≤◌, ◌-◌, length}
use Rattle.vlog_tokens.specs.Tokens.{spots_at}
use Rattle.vlog_forms.specs.Outcome.{port_names}
use Rattle.vlog_form_parser.specs.Found.{all_found}
use Rattle.vlog_parser.specs.Headers.{turn_of}
use Rattle.vlog_parser.proofs.header.read_names.Given as goal

abbrev pub invariant-loop-stop : goal.invariant-loop-stop
invariant-loop-stop l = record {
  within : l.from ≤ length l.bytes;
  same : port_names (length l.bytes) (turn_of l.initial.turn) (all_found l.initial.names.items) (spots_at l.bytes l.initial.from)
      ≡ port_names (length l.bytes) (turn_of l.turn) (all_found l.names.items) (spots_at l.bytes l.from);
}

abbrev pub decreases-loop-stop : goal.decreases-loop-stop
decreases-loop-stop l = length l.bytes - l.from
