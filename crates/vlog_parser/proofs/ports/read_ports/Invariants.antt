use Rattle.std.proofs.Common.{◌≡◌, ◌≤◌, List, [], length, drop}
use Rattle.std.specs.Prelude.{Result}
use Rattle.vlog_tokens.specs.Tokens.{Spot, spots_at}
use Rattle.vlog_module.specs.declared.modules.Port.{Port}
use Rattle.vlog_module.specs.Parts.{Parts}
use Rattle.vlog_forms.specs.Outcome.{Fault, ports_outcome}
use Rattle.vlog_form_parser.specs.Found.{all_found}
use Rattle.vlog_parser.specs.Drafts.{IsKept}
use Rattle.vlog_parser.proofs.ports.read_ports.Given as goal

abbrev pub invariant-loop-one : goal.invariant-loop-one
invariant-loop-one l = record {
  within : l.from ≤ length l.bytes;
  kept : IsKept l.draft;
  empty : l.draft.items.items ≡ [];
  name : l.draft.name ≡ l.initial.draft.name;
  same : (next : List Port → List Spot → Result Parts Fault)
      → ports_outcome (length l.bytes) (all_found l.names) l.initial.draft.ports.items (spots_at l.bytes l.initial.from) next
      ≡ ports_outcome (length l.bytes) (all_found (drop l.one-index l.names)) l.draft.ports.items (spots_at l.bytes l.from) next;
}
