use Rattle.std.proofs.Common.{◌≡◌, ◌≤◌, length}
use Rattle.vlog_tokens.specs.Tokens.{spots_at}
use Rattle.vlog_parser.specs.Drafts.{IsKept, so_far}
use Rattle.vlog_parser.specs.Steps.{items_from}
use Rattle.vlog_parser.proofs.items.read_items.Given as goal

abbrev pub invariant-loop-refusal : goal.invariant-loop-refusal
invariant-loop-refusal l = record {
  within : l.from ≤ length l.bytes;
  kept : IsKept l.draft;
  same : items_from l.bytes (so_far l.initial.draft) l.initial.from ≡ items_from l.bytes (so_far l.draft) l.from;
}

abbrev pub decreases-loop-refusal : goal.decreases-loop-refusal
decreases-loop-refusal l = length (spots_at l.bytes l.from)
