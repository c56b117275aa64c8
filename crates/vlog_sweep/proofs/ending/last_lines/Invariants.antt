use Rattle.std.proofs.Common.{◌≡◌, ◌<◌, ℕ, false, flat_map, fold, get_or, length, take}
use Rattle.vlog_module.specs.Parts.{Parts}
use Rattle.vlog_semantics.specs.Run.{followed, start}
use Rattle.vlog_run.specs.Text.{entry_line}
use Rattle.vlog_sweep.specs.Strands.{line_of}
use Rattle.vlog_sweep.specs.Sweep.{last_text}
use Rattle.vlog_sweep.specs.declared.list.EventList.{EventList}
use Rattle.vlog_sweep.proofs.ending.last_lines.Given as goal

abbrev pub invariant-loop-lane : goal.invariant-loop-lane
invariant-loop-lane l =
    (m : Parts) → ((k : ℕ) (d : EventList) → k < length l.lists → line_of l.outputs k ≡ entry_line false (fold (followed m) (start m) (get_or l.lists k d).events.items))
    → l.text.items ≡ flat_map (last_text m) (take l.lane l.lists)
