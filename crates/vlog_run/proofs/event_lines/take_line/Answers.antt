use Rattle.std.proofs.Common.{◌<◌, ◌++◌, ap, arith, length, sym, ◌∙◌}
use Rattle.std.proofs.lemmas.Result.{on_ok_weaker}
use Rattle.vlog_semantics.specs.Slots.{slot_of}
use Rattle.vlog_run.specs.Events.{line_fault}
use Rattle.vlog_run.proofs.EventLines.{line-event}
use Rattle.vlog_run.proofs.event_lines.take_line.Goals as goal

pub returns-clause-taken : goal.returns-clause-taken
returns-clause-taken c =
    let some : 0 < length c.args.content.now = grind (arith, c.is_empty.ensures, c.if-is_empty.false) in
    on_ok_weaker c.push_event.result (λ pushed.
    pushed ∙ ap (λ more. c.args.events.now.items ++ more) (sym (line-event (slot_of c.args.pins.now) c.args.line c.args.content.now c.in_ok-event.event some c.in_ok-event.ensures))) c.push_event.ensures.pushed

pub returns-clause-refused : goal.returns-clause-refused
returns-clause-refused c = c.push_event.ensures.memory (line_fault (slot_of c.args.pins.now) c.args.line c.args.content.now)
