use Rattle.std.proofs.Common.{◌≡◌, map, take}
use Rattle.fabric_module.specs.Matching.{module_event}
use Rattle.selfrun_tool.specs.Counted.{events_for}
use Rattle.selfrun_tool.proofs.events.events_for.Given as goal

abbrev pub invariant-loop-event : goal.invariant-loop-event
invariant-loop-event l = l.events.items ≡ map module_event (events_for l.inputs (take l.event-index l.made))
