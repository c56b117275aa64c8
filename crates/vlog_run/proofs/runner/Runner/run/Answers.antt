use Rattle.std.proofs.Common.{◌<◌, ◌∙◌, false, ap, arith, length, subst, sym, take, take_all}
use Rattle.vlog_semantics.specs.declared.event.Event.{Event}
use Rattle.vlog_semantics.specs.Run.{module_run, start}
use Rattle.vlog_run.specs.Showing.{Shows}
use Rattle.vlog_semantics.proofs.Runs.{last_entry, last-more, last-run}
use Rattle.vlog_run.proofs.runner.Runner.run.Goals as goal

pub event-requires : goal.event-requires
event-requires c =
    let none : Event = record { pin = 0; bit = false } in
    omega (arith, c.loop-event.invariant.inputs, c.requires c.loop-event.event-index none (omega arith))

pub loop-event-preserved : goal.loop-event-preserved
loop-event-preserved c =
    let events = c.args.events.now in
    let i = c.loop-event.event-index in
    let none : Event = record { pin = 0; bit = false } in
    let within : i < length events = omega arith in
    record {
      shows = λ m entry shown. subst (λ after. Shows c.event.new.self m after) (sym (last-more m entry events i none within))
          (c.event.ensures.shows m (last_entry m entry (take i events)) (c.loop-event.invariant.shows m entry shown));
      inputs = c.event.ensures.inputs ∙ c.loop-event.invariant.inputs;
    }

pub returns-clause-from_start : goal.returns-clause-from_start
unfolding module_run
returns-clause-from_start c m shown =
    let all = take_all c.loop-event.event-index c.args.events.now (omega arith) in
    subst (λ entry. Shows c.loop-event.self m entry) (ap (last_entry m (start m)) all ∙ sym (last-run m (start m) (start m) c.args.events.now))
    (c.loop-event.invariant.shows m (start m) shown)

pub returns-clause-shows : goal.returns-clause-shows
returns-clause-shows c m entry shown =
    let all = take_all c.loop-event.event-index c.args.events.now (omega arith) in
    subst (λ last. Shows c.loop-event.self m last) (ap (last_entry m entry) all ∙ sym (last-run m entry entry c.args.events.now))
    (c.loop-event.invariant.shows m entry shown)
