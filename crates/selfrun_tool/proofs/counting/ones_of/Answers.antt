use Rattle.std.proofs.Common.{◌<◌, ◌+◌, false, get_or, append-nil, ap, ap₂, arith, length, subst, sym, take, take_all, ◌∙◌}
use Rattle.vlog_semantics.specs.declared.event.Event.{Event}
use Rattle.vlog_semantics.specs.Named.{values_of}
use Rattle.vlog_semantics.specs.Run.{followed, module_run, run_from, start}
use Rattle.vlog_run.specs.Showing.{Shows}
use Rattle.vlog_semantics.proofs.Runs.{last_entry, last-more}
use Rattle.selfrun_tool.specs.Counted.{ones_in}
use Rattle.selfrun_tool.specs.Inside.{module_bits}
use Rattle.selfrun_tool.proofs.Runs.{bits-more, ones-append}
use Rattle.selfrun_tool.proofs.counting.ones_of.Goals as goal

pub loop-event-init : goal.loop-event-init
unfolding run_from
loop-event-init c =
    let m = c.args.module.now in
    record {
      shows = c.in_ok-runner.ensures;
      ones_are = c.ones_in-ones.ensures.ones ∙ ap ones_in (c.outputs.ensures m (start m) c.in_ok-runner.ensures ∙ sym (append-nil (values_of (start m).outputs)));
      small = omega (arith, c.ones_in-ones.ensures.few);
    }

pub loop-event-preserved : goal.loop-event-preserved
loop-event-preserved c =
    let m = c.args.module.now in
    let events = c.args.events.now in
    let i = c.loop-event.event-index in
    let none : Event = record { pin = 0; bit = false } in
    let within : i < length events = omega arith in
    let before = last_entry m (start m) (take i events) in
    let next = followed m before (get_or events i none) in
    let shows : Shows c.event.new.self m next = c.event.ensures.shows m before c.loop-event.invariant.shows in
    record {
      shows = subst (λ entry. Shows c.event.new.self m entry) (sym (last-more m (start m) events i none within)) shows;
      ones_are = ap₂ (λ one other. one + other) c.loop-event.invariant.ones_are (c.ones_in-ones-in-loop-event.ensures.ones ∙ ap ones_in (c.outputs-in-loop-event.ensures m next shows))
          ∙ sym (ap ones_in (bits-more m (start m) events i none within) ∙ ones-append (module_bits (run_from m (start m) (take i events))) (values_of next.outputs));
      small = omega (arith, c.loop-event.invariant.small, c.ones_in-ones-in-loop-event.ensures.few);
    }

pub returns : goal.returns
unfolding module_run
returns c =
    c.loop-event.invariant.ones_are
    ∙ ap (λ events. ones_in (module_bits (run_from c.args.module.now (start c.args.module.now) events))) (take_all c.loop-event.event-index c.args.events.now (omega arith))
