use Rattle.std.proofs.Common.{◌<◌, ◌++◌, false, get_or, append-nil, ap, arith, flat_map, length, subst, sym, take, take_all, ◌∙◌}
use Rattle.vlog_semantics.specs.declared.event.Event.{Event}
use Rattle.vlog_semantics.specs.Run.{followed, module_run, run_from, start}
use Rattle.vlog_run.specs.Showing.{Shows}
use Rattle.vlog_run.specs.Text.{entry_line, run_text}
use Rattle.vlog_semantics.proofs.Runs.{last_entry, last-more}
use Rattle.vlog_run.proofs.Texts.{text-more}
use Rattle.vlog_run.proofs.text.run_text.Goals as goal

pub loop-event-init : goal.loop-event-init
unfolding run_from
loop-event-init c =
    let m = c.args.module.now in
    record {
      shows = c.in_ok-runner.ensures;
      text = c.in_ok-push_line.ensures.text m (start m) c.in_ok-runner.ensures
          ∙ ap (λ text. text ++ entry_line c.args.registers (start m)) c.new-text.ensures.items
          ∙ sym (append-nil (entry_line c.args.registers (start m)));
    }

pub loop-event-preserved : goal.loop-event-preserved
loop-event-preserved c =
    let m = c.args.module.now in
    let events = c.args.events.now in
    let i = c.loop-event.event-index in
    let none : Event = record { pin = 0; bit = false } in
    let within : i < length events = omega arith in
    let before = last_entry m (start m) (take i events) in
    let next = followed m before (get_or events i none) in
    let shows : Shows c.event.new.self m next = c.event.ensures.shows m before c.loop-event.invariant.shows in
    record {
      shows = subst (λ entry. Shows c.event.new.self m entry) (sym (last-more m (start m) events i none within)) shows;
      text = c.in_ok-push_line-2.ensures.text m next shows
          ∙ ap (λ text. text ++ entry_line c.args.registers next) c.loop-event.invariant.text
          ∙ sym (text-more m (start m) events i none c.args.registers within);
    }

pub returns : goal.returns
unfolding run_text module_run
returns c =
    let m = c.args.module.now in
    c.loop-event.invariant.text
    ∙ ap (λ events. flat_map (entry_line c.args.registers) (run_from m (start m) events)) (take_all c.loop-event.event-index c.args.events.now (omega arith))
