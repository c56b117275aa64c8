use Rattle.std.proofs.Common.{◌<◌, ◌∙◌, ap, arith, fold, length, subst, sym, take, take_all}
use Rattle.std.proofs.lemmas.List.Sums.{fold_more}
use Rattle.vlog_semantics.specs.Run.{module_run, start}
use Rattle.vlog_semantics.proofs.Runs.{last-run}
use Rattle.vlog_lanes.specs.declared.call.Call.{Call}
use Rattle.vlog_lanes.specs.Lanes.{lane_events}
use Rattle.vlog_lanes.specs.Showing.{Shows}
use Rattle.vlog_lanes.proofs.Called.{called, called-all}
use Rattle.vlog_lanes.proofs.lanes.Lanes.run.Goals as goal

pub event-requires : goal.event-requires
event-requires c =
    let none : Call = record { pin = 0; active = 0; bits = 0 } in
    omega (arith, c.loop-call.invariant.inputs, c.requires c.loop-call.call-index none (omega arith))

pub loop-call-preserved : goal.loop-call-preserved
loop-call-preserved c =
    let calls = c.args.calls.now in
    let i = c.loop-call.call-index in
    let none : Call = record { pin = 0; active = 0; bits = 0 } in
    let within : i < length calls = omega arith in
    record {
      shows = λ lane m entry below shown. subst (λ after. Shows c.event.new.self lane m after) (sym (fold_more (called m lane) entry calls i none within))
          (c.event.ensures.shows lane m (fold (called m lane) entry (take i calls)) below (c.loop-call.invariant.shows lane m entry below shown));
      inputs = c.event.ensures.inputs ∙ c.loop-call.invariant.inputs;
    }

pub returns-clause-from_start : goal.returns-clause-from_start
unfolding module_run
returns-clause-from_start c lane m below shown =
    let calls = c.args.calls.now in
    let all = take_all c.loop-call.call-index calls (omega arith) in
    subst (λ entry. Shows c.loop-call.self lane m entry)
    (ap (fold (called m lane) (start m)) all ∙ called-all m lane (start m) calls ∙ sym (last-run m (start m) (start m) (lane_events calls lane)))
    (c.loop-call.invariant.shows lane m (start m) below shown)

pub returns-clause-shows : goal.returns-clause-shows
returns-clause-shows c lane m entry below shown =
    let calls = c.args.calls.now in
    let all = take_all c.loop-call.call-index calls (omega arith) in
    subst (λ last. Shows c.loop-call.self lane m last)
    (ap (fold (called m lane) entry) all ∙ called-all m lane entry calls ∙ sym (last-run m entry entry (lane_events calls lane)))
    (c.loop-call.invariant.shows lane m entry below shown)
