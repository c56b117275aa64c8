use Rattle.std.proofs.Common.{◌≡◌, ◌∙◌, suc, ◌-◌, ◌<◌, List, [], ap, arith, length, subst, sym}
use Rattle.std.specs.Prelude.{All}
use Rattle.std.proofs.lemmas.List.Elements.{All-head, All-tail}
use Rattle.vlog_semantics.specs.declared.event.Event.{Event}
use Rattle.vlog_semantics.specs.Run.{followed}
use Rattle.vlog_run.specs.Showing.{input_count}
use Rattle.long_events.specs.Streams.{events_left}
use Rattle.long_runs.proofs.Printed.{Going, going-begun, going-ended, going-next}
use Rattle.long_runs.proofs.printer.Printer.next_piece.Goals as goal

pub loop-events-init : goal.loop-events-init
loop-events-init c =
    let begun = c.begin.ensures in
    let p = c.requires.printing in
    let events : List Event = events_left c.args.events.now in
    record {
      going = λ m entry prints. going-begun c.args.self.now c.begin.new.self m entry events begun.empty begun.formed.form begun.formed.count (begun.prints m entry prints);
      printing = record { m = p.m; entry = p.entry; prints = begun.prints p.m p.entry p.prints };
      inputs = subst (λ n. All (λ event. event.pin < n) events) (sym begun.formed.inputs) c.requires.inputs;
      counted = omega (arith, c.requires.counted, begun.formed.count);
      formed = begun.formed;
      moved = λ some. absurd (omega (arith, some, ap length begun.empty));
      fewer = omega arith;
    }

pub event-requires-clause-pin : goal.event-requires-clause-pin
event-requires-clause-pin c =
    let Within : Event → Type 0 = λ event. event.pin < input_count c.loop-events.self.runner in
    let left : List Event = events_left c.next_event.new.self in
    All-head Within c.in-Some.event left (subst (All Within) c.in-Some.ensures.events c.loop-events.invariant.inputs)

pub loop-events-preserved : goal.loop-events-preserved
loop-events-preserved c =
    let inv = c.loop-events.invariant in
    let now = c.loop-events.self in
    let event = c.in-Some.event in
    let all : List Event = events_left c.args.events.now in
    let left : List Event = events_left c.next_event.new.self in
    let cut = c.in-Some.ensures.events in
    let fewer : length (events_left c.loop-events.events) ≡ suc (length left) = ap length cut in
    let Within : Event → Type 0 = λ event. event.pin < input_count now.runner in
    let formed = c.event.ensures.formed in
    let p = inv.printing in
    record {
      going = λ m entry prints.
          let going = subst (Going c.args.self.now now m entry all) cut (inv.going m entry prints) in
          going-next c.args.self.now now c.event.new.self m entry all event left (now.count - c.left.result) going (omega (arith, inv.counted, fewer)) (ap (λ n. now.count - n) c.left.ensures)
          formed.form formed.count (c.event.ensures.text m going.last going.prints) (c.event.ensures.prints m going.last going.prints);
      printing = record { m = p.m; entry = followed p.m p.entry event; prints = c.event.ensures.prints p.m p.entry p.prints };
      inputs = subst (λ n. All (λ event. event.pin < n) left) (sym formed.inputs) (All-tail Within event left (subst (All Within) cut inv.inputs));
      counted = omega (arith, inv.counted, fewer, formed.count);
      formed = record { form = formed.form ∙ inv.formed.form; count = formed.count ∙ inv.formed.count; inputs = formed.inputs ∙ inv.formed.inputs };
      moved = λ some. omega (arith, inv.fewer, fewer);
      fewer = omega (arith, inv.fewer, fewer);
    }

pub returns-in-None-clause-makes : goal.returns-in-None-clause-makes
returns-in-None-clause-makes c m entry prints =
    let none : events_left c.loop-events.events ≡ [] = c.in-None.ensures.ended in
    let all : List Event = events_left c.args.events.now in
    let going = subst (Going c.args.self.now c.loop-events.self m entry all) none (c.loop-events.invariant.going m entry prints) in
    record {
      last = going.last;
      prints = c.end.ensures.prints m going.last going.prints;
      fewer = λ more. absurd cc;
      made = going-ended c.args.self.now c.loop-events.self m entry all c.end.new.self.text.items going (c.end.ensures.text m going.last going.prints);
    }

pub returns-clause-makes : goal.returns-clause-makes
returns-clause-makes c m entry prints =
    let inv = c.loop-events.invariant in
    let going = inv.going m entry prints in
    record {
      last = going.last;
      prints = going.prints;
      fewer = λ more. inv.moved (omega (arith, c.loop-events-test.false, c.len.ensures, c.loop-events.self.text.ok.0));
      made = going.made;
    }
