use Rattle.std.proofs.Common.{◌≡◌, ◌∙◌, refl, suc, ◌+◌, ◌-◌, ◌*◌, ◌<◌, ℕ, List, [], ◌∷◌, ap, ap₂, arith, length, subst}
use Rattle.std.specs.Prelude.{All}
use Rattle.std.proofs.Math.Nat.{suc-mul}
use Rattle.std.proofs.lemmas.List.Elements.{All-head, All-tail}
use Rattle.text_lines.specs.Written.{text_of}
use Rattle.vlog_semantics.specs.declared.event.Event.{Event}
use Rattle.vlog_run.specs.Showing.{input_count}
use Rattle.ice_io.specs.Put.{Sends}
use Rattle.ice_io.proofs.Sent.{passed-on}
use Rattle.long_events.specs.Streams.{events_left}
use Rattle.vlog_waves.specs.inside.Tracing.{lines_after, lines_of_event}
use Rattle.vlog_waves.specs.inside.Values.{event_room}
use Rattle.vlog_waves.proofs.Tracing.{Going, going-begun, going-cut, going-ended, going-failed, going-next}
use Rattle.vlog_waves.proofs.sending.write_events.Goals as goal

-- the room of one event more
room-more : (events : List Event) (event : Event) (left : List Event) (room : ℕ) → events ≡ event ∷ left → length events * room ≡ length left * room + room
room-more events event left room cut = ap (λ (list : List Event). length list * room) cut ∙ suc-mul (length left) room

pub loop-event-init : goal.loop-event-init
loop-event-init g c = record {
  going = λ m entry traces ports. going-begun m entry (g.K.Sink.held c.args.sink.now) c.args.before c.args.tracer.now (events_left c.args.events.now) traces;
  most = c.requires.few;
  within = c.requires.inputs;
  fewer = omega arith;
  inputs = refl;
  room = refl;
  faults = omega arith;
}

pub event-requires : goal.event-requires
event-requires g c =
    let inv = c.loop-event.invariant in
    let Within : Event → Type 0 = λ event. event.pin < input_count c.args.tracer.now.runner in
    let left : List Event = events_left c.next_event.new.self in
    let first = All-head Within c.in-Some.event left (subst (All Within) c.in-Some.ensures.events inv.within) in
    omega (arith, inv.inputs, first)

pub write_piece-requires : goal.write_piece-requires
write_piece-requires g c =
    let inv = c.loop-event.invariant in
    let left : List Event = events_left c.next_event.new.self in
    let more = room-more (events_left c.loop-event.events) c.in-Some.event left (event_room c.args.tracer.now.values) c.in-Some.ensures.events in
    omega (arith, more, inv.most, c.event.ensures.most, inv.room, ap length c.deref.ensures.value, c.event.new.self.text.ok.0)

pub returns-in_err-sent-clause-sends : goal.returns-in_err-sent-clause-sends
returns-in_err-sent-clause-sends g c m entry traces ports =
    let all : List Event = events_left c.args.events.now in
    let left : List Event = events_left c.next_event.new.self in
    let going = going-cut m entry (g.K.Sink.held c.args.sink.now) (g.K.Sink.held c.loop-event.sink) c.args.before c.loop-event.sent c.loop-event.tracer all (events_left c.loop-event.events) c.in-Some.event left
    c.in-Some.ensures.events (c.loop-event.invariant.going m entry traces ports) in
    let time : c.left-count.result - c.left.result ≡ length all - length left = ap₂ (λ (a b : ℕ). a - b) c.left-count.ensures c.left.ensures in
    let line : c.deref.result.now ≡ text_of (lines_of_event m (length all - length left) going.last c.in-Some.event) =
    c.deref.ensures.value ∙ c.event.ensures.text m going.last going.traces ports ∙ ap (λ n. text_of (lines_of_event m n going.last c.in-Some.event)) time in
    passed-on (Sends (g.K.Sink.held c.args.sink.now) (g.K.Sink.held c.write_piece.new.sink) c.args.before (text_of (lines_after m 1 entry all))) c.from_residual.result c.in_err-sent.field-0.0 c.from_residual.ensures.1
    (going-failed m entry (g.K.Sink.held c.args.sink.now) (g.K.Sink.held c.loop-event.sink) (g.K.Sink.held c.write_piece.new.sink) c.args.before c.loop-event.sent c.loop-event.tracer all c.in-Some.event left
    c.deref.result.now c.in_err-sent.field-0.0 going line c.in_err-sent.ensures.sends)

pub loop-event-preserved : goal.loop-event-preserved
loop-event-preserved g c =
    let all : List Event = events_left c.args.events.now in
    let left : List Event = events_left c.next_event.new.self in
    let inv = c.loop-event.invariant in
    let room = event_room c.args.tracer.now.values in
    let Within : Event → Type 0 = λ event. event.pin < input_count c.args.tracer.now.runner in
    let cut = c.in-Some.ensures.events in
    let more = room-more (events_left c.loop-event.events) c.in-Some.event left room cut in
    let fewer : length (events_left c.loop-event.events) ≡ suc (length left) = ap length cut in
    record {
      going = λ m entry traces ports.
          let going = going-cut m entry (g.K.Sink.held c.args.sink.now) (g.K.Sink.held c.loop-event.sink) c.args.before c.loop-event.sent c.loop-event.tracer all (events_left c.loop-event.events) c.in-Some.event left
          cut (inv.going m entry traces ports) in
          let time : c.left-count.result - c.left.result ≡ length all - length left = ap₂ (λ (a b : ℕ). a - b) c.left-count.ensures c.left.ensures in
          let line : c.deref.result.now ≡ text_of (lines_of_event m (length all - length left) going.last c.in-Some.event) =
          c.deref.ensures.value ∙ c.event.ensures.text m going.last going.traces ports ∙ ap (λ n. text_of (lines_of_event m n going.last c.in-Some.event)) time in
          going-next m entry (g.K.Sink.held c.args.sink.now) (g.K.Sink.held c.loop-event.sink) (g.K.Sink.held c.write_piece.new.sink) c.args.before c.loop-event.sent c.in_ok-sent.sent c.loop-event.tracer c.event.new.self
          all c.in-Some.event left c.deref.result.now going line c.in_ok-sent.ensures.sends (c.event.ensures.traces m going.last going.traces ports);
      most = omega (arith, more, inv.most, c.event.ensures.most, inv.room, ap length c.deref.ensures.value, c.event.new.self.text.ok.0, c.in_ok-sent.ensures.sends.1);
      within = All-tail Within c.in-Some.event left (subst (All Within) cut inv.within);
      fewer = omega (arith, fewer, inv.fewer);
      inputs = c.event.ensures.inputs ∙ inv.inputs;
      room = c.event.ensures.room ∙ inv.room;
      faults = omega (arith, inv.faults, c.in_ok-sent.ensures.never_falls);
    }

pub returns-clause-sends : goal.returns-clause-sends
returns-clause-sends g c m entry traces ports =
    let none : events_left c.loop-event.events ≡ [] = c.in_default.ensures.ended in
    going-ended m entry (g.K.Sink.held c.args.sink.now) (g.K.Sink.held c.loop-event.sink) c.args.before c.loop-event.sent c.loop-event.tracer (events_left c.args.events.now)
    (subst (λ left. Going m entry (g.K.Sink.held c.args.sink.now) (g.K.Sink.held c.loop-event.sink) c.args.before c.loop-event.sent c.loop-event.tracer (events_left c.args.events.now) left) none
    (c.loop-event.invariant.going m entry traces ports))
