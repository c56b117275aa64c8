use Rattle.std.proofs.Common.{Bool, List, ℕ, Err, Ok, ap, arith, length, subst}
use Rattle.vlog_semantics.specs.declared.event.Event.{Event}
use Rattle.ice_io.specs.Put.{Sends}
use Rattle.ice_io.proofs.Sent.{passed-on}
use Rattle.long_events.specs.Streams.{events_left}
use Rattle.long_runs.specs.inside.Printing.{rest_text}
use Rattle.long_runs.proofs.Sent.{Sending, falls, piece-fits, sending-begun, sending-ended, sending-failed, sending-next}
use Rattle.long_runs.proofs.sending.write_rest.Goals as goal

pub loop-more-init : goal.loop-more-init
loop-more-init g c = record {
  going = λ m entry prints. sending-begun m (g.K.Sink.held c.args.sink.now) c.args.before c.args.printer.now entry (events_left c.args.events.now) prints;
  inputs = c.requires.inputs;
  counted = c.requires.counted;
  faults = omega arith;
}

pub next_piece-more-requires-clause-printing : goal.next_piece-more-requires-clause-printing
next_piece-more-requires-clause-printing g c =
    let few = c.requires.few in
    let going = c.loop-more.invariant.going few.m few.entry few.prints in
    record { m = few.m; entry = going.last; prints = going.prints }

pub write_piece-requires : goal.write_piece-requires
write_piece-requires g c =
    let few = c.requires.few in
    let held = g.K.Sink.held c.args.sink.now in
    let now = g.K.Sink.held c.loop-more.sink in
    let all : List ℕ = rest_text c.args.printer.now few.m few.entry (events_left c.args.events.now) in
    let left : List Event = events_left c.loop-more.events in
    let going = subst (λ (more : Bool). Sending few.m held now c.args.before c.loop-more.sent c.loop-more.printer left more all) c.loop-more-test.true (c.loop-more.invariant.going few.m few.entry few.prints) in
    let makes = c.next_piece-more.ensures.makes few.m going.last going.prints in
    let fits = piece-fits few.m held now c.args.before c.loop-more.sent c.loop-more.printer c.next_piece-more.new.self left (events_left c.next_piece-more.new.events) c.next_piece-more.result all going makes few.few in
    omega (arith, fits, ap length c.deref.ensures.value)

pub returns-in_err-sent-clause-sends : goal.returns-in_err-sent-clause-sends
returns-in_err-sent-clause-sends g c m entry prints =
    let held = g.K.Sink.held c.args.sink.now in
    let now = g.K.Sink.held c.loop-more.sink in
    let next = g.K.Sink.held c.write_piece.new.sink in
    let fault = c.in_err-sent.field-0.0 in
    let all : List ℕ = rest_text c.args.printer.now m entry (events_left c.args.events.now) in
    let left : List Event = events_left c.loop-more.events in
    let going = subst (λ (more : Bool). Sending m held now c.args.before c.loop-more.sent c.loop-more.printer left more all) c.loop-more-test.true (c.loop-more.invariant.going m entry prints) in
    let makes = c.next_piece-more.ensures.makes m going.last going.prints in
    let sends = subst (λ (text : List ℕ). Sends now next c.loop-more.sent text (Err fault)) c.deref.ensures.value c.in_err-sent.ensures.sends in
    passed-on (Sends held next c.args.before all) c.from_residual.result fault c.from_residual.ensures.1
    (sending-failed m held now next c.args.before c.loop-more.sent c.loop-more.printer c.next_piece-more.new.self left (events_left c.next_piece-more.new.events) c.next_piece-more.result all fault going makes sends)

pub loop-more-preserved : goal.loop-more-preserved
loop-more-preserved g c =
    let held = g.K.Sink.held c.args.sink.now in
    let now = g.K.Sink.held c.loop-more.sink in
    let next = g.K.Sink.held c.write_piece.new.sink in
    let left : List Event = events_left c.loop-more.events in
    let inv = c.loop-more.invariant in
    record {
      going = λ m entry prints.
          let all : List ℕ = rest_text c.args.printer.now m entry (events_left c.args.events.now) in
          let going = subst (λ (more : Bool). Sending m held now c.args.before c.loop-more.sent c.loop-more.printer left more all) c.loop-more-test.true (inv.going m entry prints) in
          let makes = c.next_piece-more.ensures.makes m going.last going.prints in
          let sends = subst (λ (text : List ℕ). Sends now next c.loop-more.sent text (Ok c.in_ok-sent.sent)) c.deref.ensures.value c.in_ok-sent.ensures.sends in
          sending-next m held now next c.args.before c.loop-more.sent c.in_ok-sent.sent c.loop-more.printer c.next_piece-more.new.self left (events_left c.next_piece-more.new.events) c.next_piece-more.result all going makes sends;
      inputs = c.next_piece-more.ensures.inputs;
      counted = c.next_piece-more.ensures.counted;
      faults = omega (arith, inv.faults, c.in_ok-sent.ensures.never_falls);
    }

pub loop-more-smaller : goal.loop-more-smaller
loop-more-smaller g c =
    let few = c.requires.few in
    let going = c.loop-more.invariant.going few.m few.entry few.prints in
    let makes = c.next_piece-more.ensures.makes few.m going.last going.prints in
    falls c.loop-more.more c.next_piece-more.result (length (events_left c.loop-more.events)) (length (events_left c.next_piece-more.new.events)) c.loop-more-test.true makes.fewer

pub returns-clause-sends : goal.returns-clause-sends
returns-clause-sends g c m entry prints =
    let held = g.K.Sink.held c.args.sink.now in
    let now = g.K.Sink.held c.loop-more.sink in
    let all : List ℕ = rest_text c.args.printer.now m entry (events_left c.args.events.now) in
    let left : List Event = events_left c.loop-more.events in
    sending-ended m held now c.args.before c.loop-more.sent c.loop-more.printer left all
    (subst (λ (more : Bool). Sending m held now c.args.before c.loop-more.sent c.loop-more.printer left more all) c.loop-more-test.false (c.loop-more.invariant.going m entry prints))
