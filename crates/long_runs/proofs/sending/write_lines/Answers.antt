use Rattle.std.proofs.Common.{◌++◌, List, ℕ, Err, Ok, ap, append_assoc, arith, length, subst}
use Rattle.ice_io.specs.Put.{Sends}
use Rattle.ice_io.proofs.Sent.{Sends-front, Sends-next, passed-on}
use Rattle.long_events.specs.Streams.{events_left}
use Rattle.long_runs.specs.inside.Printing.{rest_text}
use Rattle.long_runs.proofs.sending.write_lines.Goals as goal

pub write_piece-requires : goal.write_piece-requires
write_piece-requires g c = omega (arith, c.requires.few.few)

pub write_piece-requires-2 : goal.write_piece-requires-2
write_piece-requires-2 g c = omega (arith, c.requires.few.few, c.in_ok-sent.ensures.sends.1, ap length c.deref.ensures.value, c.args.printer.now.text.ok.0)

pub write_rest-requires-clause-few : goal.write_rest-requires-clause-few
write_rest-requires-clause-few g c =
    let few = c.requires.few in
    record {
      m = few.m;
      entry = few.entry;
      prints = few.prints;
      few = omega (arith, few.few, c.in_ok-sent.ensures.sends.1, c.in_ok-sent-2.ensures.sends.1, ap length c.deref.ensures.value, c.args.printer.now.text.ok.0);
    }

pub returns-in_err-sent-clause-sends : goal.returns-in_err-sent-clause-sends
returns-in_err-sent-clause-sends g c m entry prints =
    let held = g.K.Sink.held c.args.sink.now in
    let next = g.K.Sink.held c.write_piece.new.sink in
    let fault = c.in_err-sent.field-0.0 in
    let head = c.args.head.now in
    let printer = c.args.printer.now in
    let more : List ℕ = printer.text.items ++ rest_text printer m entry (events_left c.args.events.now) in
    passed-on (Sends held next 0 (head ++ more)) c.from_residual.result fault c.from_residual.ensures.1 (Sends-front held next 0 head more fault c.in_err-sent.ensures.sends)

pub returns-in_err-sent-2-clause-sends : goal.returns-in_err-sent-2-clause-sends
returns-in_err-sent-2-clause-sends g c m entry prints =
    let held = g.K.Sink.held c.args.sink.now in
    let between = g.K.Sink.held c.write_piece.new.sink in
    let next = g.K.Sink.held c.write_piece-2.new.sink in
    let fault = c.in_err-sent-2.field-0.0 in
    let head = c.args.head.now in
    let printer = c.args.printer.now in
    let text : List ℕ = printer.text.items in
    let rest : List ℕ = rest_text printer m entry (events_left c.args.events.now) in
    let second = subst (λ (piece : List ℕ). Sends between next c.in_ok-sent.sent piece (Err fault)) c.deref.ensures.value c.in_err-sent-2.ensures.sends in
    let both = Sends-next held between next 0 c.in_ok-sent.sent head text (Err fault) c.in_ok-sent.ensures.sends second in
    passed-on (Sends held next 0 (head ++ (text ++ rest))) c.from_residual-in_err-sent-2.result fault c.from_residual-in_err-sent-2.ensures.1
    (subst (λ (piece : List ℕ). Sends held next 0 piece (Err fault)) (append_assoc head text rest) (Sends-front held next 0 (head ++ text) rest fault both))

pub returns-clause-sends : goal.returns-clause-sends
returns-clause-sends g c m entry prints =
    let held = g.K.Sink.held c.args.sink.now in
    let between = g.K.Sink.held c.write_piece.new.sink in
    let then = g.K.Sink.held c.write_piece-2.new.sink in
    let next = g.K.Sink.held c.write_rest.new.sink in
    let head = c.args.head.now in
    let printer = c.args.printer.now in
    let text : List ℕ = printer.text.items in
    let rest : List ℕ = rest_text printer m entry (events_left c.args.events.now) in
    let second = subst (λ (piece : List ℕ). Sends between then c.in_ok-sent.sent piece (Ok c.in_ok-sent-2.sent)) c.deref.ensures.value c.in_ok-sent-2.ensures.sends in
    let both = Sends-next held between then 0 c.in_ok-sent.sent head text (Ok c.in_ok-sent-2.sent) c.in_ok-sent.ensures.sends second in
    subst (λ (piece : List ℕ). Sends held next 0 piece c.write_rest.result) (append_assoc head text rest)
    (Sends-next held then next 0 c.in_ok-sent-2.sent (head ++ text) rest c.write_rest.result both (c.write_rest.ensures.sends m entry prints))
