use Rattle.std.proofs.Common.{◌≡◌, ◌∙◌, ◌++◌, Err, ap, subst, sym}
use Rattle.text_lines.specs.Written.{text_of}
use Rattle.long_events.specs.Streams.{events_left}
use Rattle.vlog_semantics.specs.Run.{start}
use Rattle.vlog_waves.specs.Waves.{waves_text}
use Rattle.ice_io.specs.Put.{Sends}
use Rattle.vlog_waves.specs.inside.Tracing.{lines_after}
use Rattle.ice_io.proofs.Sent.{Sends-front, Sends-next, passed-on}
use Rattle.vlog_waves.proofs.Tracing.{waves-whole}
use Rattle.vlog_waves.proofs.sending.write_run.Goals as goal

pub returns-in_err-sent-clause-sends : goal.returns-in_err-sent-clause-sends
returns-in_err-sent-clause-sends g c names begun =
    let m = c.args.module.now in
    let events = events_left c.args.events.now in
    let held = g.K.Sink.held c.args.sink.now in
    let next = g.K.Sink.held c.write_piece.new.sink in
    let fault = c.in_err-sent.field-0.0 in
    let more = text_of (lines_after m 1 (start m) events) in
    let whole : c.args.beginning.now ++ more ≡ waves_text names m events = ap (λ text. text ++ more) begun ∙ sym (waves-whole names m events) in
    passed-on (Sends held next 0 (waves_text names m events)) c.from_residual.result fault c.from_residual.ensures.1
    (subst (λ text. Sends held next 0 text (Err fault)) whole (Sends-front held next 0 c.args.beginning.now more fault c.in_err-sent.ensures.sends))

pub returns-clause-sends : goal.returns-clause-sends
returns-clause-sends g c names begun =
    let m = c.args.module.now in
    let events = events_left c.args.events.now in
    let held = g.K.Sink.held c.args.sink.now in
    let between = g.K.Sink.held c.write_piece.new.sink in
    let next = g.K.Sink.held c.write_events.new.sink in
    let more = text_of (lines_after m 1 (start m) events) in
    let whole : c.args.beginning.now ++ more ≡ waves_text names m events = ap (λ text. text ++ more) begun ∙ sym (waves-whole names m events) in
    subst (λ text. Sends held next 0 text c.write_events.result) whole
    (Sends-next held between next 0 c.in_ok-sent.sent c.args.beginning.now more c.write_events.result c.in_ok-sent.ensures.sends
    (c.write_events.ensures.sends m (start m) c.requires.traces c.ports.ensures.ports))
