use Rattle.std.proofs.Common.{◌∙◌, ◌++◌, List, ℕ, ap, arith, length}
use Rattle.vlog_semantics.specs.Run.{start}
use Rattle.long_events.specs.Streams.{events_left}
use Rattle.run_pieces.proofs.Sent.{sent-part, sent-short, sent-whole}
use Rattle.long_runs.specs.Shown.{shown_text}
use Rattle.long_runs.specs.inside.Printing.{rest_text}
use Rattle.long_runs.proofs.Printed.{text-whole, whole-sendable}
use Rattle.long_runs.proofs.lines.RunLinesContent.write_to.Goals as goal

pub write_lines-requires-clause-few : goal.write_lines-requires-clause-few
write_lines-requires-clause-few g c =
    let lines = c.args.self in
    whole-sendable lines.printer lines.«module» (events_left lines.events) (length c.deref.result.now) lines.prints lines.started lines.counted (omega (arith, lines.few, lines.head.ok.0, ap length c.deref.ensures.value))

pub returns-in-Ok-clause-whole : goal.returns-in-Ok-clause-whole
returns-in-Ok-clause-whole g c =
    let lines = c.args.self in
    let m = lines.«module» in
    let events = events_left lines.events in
    let text : List ℕ = shown_text m events lines.printer.form in
    let made : List ℕ = c.deref.result.now ++ (lines.printer.text.items ++ rest_text lines.printer m (start m) events) in
    let same = text-whole lines.printer m events c.deref.result.now (c.deref.ensures.value ∙ lines.headed) lines.started lines.counted in
    sent-whole (g.K.Sink.held c.args.sink.now) (g.K.Sink.held c.write_lines.new.sink) text made same _ (c.in-Ok.ensures.sends m (start m) lines.prints)

pub returns-clause-part : goal.returns-clause-part
returns-clause-part g c =
    let lines = c.args.self in
    let m = lines.«module» in
    let events = events_left lines.events in
    let text : List ℕ = shown_text m events lines.printer.form in
    let made : List ℕ = c.deref.result.now ++ (lines.printer.text.items ++ rest_text lines.printer m (start m) events) in
    let same = text-whole lines.printer m events c.deref.result.now (c.deref.ensures.value ∙ lines.headed) lines.started lines.counted in
    sent-part (g.K.Sink.held c.args.sink.now) (g.K.Sink.held c.write_lines.new.sink) text made same c.in-Err.fault (c.in-Err.ensures.sends m (start m) lines.prints)

pub returns-clause-short : goal.returns-clause-short
returns-clause-short g c =
    let lines = c.args.self in
    let m = lines.«module» in
    let events = events_left lines.events in
    let text : List ℕ = shown_text m events lines.printer.form in
    let made : List ℕ = c.deref.result.now ++ (lines.printer.text.items ++ rest_text lines.printer m (start m) events) in
    let same = text-whole lines.printer m events c.deref.result.now (c.deref.ensures.value ∙ lines.headed) lines.started lines.counted in
    sent-short (g.K.Sink.held c.args.sink.now) (g.K.Sink.held c.write_lines.new.sink) text made same c.in-Err.fault (c.in-Err.ensures.sends m (start m) lines.prints)
