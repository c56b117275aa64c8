use Rattle.std.proofs.Common.{◌∙◌, List, ℕ, refl}
use Rattle.long_events.specs.Streams.{events_left}
use Rattle.vlog_waves.specs.Waves.{waves_text}
use Rattle.run_pieces.proofs.Sent.{sent-part, sent-short, sent-whole}
use Rattle.vlog_waves.proofs.waves.WavesContent.write_to.Goals as goal

pub returns-in-Ok-clause-whole : goal.returns-in-Ok-clause-whole
returns-in-Ok-clause-whole g c =
    let waves = c.args.self in
    let text : List ℕ = waves_text waves.names waves.«module» (events_left waves.events) in
    sent-whole (g.K.Sink.held c.args.sink.now) (g.K.Sink.held c.write_run.new.sink) text text refl _ (c.in-Ok.ensures.sends waves.names (c.deref.ensures.value ∙ waves.begun))

pub returns-clause-part : goal.returns-clause-part
returns-clause-part g c =
    let waves = c.args.self in
    let text : List ℕ = waves_text waves.names waves.«module» (events_left waves.events) in
    sent-part (g.K.Sink.held c.args.sink.now) (g.K.Sink.held c.write_run.new.sink) text text refl c.in-Err.fault (c.in-Err.ensures.sends waves.names (c.deref.ensures.value ∙ waves.begun))

pub returns-clause-short : goal.returns-clause-short
returns-clause-short g c =
    let waves = c.args.self in
    let text : List ℕ = waves_text waves.names waves.«module» (events_left waves.events) in
    sent-short (g.K.Sink.held c.args.sink.now) (g.K.Sink.held c.write_run.new.sink) text text refl c.in-Err.fault (c.in-Err.ensures.sends waves.names (c.deref.ensures.value ∙ waves.begun))
