use Rattle.std.proofs.Common.{◌∙◌, ◌+◌, ◌*◌, ◌^◌, ◌<◌, ◌++◌, ℕ, List, ap, ap₂, length, subst, sym}
use Rattle.std.specs.Prelude.{All}
use Rattle.std.proofs.lemmas.Bool.{ltb-true}
use Rattle.std.proofs.lemmas.Result.{err_from_is_err_and}
use Rattle.text_lines.specs.Written.{text_of}
use Rattle.long_events.specs.Streams.{events_left}
use Rattle.vlog_semantics.specs.Run.{start}
use Rattle.vlog_waves.specs.Variables.{Value}
use Rattle.vlog_waves.specs.Waves.{head_lines, start_lines}
use Rattle.vlog_waves.proofs.Room.{fit-counted}
use Rattle.vlog_waves.proofs.Tracing.{inputs-shown}
use Rattle.vlog_waves.proofs.waves.Waves.new.Goals as goal

pub beginning-requires : goal.beginning-requires
beginning-requires c = c.in_ok-tracer.ensures.fits

pub invariant_of-result-clause-inputs : goal.invariant_of-result-clause-inputs
invariant_of-result-clause-inputs c =
    let m = c.args.module in
    subst (λ n. All (λ event. event.pin < n) (events_left c.args.events)) (sym (inputs-shown c.in_ok-tracer.tracer m (start m) c.in_ok-tracer.ensures)) c.requires

pub invariant_of-result-clause-few : goal.invariant_of-result-clause-few
invariant_of-result-clause-few c =
    subst (λ (n : ℕ). n < 2 ^ 64) (ap₂ (λ (first more : ℕ). first + more) c.len.ensures (ap₂ (λ (n bytes : ℕ). n * bytes) c.left.ensures c.event_room.ensures))
    (ltb-true (c.len.result + c.left.result * c.event_room.result) (2 ^ 64) (sym c.fits.ensures ∙ c.if-fits.true))

pub invariant_of-result-clause-begun : goal.invariant_of-result-clause-begun
invariant_of-result-clause-begun c =
    let m = c.args.module in
    c.in_ok-beginning.ensures ∙ ap (λ (values : List Value). text_of (head_lines c.args.names m ++ start_lines values)) c.in_ok-tracer.ensures.held

pub returns-in_err-beginning-clause-refused : goal.returns-in_err-beginning-clause-refused
returns-in_err-beginning-clause-refused c =
    let p = err_from_is_err_and c.from_residual-in_err-beginning.result c.from_residual-in_err-beginning.ensures.1 in
    rw (p.1, p.2) tt

pub returns-then-fits-clause-counted : goal.returns-then-fits-clause-counted
returns-then-fits-clause-counted c =
    let m = c.args.module in
    let begun = c.in_ok-beginning.ensures ∙ ap (λ (values : List Value). text_of (head_lines c.args.names m ++ start_lines values)) c.in_ok-tracer.ensures.held in
    sym
    (fit-counted c.args.names m c.in_ok-tracer.tracer c.in_ok-beginning.beginning.items (length (events_left c.args.events)) c.len.result c.left.result c.event_room.result
    c.in_ok-tracer.ensures begun (c.len.ensures ∙ c.in_ok-beginning.beginning.ok.0) c.left.ensures c.event_room.ensures)
    ∙ sym c.fits.ensures
    ∙ c.if-fits.true

pub returns-else-fits-clause-refused : goal.returns-else-fits-clause-refused
returns-else-fits-clause-refused c =
    let m = c.args.module in
    let begun = c.in_ok-beginning.ensures ∙ ap (λ (values : List Value). text_of (head_lines c.args.names m ++ start_lines values)) c.in_ok-tracer.ensures.held in
    sym
    (fit-counted c.args.names m c.in_ok-tracer.tracer c.in_ok-beginning.beginning.items (length (events_left c.args.events)) c.len.result c.left.result c.event_room.result
    c.in_ok-tracer.ensures begun (c.len.ensures ∙ c.in_ok-beginning.beginning.ok.0) c.left.ensures c.event_room.ensures)
    ∙ sym c.fits.ensures
    ∙ c.if-fits.false
