use Rattle.std.proofs.Common.{◌≡◌, ◌∙◌, ℕ, List, ◌∷◌, ◌++◌, ap, ap₂, subst, sym}
use Rattle.std.specs.Prelude.{OnOk}
use Rattle.text_lines.specs.Written.{text_of}
use Rattle.vlog_semantics.specs.Entries.{Entry}
use Rattle.vlog_semantics.specs.Run.{followed}
use Rattle.vlog_waves.specs.Variables.{Value, values_in}
use Rattle.vlog_waves.specs.Waves.{changed_lines, time_line}
use Rattle.vlog_waves.specs.inside.Values.{Fits, values_held}
use Rattle.vlog_waves.proofs.Alike.{fits-alike}
use Rattle.vlog_waves.proofs.tracer.Tracer.event.Goals as goal

pub returns-clause-text : goal.returns-clause-text
returns-clause-text c m entry traces ports =
    let t = c.args.self.now in
    let after : Entry = followed m entry c.args.event in
    let time = c.args.time in
    let fits : Fits m t.next = fits-alike m t.values t.next t.alike traces.fits in
    let told : values_held c.take.new.self ≡ values_in m after = c.take.ensures.held m after (c.event.ensures.shows m entry traces.shows) ports fits in
    let lines : List ℕ = text_of (time_line time ∷ changed_lines 0 (values_held t.values) (values_held c.take.new.self)) in
    let made : c.push_event.new.text.items ≡ c.clear.new.self.items ++ lines =
    subst (λ result. OnOk result (c.push_event.new.text.items ≡ c.clear.new.self.items ++ lines)) c.unwrap.ensures c.push_event.ensures.text in
    made ∙ ap (λ (front : List ℕ). front ++ lines) c.clear.ensures.items ∙ ap₂ (λ (old new : List Value). text_of (time_line time ∷ changed_lines 0 old new)) traces.held told

pub returns-clause-traces : goal.returns-clause-traces
returns-clause-traces c m entry traces ports =
    let t = c.args.self.now in
    let after : Entry = followed m entry c.args.event in
    let fits : Fits m t.next = fits-alike m t.values t.next t.alike traces.fits in
    let shows = c.event.ensures.shows m entry traces.shows in
    record {
      shows = shows;
      fits = subst (Fits m) (sym c.swap.ensures.x_after) (fits-alike m t.next c.take.new.self c.take.ensures.alike fits);
      held = ap values_held c.swap.ensures.x_after ∙ c.take.ensures.held m after shows ports fits;
    }
