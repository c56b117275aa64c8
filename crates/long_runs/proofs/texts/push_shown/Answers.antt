use Rattle.std.proofs.Common.{◌≡◌, ◌∙◌, ◌++◌, ◌<◌, List, ℕ, ap, ap₂, append_assoc, subst, sym}
use Rattle.std.specs.Prelude.{All}
use Rattle.std.proofs.lemmas.Result.{on_ok_weaker}
use Rattle.vlog_semantics.specs.Run.{start}
use Rattle.long_events.specs.Streams.{events_left}
use Rattle.long_runs.specs.declared.form.LineForm.{LineForm}
use Rattle.long_runs.specs.Shown.{head_text, shown_text}
use Rattle.long_runs.specs.inside.Printing.{rest_text, start_text}
use Rattle.long_runs.proofs.Printed.{inputs-shown, text-whole}
use Rattle.long_runs.proofs.texts.push_shown.Goals as goal

pub push_rest-requires-clause-printing : goal.push_rest-requires-clause-printing
push_rest-requires-clause-printing c = record { m = c.args.module.now; entry = start c.args.module.now; prints = c.in_ok-printer.ensures.prints }

pub push_rest-requires-clause-inputs : goal.push_rest-requires-clause-inputs
push_rest-requires-clause-inputs c =
    let m = c.args.module.now in
    subst (λ n. All (λ event. event.pin < n) (events_left c.args.events)) (sym (inputs-shown c.in_ok-printer.printer m (start m) c.in_ok-printer.ensures.prints)) c.requires

pub returns : goal.returns
returns c =
    let m = c.args.module.now in
    let events = events_left c.args.events in
    let printer = c.in_ok-printer.printer in
    let made = c.in_ok-printer.ensures in
    let text = c.args.text.now.items in
    let head : List ℕ = c.in_ok-head.head.items in
    let rest : List ℕ = rest_text printer m (start m) events in
    let headed = c.in_ok-head.ensures ∙ ap (head_text m) (sym made.form) in
    let started = made.text ∙ ap (λ (form : LineForm). start_text form.shown form.registers (start m)) (sym made.form) in
    let counted = made.count ∙ c.left.ensures in
    let whole : head ++ (printer.text.items ++ rest) ≡ shown_text m events c.args.form = text-whole printer m events head headed started counted ∙ ap (λ (form : LineForm). shown_text m events form) made.form in
    let first = c.in_ok-extend_from_slice.ensures.items ∙ ap (λ (piece : List ℕ). text ++ piece) c.deref.ensures.value in
    let second = c.in_ok-extend_from_slice-2.ensures.items ∙ ap₂ (λ (front piece : List ℕ). front ++ piece) first c.deref-2.ensures.value in
    let both = ap (λ (front : List ℕ). front ++ rest) second ∙ append_assoc (text ++ head) printer.text.items rest ∙ append_assoc text head (printer.text.items ++ rest) ∙ ap (λ (behind : List ℕ). text ++ behind) whole in
    on_ok_weaker c.push_rest.result (λ is. is ∙ both) (c.push_rest.ensures m (start m) made.prints)
