use Rattle.std.proofs.Common.{◌≡◌, ◌∙◌, ◌+◌, ◌*◌, ◌^◌, ◌<◌, ℕ, ap, ap₂, arith, length, subst, sym}
use Rattle.std.specs.Prelude.{All, vec_len}
use Rattle.std.proofs.lemmas.Bool.{ltb-true}
use Rattle.vlog_semantics.specs.Run.{start}
use Rattle.vlog_run.specs.Text.{entry_line}
use Rattle.long_events.specs.Streams.{events_left}
use Rattle.long_runs.specs.declared.form.LineForm.{LineForm}
use Rattle.long_runs.specs.Shown.{head_text, most_lines, shown_text}
use Rattle.long_runs.specs.inside.Printing.{start_text}
use Rattle.long_runs.proofs.Printed.{countable-is, inputs-shown}
use Rattle.long_runs.proofs.lines.RunLines.new.Goals as goal

pub fits-requires : goal.fits-requires
fits-requires c = omega (arith, c.in_ok-printer.ensures.prints.line)

pub invariant_of-result-clause-inputs : goal.invariant_of-result-clause-inputs
invariant_of-result-clause-inputs c =
    let m = c.args.module in
    subst (λ n. All (λ event. event.pin < n) (events_left c.args.events)) (sym (inputs-shown c.in_ok-printer.printer m (start m) c.in_ok-printer.ensures.prints)) c.requires

pub invariant_of-result-clause-few : goal.invariant_of-result-clause-few
invariant_of-result-clause-few c =
    let printer = c.in_ok-printer.printer in
    let form = c.args.form in
    let head = c.in_ok-head.head in
    let events = events_left c.args.events in
    let room = printer.line_room in
    let less = ltb-true (c.len.result + most_lines form.shown c.left-2.result * room) (2 ^ 64) (sym c.fits.ensures ∙ c.if-fits.true) in
    let same : c.len.result + most_lines form.shown c.left-2.result * room ≡ vec_len head + most_lines printer.form.shown (length events) * room =
    ap₂ (λ (size count : ℕ). size + most_lines form.shown count * room) c.len.ensures c.left-2.ensures
    ∙ ap (λ (how : LineForm). vec_len head + most_lines how.shown (length events) * room) (sym c.in_ok-printer.ensures.form) in
    subst (λ (n : ℕ). n < 2 ^ 64) same less

pub invariant_of-result-clause-headed : goal.invariant_of-result-clause-headed
invariant_of-result-clause-headed c = c.in_ok-head.ensures ∙ ap (head_text c.args.module) (sym c.in_ok-printer.ensures.form)

pub invariant_of-result-clause-started : goal.invariant_of-result-clause-started
invariant_of-result-clause-started c =
    c.in_ok-printer.ensures.text ∙ ap (λ (form : LineForm). start_text form.shown form.registers (start c.args.module)) (sym c.in_ok-printer.ensures.form)

pub returns-then-fits-clause-lines : goal.returns-then-fits-clause-lines
returns-then-fits-clause-lines c = ap (λ (form : LineForm). shown_text c.args.module (events_left c.args.events) form) c.in_ok-printer.ensures.form

pub returns-then-fits-clause-counted : goal.returns-then-fits-clause-counted
returns-then-fits-clause-counted c =
    let m = c.args.module in
    let form = c.args.form in
    let printer = c.in_ok-printer.printer in
    let made = c.in_ok-printer.ensures in
    let line = ap (λ (how : LineForm). 32 + length (entry_line how.registers (start m))) (sym made.form) ∙ made.prints.line in
    sym
    (countable-is m form (length (events_left c.args.events)) c.left-2.result c.len.result printer.line_room c.in_ok-head.head.items c.in_ok-head.ensures (c.len.ensures ∙ c.in_ok-head.head.ok.0)
    c.left-2.ensures line)
    ∙ sym c.fits.ensures
    ∙ c.if-fits.true

pub returns-else-fits-clause-refused : goal.returns-else-fits-clause-refused
returns-else-fits-clause-refused c =
    let m = c.args.module in
    let form = c.args.form in
    let printer = c.in_ok-printer.printer in
    let made = c.in_ok-printer.ensures in
    let line = ap (λ (how : LineForm). 32 + length (entry_line how.registers (start m))) (sym made.form) ∙ made.prints.line in
    sym
    (countable-is m form (length (events_left c.args.events)) c.left-2.result c.len.result printer.line_room c.in_ok-head.head.items c.in_ok-head.ensures (c.len.ensures ∙ c.in_ok-head.head.ok.0)
    c.left-2.ensures line)
    ∙ sym c.fits.ensures
    ∙ c.if-fits.false
