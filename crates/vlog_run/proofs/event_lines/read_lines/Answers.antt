use Rattle.std.proofs.Common.{[], flat_map, take_all, refl, sym, ap, ◌∙◌, arith}
use Rattle.std.proofs.lemmas.Result.{err_from_is_err_and}
use Rattle.text_lines.specs.Lines.{lines_of}
use Rattle.shared_lemmas.proofs.Cuts.{drop_cons, drop_end}
use Rattle.vlog_run.specs.Events.{cut_lines, line_event}
use Rattle.vlog_semantics.specs.Slots.{slot_of}
use Rattle.vlog_run.proofs.EventLines.{fine-all, fine-more, fine-none, lines-more, one-line, told-first}
use Rattle.vlog_run.proofs.event_lines.read_lines.Goals as goal

pub loop-line-init : goal.loop-line-init
loop-line-init c = record {
  lines = refl;
  within = omega arith;
  short = omega arith;
  read = c.new-events.ensures.items;
  fine = fine-none (slot_of c.args.pins.now) (cut_lines c.args.bytes.now);
}

pub loop-line-preserved : goal.loop-line-preserved
loop-line-preserved c =
    let lines = cut_lines c.args.bytes.now in
    let pins = slot_of c.args.pins.now in
    let i = c.loop-line.invariant in
    let line = c.in-Some.line in
    let content = c.trimmed.result.now in
    let count = c.loop-line.count in
    let at = drop_cons lines count [] content (cut_lines line.rest.now) (sym i.lines ∙ one-line c.loop-line.left.now line.content.now content line.rest.now c.in-Some.ensures.lines c.trimmed.ensures) in
    record {
      lines = at.2;
      within = omega (arith, at.0);
      short = omega (arith, i.short, c.in-Some.ensures.shorter);
      read = lines-more pins lines count content c.loop-line.events.items c.take_line.new.events.items at.0 at.1 i.read c.in_ok-take_line.ensures.taken;
      fine = fine-more pins lines count content i.fine at.1 c.in_ok-take_line.ensures.accepted;
    }

pub returns-in_err-take_line-clause-refused : goal.returns-in_err-take_line-clause-refused
returns-in_err-take_line-clause-refused c =
    let lines = cut_lines c.args.bytes.now in
    let pins = slot_of c.args.pins.now in
    let i = c.loop-line.invariant in
    let line = c.in-Some.line in
    let content = c.trimmed.result.now in
    let count = c.loop-line.count in
    let told = c.in_err-take_line.field-0.0 in
    let at = drop_cons lines count [] content (cut_lines line.rest.now) (sym i.lines ∙ one-line c.loop-line.left.now line.content.now content line.rest.now c.in-Some.ensures.lines c.trimmed.ensures) in
    let p = err_from_is_err_and c.from_residual.result c.from_residual.ensures.1 in
    rw (p.1, p.2) (told-first pins lines count content told i.fine at.0 at.1 c.in_err-take_line.ensures.refused)

pub returns-clause-read : goal.returns-clause-read
unfolding lines_of
returns-clause-read c =
    let i = c.loop-line.invariant in
    let lines = cut_lines c.args.bytes.now in
    let all = drop_end (cut_lines c.args.bytes.now) c.loop-line.count (sym i.lines ∙ ap cut_lines c.in_default.ensures.lines) i.within in
    i.read ∙ ap (flat_map (line_event (slot_of c.args.pins.now))) (take_all c.loop-line.count lines (omega (arith, all)))

pub returns-clause-accepted : goal.returns-clause-accepted
unfolding lines_of
returns-clause-accepted c =
    let i = c.loop-line.invariant in
    let all = drop_end (cut_lines c.args.bytes.now) c.loop-line.count (sym i.lines ∙ ap cut_lines c.in_default.ensures.lines) i.within in
    fine-all (slot_of c.args.pins.now) (cut_lines c.args.bytes.now) c.loop-line.count i.fine all
