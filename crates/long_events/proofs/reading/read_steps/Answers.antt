use Rattle.std.proofs.Common.{◌≡◌, ℕ, ◌+◌, ◌<◌, ◌≤◌, [], drop, length, take, take_all, refl, subst, sym, ap, ◌∙◌, arith, List}
use Rattle.std.proofs.lemmas.Result.{err_from_is_err_and}
use Rattle.text_lines.specs.Lines.{lines_of}
use Rattle.shared_lemmas.proofs.Cuts.{drop_cons, drop_end}
use Rattle.vlog_run.specs.Events.{cut_lines}
use Rattle.vlog_run.proofs.EventLines.{one-line}
use Rattle.vlog_semantics.specs.Slots.{slot_of}
use Rattle.long_events.specs.Lists.{steps_of}
use Rattle.long_events.specs.Moves.{moves_of}
use Rattle.long_events.specs.inside.Reading.{Keeps}
use Rattle.long_events.proofs.Faults.{AreFine, fine-all, fine-more, fine-none, level-more, open-all, told-first}
use Rattle.long_events.proofs.Kept.{keeps-moves, keeps-nested}
use Rattle.long_events.proofs.reading.read_steps.Goals as goal

-- where no text is left, all lines are read
last-line : (left bytes : List ℕ) (count : ℕ) → left ≡ [] → cut_lines left ≡ drop count (cut_lines bytes) → count ≤ length (cut_lines bytes) → count ≡ length (cut_lines bytes)
unfolding lines_of
last-line left bytes count none lines within = drop_end (cut_lines bytes) count (sym lines ∙ ap cut_lines none) within

pub loop-line-init : goal.loop-line-init
loop-line-init c =
    let pins = slot_of c.args.pins.now in
    let lines = cut_lines c.args.bytes.now in
    record {
      lines = refl;
      within = omega arith;
      short = omega arith;
      keeps = c.new-reading.ensures.keeps;
      fine = subst (λ level. AreFine pins lines 0 level c.new-reading.result.outermost) (sym c.new-reading.ensures.level) (fine-none pins lines c.new-reading.result.outermost);
    }

pub loop-line-preserved : goal.loop-line-preserved
loop-line-preserved c =
    let lines = cut_lines c.args.bytes.now in
    let pins = slot_of c.args.pins.now in
    let i = c.loop-line.invariant in
    let line = c.in-Some.line in
    let content = c.trimmed.result.now in
    let count = c.loop-line.count in
    let old = c.loop-line.reading in
    let new = c.take_line.new.self in
    let before = steps_of pins (take count lines) in
    let at = drop_cons lines count [] content (cut_lines line.rest.now) (sym i.lines ∙ one-line c.loop-line.left.now line.content.now content line.rest.now c.in-Some.ensures.lines c.trimmed.ensures) in
    let kept = c.in_ok-take_line.ensures.kept before i.keeps in
    record {
      lines = at.2;
      within = omega (arith, at.0);
      short = omega (arith, i.short, c.in-Some.ensures.shorter);
      keeps = subst (Keeps new.steps.items new.level) (sym (level-more pins lines count content at.0 at.1)) kept;
      fine = subst (λ n. AreFine pins lines (count + 1) new.level n) (sym c.in_ok-take_line.ensures.outermost)
          (fine-more pins lines count old.level old.outermost new.level content i.fine at.0 at.1 c.in_ok-take_line.ensures.accepted kept.same_level);
    }

pub returns-in_err-take_line-clause-refused : goal.returns-in_err-take_line-clause-refused
returns-in_err-take_line-clause-refused c =
    let lines = cut_lines c.args.bytes.now in
    let pins = slot_of c.args.pins.now in
    let i = c.loop-line.invariant in
    let line = c.in-Some.line in
    let content = c.trimmed.result.now in
    let count = c.loop-line.count in
    let old = c.loop-line.reading in
    let told = c.in_err-take_line.field-0.0 in
    let at = drop_cons lines count [] content (cut_lines line.rest.now) (sym i.lines ∙ one-line c.loop-line.left.now line.content.now content line.rest.now c.in-Some.ensures.lines c.trimmed.ensures) in
    let p = err_from_is_err_and c.from_residual.result c.from_residual.ensures.1 in
    rw (p.1, p.2) (told-first pins lines count old.level old.outermost content told i.fine at.0 at.1 c.in_err-take_line.ensures.refused)

pub returns-then-reading-eq0-clause-nested : goal.returns-then-reading-eq0-clause-nested
returns-then-reading-eq0-clause-nested c =
    let lines = cut_lines c.args.bytes.now in
    let pins = slot_of c.args.pins.now in
    let reading = c.loop-line.reading in
    let steps = steps_of pins (take c.loop-line.count lines) in
    let closed : reading.level ≡ 0 = grind (arith, c.if-reading-eq0.true) in
    keeps-nested reading.steps.items steps (subst (λ level. Keeps reading.steps.items level steps) closed c.loop-line.invariant.keeps)

pub returns-then-reading-eq0-clause-moves : goal.returns-then-reading-eq0-clause-moves
returns-then-reading-eq0-clause-moves c =
    let lines = cut_lines c.args.bytes.now in
    let pins = slot_of c.args.pins.now in
    let reading = c.loop-line.reading in
    let steps = steps_of pins (take c.loop-line.count lines) in
    let closed : reading.level ≡ 0 = grind (arith, c.if-reading-eq0.true) in
    let at = last-line c.loop-line.left.now c.args.bytes.now c.loop-line.count c.in_default.ensures.lines c.loop-line.invariant.lines c.loop-line.invariant.within in
    keeps-moves reading.steps.items steps (subst (λ level. Keeps reading.steps.items level steps) closed c.loop-line.invariant.keeps)
    ∙ ap (λ some. moves_of (steps_of pins some)) (take_all c.loop-line.count lines (omega (arith, at)))

pub returns-then-reading-eq0-clause-accepted : goal.returns-then-reading-eq0-clause-accepted
returns-then-reading-eq0-clause-accepted c =
    let lines = cut_lines c.args.bytes.now in
    let pins = slot_of c.args.pins.now in
    let reading = c.loop-line.reading in
    let closed : reading.level ≡ 0 = grind (arith, c.if-reading-eq0.true) in
    let at = last-line c.loop-line.left.now c.args.bytes.now c.loop-line.count c.in_default.ensures.lines c.loop-line.invariant.lines c.loop-line.invariant.within in
    fine-all pins lines c.loop-line.count reading.outermost (subst (λ level. AreFine pins lines c.loop-line.count level reading.outermost) closed c.loop-line.invariant.fine) at

pub returns-else-reading-eq0-clause-refused : goal.returns-else-reading-eq0-clause-refused
returns-else-reading-eq0-clause-refused c =
    let lines = cut_lines c.args.bytes.now in
    let pins = slot_of c.args.pins.now in
    let reading = c.loop-line.reading in
    let some : 0 < reading.level = grind (arith, c.if-reading-eq0.false) in
    let at = last-line c.loop-line.left.now c.args.bytes.now c.loop-line.count c.in_default.ensures.lines c.loop-line.invariant.lines c.loop-line.invariant.within in
    open-all pins lines c.loop-line.count reading.level reading.outermost c.loop-line.invariant.fine at some
