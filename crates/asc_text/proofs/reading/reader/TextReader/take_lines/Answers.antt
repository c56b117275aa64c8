use Rattle.std.proofs.Common.{ℕ, ◌+◌, sym, subst, ◌∙◌, arith}
use Rattle.std.proofs.lemmas.Result.{err_from_is_err_and}
use Rattle.asc_text.specs.inside.Reading.{state_of}
use Rattle.asc_text.proofs.FirstLines.{is-empty, not-empty}
use Rattle.asc_text.proofs.LinesRead.{HasTaken, HasTaken-none, HasTaken-first, HasTaken-lines, HasTaken-ready, HasTaken-ended, HasTaken-stops, TakesLines-shorter}
use Rattle.asc_text.proofs.reading.reader.TextReader.take_lines.Goals as goal

pub loop-left-init : goal.loop-left-init
loop-left-init c = HasTaken-none (state_of c.args.self.now) c.args.before c.args.text.now

pub accept_any-requires : goal.accept_any-requires
accept_any-requires c =
    let text = c.loop-left.left.now in
    record {
      ready = HasTaken-ready (state_of c.args.self.now) c.args.before c.args.text.now c.loop-left.count text (state_of c.loop-left.self) c.requires.reached c.loop-left.invariant;
      some = not-empty text (sym c.is_empty.ensures ∙ c.loop-left-test.true);
    }

pub returns-in_err-following-clause-refused : goal.returns-in_err-following-clause-refused
returns-in_err-following-clause-refused c =
    let text = c.loop-left.left.now in
    let fault = c.in_err-following.field-0.0 in
    let p = err_from_is_err_and c.from_residual.result c.from_residual.ensures.1 in
    rw (p.1, p.2) (HasTaken-stops (state_of c.args.self.now) c.args.before c.args.text.now c.loop-left.count text (state_of c.loop-left.self) fault
    (not-empty text (sym c.is_empty.ensures ∙ c.loop-left-test.true)) c.loop-left.invariant c.in_err-following.ensures.refused)

pub accept_plain-plain-requires : goal.accept_plain-plain-requires
accept_plain-plain-requires c =
    let s = state_of c.args.self.now in
    let new = state_of c.accept_any.new.self in
    let following = c.in_ok-following.following.now in
    let taken = HasTaken-first s c.args.before c.args.text.now c.loop-left.count c.loop-left.left.now following (state_of c.loop-left.self) new c.loop-left.invariant c.in_ok-following.ensures.taken in
    record { ready = HasTaken-ready s c.args.before c.args.text.now (c.loop-left.count + 1) following new c.requires.reached taken }

pub loop-left-preserved : goal.loop-left-preserved
loop-left-preserved c =
    let s = state_of c.args.self.now in
    let before = c.args.before in
    let text = c.args.text.now in
    let plain = c.accept_plain-plain.result in
    let between = state_of c.accept_any.new.self in
    let new = state_of c.accept_plain-plain.new.self in
    let following = c.in_ok-following.following.now in
    let first = HasTaken-first s before text c.loop-left.count c.loop-left.left.now following (state_of c.loop-left.self) between c.loop-left.invariant c.in_ok-following.ensures.taken in
    let all = HasTaken-lines s before text (c.loop-left.count + 1) plain.count following plain.rest.now between new first c.accept_plain-plain.ensures in
    rw c.from.ensures (subst (λ (n : ℕ). HasTaken s before text n plain.rest.now new) (omega arith) all)

pub loop-left-smaller : goal.loop-left-smaller
loop-left-smaller c =
    let plain = c.accept_plain-plain.result in
    let shorter = TakesLines-shorter c.in_ok-following.following.now plain.rest.now plain.count (state_of c.accept_any.new.self) (state_of c.accept_plain-plain.new.self) c.accept_plain-plain.ensures in
    omega (arith, c.in_ok-following.ensures.taken.shorter, shorter)

pub overflow_add-count-in-loop-left-2 : goal.overflow_add-count-in-loop-left-2
overflow_add-count-in-loop-left-2 c =
    let i = c.loop-left.invariant in
    let plain = c.accept_plain-plain.result in
    let shorter = TakesLines-shorter c.in_ok-following.following.now plain.rest.now plain.count (state_of c.accept_any.new.self) (state_of c.accept_plain-plain.new.self) c.accept_plain-plain.ensures in
    omega (arith, c.requires.few, i.counted, i.short, c.in_ok-following.ensures.taken.shorter, shorter, c.from.ensures)

pub returns-clause-taken : goal.returns-clause-taken
returns-clause-taken c =
    (HasTaken-ended (state_of c.args.self.now) c.args.before c.args.text.now c.loop-left.count c.loop-left.left.now (state_of c.loop-left.self) (is-empty c.loop-left.left.now (sym c.is_empty.ensures ∙ c.loop-left-test.false)) c.loop-left.invariant).0

pub returns-clause-counted : goal.returns-clause-counted
returns-clause-counted c =
    (HasTaken-ended (state_of c.args.self.now) c.args.before c.args.text.now c.loop-left.count c.loop-left.left.now (state_of c.loop-left.self) (is-empty c.loop-left.left.now (sym c.is_empty.ensures ∙ c.loop-left-test.false)) c.loop-left.invariant).1
