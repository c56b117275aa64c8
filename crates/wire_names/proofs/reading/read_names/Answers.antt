use Rattle.std.proofs.Common.{◌≡◌, [], ◌∷◌, drop, refl, sym, ◌∙◌, ap, arith, take}
use Rattle.std.proofs.lemmas.Result.{err_from_is_err_and}
use Rattle.shared_lemmas.proofs.Cuts.{drop_cons, drop_end}
use Rattle.text_lines.specs.Lines.{lines_of}
use Rattle.wire_names.specs.Faults.{named_in}
use Rattle.wire_names.proofs.Ends.{accepted, answered, fit-more, fit-nothing, names-next, refused}
use Rattle.wire_names.proofs.reading.read_names.Goals as goal

pub loop-line-init : goal.loop-line-init
unfolding named_in
loop-line-init c = record {
  rest = refl;
  within = omega arith;
  short = omega arith;
  names = c.in_ok-naming.ensures;
  fit = fit-nothing c.args.«module».now (lines_of c.args.text.now);
}

pub returns-in_err-take_line-clause-refused : goal.returns-in_err-take_line-clause-refused
returns-in_err-take_line-clause-refused c =
    let i = c.loop-line.invariant in
    let lines = lines_of c.args.text.now in
    let left : drop c.loop-line.count lines ≡ c.in-Some.line.content.now ∷ lines_of c.in-Some.line.rest.now = sym i.rest ∙ c.in-Some.ensures.lines in
    let found = drop_cons lines c.loop-line.count [] c.in-Some.line.content.now (lines_of c.in-Some.line.rest.now) left in
    let p = err_from_is_err_and c.from_residual-in_err-take_line.result c.from_residual-in_err-take_line.ensures.1 in
    rw (p.1, p.2) (refused c.args.«module».now c.args.text.now c.loop-line.count c.in-Some.line.content.now c.in_err-take_line.field-0.0
    found.0 found.1 i.fit (c.in_err-take_line.ensures.refused c.args.«module».now (named_in (take c.loop-line.count lines)) i.names))

pub loop-line-preserved : goal.loop-line-preserved
loop-line-preserved c =
    let i = c.loop-line.invariant in
    let m = c.args.«module».now in
    let lines = lines_of c.args.text.now in
    let earlier = named_in (take c.loop-line.count lines) in
    let left : drop c.loop-line.count lines ≡ c.in-Some.line.content.now ∷ lines_of c.in-Some.line.rest.now = sym i.rest ∙ c.in-Some.ensures.lines in
    let found = drop_cons lines c.loop-line.count [] c.in-Some.line.content.now (lines_of c.in-Some.line.rest.now) left in
    record {
      rest = found.2;
      within = omega (arith, found.0);
      short = omega (arith, i.short, c.in-Some.ensures.shorter);
      names = names-next m lines c.loop-line.count c.in-Some.line.content.now c.take_line.new.naming found.0 found.1 (c.in_ok-take_line.ensures.taken m earlier i.names);
      fit = fit-more m lines c.loop-line.count c.in-Some.line.content.now found.1 (c.in_ok-take_line.ensures.fits m earlier i.names) i.fit;
    }

pub returns-clause-names : goal.returns-clause-names
unfolding lines_of
returns-clause-names c =
    let i = c.loop-line.invariant in
    let all = drop_end (lines_of c.args.text.now) c.loop-line.count (sym i.rest ∙ ap lines_of c.in_default.ensures.lines) i.within in
    c.finish.ensures c.args.«module».now (named_in (take c.loop-line.count (lines_of c.args.text.now))) i.names ∙ answered c.args.text.now c.loop-line.count all

pub returns-clause-accepted : goal.returns-clause-accepted
unfolding lines_of
returns-clause-accepted c =
    let i = c.loop-line.invariant in
    let all = drop_end (lines_of c.args.text.now) c.loop-line.count (sym i.rest ∙ ap lines_of c.in_default.ensures.lines) i.within in
    accepted c.args.«module».now c.args.text.now c.loop-line.count all i.fit
