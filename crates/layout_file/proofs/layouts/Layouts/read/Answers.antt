use Rattle.std.proofs.Common.{◌≡◌, ◌∷◌, drop, refl, sym, ◌∙◌, arith, []}
use Rattle.std.proofs.lemmas.Result.{err_from_is_err_and}
use Rattle.shared_lemmas.proofs.Cuts.{drop_cons}
use Rattle.text_lines.specs.Lines.{lines_of}
use Rattle.index_search.specs.Places.{first_below}
use Rattle.layout_file.specs.Layouts.{layouts_in}
use Rattle.layout_file.specs.inside.Reading.{layouts_of}
use Rattle.layout_file.proofs.ByDevice.{read-are}
use Rattle.layout_file.proofs.LineSteps.{reader-first}
use Rattle.layout_file.proofs.Ends.{accepted, answered, cut-end, fit-next, read-next, refused}
use Rattle.layout_file.proofs.layouts.Layouts.read.Goals as goal

pub loop-line-init : goal.loop-line-init
unfolding first_below
loop-line-init c = record {
  rest = refl;
  within = omega arith;
  short = omega arith;
  read = c.new-reader.ensures ∙ sym (reader-first (lines_of c.args.bytes.now));
  fit = refl;
}

pub returns-in_err-take_line-clause-refused : goal.returns-in_err-take_line-clause-refused
returns-in_err-take_line-clause-refused c =
    let i = c.loop-line.invariant in
    let lines = lines_of c.args.bytes.now in
    let left : drop c.loop-line.count lines ≡ c.in-Some.line.content.now ∷ lines_of c.in-Some.line.rest.now = sym i.rest ∙ c.in-Some.ensures.lines in
    let found = drop_cons lines c.loop-line.count [] c.in-Some.line.content.now (lines_of c.in-Some.line.rest.now) left in
    let p = err_from_is_err_and c.from_residual.result c.from_residual.ensures.1 in
    rw (p.1, p.2) (refused c.args.bytes.now c.loop-line.count c.in-Some.line.content.now c.loop-line.reader c.in_err-take_line.field-0.0
    found.0 found.1 i.read i.fit c.in_err-take_line.ensures.refused)

pub loop-line-preserved : goal.loop-line-preserved
loop-line-preserved c =
    let i = c.loop-line.invariant in
    let lines = lines_of c.args.bytes.now in
    let left : drop c.loop-line.count lines ≡ c.in-Some.line.content.now ∷ lines_of c.in-Some.line.rest.now = sym i.rest ∙ c.in-Some.ensures.lines in
    let found = drop_cons lines c.loop-line.count [] c.in-Some.line.content.now (lines_of c.in-Some.line.rest.now) left in
    record {
      rest = found.2;
      within = omega (arith, found.0);
      short = omega (arith, i.short, c.in-Some.ensures.shorter);
      read = read-next lines c.loop-line.count c.in-Some.line.content.now c.loop-line.reader c.take_line.new.reader
          found.1 i.read c.in_ok-take_line.ensures.fits c.in_ok-take_line.ensures.taken;
      fit = fit-next lines c.loop-line.count c.in-Some.line.content.now c.loop-line.reader found.1 i.read c.in_ok-take_line.ensures.fits i.fit;
    }

pub returns-clause-layouts : goal.returns-clause-layouts
returns-clause-layouts c =
    let i = c.loop-line.invariant in
    let all = cut-end (lines_of c.args.bytes.now) c.loop-line.count c.loop-line.left.now c.in_default.ensures.lines i.rest i.within in
    c.layouts.ensures ∙ answered c.args.bytes.now c.loop-line.count c.loop-line.reader all i.read

pub returns-clause-accepted : goal.returns-clause-accepted
returns-clause-accepted c =
    let i = c.loop-line.invariant in
    let all = cut-end (lines_of c.args.bytes.now) c.loop-line.count c.loop-line.left.now c.in_default.ensures.lines i.rest i.within in
    accepted c.args.bytes.now c.loop-line.count all i.fit

pub returns-clause-devices : goal.returns-clause-devices
returns-clause-devices c =
    let i = c.loop-line.invariant in
    let all = cut-end (lines_of c.args.bytes.now) c.loop-line.count c.loop-line.left.now c.in_default.ensures.lines i.rest i.within in
    let are : layouts_of c.loop-line.reader ≡ layouts_in c.args.bytes.now = answered c.args.bytes.now c.loop-line.count c.loop-line.reader all i.read in
    rw (c.layouts.ensures, are) (read-are c.args.bytes.now)
