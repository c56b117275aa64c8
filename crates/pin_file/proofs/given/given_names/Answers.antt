use Rattle.std.proofs.Common.{◌≡◌, ◌∷◌, [], drop, refl, sym, ◌∙◌, arith}
use Rattle.std.proofs.lemmas.Result.{err_from_is_err_and}
use Rattle.shared_lemmas.proofs.Cuts.{drop_cons}
use Rattle.text_lines.specs.Lines.{lines_of}
use Rattle.pin_file.specs.Feeding.{kept_in}
use Rattle.pin_file.proofs.Ends.{accepted, cut-end, fit-more, fit-nothing, refused}
use Rattle.pin_file.proofs.GivenSteps.{given-all, given-more, given-nothing}
use Rattle.pin_file.proofs.given.given_names.Goals as goal

pub loop-line-init : goal.loop-line-init
loop-line-init c = record {
  rest = refl;
  within = omega arith;
  short = omega arith;
  kept = λ place. c.new-names.ensures place ∙ sym (given-nothing (kept_in c.args.pins.now) (lines_of c.args.text.now) place);
  fit = fit-nothing (kept_in c.args.pins.now) (lines_of c.args.text.now);
}

pub returns-in_err-take_line-clause-refused : goal.returns-in_err-take_line-clause-refused
returns-in_err-take_line-clause-refused c =
    let i = c.loop-line.invariant in
    let lines = lines_of c.args.text.now in
    let left : drop c.loop-line.count lines ≡ c.in-Some.line.content.now ∷ lines_of c.in-Some.line.rest.now = sym i.rest ∙ c.in-Some.ensures.lines in
    let found = drop_cons lines c.loop-line.count [] c.in-Some.line.content.now (lines_of c.in-Some.line.rest.now) left in
    let p = err_from_is_err_and c.from_residual.result c.from_residual.ensures.1 in
    rw (p.1, p.2) (refused (kept_in c.args.pins.now) c.args.text.now c.loop-line.count c.in-Some.line.content.now c.in_err-take_line.field-0.0
    found.0 found.1 i.fit c.in_err-take_line.ensures.refused)

pub loop-line-preserved : goal.loop-line-preserved
loop-line-preserved c =
    let i = c.loop-line.invariant in
    let lines = lines_of c.args.text.now in
    let left : drop c.loop-line.count lines ≡ c.in-Some.line.content.now ∷ lines_of c.in-Some.line.rest.now = sym i.rest ∙ c.in-Some.ensures.lines in
    let found = drop_cons lines c.loop-line.count [] c.in-Some.line.content.now (lines_of c.in-Some.line.rest.now) left in
    record {
      rest = found.2;
      within = omega (arith, found.0);
      short = omega (arith, i.short, c.in-Some.ensures.shorter);
      kept = λ place. given-more (kept_in c.args.pins.now) lines c.loop-line.count c.in-Some.line.content.now place _ _ found.1 (i.kept place) (c.in_ok-take_line.ensures.taken place);
      fit = fit-more (kept_in c.args.pins.now) lines c.loop-line.count c.in-Some.line.content.now found.1 c.in_ok-take_line.ensures.fits i.fit;
    }

pub returns-clause-names : goal.returns-clause-names
returns-clause-names c =
    let i = c.loop-line.invariant in
    let all = cut-end (lines_of c.args.text.now) c.loop-line.count c.loop-line.left.now c.in_default.ensures.lines i.rest i.within in
    λ place. i.kept place ∙ given-all (kept_in c.args.pins.now) c.args.text.now c.loop-line.count place all

pub returns-clause-accepted : goal.returns-clause-accepted
returns-clause-accepted c =
    let i = c.loop-line.invariant in
    let all = cut-end (lines_of c.args.text.now) c.loop-line.count c.loop-line.left.now c.in_default.ensures.lines i.rest i.within in
    accepted (kept_in c.args.pins.now) c.args.text.now c.loop-line.count all i.fit
