use Rattle.std.proofs.Common.{◌≡◌, ◌∙◌, sym, length, ap, arith}
use Rattle.std.proofs.lemmas.List.{take_all}
use Rattle.text_lines.specs.Lines.{trimmed}
use Rattle.text_lines.proofs.Blanks.{trimmed-nothing, trimmed-take_blank, trimmed-take_kept}
use Rattle.text_lines.proofs.lines.trimmed.Goals as goal
use Rattle.text_lines.proofs.lines.trimmed.Goals.{then-loop-end-test+else-is_blank, else-loop-end-test}

pub loop-end-init : goal.loop-end-init
loop-end-init c = record {
  within = omega arith;
  same = ap trimmed (take_all (length c.args.line.now) c.args.line.now (omega arith));
}

pub loop-end-preserved : goal.loop-end-preserved
loop-end-preserved c = record {
  within = omega arith;
  same = trimmed-take_blank c.args.line.now c.loop-end.end c.loop-end-test.true c.loop-end.invariant.within (sym c.is_blank.ensures ∙ c.if-is_blank.true) ∙ c.loop-end.invariant.same;
}

pub returns : goal.returns
returns c =
    elim c.loop-end-test.branch [
      | then-loop-end-test+else-is_blank w ↦
          sym (trimmed-take_kept c.args.line.now c.loop-end.end w.loop-end-test.true c.loop-end.invariant.within (sym w.is_blank.ensures ∙ w.if-is_blank.false)) ∙ c.loop-end.invariant.same
      | else-loop-end-test w ↦
          let none : c.loop-end.end ≡ 0 = omega arith in
          rw none (sym trimmed-nothing ∙ (rw none at c.loop-end.invariant.same))
    ]
