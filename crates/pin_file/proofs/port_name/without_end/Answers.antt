use Rattle.std.proofs.Common.{◌≡◌, ◌∙◌, sym, arith}
use Rattle.pin_file.proofs.NameSteps.{trim-all, trim-more, trim-none, trim-stop}
use Rattle.pin_file.proofs.port_name.without_end.Goals as goal
use Rattle.pin_file.proofs.port_name.without_end.Goals.{then-loop-end-test+else-is_underscore, else-loop-end-test}

pub loop-end-init : goal.loop-end-init
loop-end-init c = record { within = omega arith; passed = trim-all c.args.bytes.now }

pub loop-end-preserved : goal.loop-end-preserved
loop-end-preserved c = record {
  within = omega arith;
  passed = trim-more c.args.bytes.now c.loop-end.end c.loop-end-test.true c.loop-end.invariant.within (sym c.is_underscore.ensures ∙ c.if-is_underscore.true) c.loop-end.invariant.passed;
}

pub returns : goal.returns
returns c =
    elim c.loop-end-test.branch [
      | then-loop-end-test+else-is_underscore w ↦
          trim-stop c.args.bytes.now c.loop-end.end w.loop-end-test.true c.loop-end.invariant.within (sym w.is_underscore.ensures ∙ w.if-is_underscore.false) c.loop-end.invariant.passed
      | else-loop-end-test w ↦
          let none : c.loop-end.end ≡ 0 = omega arith in
          trim-none c.args.bytes.now c.loop-end.end none c.loop-end.invariant.passed
    ]
