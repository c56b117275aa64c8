use Rattle.std.proofs.Common.{◌∙◌, sym, arith, subst, List, [], length, ℕ}
use Rattle.std.specs.Prelude.{Option, None}
use Rattle.fabric_wiring.specs.Passed.{ArePassed, drivers_in}
use Rattle.fabric_wiring.proofs.Passed.{none-entered, class-within, more-entered, all-entered}
use Rattle.fabric_wiring.proofs.places.enter_all.Goals as goal

pub loop-i-init : goal.loop-i-init
loop-i-init c =
    let links = c.args.links.now in
    let drives = c.args.drives.now in
    let Passed : List (Option ℕ) → Type 0 = λ places. ArePassed drives (drivers_in links []) places None in
    record { length = c.requires.nets; passed = subst Passed (sym c.requires.none) (none-entered links drives (length links.classes)) }

pub enter-requires-clause-class : goal.enter-requires-clause-class
enter-requires-clause-class c =
    let within = class-within c.args.links.now c.args.drives.now c.loop-i.i _ _ c.loop-i-test.true c.requires.classes c.requires.within c.class_of-class.ensures in
    omega (arith, within, c.loop-i.invariant.length)

pub loop-i-preserved : goal.loop-i-preserved
loop-i-preserved c = record {
  length = c.enter.auto.places ∙ c.loop-i.invariant.length;
  passed = more-entered c.args.links.now c.args.drives.now c.loop-i.i _ c.class_of-class.result _ _ c.loop-i-test.true c.class_of-class.ensures (c.in_ok-twice.ensures _ c.loop-i.invariant.passed);
}

pub returns : goal.returns
returns c = all-entered c.args.links.now c.args.drives.now c.loop-i.i _ _ (omega arith) c.loop-i.invariant.passed
