use Rattle.std.specs.Prelude.{IfSome}
use Rattle.std.proofs.Common.{◌≡◌, ℕ, ◌<◌, true, take, get_or, sym, ◌∙◌, ap, subst, arith}
use Rattle.std.proofs.lemmas.List.{length-set, take_all}
use Rattle.fabric_model.specs.Clocks.{end_by}
use Rattle.fabric_model.specs.Links.{class_in}
use Rattle.fabric_model.proofs.Within.{within-parts}
use Rattle.fabric_wiring.specs.Ends.{end_in}
use Rattle.fabric_model.specs.Drivers.{nets_read}
use Rattle.graph_order.specs.Wiring.{has}
use Rattle.fabric_wiring.specs.Drives.{rule_of}
use Rattle.fabric_wiring.specs.DriverLists.{driver_in}
use Rattle.fabric_wiring.proofs.Drives.{kept-within, turn-kept}
use Rattle.fabric_wiring.proofs.Following.{AreFound, still-found, next-below, next-found, found-ends}
use Rattle.fabric_wiring.proofs.ends.follow.Goals as goal

pub loop-class-init : goal.loop-class-init
loop-class-init g c = record {
  classes = c.requires.1.1.1.0;
  found = still-found g.fabric c.args.ends.now c.requires.1.1.1.1;
}

pub end_from-requires-clause-class : goal.end_from-requires-clause-class
end_from-requires-clause-class g c =
    let below = next-below g.fabric c.args.order.now c.requires.1.1.0 c.loop-class.class-index c.loop-class-test.true in
    omega (arith, below, c.requires.1.0.classes)

pub end_from-requires-clause-reads : goal.end_from-requires-clause-reads
end_from-requires-clause-reads g c =
    let class = get_or c.args.order.now c.loop-class.class-index 0 in
    let below = next-below g.fabric c.args.order.now c.requires.1.1.0 c.loop-class.class-index c.loop-class-test.true in
    subst (λ count. IfSome (driver_in c.args.drivers.now class) (λ drive. (net : ℕ) → has (nets_read (rule_of drive.rule)) net ≡ true → net < count)) (sym c.requires.0.nets)
    (kept-within g.fabric class (within-parts g.fabric c.requires.0.within) (driver_in c.args.drivers.now class) (c.requires.1.0.each class below))

pub bounds-ends-class : goal.bounds-ends-class
bounds-ends-class g c =
    let below = next-below g.fabric c.args.order.now c.requires.1.1.0 c.loop-class.class-index c.loop-class-test.true in
    omega (arith, below, c.loop-class.invariant.classes)

pub loop-class-preserved : goal.loop-class-preserved
loop-class-preserved g c =
    let class = get_or c.args.order.now c.loop-class.class-index 0 in
    let kept = c.loop-class.ends in
    let links = c.args.parts.now.links in
    let below = next-below g.fabric c.args.order.now c.requires.1.1.0 c.loop-class.class-index c.loop-class-test.true in
    record {
      classes = length-set kept class c.end_from.result ∙ c.loop-class.invariant.classes;
      found = next-found g.fabric c.args.order.now c.requires.1.1.0 c.loop-class.class-index c.loop-class-test.true
          (λ net. end_in kept (class_in links net)) kept c.end_from.result c.loop-class.invariant.classes c.loop-class.invariant.found
          (λ net. ap (end_in kept) (c.requires.0.classes net))
          (c.end_from.ensures ∙ ap (end_by (λ net. end_in kept (class_in links net))) (sym (turn-kept g.fabric c.args.parts.now c.requires.0 c.args.drivers.now c.requires.1.0 class below)));
    }

pub returns : goal.returns
returns g c =
    let order = c.args.order.now in
    let whole : take c.loop-class.class-index order ≡ order = take_all c.loop-class.class-index order c.loop-class-test.false in
    found-ends g.fabric order c.requires.1.1.0 (within-parts g.fabric c.requires.0.within) c.loop-class.ends c.loop-class.invariant.classes
    (subst (λ listed. AreFound g.fabric listed c.loop-class.ends) whole c.loop-class.invariant.found)
