use Rattle.std.proofs.Common.{◌≡◌, sym, subst}
use Rattle.std.specs.Prelude.{None}
use Rattle.fabric_model.specs.Tiles.{first_of}
use Rattle.fabric_model.specs.Faults.{clock_faults}
use Rattle.fabric_model.proofs.Chains.{clock_end-leads}
use Rattle.fabric_model.proofs.Within.{within-parts}
use Rattle.fabric_wiring.specs.Ends.{AreEndsOf}
use Rattle.fabric.specs.Faults.{IsCause}
use Rattle.fabric.proofs.Refused.{told}
use Rattle.fabric.proofs.Evidence.{drivers-told, logic-told, clock_loops-told, same-cause, clocks-cause, no-cause}
use Rattle.fabric.proofs.wire.wire.Goals as goal

pub clocked-requires : goal.clocked-requires
clocked-requires g c = (
  c.requires.0,
  (subst (λ ends. AreEndsOf g.fabric ends) (sym c.deref-3.ensures.value) c.in_ok-ends.ensures, clock_end-leads g.fabric (within-parts g.fabric c.requires.0.within) _ c.in_ok-unclocked.ensures.order),
)

pub returns-in_err-drivers-clause-refused : goal.returns-in_err-drivers-clause-refused
returns-in_err-drivers-clause-refused g c =
    told c.from_residual.result _ _ c.from_residual.ensures.1 (drivers-told c.args.db.now.chip.device g.fabric c.requires.1.1 c.in_err-drivers.field-0.0 c.in_err-drivers.ensures.refused)

pub returns-in_err-unclocked-clause-refused : goal.returns-in_err-unclocked-clause-refused
returns-in_err-unclocked-clause-refused g c =
    told c.from_residual-in_err-unclocked.result _ _ c.from_residual-in_err-unclocked.ensures.1
    (logic-told c.args.db.now.chip.device g.fabric c.in_ok-drivers.ensures.taken c.in_err-unclocked.field-0.0 c.in_err-unclocked.ensures.refused)

pub returns-in_err-order-clause-refused : goal.returns-in_err-order-clause-refused
returns-in_err-order-clause-refused g c =
    told c.from_residual-in_err-order.result _ _ c.from_residual-in_err-order.ensures.1
    (clock_loops-told c.args.db.now.chip.device g.fabric c.in_ok-drivers.ensures.taken c.in_ok-unclocked.ensures.taken c.in_err-order.field-0.0 c.in_err-order.ensures.refused)

pub returns-in_err-clocked-clause-refused : goal.returns-in_err-clocked-clause-refused
returns-in_err-clocked-clause-refused g c =
    let device = c.args.db.now.chip.device in
    told c.from_residual-in_err-clocked.result _ _ c.from_residual-in_err-clocked.ensures.1
    (same-cause device g.fabric _ _ (clocks-cause device g.fabric c.in_ok-drivers.ensures.taken c.in_ok-unclocked.ensures.taken c.in_ok-order.ensures.taken) c.in_err-clocked.field-0.0
    (subst (λ d. IsCause d g.fabric (first_of (clock_faults d g.fabric)) c.in_err-clocked.field-0.0) c.device.ensures.device c.in_err-clocked.ensures.refused))

pub returns-clause-taken : goal.returns-clause-taken
returns-clause-taken g c =
    let device = c.args.db.now.chip.device in
    no-cause device g.fabric c.in_ok-drivers.ensures.taken c.in_ok-unclocked.ensures.taken c.in_ok-order.ensures.taken
    (subst (λ d. first_of (clock_faults d g.fabric) ≡ None) c.device.ensures.device c.in_ok-clocked.ensures.taken)
