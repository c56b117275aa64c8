use Rattle.std.proofs.Common.{◌≡◌, ◌∙◌, ℕ, List, ◌++◌, length, take, drop, get_or, ap, sym, subst, arith}
use Rattle.std.specs.Prelude.{Option, None, option_and_then, option_to_list, slice_get}
use Rattle.std.proofs.Math.Seq.{take-append_seam}
use Rattle.fabric_wiring.specs.declared.twice.Twice.{Twice}
use Rattle.fabric_wiring.specs.Passed.{ArePassed, drivers_in}
use Rattle.fabric_wiring.proofs.Passed.{each-kept, none-told, least-told}
use Rattle.fabric_wiring.proofs.places.places.Goals as goal

pub returns-in-None-clause-each : goal.returns-in-None-clause-each
returns-in-None-clause-each c = λ class inside.
    let links = c.args.links.now in
    let drives = c.args.drives.now in
    let new = c.enter_all.new.places in
    let Passed : Option Twice → Type 0 = ArePassed drives (drivers_in links drives) new in
    let passed = subst Passed c.in-None.is c.in_ok-enter_all.ensures in
    let same : length new ≡ length links.classes = omega (arith, c.enter_all.auto.places, c.deref_mut.ensures.len, c.in_ok-places.ensures.len, c.net_count.ensures) in
    let rest = drop (length new) c.in_ok-places.places.items in
    each-kept links drives new class passed (omega (arith, inside, same))
    ∙ ap (λ (places : List (Option ℕ)). option_to_list (option_and_then (slice_get drives) (get_or places class None)))
    (sym (ap (λ (n : ℕ). take n (new ++ rest)) (omega (arith, same, c.in_ok-places.ensures.len, c.net_count.ensures)) ∙ take-append_seam new rest))

pub returns-in-None-clause-taken : goal.returns-in-None-clause-taken
returns-in-None-clause-taken c =
    let links = c.args.links.now in
    let drives = c.args.drives.now in
    let Passed : Option Twice → Type 0 = ArePassed drives (drivers_in links drives) c.enter_all.new.places in
    none-told links drives c.enter_all.new.places (subst Passed c.in-None.is c.in_ok-enter_all.ensures)
    (omega (arith, c.enter_all.auto.places, c.deref_mut.ensures.len, c.in_ok-places.ensures.len, c.net_count.ensures))

pub returns-in-Some-clause-refused : goal.returns-in-Some-clause-refused
returns-in-Some-clause-refused c =
    let links = c.args.links.now in
    let drives = c.args.drives.now in
    let Passed : Option Twice → Type 0 = ArePassed drives (drivers_in links drives) c.enter_all.new.places in
    least-told links drives c.enter_all.new.places c.in-Some.twice (subst Passed c.in-Some.is c.in_ok-enter_all.ensures)
    (omega (arith, c.enter_all.auto.places, c.deref_mut.ensures.len, c.in_ok-places.ensures.len, c.net_count.ensures))
