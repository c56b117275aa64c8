use Rattle.std.proofs.Common.{sym, ◌∙◌}
use Rattle.graph_order.proofs.Alike.{order-alike, is_on_cycle-alike}
use Rattle.fabric.proofs.Evidence.{loop-told, loop-none}
use Rattle.fabric.proofs.order.order_of.Goals as goal

pub returns-in-Some-clause-order : goal.returns-in-Some-clause-order
returns-in-Some-clause-order g c =
    let is = rw c.in-Some.is at c.in_ok-order.ensures.order in
    order-alike c.requires.1.1.1.1 c.in-Some.order.items is

pub returns-in-Some-clause-taken : goal.returns-in-Some-clause-taken
returns-in-Some-clause-taken g c =
    let alike = c.requires.1.1.1.1 in
    let open_ = rw c.in-Some.is at c.in_ok-order.ensures.open in
    loop-none g.wiring (λ class below. sym (is_on_cycle-alike alike class) ∙ open_ c.requires.1.1.1.0 class)

pub returns-in-Some-2-clause-refused : goal.returns-in-Some-2-clause-refused
returns-in-Some-2-clause-refused g c =
    let cycle = rw c.in-Some-2.is at c.in_ok-nets-in-None.ensures.cycle in
    let within = rw c.in-Some-2.is at c.in_ok-nets-in-None.ensures.within in
    let lies = rw c.in-Some-2.is at c.in_ok-nets-in-None.ensures.lies in
    let least = rw c.in-Some-2.is at c.in_ok-nets-in-None.ensures.least in
    loop-told g.wiring c.args.driven.now c.args.reads.now c.requires.1.1.1.1 c.requires.1.1.1.0 c.in-Some-2.nets.items c.index.result.now cycle c.index.ensures within lies least
