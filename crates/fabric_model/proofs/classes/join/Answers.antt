use Rattle.std.proofs.Common.{arith}
use Rattle.fabric_model.proofs.Trees.{leads-merged}
use Rattle.fabric_model.proofs.classes.join.Goals as goal

pub returns-then-first-second-clause-merged : goal.returns-then-first-second-clause-merged
returns-then-first-second-clause-merged c = λ class leads.
    let first = c.root_of-first in
    let second = c.root_of-second in
    let after = first.ensures.kept class leads in
    let last = second.ensures.kept class after in
    let a_is = first.ensures.class class leads in
    let b_is = second.ensures.class class after in
    leads-merged class second.new.parents c.args.a c.args.b first.result second.result last (omega arith)
    (after.roots first.result (omega arith) first.ensures.root) (last.roots second.result (omega arith) second.ensures.root) (omega (arith, a_is, b_is)) (omega (arith, a_is, b_is))

pub returns-else-first-second-clause-merged : goal.returns-else-first-second-clause-merged
returns-else-first-second-clause-merged c = λ class leads.
    let first = c.root_of-first in
    let second = c.root_of-second in
    let after = first.ensures.kept class leads in
    let last = second.ensures.kept class after in
    let a_is = first.ensures.class class leads in
    let b_is = second.ensures.class class after in
    leads-merged class second.new.parents c.args.a c.args.b second.result first.result last (omega arith)
    (last.roots second.result (omega arith) second.ensures.root) (after.roots first.result (omega arith) first.ensures.root) (omega (arith, a_is, b_is)) (omega (arith, a_is, b_is))
