use Rattle.std.proofs.Common.{◌≡◌, ◌∙◌, true, inl, inr, ap, sym, subst, arith}
use Rattle.std.proofs.lemmas.Bool.{cases_lt}
use Rattle.graph_order.specs.Wiring.{has}
use Rattle.graph_order.specs.Rows.{row_at}
use Rattle.graph_order.proofs.Lists.{row-items}
use Rattle.graph_order.proofs.Whole.{row-within}
use Rattle.fabric_tests.proofs.tests.orders.are_rows.Goals as goal

pub loop-class-preserved : goal.loop-class-preserved
loop-class-preserved c = λ class other less found.
    let row = c.index-reads-class.result in
    let at = c.loop-class.class in
    let here = row-items c.args.reads.now at row row c.loop-class-test.true c.index-reads-class.is ∙ sym c.deref.ensures.value in
    elim (cases_lt class at) [
      | inl before ↦ c.loop-class.invariant class other before found
      | inr more ↦
          let same : class ≡ at = omega arith in
          let now : has c.deref.result.now other ≡ true = ap (λ list. has list other) (sym here) ∙ subst (λ k. has (row_at c.args.reads.now k) other ≡ true) same found in
          c.is_row.ensures c.if-not-is_row.false other now
    ]

pub returns : goal.returns
returns c = λ yes class other found.
    let within = row-within c.args.reads.now class other found in
    c.loop-class.invariant class other (omega (arith, within, c.loop-class-test.false)) found
