use Rattle.std.proofs.Common.{◌≡◌, false, arith, sym, ap, subst, ◌∙◌, inl, inr}
use Rattle.std.proofs.lemmas.Bool.{cases_lt}
use Rattle.std.specs.Prelude.{not}
use Rattle.index_search.proofs.Places.{any_below-at, any_below-none}
use Rattle.fabric_model.specs.ClockLuts.{is_open_otherwise, is_at_open}
use Rattle.fabric_model.specs.ClockPasses.{value_by}
use Rattle.fabric_model.proofs.clock_lut.is_at_open.Goals as goal

pub returns-then-is_open_otherwise : goal.returns-then-is_open_otherwise
unfolding is_at_open
returns-then-is_open_otherwise g c =
    sym (ap not (any_below-at 16 c.loop-n.n (is_open_otherwise g.connected c.args.table.now (value_by c.args.turned c.args.input)) (omega arith)
    (sym c.is_open_otherwise.ensures ∙ c.if-is_open_otherwise.true)))

pub loop-n-preserved : goal.loop-n-preserved
loop-n-preserved g c = λ number below.
    elim (cases_lt number c.loop-n.n) [
      | inl less ↦ c.loop-n.invariant number less
      | inr more ↦
          let same : c.loop-n.n ≡ number = omega arith in
          subst (λ k. is_open_otherwise g.connected c.args.table.now (value_by c.args.turned c.args.input) k ≡ false) same
          (sym c.is_open_otherwise.ensures ∙ c.if-is_open_otherwise.false)
    ]

pub returns : goal.returns
unfolding is_at_open
returns g c =
    sym (ap not (any_below-none 16 (is_open_otherwise g.connected c.args.table.now (value_by c.args.turned c.args.input)) (λ number below. c.loop-n.invariant number (omega arith))))
