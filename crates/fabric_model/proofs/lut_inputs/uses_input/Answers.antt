use Rattle.std.proofs.Common.{arith, sym, ◌∙◌}
use Rattle.index_search.proofs.Places.{any_below-at, any_below-none}
use Rattle.fabric_model.specs.Luts.{entry_differs, uses_input}
use Rattle.fabric_model.proofs.lut_inputs.uses_input.Goals as goal

pub returns-then-entry_differs : goal.returns-then-entry_differs
unfolding uses_input
returns-then-entry_differs c =
    sym (any_below-at 16 c.loop-n.n (entry_differs c.args.lut c.args.k) (omega arith) (sym c.entry_differs.ensures ∙ c.if-entry_differs.true))

pub returns : goal.returns
unfolding uses_input
returns c = sym (any_below-none 16 (entry_differs c.args.lut c.args.k) (λ number below. c.loop-n.invariant number (omega arith)))
