use Rattle.std.proofs.Common.{◌≡◌, ℕ, List, [], length, replicate, ap, ◌∙◌, arith}
use Rattle.graph_order.proofs.readers.no_rows.Goals as goal

pub returns : goal.returns
returns c =
    let full : length c.loop-alloc.rows.items ≡ c.args.count = omega (arith, c.loop-alloc.invariant.few) in
    c.loop-alloc.invariant.all ∙ ap (λ (n : ℕ). replicate {A = List ℕ} n []) full
