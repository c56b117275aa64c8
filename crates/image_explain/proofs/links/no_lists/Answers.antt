use Rattle.std.proofs.Common.{◌≡◌, ℕ, List, [], length, replicate, ap, ◌∙◌, arith}
use Rattle.image_explain.proofs.links.no_lists.Goals as goal

pub returns : goal.returns
returns c =
    let full : length c.loop-alloc.lists.items ≡ 4096 = omega (arith, c.loop-alloc.invariant.few) in
    c.loop-alloc.invariant.all ∙ ap (λ (n : ℕ). replicate {A = List ℕ} n []) full
