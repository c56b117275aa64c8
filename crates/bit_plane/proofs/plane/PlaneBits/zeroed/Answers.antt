use Rattle.std.proofs.Common.{◌≡◌, ◌+◌, ◌*◌, ◌/◌, ap, ◌∙◌, sym, subst}
use Rattle.std.proofs.Common.{replicate, rules}
use Rattle.bit_plane.specs.inside.Packed.{rows_in, IsClearFrom}
use Rattle.bit_plane.proofs.Kept.{rows_in-zeros, clear-zeros}
use Rattle.bit_plane.proofs.plane.PlaneBits.zeroed.Goals as goal

pub invariant_of-result-clause-clear : goal.invariant_of-result-clause-clear
invariant_of-result-clause-clear g c =
    let count = c.in-Some.size / 64 + 1 in
    let zeros : c.in_ok-vec-in-Some.field-0.items ≡ replicate count 0 = c.in_ok-vec-in-Some.ensures.items_if_clones_equal (λ y e. search rules) in
    subst (IsClearFrom (g.row.W * g.row.H)) (sym zeros) (clear-zeros (g.row.W * g.row.H) count)

pub returns-in_ok-vec-in-Some : goal.returns-in_ok-vec-in-Some
returns-in_ok-vec-in-Some g c =
    let count = c.in-Some.size / 64 + 1 in
    let zeros : c.in_ok-vec-in-Some.field-0.items ≡ replicate count 0 = c.in_ok-vec-in-Some.ensures.items_if_clones_equal (λ y e. search rules) in
    ap (rows_in g.row.W g.row.H) zeros ∙ rows_in-zeros g.row.W g.row.H count (ap (λ n. n / 64 + 1) c.in-Some.ensures.1)
