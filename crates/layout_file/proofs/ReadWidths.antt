-- Sums of widths.
use Rattle.std.proofs.Common.{◌≡◌, ℕ, zero, suc, ◌+◌, ◌<◌, ◌≤◌, List, refl, arith, inl, inr, subst, sym}
use Rattle.std.specs.Prelude.{slice_index}
use Rattle.std.proofs.lemmas.Bool.{cases_lt}
use Rattle.plane_map.specs.Layout.{start_in}

-- before the first column of tiles
pub start_in-nothing : (widths : List ℕ) (columns : ℕ) → columns ≡ 0 → 0 ≡ start_in widths columns
unfolding start_in
start_in-nothing widths zero none = refl
start_in-nothing widths (suc columns) none = absurd (omega arith)

-- after another column of tiles
pub start_in-last : (widths : List ℕ) (columns last : ℕ) → columns ≡ last + 1 → start_in widths columns ≡ start_in widths last + slice_index widths last
unfolding start_in
start_in-last widths zero last is = absurd (omega arith)
start_in-last widths (suc columns) last is = let e : columns ≡ last = omega arith in rw e refl

-- each column of tiles is at most as wide as all of them
pub width-within : (widths : List ℕ) (columns k : ℕ) → k < columns → slice_index widths k ≤ start_in widths columns
unfolding start_in
width-within widths zero k below = absurd (omega arith)
width-within widths (suc columns) k below =
    elim (cases_lt k columns) [
      | inl less ↦ omega (arith, width-within widths columns k less)
      | inr more ↦ let e : columns ≡ k = omega arith in subst (λ n. slice_index widths k ≤ start_in widths n + slice_index widths n) (sym e) (omega arith)
    ]
