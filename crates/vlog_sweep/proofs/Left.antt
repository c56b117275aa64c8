-- Fewer events are left after a call.
use Rattle.std.proofs.Common.{◌≡◌, ℕ, zero, suc, ◌<◌, ◌≤◌, Bool, true, false, cond, List, [], ◌∷◌, arith, get_or, length}
use Rattle.std.specs.List.{sum_by}
use Rattle.std.proofs.lemmas.List.Sums.{sum_by-cons}
use Rattle.vlog_sweep.specs.Strands.{left_of, stepped}
use Rattle.vlog_sweep.specs.declared.strand.Strand.{Strand}

sum-le : {A : Type 0} (f : A → ℕ) (xs ys : List A) → length ys ≡ length xs → ((k : ℕ) (d : A) → k < length xs → f (get_or ys k d) ≤ f (get_or xs k d)) → sum_by f ys ≤ sum_by f xs
sum-le f [] [] size le = omega arith
sum-le f [] (y ∷ ys) size le = absurd (omega (arith, size))
sum-le f (x ∷ xs) [] size le = absurd (omega (arith, size))
sum-le f (x ∷ xs) (y ∷ ys) size le =
    omega (
      arith,
      sum_by-cons f x xs,
      sum_by-cons f y ys,
      le 0 x (omega arith),
      sum-le f xs ys (omega (arith, size)) (λ k d below. le (suc k) d (omega (arith, below))),
    )

-- a sum of terms of which none is greater, and one is less
pub sum-lt : {A : Type 0} (f : A → ℕ) (xs ys : List A) (k : ℕ) → length ys ≡ length xs → ((k : ℕ) (d : A) → k < length xs → f (get_or ys k d) ≤ f (get_or xs k d))
    → k < length xs → ((d : A) → f (get_or ys k d) < f (get_or xs k d)) → sum_by f ys < sum_by f xs
sum-lt f [] ys k size le within lt = absurd (omega (arith, within))
sum-lt f (x ∷ xs) [] k size le within lt = absurd (omega (arith, size))
sum-lt f (x ∷ xs) (y ∷ ys) zero size le within lt =
    omega (
      arith,
      sum_by-cons f x xs,
      sum_by-cons f y ys,
      lt x,
      sum-le f xs ys (omega (arith, size)) (λ k d below. le (suc k) d (omega (arith, below))),
    )
sum-lt f (x ∷ xs) (y ∷ ys) (suc k) size le within lt =
    omega (
      arith,
      sum_by-cons f x xs,
      sum_by-cons f y ys,
      le 0 x (omega arith),
      sum-lt f xs ys k (omega (arith, size)) (λ k d below. le (suc k) d (omega (arith, below))) (omega (arith, within)) lt,
    )

-- a list has no more events left after a call than before, and fewer if its lane had one
pub left-le : (b : Bool) (width : ℕ) (strand : Strand) → left_of (cond b (stepped width strand) strand) ≤ left_of strand
left-le true width strand = omega arith
left-le false width strand = omega arith

pub left-lt : (b : Bool) (width : ℕ) (strand : Strand) → b ≡ true → strand.taken < length strand.list.now.events.items → left_of (cond b (stepped width strand) strand) < left_of strand
left-lt true width strand on some = omega (arith, some)
left-lt false width strand on some = absurd cc
