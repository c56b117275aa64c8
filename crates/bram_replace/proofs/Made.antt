-- Lists made from a function of the place.
use Rattle.std.proofs.Common.{◌≡◌, ℕ, zero, suc, ◌+◌, ◌<◌, Bool, ◌∷◌, get_or, refl, sym, ap, ap₂, ◌∙◌, subst, arith}
use Rattle.std.specs.Prelude.{map}
use Rattle.std.specs.List.{range_with_len}
use Rattle.std.proofs.lemmas.List.FromFn.{get_or-map-range_with_len}
use Rattle.bram_replace.specs.Columns.{column_from}

-- the same at each place
map-range-same : {X : Type 0} (f g : ℕ → X) (from n : ℕ) → ((k : ℕ) → k < n → f (from + k) ≡ g (from + k)) → map f (range_with_len from n) ≡ map g (range_with_len from n)
map-range-same f g from zero same = refl
map-range-same f g from (suc n) same =
    let here : f from ≡ g from = let e : from + 0 ≡ from = omega arith in subst (λ k. f k ≡ g k) e (same 0 (omega arith)) in
    let later : (k : ℕ) → k < n → f (from + 1 + k) ≡ g (from + 1 + k) = λ k within.
    let e : from + (k + 1) ≡ from + 1 + k = omega arith in subst (λ k. f k ≡ g k) e (same (k + 1) (omega arith)) in
    ap₂ (λ x xs. x ∷ xs) here (map-range-same f g (from + 1) n later)

pub made-same : {X : Type 0} (f g : ℕ → X) (n : ℕ) → ((k : ℕ) → k < n → f k ≡ g k) → map f (range_with_len 0 n) ≡ map g (range_with_len 0 n)
made-same f g n same = map-range-same f g 0 n (λ k within. let e : 0 + k ≡ k = omega arith in rw e (same k within))

pub column_from-same : (f g : ℕ → Bool) → ((word : ℕ) → word < 256 → f word ≡ g word) → column_from f ≡ column_from g
column_from-same f g same = made-same f g 256 same

-- what is made the same is the same at each place
pub made-at : {X : Type 0} (f g : ℕ → X) (n k : ℕ) → map f (range_with_len 0 n) ≡ map g (range_with_len 0 n) → k < n → f k ≡ g k
made-at f g n k same within =
    sym (get_or-map-range_with_len f 0 n k k (f k) within (omega arith)) ∙ ap (λ xs. get_or xs k (f k)) same ∙ get_or-map-range_with_len g 0 n k k (f k) within (omega arith)
