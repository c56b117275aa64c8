-- Words that get the bits of others in some lanes.
use Rattle.std.proofs.Common.{◌≡◌, ℕ, zero, suc, ◌+◌, ◌<◌, ◌≤◌, Bool, true, false, cond, List, [], ◌∷◌, ◌++◌, ap, ap₂, arith, drop, get_or, length, refl, set, take, take_all, ◌∙◌}
use Rattle.std.proofs.lemmas.List.{append-nil, drop_all, set-get_or}

merge-more : (from into : List Bool) (place : ℕ) → length from ≡ length into → place < length from
    → set (take place from ++ drop place into) place (get_or from place false) ≡ take (suc place) from ++ drop (suc place) into
merge-more [] into place size within = absurd (omega (arith, within))
merge-more (bit ∷ from) [] place size within = absurd (omega (arith, size))
merge-more (bit ∷ from) (old ∷ into) zero size within = refl
merge-more (bit ∷ from) (old ∷ into) (suc place) size within = ap (λ list. bit ∷ list) (merge-more from into place (omega (arith, size)) (omega (arith, within)))

-- one place more
pub merge-step : (choice bit : Bool) (from into now : List Bool) (place : ℕ) → length from ≡ length into → place < length from
    → now ≡ cond choice (take place from ++ drop place into) into
    → bit ≡ cond choice (get_or from place false) (get_or now place false)
    → set now place bit ≡ cond choice (take (place + 1) from ++ drop (place + 1) into) into
merge-step true bit from into now place size within are is =
    let next : suc place ≡ place + 1 = omega arith in
    ap (set now place) is ∙ ap (λ list. set list place (get_or from place false)) are ∙ merge-more from into place size within ∙ ap (λ k. take k from ++ drop k into) next
merge-step false bit from into now place size within are is = ap (set now place) is ∙ set-get_or now place false ∙ are

pub merge-none : (choice : Bool) (from into : List Bool) → into ≡ cond choice (take 0 from ++ drop 0 into) into
merge-none true from into = refl
merge-none false from into = refl

pub merge-all : (choice : Bool) (from into : List Bool) (place : ℕ) → length from ≤ place → length into ≤ place
    → cond choice (take place from ++ drop place into) into ≡ cond choice from into
merge-all true from into place whole past = ap₂ (λ a b. a ++ b) (take_all place from whole) (drop_all place into past) ∙ append-nil from
merge-all false from into place whole past = refl
