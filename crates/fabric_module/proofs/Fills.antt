-- Items that change the values of names, each name by its own items.
use Rattle.std.proofs.Common.{◌≡◌, ℕ, false, List, [], ◌∷◌, map, fold, refl, sym, ap, ◌∙◌}
use Rattle.std.specs.Prelude.{All, flat_map, bytes_eq}
use Rattle.std.proofs.lemmas.List.Sums.{fold-append}
use Rattle.std.proofs.lemmas.List.Elements.{All-head, All-tail}
use Rattle.fabric_module.proofs.Lists.{Apart}

module _ {X A I : Type 0} (name : X → List ℕ) (step : List (List ℕ × A) → I → List (List ℕ × A)) (given : X → List I) (new : X → A → A) where
  -- The items of x change the value of x's name, and look past other names.
  pub record FillsOwn : Type 0 where
    pub own : (x : X) (old : A) (rest : List (List ℕ × A)) → fold step ((name x, old) ∷ rest) (given x) ≡ (name x, new x old) ∷ rest
    pub past : (x : X) (entry : List ℕ × A) (rest : List (List ℕ × A)) → bytes_eq entry.0 (name x) ≡ false → fold step (entry ∷ rest) (given x) ≡ entry ∷ fold step rest (given x)

  module _ (fills : FillsOwn) where
    past-all : (xs : List X) (entry : List ℕ × A) (rest : List (List ℕ × A)) → All (λ x. bytes_eq entry.0 (name x) ≡ false) xs
        → fold step (entry ∷ rest) (flat_map given xs) ≡ entry ∷ fold step rest (flat_map given xs)
    past-all [] entry rest away = refl
    past-all (x ∷ xs) entry rest away =
        fold-append step (entry ∷ rest) (given x) (flat_map given xs)
        ∙ (ap (λ list. fold step list (flat_map given xs)) (fills.past x entry rest (All-head (λ y. bytes_eq entry.0 (name y) ≡ false) x xs away))
        ∙ (past-all xs entry (fold step rest (given x)) (All-tail (λ y. bytes_eq entry.0 (name y) ≡ false) x xs away)
        ∙ ap (λ list. entry ∷ list) (sym (fold-append step rest (given x) (flat_map given xs)))))

    -- if the names are distinct, each gets its new value
    pub filled : (old : X → A) (xs : List X) → Apart name xs
        → fold step (map (λ x. (name x, old x)) xs) (flat_map given xs) ≡ map (λ x. (name x, new x (old x))) xs
    filled old [] apart = refl
    filled old (x ∷ xs) apart =
        let rest = map (λ y. (name y, old y)) xs in
        fold-append step ((name x, old x) ∷ rest) (given x) (flat_map given xs)
        ∙ (ap (λ list. fold step list (flat_map given xs)) (fills.own x (old x) rest)
        ∙ (past-all xs (name x, new x (old x)) rest apart.0
        ∙ ap (λ list. (name x, new x (old x)) ∷ list) (filled old xs apart.1)))
