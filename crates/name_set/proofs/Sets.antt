-- What a set of names has.
use Rattle.std.proofs.Common.{◌≡◌, ℕ, Bool, true, false, ◌||◌, List, [], ◌∷◌, ◌++◌, refl, ap, sym, ◌∙◌}
use Rattle.std.proofs.Math.Bool.{or-false}
use Rattle.std.proofs.lemmas.Slice.Eq.{bytes_eq-Decides}
use Rattle.std.specs.Prelude.{bytes_eq, if◌then◌else◌}
use Rattle.shared_lemmas.proofs.Searches.{list_any-push}
use Rattle.name_set.specs.Sets.{has_name, with_name}

absorbed : (b : Bool) (names : List (List ℕ)) (name other : List ℕ) → bytes_eq name other ≡ b → has_name names name ≡ true → has_name names other ≡ (has_name names other || b)
absorbed true names name other same there =
    let here : has_name names other ≡ true = ap (has_name names) (sym ((bytes_eq-Decides name other).0 same)) ∙ there in
    here ∙ ap (λ b. b || true) (sym here)
absorbed false names name other same there = sym (or-false (has_name names other))

with_case : (b : Bool) (names : List (List ℕ)) (name other : List ℕ) → has_name names name ≡ b → has_name (if b then names else names ++ name ∷ []) other ≡ (has_name names other || bytes_eq name other)
with_case true names name other there = absorbed (bytes_eq name other) names name other refl there
with_case false names name other there = list_any-push (λ each. bytes_eq each other) names name

-- a set with one more name has that name and those that it had
pub has-with : (names : List (List ℕ)) (name other : List ℕ) → has_name (with_name names name) other ≡ (has_name names other || bytes_eq name other)
has-with names name other = with_case (has_name names name) names name other refl
