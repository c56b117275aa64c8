-- Lists that grow by what each item of another gives.
use Rattle.std.proofs.Common.{◌≡◌, ℕ, ◌+◌, ◌<◌, List, [], ◌∷◌, ◌++◌, append-nil, ap, flat_map, get_or, length, sym, take, ◌∙◌}
use Rattle.std.proofs.lemmas.List.{take_more}
use Rattle.std.proofs.lemmas.List.Concat.{flat_map-append}

pub pushed : {A B : Type 0} (f : A → List B) (xs : List A) (i : ℕ) (d : A) (ys zs : List B) → i < length xs → zs ≡ ys ++ f (get_or xs i d) → ys ≡ flat_map f (take i xs)
    → zs ≡ flat_map f (take (i + 1) xs)
pushed f xs i d ys zs within is so_far =
    is ∙ ap (λ list. list ++ f (get_or xs i d)) so_far
    ∙ sym (ap (flat_map f) (take_more xs i d within)
    ∙ flat_map-append f (take i xs) (get_or xs i d ∷ [])
    ∙ ap (λ last. flat_map f (take i xs) ++ last) (append-nil (f (get_or xs i d))))
