-- Lists that are filled place by place.
use Rattle.std.proofs.Common.{◌≡◌, ℕ, ◌+◌, ◌<◌, append-nil, flat_map, List, [], ◌∷◌, ◌++◌, Option, Some, None, length, get_or, set, take, refl, sym, ap, ap₂, ◌∙◌, arith}
use Rattle.std.specs.Prelude.{map, slice_get}
use Rattle.std.proofs.lemmas.List.{take_more, take_more_set, map_more, take_all}
use Rattle.std.specs.List.{filter_map, cons_option}
use Rattle.std.specs.Option.{option_to_list}
use Rattle.std.proofs.lemmas.List.Concat.{flat_map-append}
use Rattle.std.proofs.lemmas.List.Elements.{filter_map-append}
use Rattle.std.proofs.lemmas.Option.{get_or_from_slice_get}

-- one place more
pub filled-next : {A B : Type 0} (f : A → B) (xs : List A) (ys : List B) (i : ℕ) (x : A) (y : B) → i < length xs → i < length ys
    → take i ys ≡ map f (take i xs) → slice_get xs i ≡ Some x → y ≡ f x → take (i + 1) (set ys i y) ≡ map f (take (i + 1) xs)
filled-next f xs ys i x y within room so_far at is =
    let here : get_or xs i x ≡ x = get_or_from_slice_get xs i x x at in
    take_more_set ys i y room ∙ ap₂ (λ list value. list ++ value ∷ []) so_far (is ∙ ap f (sym here)) ∙ sym (map_more f xs i x within)

-- all places
pub filled-all : {A B : Type 0} (f : A → B) (xs : List A) (ys : List B) (i : ℕ) → length xs ≡ i → length ys ≡ i → take i ys ≡ map f (take i xs) → ys ≡ map f xs
filled-all f xs ys i size room filled =
    sym (take_all i ys (omega arith)) ∙ filled ∙ ap (map f) (take_all i xs (omega arith))

filter_map-one : {A B : Type 0} (f : A → Option B) (x : A) → filter_map f (x ∷ []) ≡ option_to_list (f x)
filter_map-one f x = elim (f x) as (λ found. cons_option found [] ≡ option_to_list found) [ Some y ↦ refl | None ↦ refl ]

-- one item more
pub filter_map-more : {A B : Type 0} (f : A → Option B) (xs : List A) (ys zs : List B) (i : ℕ) (x : A) (found : Option B) → i < length xs → x ≡ get_or xs i x
    → ys ≡ filter_map f (take i xs) → found ≡ f x → zs ≡ ys ++ option_to_list found → zs ≡ filter_map f (take (i + 1) xs)
filter_map-more f xs ys zs i x found within at so_far is pushed =
    pushed ∙ ap₂ (λ list item. list ++ option_to_list item) so_far is
    ∙ ap (λ last. filter_map f (take i xs) ++ last) (sym (filter_map-one f x))
    ∙ sym (filter_map-append f (take i xs) (x ∷ []))
    ∙ ap (filter_map f) (ap (λ y. take i xs ++ y ∷ []) at ∙ sym (take_more xs i x within))

-- one item more
pub flat_map-more : {A B : Type 0} (f : A → List B) (xs : List A) (i : ℕ) (x : A) → i < length xs → x ≡ get_or xs i x
    → flat_map f (take (i + 1) xs) ≡ flat_map f (take i xs) ++ f x
flat_map-more f xs i x within at =
    ap (flat_map f) (take_more xs i x within ∙ ap (λ y. take i xs ++ y ∷ []) (sym at))
    ∙ flat_map-append f (take i xs) (x ∷ [])
    ∙ ap (λ last. flat_map f (take i xs) ++ last) (append-nil (f x))
