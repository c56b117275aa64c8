-- Lists that are joined, or made of another list item by item.
use Rattle.std.proofs.Common.{◌≡◌, ℕ, ◌+◌, ◌<◌, List, [], ◌∷◌, ◌++◌, length, take, get_or, set, map, refl, sym, ap, ◌∙◌, append-nil}
use Rattle.std.specs.declared.vec.Vec.{Vec}
use Rattle.std.specs.List.{All, flat_map}
use Rattle.std.proofs.lemmas.List.{map-set, get_or-map, take_more}
use Rattle.std.proofs.lemmas.List.Concat.{flat_map-append}
use Rattle.std.proofs.lemmas.List.Elements.{All-nil, All-cons, All-head, All-tail}

-- nothing is added
pub append-nothing : {A : Type 0} (xs more : List A) → more ≡ [] → xs ≡ xs ++ more
append-nothing xs more none = sym (ap (λ list. xs ++ list) none ∙ append-nil xs)

-- if two lists join to an empty one, both are empty
pub append_empty : {A : Type 0} (xs ys : List A) → xs ++ ys ≡ [] → (xs ≡ []) × (ys ≡ [])
append_empty [] ys none = (refl, none)
append_empty (x ∷ xs) ys none = absurd cc

-- what holds if two others do
pub All-both : {A : Type 0} (P Q R : A → Type 0) → ((x : A) → P x → Q x → R x) → (xs : List A) → All P xs → All Q xs → All R xs
All-both P Q R both [] first second = All-nil R
All-both P Q R both (x ∷ xs) first second =
    All-cons R x xs (both x (All-head P x xs first) (All-head Q x xs second)) (All-both P Q R both xs (All-tail P x xs first) (All-tail Q x xs second))

-- two functions that agree on each item
pub map-same : {A B : Type 0} (one two : A → B) (xs : List A) → All (λ x. one x ≡ two x) xs → map one xs ≡ map two xs
map-same one two [] same = refl
map-same one two (x ∷ xs) same =
    rw (All-head (λ y. one y ≡ two y) x xs same, map-same one two xs (All-tail (λ y. one y ≡ two y) x xs same)) refl

-- two functions that agree everywhere
pub map-every : {A B : Type 0} (one two : A → B) → ((x : A) → one x ≡ two x) → (xs : List A) → map one xs ≡ map two xs
map-every one two same [] = refl
map-every one two same (x ∷ xs) = rw (same x, map-every one two same xs) refl

-- what one more item gives
pub flat_map-push : {A B : Type 0} (given : A → List B) (xs : List A) (x : A) → flat_map given (xs ++ x ∷ []) ≡ flat_map given xs ++ given x
flat_map-push given xs x = flat_map-append given xs (x ∷ []) ∙ ap (λ last. flat_map given xs ++ last) (append-nil (given x))

-- what one more item gives, for the first items of a list
pub flat_map-more : {A B : Type 0} (given : A → List B) (xs : List A) (k : ℕ) (d : A) → k < length xs → flat_map given (take (k + 1) xs) ≡ flat_map given (take k xs) ++ given (get_or xs k d)
flat_map-more given xs k d within = ap (flat_map given) (take_more xs k d within) ∙ flat_map-push given (take k xs) (get_or xs k d)

-- a row of rows gets one item more
pub items-pushed : {X Z : Type 0} (rows : List (Vec X Z)) (at : ℕ) (item : X) (lent new : Vec X Z) → at < length rows → lent ≡ get_or rows at lent → new.items ≡ lent.items ++ item ∷ []
    → map (λ (row : Vec X Z). row.items) (set rows at new)
    ≡ set (map (λ (row : Vec X Z). row.items) rows) at (get_or (map (λ (row : Vec X Z). row.items) rows) at [] ++ item ∷ [])
items-pushed {X} {Z} rows at item lent new within lent_is more =
    let lists : List (List X) = map (λ (row : Vec X Z). row.items) rows in
    map-set (λ row. row.items) rows at new
    ∙ ap (set lists at) (more ∙ ap (λ items. items ++ item ∷ []) (ap (λ (row : Vec X Z). row.items) lent_is ∙ sym (get_or-map (λ row. row.items) rows at lent [] within)))
