-- Lists that grow by what each item of another list gives with its place.
use Rattle.std.proofs.Common.{◌≡◌, ℕ, suc, ◌+◌, ◌<◌, List, [], ◌∷◌, ◌++◌, append-nil, append_assoc, take, length, get_or, refl, sym, ap, ◌∙◌, arith, length-take-le}
use Rattle.std.specs.List.{flat_map}
use Rattle.std.proofs.lemmas.List.{take_more}
use Rattle.shared_lemmas.proofs.Lists.{flat_map-push}
use Rattle.fabric_model.specs.Fabric.{numbered_from, numbered}

-- an item is added at the end
pub numbered_from-push : {A : Type 0} (place : ℕ) (items : List A) (item : A) → numbered_from place (items ++ item ∷ []) ≡ numbered_from place items ++ (place + length items, item) ∷ []
unfolding numbered_from
numbered_from-push place [] item = let same : place + 0 ≡ place = omega arith in rw same refl
numbered_from-push {A} place (head ∷ items) item =
    let same : suc place + length items ≡ place + suc (length items) = omega arith in
    ap (λ (list : List (ℕ × A)). (place, head) ∷ list) (numbered_from-push (suc place) items item ∙ ap (λ (n : ℕ). numbered_from (suc place) items ++ (n, item) ∷ []) same)

-- no item yet
pub numbered-none : {A B : Type 0} (given : ℕ × A → List B) (items : List A) (before : List B) → before ≡ before ++ flat_map given (numbered (take 0 items))
unfolding numbered_from
numbered-none given items before = sym (append-nil before)

-- one item more with its place
pub numbered-more : {A B : Type 0} (given : ℕ × A → List B) (items : List A) (k : ℕ) (d : A) (before now later : List B) → k < length items
    → now ≡ before ++ flat_map given (numbered (take k items)) → later ≡ now ++ given (k, get_or items k d)
    → later ≡ before ++ flat_map given (numbered (take (k + 1) items))
numbered-more {A} given items k d before now later inside so_far more =
    let item = get_or items k d in
    let place : 0 + length (take k items) ≡ k = omega (arith, length-take-le k items (omega arith)) in
    let one : ℕ × A = (k, item) in
    more ∙ ap (λ list. list ++ given one) so_far ∙ append_assoc before (flat_map given (numbered (take k items))) (given one)
    ∙ ap (λ list. before ++ list)
    (sym (flat_map-push given (numbered (take k items)) one)
    ∙ ap (flat_map given) (ap (λ (n : ℕ). numbered (take k items) ++ (n, item) ∷ []) (sym place)
    ∙ sym (numbered_from-push 0 (take k items) item) ∙ ap numbered (sym (take_more items k d inside))))
