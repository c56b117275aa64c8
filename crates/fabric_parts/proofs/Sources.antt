-- What gives a global its value, and pins at pads.
use Rattle.std.proofs.Common.{◌≡◌, ℕ, ◌+◌, Bool, true, false, ◌||◌, List, [], ◌∷◌, ◌++◌, map, refl, sym, ap, ◌∙◌, append-nil, append_assoc}
use Rattle.std.proofs.lemmas.List.{map-append}
use Rattle.index_search.specs.Places.{gathered_below}
use Rattle.index_search.proofs.Places.{gathered_below-more}
use Rattle.fabric_model.specs.Tiles.{item_if}

-- six tests in a row, of which the first two and the last are made before the others
pub six_tests : (a b c d e f : Bool) → ((a || (b || f)) || (c || (d || e))) ≡ (a || (b || (c || (d || (e || f)))))
six_tests true b c d e f = refl
six_tests false true c d e f = refl
six_tests false false true d e true = refl
six_tests false false true d e false = refl
six_tests false false false true e true = refl
six_tests false false false true e false = refl
six_tests false false false false true true = refl
six_tests false false false false true false = refl
six_tests false false false false false true = refl
six_tests false false false false false false = refl

-- two tests in a row, of which the second is made if the first fails
pub first_passes : (a b value : Bool) → a ≡ true → value ≡ true → value ≡ (a || b)
first_passes true b value is value_is = value_is
first_passes false b value is value_is = absurd cc

pub first_fails : (a b value : Bool) → a ≡ false → value ≡ b → value ≡ (a || b)
first_fails true b value is value_is = absurd cc
first_fails false b value is value_is = value_is

-- one place more of a list whose items are made from places that pass
pub made-none : {A B : Type 0} (made : A → B) (given : ℕ → List A) (before : List B) → before ≡ before ++ map made (gathered_below 0 given)
unfolding gathered_below
made-none made given before = sym (append-nil before)

pub made-more : {A B : Type 0} (made : A → B) (given : ℕ → List A) (before now later : List B) (n : ℕ)
    → now ≡ before ++ map made (gathered_below n given) → later ≡ now ++ map made (given n) → later ≡ before ++ map made (gathered_below (n + 1) given)
made-more made given before now later n so_far more =
    more ∙ ap (λ items. items ++ map made (given n)) so_far
    ∙ append_assoc before (map made (gathered_below n given)) (map made (given n))
    ∙ ap (λ items. before ++ items) (sym (map-append made (gathered_below n given) (given n)) ∙ ap (map made) (sym (gathered_below-more n given)))

-- an item that is made if a test passes
pub made_if : {A B : Type 0} (made : A → B) (passes : Bool) (item : A) (before : List B) → passes ≡ true → before ++ (made item ∷ []) ≡ before ++ map made (item_if passes item)
made_if made true item before is = refl
made_if made false item before is = absurd cc

pub made_unless : {A B : Type 0} (made : A → B) (passes : Bool) (item : A) (before : List B) → passes ≡ false → before ≡ before ++ map made (item_if passes item)
made_unless made true item before is = absurd cc
made_unless made false item before is = sym (append-nil before)
