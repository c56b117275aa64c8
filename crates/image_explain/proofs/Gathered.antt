-- What places give, one place after the other, and lines of lists that are kept in another form.
use Rattle.std.proofs.Common.{◌≡◌, Bool, true, false, cond, ◌||◌, None, ltb, ℕ, ◌+◌, ◌<◌, ◌≤◌, List, [], ◌∷◌, ◌++◌, length, get_or, map, take, Some, refl, sym, ap, ◌∙◌, subst, arith, append_assoc, append-nil}
use Rattle.std.specs.Prelude.{slice_get, find, position, All, Option, option_map}
use Rattle.std.specs.List.{list_any, position_or_len}
use Rattle.std.proofs.lemmas.Bool.{ltb-true}
use Rattle.std.proofs.lemmas.Option.{cond_some, slice_get-get_or, slice_get-map, slice_get_within, get_or_from_slice_get}
use Rattle.std.proofs.lemmas.List.{get_or-map, length-map, take_more, take_all, map_push}
use Rattle.index_search.specs.Places.{gathered_below}
use Rattle.index_search.proofs.Places.{gathered_below-more}
use Rattle.fabric_model.proofs.Listed.{find-at_position}

-- one more place, after what was there
pub gathered-next : {A : Type 0} (n : ℕ) (given : ℕ → List A) (first now after here : List A) → now ≡ first ++ gathered_below n given → after ≡ now ++ here → here ≡ given n → after ≡ first ++ gathered_below (n + 1) given
gathered-next n given first now after here so_far next here_is =
    next ∙ ap (λ list. list ++ here) so_far ∙ append_assoc first (gathered_below n given) here ∙ ap (λ list. first ++ list) (ap (λ here. gathered_below n given ++ here) here_is ∙ sym (gathered_below-more n given))

-- one more place, starting from nothing
pub gathered-step : {A : Type 0} (n : ℕ) (given : ℕ → List A) (now after here : List A) → now ≡ gathered_below n given → after ≡ now ++ here → here ≡ given n → after ≡ gathered_below (n + 1) given
gathered-step n given now after here so_far next here_is =
    next ∙ ap (λ list. list ++ here) so_far ∙ ap (λ here. gathered_below n given ++ here) here_is ∙ sym (gathered_below-more n given)

-- all places
pub gathered-done : {A : Type 0} (n all : ℕ) (given : ℕ → List A) (now : List A) → n ≡ all → now ≡ gathered_below n given → now ≡ gathered_below all given
gathered-done n all given now same so_far = so_far ∙ ap (λ n. gathered_below n given) same

-- a line by its place
pub line-at : {A B : Type 0} (f : A → B) (xs : List A) (k : ℕ) (d : A) → k < length xs → slice_get (map f xs) k ≡ Some (f (get_or xs k d))
line-at f xs k d within = slice_get-map f xs k ∙ ap (option_map f) (slice_get-get_or xs k d within)

-- what holds of all lines holds of one
pub all-at : {A B : Type 0} (P : B → Type 0) (f : A → B) (xs : List A) (k : ℕ) (d : A) → All P (map f xs) → k < length xs → P (f (get_or xs k d))
all-at P f xs k d all within =
    subst P (get_or-map f xs k d (f d) within) (all k (f d) (omega (arith, length-map xs f)))

-- one item more of a list that is mapped
pub map-next : {A B : Type 0} (f : A → B) (xs : List A) (n : ℕ) (d : A) (first now after : List B) → n < length xs → now ≡ first ++ map f (take n xs) → after ≡ now ++ f (get_or xs n d) ∷ [] → after ≡ first ++ map f (take (n + 1) xs)
map-next f xs n d first now after within so_far next =
    next ∙ ap (λ list. list ++ f (get_or xs n d) ∷ []) so_far ∙ append_assoc first (map f (take n xs)) (f (get_or xs n d) ∷ [])
    ∙ ap (λ list. first ++ list) (sym (map_push f (take n xs) (get_or xs n d)) ∙ ap (map f) (sym (take_more xs n d within)))

-- the whole of it
pub map-done : {A B : Type 0} (f : A → B) (xs : List A) (n : ℕ) (first now : List B) → length xs ≤ n → now ≡ first ++ map f (take n xs) → now ≡ first ++ map f xs
map-done f xs n first now past so_far = so_far ∙ ap (λ xs. first ++ map f xs) (take_all n xs past)

-- the lemmas that `grind` gets
pub ruleset gathering = (append_assoc, append-nil, gathered_below-more)

-- ---- lines that are kept in another form

-- a line by its index, if it is found
pub line-found : {A B : Type 0} (f : A → B) (xs : List A) (k : ℕ) (x : A) → slice_get xs k ≡ Some x → slice_get (map f xs) k ≡ Some (f x)
line-found f xs k x found = slice_get-map f xs k ∙ ap (option_map f) found

-- and if it isn't
pub line-missing : {A B : Type 0} (f : A → B) (xs : List A) (k : ℕ) → slice_get xs k ≡ None → slice_get (map f xs) k ≡ None
line-missing f xs k missing = slice_get-map f xs k ∙ ap (option_map f) missing

-- what holds of all lines holds of one that is found
pub all-found : {A B : Type 0} (P : B → Type 0) (f : A → B) (xs : List A) (k : ℕ) (x : A) → All P (map f xs) → slice_get xs k ≡ Some x → P (f x)
all-found P f xs k x all found =
    let there = line-found f xs k x found in
    subst P (get_or_from_slice_get (map f xs) k (f x) (f x) there) (all k (f x) (slice_get_within (map f xs) k (f x) there))

-- an item of a list that another one equals
pub item-found : {A : Type 0} (xs ys : List A) (k : ℕ) (x : A) → ys ≡ xs → k < length ys → x ≡ get_or ys k x → slice_get xs k ≡ Some x
item-found xs ys k x same within item =
    ap (λ zs. slice_get zs k) (sym same) ∙ slice_get-get_or ys k x within ∙ ap Some (sym item)

choose : {A B : Type 0} (f : A → B) (b : Bool) (x : A) (r : Option B) (s : Option A) → r ≡ option_map f s → cond b (Some (f x)) r ≡ option_map f (cond b (Some x) s)
choose f true x r s same = refl
choose f false x r s same = same

-- the first line that passes
pub find-map : {A B : Type 0} (f : A → B) (p : B → Bool) (xs : List A) → find p (map f xs) ≡ option_map f (find (λ x. p (f x)) xs)
find-map f p [] = refl
find-map f p (x ∷ xs) = choose f (p (f x)) x (find p (map f xs)) (find (λ x. p (f x)) xs) (find-map f p xs)

-- whether a line passes
pub any-map : {A : Type 0} (f : A → Bool) (xs : List A) → list_any (λ bit. bit) (map f xs) ≡ list_any f xs
any-map f [] = refl
any-map f (x ∷ xs) = ap (λ b. f x || b) (any-map f xs)

-- ---- the first place that passes

module _ {A : Type 0} (p : A → Bool) (xs : List A) where
  -- it is in the list
  pub position-below : (k : ℕ) → position p xs ≡ Some k → k < length xs
  position-below k here =
      let is = cond_some (ltb (position_or_len p xs) (length xs)) (position_or_len p xs) k here in
      let lt : position_or_len p xs < length xs = ltb-true (position_or_len p xs) (length xs) is.0 in
      subst (λ n. n < length xs) is.1 lt

  -- and the first item that passes is there
  pub find-some : (k : ℕ) (x : A) → position p xs ≡ Some k → slice_get xs k ≡ Some x → find p xs ≡ Some x
  find-some k x some here = find-at_position p xs k some ∙ here
