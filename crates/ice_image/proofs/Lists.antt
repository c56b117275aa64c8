-- Lists in order: what places give, and that two with the same items are one.
use Rattle.std.proofs.Common.{◌≡◌, ℕ, zero, suc, ◌-◌, ◌<◌, ◌⊎◌, List, [], ◌∷◌, ◌++◌, length, get_or, Contains, refl, sym, ap, ◌∙◌, subst, inl, inr, arith, length-append}
use Rattle.std.specs.List.{AllPairs}
use Rattle.std.proofs.lemmas.Bool.{cases_lt}
use Rattle.std.proofs.lemmas.List.{get_or_append_left, get_or-append_right}
use Rattle.std.proofs.lemmas.List.Elements.{Contains-append_left, Contains-append_right, Contains-append_cases, Contains-get_or}
use Rattle.index_search.proofs.Gathered.{gathered_below-place}
use Rattle.index_search.specs.Places.{gathered_below}

-- ---- order

module _ {A : Type 0} (R : A → A → Type 0) where
  -- two lists in order, the second after the first
  ordered-append : (xs ys : List A) → AllPairs R xs → AllPairs R ys → ((a b : A) → Contains xs a → Contains ys b → R a b) → AllPairs R (xs ++ ys)
  ordered-append xs ys first second across i j d before inside =
      elim (cases_lt j (length xs)) [
        | inl j_left ↦
            let i_left : i < length xs = omega arith in
            rw (get_or_append_left xs ys d i i_left, get_or_append_left xs ys d j j_left) (first i j d before j_left)
        | inr j_right ↦
            let j_in : j - length xs < length ys = omega (arith, length-append xs ys) in
            rw (get_or-append_right xs ys (length xs) j d refl j_right) (elim (cases_lt i (length xs)) [
              | inl i_left ↦ rw (get_or_append_left xs ys d i i_left) (across (get_or xs i d) (get_or ys (j - length xs) d) (Contains-get_or xs i d i_left) (Contains-get_or ys (j - length xs) d j_in))
              | inr i_right ↦
                  let next : i - length xs < j - length xs = omega arith in
                  rw (get_or-append_right xs ys (length xs) i d refl i_right) (second (i - length xs) (j - length xs) d next j_in)
            ])
      ]

  -- places that give lists in order, each after those of the earlier places
  pub ordered-gathered : (n : ℕ) (given : ℕ → List A) → ((k : ℕ) → k < n → AllPairs R (given k)) → ((j k : ℕ) (a b : A) → j < k → k < n → Contains (given j) a → Contains (given k) b → R a b) → AllPairs R (gathered_below n given)
  unfolding gathered_below
  ordered-gathered zero given each across = λ i j d before inside. absurd (omega (arith, inside))
  ordered-gathered (suc n) given each across =
      ordered-append (gathered_below n given) (given n) (ordered-gathered n given (λ k below. each k (omega arith)) (λ j k a b before below. across j k a b before (omega arith))) (each n (omega arith)) (λ a b is_a is_b. let found = gathered_below-place n given a is_a in across found.0 n a b found.1 (omega arith) found.2 is_b)

  -- the first of a list in order is before all others
  first-before : (x : A) (xs : List A) (y : A) → AllPairs R (x ∷ xs) → Contains xs y → R x y
  first-before x xs y ordered is =
      let inside : suc is.0 < length (x ∷ xs) = omega (arith, is.1) in
      subst (R x) is.2 (ordered 0 (suc is.0) y (omega arith) inside)

  -- the others are in order
  others-ordered : (x : A) (xs : List A) → AllPairs R (x ∷ xs) → AllPairs R xs
  others-ordered x xs ordered i j d before inside = ordered (suc i) (suc j) d (omega arith) (omega arith)

  -- what a list has is its first or one of the others
  first-or-other : (x : A) (xs : List A) (y : A) → Contains (x ∷ xs) y → (x ≡ y) ⊎ Contains xs y
  first-or-other x xs y is =
      elim (Contains-append_cases (x ∷ []) xs y is) [
        | inr other ↦ inr other
        | inl alone ↦ inl (let e : alone.0 ≡ 0 = omega (arith, alone.1) in subst (λ (k : ℕ). get_or (x ∷ []) k y ≡ y) e alone.2)
      ]

  -- two lists in order that have the same are one
  pub ordered-same : ((a b : A) → R a b → R b a → ⊥) → (xs ys : List A) → AllPairs R xs → AllPairs R ys → ((x : A) → Contains xs x → Contains ys x) → ((x : A) → Contains ys x → Contains xs x) → xs ≡ ys
  ordered-same strict [] [] ordered_xs ordered_ys to from = refl
  ordered-same strict [] (y ∷ ys) ordered_xs ordered_ys to from = absurd (let none = from y (Contains-append_left (y ∷ []) ys y (0, omega arith, refl)) in omega (arith, none.1))
  ordered-same strict (x ∷ xs) [] ordered_xs ordered_ys to from = absurd (let none = to x (Contains-append_left (x ∷ []) xs x (0, omega arith, refl)) in omega (arith, none.1))
  ordered-same strict (x ∷ xs) (y ∷ ys) ordered_xs ordered_ys to from =
      let has_x : Contains (x ∷ xs) x = Contains-append_left (x ∷ []) xs x (0, omega arith, refl) in
      let has_y : Contains (y ∷ ys) y = Contains-append_left (y ∷ []) ys y (0, omega arith, refl) in
      let first : x ≡ y = elim (first-or-other y ys x (to x has_x)) [
        | inl e ↦ sym e
        | inr later ↦ elim (first-or-other x xs y (from y has_y)) [
          | inl e ↦ e
          | inr other ↦ absurd (strict x y (first-before x xs y ordered_xs other) (first-before y ys x ordered_ys later))
        ]
      ] in
      let others : xs ≡ ys = ordered-same strict xs ys (others-ordered x xs ordered_xs) (others-ordered y ys ordered_ys) (λ z is. elim (first-or-other y ys z (to z (Contains-append_right (x ∷ []) xs z is))) [
        | inr other ↦ other
        | inl e ↦ let before : R x z = first-before x xs z ordered_xs is in
            absurd (let same : R z z = subst (λ (a : A). R a z) (first ∙ e) before in strict z z same same)
      ]) (λ z is. elim (first-or-other x xs z (from z (Contains-append_right (y ∷ []) ys z is))) [
        | inr other ↦ other
        | inl e ↦ let before : R y z = first-before y ys z ordered_ys is in
            absurd (let same : R z z = subst (λ (a : A). R a z) (sym first ∙ e) before in strict z z same same)
      ]) in
      ap (λ z. z ∷ xs) first ∙ ap (λ zs. y ∷ zs) others
