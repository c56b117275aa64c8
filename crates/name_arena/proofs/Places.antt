-- Places in their buckets: with more names, with one place more, and what a search finds.
use Rattle.std.proofs.Common.{◌≡◌, ℕ, ◌+◌, ◌-◌, ◌^◌, ◌<◌, ◌≤◌, true, false, List, [], ◌∷◌, ◌++◌, length, get_or, refl, sym, ap, subst, ◌∙◌, inl, inr, arith, length-append, true≢false, ◌≢◌}
use Rattle.std.specs.Prelude.{bytes_eq}
use Rattle.std.proofs.lemmas.List.{get_or_append_left, get_or-append_right}
use Rattle.std.proofs.lemmas.Bool.{cases_lt, cases_eq, cases_Bool}
use Rattle.std.proofs.lemmas.Slice.Eq.{bytes_eq-Decides}
use Rattle.name_arena.specs.Buckets.{bucket_of, named, AreChained, IsLast, Lacks}

-- ---- more names

-- the last place stays when more names follow
last_among : (names more : List (List ℕ)) (count bucket n place : ℕ) → n ≤ length names → IsLast names count bucket n place → IsLast (names ++ more) count bucket n place
last_among names more count bucket n place few is = record {
  own = λ lt. ap (bucket_of count) (get_or_append_left names more [] place (omega (arith, few, lt))) ∙ is.own lt;
  last = λ k lt same. is.last k lt (sym (ap (bucket_of count) (get_or_append_left names more [] k (omega (arith, few, lt)))) ∙ same);
  none = is.none;
}

pub chained_among : (names more : List (List ℕ)) (last before : List ℕ) → AreChained names last before → AreChained (names ++ more) last before
chained_among names more last before chained = record {
  few = omega (arith, chained.few, length-append names more);
  last_is = λ bucket lt. last_among names more (length last) bucket (length before) (get_or last bucket 0) chained.few (chained.last_is bucket lt);
  before_is = λ k lt.
      let here : named (names ++ more) k ≡ named names k = get_or_append_left names more [] k (omega (arith, chained.few, lt)) in
      subst (λ name. IsLast (names ++ more) (length last) (bucket_of (length last) name) k (get_or before k 0)) (sym here)
      (last_among names more (length last) (bucket_of (length last) (named names k)) k (get_or before k 0) (omega (arith, chained.few, lt)) (chained.before_is k lt));
}

-- a name that is added comes after the others
pub named_last : (names : List (List ℕ)) (name : List ℕ) → named (names ++ name ∷ []) (length names) ≡ name
named_last names name = get_or-append_right names (name ∷ []) (length names) (length names) [] refl (omega arith) ∙ ap (λ k. get_or (name ∷ []) k []) (sub-self (length names))
  where
    sub-self : (n : ℕ) → n - n ≡ 0
    sub-self n = omega arith

-- ---- one place more

-- the next place is the last of its bucket
last_here : (names : List (List ℕ)) (count bucket n : ℕ) → bucket_of count (named names n) ≡ bucket → IsLast names count bucket (n + 1) n
last_here names count bucket n own = record {
  own = λ lt. own;
  last = λ k lt same. (omega (arith, lt), omega arith);
  none = λ le. absurd (omega (arith, le));
}

-- and of no other
last_elsewhere : (names : List (List ℕ)) (count bucket n place : ℕ) → n < 2 ^ 32 - 1 → (bucket_of count (named names n) ≡ bucket → ⊥) → IsLast names count bucket n place → IsLast names count bucket (n + 1) place
last_elsewhere names count bucket n place few other is =
    let far : n ≤ place → n + 1 ≤ place = λ le. omega (arith, few, is.none le) in
    record {
      own = λ lt.
          elim (cases_lt place n) [
            | inl before ↦ is.own before
            | inr past ↦ absurd (omega (arith, lt, far past))
          ];
      last = λ k lt same.
          elim (cases_eq k n) [
            | inl here ↦ absurd (other (subst (λ j. bucket_of count (named names j) ≡ bucket) here same))
            | inr apart ↦ let there = is.last k (omega (arith, lt, apart)) same in (there.0, omega (arith, there.1))
          ];
      none = λ le. is.none (omega (arith, le));
    }

pub chained_push : (names : List (List ℕ)) (name : List ℕ) (old new before : List ℕ) (bucket place : ℕ) → length before < length names → length before < 2 ^ 32 - 1 → named names (length before) ≡ name
    → bucket ≡ bucket_of (length old) name → bucket < length old → place ≡ get_or old bucket 0 → get_or new bucket 0 ≡ length before → ((b : ℕ) → b ≢ bucket → get_or new b 0 ≡ get_or old b 0) → length new ≡ length old
    → AreChained names old before → AreChained names new (before ++ place ∷ [])
chained_push names name old new before bucket place more few is bucket_is inside place_is here others same chained =
    let n : ℕ = length before in
    let counted : length (before ++ place ∷ []) ≡ n + 1 = length-append before (place ∷ []) in
    let own : bucket_of (length old) (named names n) ≡ bucket = ap (bucket_of (length old)) is ∙ sym bucket_is in
    let last : (b : ℕ) → b < length old → IsLast names (length old) b (n + 1) (get_or new b 0) = λ b lt.
    elim (cases_eq b bucket) [
      | inl at ↦
          subst (λ p. IsLast names (length old) b (n + 1) p) (sym (ap (λ q. get_or new q 0) at ∙ here)) (last_here names (length old) b n (own ∙ sym at))
      | inr away ↦
          subst (λ p. IsLast names (length old) b (n + 1) p) (sym (others b away))
          (last_elsewhere names (length old) b n (get_or old b 0) few (λ there. away (sym there ∙ own)) (chained.last_is b lt))
    ] in
    let older : (k : ℕ) → k < n + 1 → IsLast names (length old) (bucket_of (length old) (named names k)) k (get_or (before ++ place ∷ []) k 0) = λ k lt.
    elim (cases_lt k n) [
      | inl earlier ↦
          subst (λ p. IsLast names (length old) (bucket_of (length old) (named names k)) k p) (sym (get_or_append_left before (place ∷ []) 0 k earlier)) (chained.before_is k earlier)
      | inr past ↦
          let at : k ≡ n = omega (arith, past, lt) in
          let zero_is : k - n ≡ 0 = omega (arith, at) in
          let value : get_or (before ++ place ∷ []) k 0 ≡ get_or old bucket 0 =
          get_or-append_right before (place ∷ []) n k 0 refl past ∙ ap (λ j. get_or (place ∷ []) j 0) zero_is ∙ place_is in
          let last_one : IsLast names (length old) (bucket_of (length old) (named names n)) n (get_or old bucket 0) =
          subst (λ b. IsLast names (length old) b n (get_or old bucket 0)) (sym own) (chained.last_is bucket inside) in
          subst (λ p. IsLast names (length old) (bucket_of (length old) (named names k)) k p) (sym value)
          (subst (λ j. IsLast names (length old) (bucket_of (length old) (named names j)) j (get_or old bucket 0)) (sym at) last_one)
    ] in
    record {
      few = omega (arith, counted, more);
      last_is = λ b lt.
          subst (λ m. IsLast names (length new) b m (get_or new b 0)) (sym counted)
          (subst (λ c. IsLast names c b (n + 1) (get_or new b 0)) (sym same) (last b (omega (arith, lt, same))));
      before_is = λ k lt.
          subst (λ c. IsLast names c (bucket_of c (named names k)) k (get_or (before ++ place ∷ []) k 0)) (sym same) (older k (omega (arith, lt, counted)));
    }

-- ---- a search

-- what a search has passed, and where it goes on
pub record Searches (names : List (List ℕ)) (before : List ℕ) (name : List ℕ) (count after place : ℕ) : Type 0 where
  pub within : after ≤ length names
  pub last : IsLast names count (bucket_of count name) after place
  pub passed : (k : ℕ) → after ≤ k → k < length names → bytes_eq name (named names k) ≡ false
  pub chained : (k : ℕ) → k < length names → IsLast names count (bucket_of count (named names k)) k (get_or before k 0)

-- a name that is found is in the bucket
same_bucket : (names : List (List ℕ)) (name : List ℕ) (count k : ℕ) → bytes_eq name (named names k) ≡ true → bucket_of count (named names k) ≡ bucket_of count name
same_bucket names name count k found = ap (bucket_of count) (sym ((bytes_eq-Decides name (named names k)).0 found))

-- no name that is passed is that one
pub searched_on : (names : List (List ℕ)) (before name : List ℕ) (count after place : ℕ) → Searches names before name count after place → place < after → bytes_eq name (named names place) ≡ false
    → Searches names before name count place (get_or before place 0)
searched_on names before name count after place searches lt other = record {
  within = omega (arith, lt, searches.within);
  last = subst (λ bucket. IsLast names count bucket place (get_or before place 0)) (searches.last.own lt) (searches.chained place (omega (arith, lt, searches.within)));
  passed = λ k from below.
      elim (cases_lt k after) [
        | inr past ↦ searches.passed k past below
        | inl inside ↦
            elim (cases_Bool (bytes_eq name (named names k))) [
              | inr apart ↦ apart
              | inl found ↦
                  let there = searches.last.last k inside (same_bucket names name count k found) in
                  let at : k ≡ place = omega (arith, from, there.0) in
                  absurd (true≢false (sym found ∙ ap (λ j. bytes_eq name (named names j)) at ∙ other))
            ]
      ];
  chained = searches.chained;
}

-- and if none is left there is none
pub searched_all : (names : List (List ℕ)) (before name : List ℕ) (count after place : ℕ) → Searches names before name count after place → after ≤ place → Lacks names name
searched_all names before name count after place searches none k below =
    elim (cases_lt k after) [
      | inr past ↦ searches.passed k past below
      | inl inside ↦
          elim (cases_Bool (bytes_eq name (named names k))) [
            | inr apart ↦ apart
            | inl found ↦ absurd (omega (arith, none, (searches.last.last k inside (same_bucket names name count k found)).1))
          ]
    ]
