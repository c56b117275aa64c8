-- Look-ups in lists with one more element.
use Rattle.std.proofs.Common.{◌≡◌, ℕ, ◌+◌, ◌≤◌, Bool, true, false, not, cond, eqb, ltb, List, [], ◌∷◌, ◌++◌, length, length-append, refl, sym, ap, ◌∙◌, inl, inr, arith}
use Rattle.std.specs.Prelude.{Option, Some, None, position, bytes_eq}
use Rattle.std.specs.List.{position_or_len, list_any}
use Rattle.std.specs.Map.{lookup}
use Rattle.std.proofs.lemmas.Bool.{cases_eq, cases_Bool, lt-ltb, le-ltb, eq-eqb, ne_eqb, or_left, or_right, or_from}
use Rattle.std.proofs.lemmas.List.Folds.{position_or_len_push}
use Rattle.std.proofs.lemmas.List.Sums.{prefix_len-le-length}
use Rattle.std.proofs.lemmas.Slice.Eq.{bytes_eq-Decides}
use Rattle.index_search.proofs.Places.{or_else-none}
use Rattle.index_search.specs.Places.{or_else}

-- the value of the first key that passes, with one entry more
pub lookup-push : {K X : Type 0} (test : K → Bool) (entries : List (K × X)) (entry : K × X) → lookup test (entries ++ entry ∷ []) ≡ or_else (lookup test entries) (cond (test entry.0) (Some entry.1) None)
lookup-push test [] entry = refl
lookup-push test (e ∷ entries) entry = by (test e.0) (lookup-push test entries entry)
  where
    by : (b : Bool) → lookup test (entries ++ entry ∷ []) ≡ or_else (lookup test entries) (cond (test entry.0) (Some entry.1) None)
        → cond b (Some e.1) (lookup test (entries ++ entry ∷ [])) ≡ or_else (cond b (Some e.1) (lookup test entries)) (cond (test entry.0) (Some entry.1) None)
    by true same = refl
    by false same = same

-- the place of one element more, by numbers
place_by : (place count : ℕ) (passes : Bool) → place ≤ count
    → cond (ltb (cond (eqb place count) (count + cond passes 0 1) place) (count + 1)) (Some (cond (eqb place count) (count + cond passes 0 1) place)) None
    ≡ or_else (cond (ltb place count) (Some place) None) (cond passes (Some count) None)
place_by place count true le =
    elim (cases_eq place count) [
      | inl same ↦
          let here : eqb place count ≡ true = eq-eqb place count same in
          let none : ltb place count ≡ false = le-ltb place count (omega arith) in
          let sum : count + 0 ≡ count = omega arith in
          let lt : ltb count (count + 1) ≡ true = lt-ltb count (count + 1) (omega arith) in
          rw (here, none, sum, lt) refl
      | inr other ↦
          let there : eqb place count ≡ false = ne_eqb place count other in
          let some : ltb place count ≡ true = lt-ltb place count (omega arith) in
          let lt : ltb place (count + 1) ≡ true = lt-ltb place (count + 1) (omega arith) in
          rw (there, some, lt) refl
    ]
place_by place count false le =
    elim (cases_eq place count) [
      | inl same ↦
          let here : eqb place count ≡ true = eq-eqb place count same in
          let none : ltb place count ≡ false = le-ltb place count (omega arith) in
          let past : ltb (count + 1) (count + 1) ≡ false = le-ltb (count + 1) (count + 1) (omega arith) in
          rw (here, none, past) refl
      | inr other ↦
          let there : eqb place count ≡ false = ne_eqb place count other in
          let some : ltb place count ≡ true = lt-ltb place count (omega arith) in
          let lt : ltb place (count + 1) ≡ true = lt-ltb place (count + 1) (omega arith) in
          rw (there, some, lt) refl
    ]

-- the place of the first element that passes, with one element more
pub position-push : {X : Type 0} (test : X → Bool) (xs : List X) (x : X) → position test (xs ++ x ∷ []) ≡ or_else (position test xs) (cond (test x) (Some (length xs)) None)
position-push test xs x =
    let count : length (xs ++ x ∷ []) ≡ length xs + 1 = length-append xs (x ∷ []) in
    let within : position_or_len test xs ≤ length xs = prefix_len-le-length (λ y. not (test y)) xs in
    rw (count, position_or_len_push test xs x) (place_by (position_or_len test xs) (length xs) (test x) within)

-- a text is equal to itself
pub bytes_eq-same : (text : List ℕ) → bytes_eq text text ≡ true
bytes_eq-same text = (bytes_eq-Decides text text).1 refl

-- a value that is found belongs to an entry that passes
pub lookup-passes : {K X : Type 0} (test : K → Bool) (both : K × X → Bool) (entries : List (K × X)) (x : X)
    → ((e : K × X) → test e.0 ≡ true → e.1 ≡ x → both e ≡ true) → lookup test entries ≡ Some x → list_any both entries ≡ true
lookup-passes test both [] x passes found = absurd cc
lookup-passes test both (e ∷ entries) x passes found =
    elim (cases_Bool (test e.0)) [
      | inl here ↦
          let same : Some e.1 ≡ Some x = rw here at found in
          or_left (both e) (list_any both entries) (passes e here cc)
      | inr other ↦
          let rest : lookup test entries ≡ Some x = rw other at found in
          or_right (both e) (list_any both entries) (lookup-passes test both entries x passes rest)
    ]

-- if nothing is found, no entry passes
pub lookup-none_passes : {K X : Type 0} (test : K → Bool) (both : K × X → Bool) (entries : List (K × X))
    → ((e : K × X) → test e.0 ≡ false → both e ≡ false) → lookup test entries ≡ None → list_any both entries ≡ false
lookup-none_passes test both [] fails none = refl
lookup-none_passes test both (e ∷ entries) fails none =
    elim (cases_Bool (test e.0)) [
      | inl here ↦ let some : Some e.1 ≡ None = rw here at none in absurd cc
      | inr other ↦
          let rest : lookup test entries ≡ None = rw other at none in
          or_from (both e) (list_any both entries) (fails e other) (lookup-none_passes test both entries fails rest)
    ]

-- An index that has the first value of each key of a list, with one key more that it hadn't.
pub index-push : {K X : Type 0} (same at : K → K → Bool) (old new : K → Option X) (entries : List (K × X)) (key : K) (x : X)
    → ((q : K) → at key q ≡ same q key) → ((q : K) → same q key ≡ true → q ≡ key)
    → ((q : K) → new q ≡ cond (at key q) (Some x) (old q)) → ((q : K) → old q ≡ lookup (same q) entries) → old key ≡ None
    → (q : K) → new q ≡ lookup (same q) (entries ++ (key, x) ∷ [])
index-push same at old new entries key x ties equal updates found none q =
    let pushed = lookup-push (same q) entries (key, x) in
    let here = updates q ∙ ap (λ b. cond b (Some x) (old q)) (ties q) in
    elim (cases_Bool (same q key)) [
      | inl is ↦
          let absent : lookup (same q) entries ≡ None = sym (found q) ∙ ap old (equal q is) ∙ none in
          let left : new q ≡ Some x = rw is at here in
          let right : lookup (same q) (entries ++ (key, x) ∷ []) ≡ Some x = pushed ∙ rw (absent, is) refl in
          left ∙ sym right
      | inr other ↦
          let left : new q ≡ old q = rw other at here in
          let right : lookup (same q) (entries ++ (key, x) ∷ []) ≡ lookup (same q) entries = pushed ∙ rw other (or_else-none (lookup (same q) entries)) in
          left ∙ found q ∙ sym right
    ]
