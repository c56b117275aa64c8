-- Members of lists that are filtered or marked.
use Rattle.std.proofs.Common.{◌≡◌, ℕ, Bool, true, false, not, ◌||◌, List, [], ◌∷◌, ◌++◌, map, filter, Contains, cond, get_or, refl, sym, ap, ◌∙◌, subst, inl, inr, arith}
use Rattle.std.specs.Prelude.{bytes_eq, ◌⊎◌, ◌↔◌}
use Rattle.std.proofs.lemmas.Bool.{cases_Bool, not-true, not_from_false, true≢false}
use Rattle.std.proofs.lemmas.List.Elements.{All-contains, All-contains_itself, All-filter, Contains-append_cases, Contains-append_left, Contains-append_right, filter_passes}
use Rattle.std.proofs.lemmas.List.Folds.{list_any_at}
use Rattle.std.proofs.lemmas.Slice.Eq.{bytes_eq-Decides}
use Rattle.image_diff.specs.Differences.{is_among, line_changes, lines_without, minus, plus}
use Rattle.image_diff.specs.Laws.{HasAlone}

-- ---- one item and others

module _ {X : Type 0} where
  pub head-in : (x : X) (xs : List X) → Contains (x ∷ xs) x
  head-in x xs = (0, omega arith, refl)

  pub tail-in : (x y : X) (xs : List X) → Contains xs y → Contains (x ∷ xs) y
  tail-in x y xs is = Contains-append_right (x ∷ []) xs y is

  pub none-in : (x : X) → Contains [] x → ⊥
  none-in x is = omega (arith, is.1)

  one-in : (x y : X) → Contains (x ∷ []) y → x ≡ y
  one-in x y is =
      let first : is.0 ≡ 0 = omega (arith, is.1) in
      subst (λ (k : ℕ). get_or (x ∷ []) k y ≡ y) first is.2

  pub either-in : (x y : X) (xs : List X) → Contains (x ∷ xs) y → (x ≡ y) ⊎ Contains xs y
  either-in x y xs is =
      elim (Contains-append_cases (x ∷ []) xs y is) [
        | inl here ↦ inl (one-in x y here)
        | inr there ↦ inr there
      ]

  -- ---- a filter

  kept : (test : Bool) (x y : X) (xs : List X) → Contains xs y → Contains (cond test (x ∷ xs) xs) y
  kept true x y xs is = tail-in x y xs is
  kept false x y xs is = is

  put : (test : Bool) (x : X) (xs : List X) → test ≡ true → Contains (cond test (x ∷ xs) xs) x
  put true x xs passes = head-in x xs
  put false x xs passes = absurd (true≢false (sym passes))

  -- an item that passes stays
  pub filter-in : (test : X → Bool) (xs : List X) (x : X) → Contains xs x → test x ≡ true → Contains (filter test xs) x
  filter-in test [] x is passes = absurd (none-in x is)
  filter-in test (y ∷ xs) x is passes =
      elim (either-in y x xs is) [
        | inl here ↦ subst (λ (x : X). Contains (filter test (y ∷ xs)) x) here (put (test y) y (filter test xs) (ap test here ∙ passes))
        | inr there ↦ kept (test y) y x (filter test xs) (filter-in test xs x there passes)
      ]

  -- and all that stay were there, and pass
  pub filter-from : (test : X → Bool) (xs : List X) (x : X) → Contains (filter test xs) x → Contains xs x × (test x ≡ true)
  filter-from test xs x is =
      (All-contains (Contains xs) (filter test xs) x (All-filter test (Contains xs) xs (All-contains_itself xs)) is, All-contains (λ x. test x ≡ true) (filter test xs) x (filter_passes test xs) is)

-- ---- a map

pub map-in : {X Y : Type 0} (change : X → Y) (xs : List X) (x : X) → Contains xs x → Contains (map change xs) (change x)
map-in change [] x is = absurd (none-in x is)
map-in {X = X} change (y ∷ xs) x is =
    elim (either-in y x xs is) [
      | inl here ↦ subst (λ (x : X). Contains (map change (y ∷ xs)) (change x)) here (head-in (change y) (map change xs))
      | inr there ↦ tail-in (change y) (change x) (map change xs) (map-in change xs x there)
    ]

-- an item of a changed list is a changed item
pub map-from : {X Y : Type 0} (change : X → Y) (xs : List X) (y : Y) → Contains (map change xs) y → (x : X) × Contains xs x × (change x ≡ y)
map-from change [] y is = absurd (none-in y is)
map-from change (x ∷ xs) y is =
    elim (either-in (change x) y (map change xs) is) [
      | inl here ↦ (x, head-in x xs, here)
      | inr there ↦ let found = map-from change xs y there in (found.0, tail-in x found.0 xs found.1, found.2)
    ]

-- ---- lines

same-bytes : (line : List ℕ) → bytes_eq line line ≡ true
same-bytes line = (bytes_eq-Decides line line).1 refl

pub among-in : (lines : List (List ℕ)) (line : List ℕ) → Contains lines line → is_among lines line ≡ true
among-in lines line is =
    list_any_at (λ other. bytes_eq other line) lines is.0 line is.1 (ap (λ other. bytes_eq other line) is.2 ∙ same-bytes line)

pub among-from : (lines : List (List ℕ)) (line : List ℕ) → is_among lines line ≡ true → Contains lines line
among-from [] line is = absurd (true≢false (sym is))
among-from (other ∷ lines) line is =
    elim (cases_Bool (bytes_eq other line)) [
      | inl same ↦ subst (λ (line : List ℕ). Contains (other ∷ lines) line) ((bytes_eq-Decides other line).0 same) (head-in other lines)
      | inr differs ↦ tail-in other line lines (among-from lines line (subst (λ (b : Bool). (b || is_among lines line) ≡ true) differs is))
    ]

-- a line stands among the lines without others exactly where it is none of those
pub without-in : (others lines : List (List ℕ)) (line : List ℕ) → HasAlone lines others line → Contains (lines_without others lines) line
unfolding lines_without
without-in others lines line alone =
    elim (cases_Bool (is_among others line)) [
      | inl among ↦ absurd (alone.1 (among-from others line among))
      | inr apart ↦ filter-in (λ line. not (is_among others line)) lines line alone.0 (not_from_false (is_among others line) apart)
    ]

pub without-from : (others lines : List (List ℕ)) (line : List ℕ) → Contains (lines_without others lines) line → HasAlone lines others line
unfolding lines_without
without-from others lines line is =
    let found = filter-from (λ line. not (is_among others line)) lines line is in
    (found.0, λ there. true≢false (sym (among-in others line there) ∙ not-true (is_among others line) found.1))

-- ---- lines with a sign

first-byte : (a b : ℕ) (line other : List ℕ) → a ∷ line ≡ b ∷ other → a ≡ b
first-byte a b line other same = ap (λ bytes. get_or bytes 0 0) same

-- a marked line is that of one list, if the other list's lines have another sign
left-marked : (a b : ℕ) (lefts rights : List (List ℕ)) (line : List ℕ) → (a ≡ b → ⊥) → Contains (map (◌∷◌ a) lefts ++ map (◌∷◌ b) rights) (a ∷ line) → Contains lefts line
left-marked a b lefts rights line apart is =
    elim (Contains-append_cases (map (◌∷◌ a) lefts) (map (◌∷◌ b) rights) (a ∷ line) is) [
      | inl left ↦ let found = map-from (◌∷◌ a) lefts (a ∷ line) left in let same : found.0 ≡ line = cc (found.2) in subst (λ (line : List ℕ). Contains lefts line) same found.1
      | inr right ↦ let found = map-from (◌∷◌ b) rights (a ∷ line) right in absurd (apart (sym (first-byte b a found.0 line found.2)))
    ]

right-marked : (a b : ℕ) (lefts rights : List (List ℕ)) (line : List ℕ) → (a ≡ b → ⊥) → Contains (map (◌∷◌ a) lefts ++ map (◌∷◌ b) rights) (b ∷ line) → Contains rights line
right-marked a b lefts rights line apart is =
    elim (Contains-append_cases (map (◌∷◌ a) lefts) (map (◌∷◌ b) rights) (b ∷ line) is) [
      | inl left ↦ let found = map-from (◌∷◌ a) lefts (b ∷ line) left in absurd (apart (first-byte a b found.0 line found.2))
      | inr right ↦ let found = map-from (◌∷◌ b) rights (b ∷ line) right in let same : found.0 ≡ line = cc (found.2) in subst (λ (line : List ℕ). Contains rights line) same found.1
    ]

signs-apart : ◌≡◌ {A = ℕ} 45 43 → ⊥
signs-apart same = omega arith

module _ (first second : List (List ℕ)) (line : List ℕ) where
  pub minus-told : Contains (line_changes first second) (minus line) ↔ HasAlone first second line
  unfolding line_changes
  minus-told = (
    (λ is. without-from second first line (left-marked 45 43 (lines_without second first) (lines_without first second) line signs-apart is)),
    (λ alone. Contains-append_left (map minus (lines_without second first)) (map plus (lines_without first second)) (minus line) (map-in minus (lines_without second first) line (without-in second first line alone))),
  )

  pub plus-told : Contains (line_changes first second) (plus line) ↔ HasAlone second first line
  unfolding line_changes
  plus-told = (
    (λ is. without-from first second line (right-marked 45 43 (lines_without second first) (lines_without first second) line signs-apart is)),
    (λ alone. Contains-append_right (map minus (lines_without second first)) (map plus (lines_without first second)) (plus line) (map-in plus (lines_without first second) line (without-in first second line alone))),
  )
