-- Rows, of which one gets a number more.
use Rattle.std.proofs.Common.{◌≡◌, ◌≢◌, ℕ, zero, suc, ◌<◌, true, inl, inr, List, [], ◌∷◌, ◌++◌, length, get_or, set, replicate, refl, sym, ap, ◌∙◌, subst, arith, get_or-set_same, get_or-set_other}
use Rattle.std.specs.declared.vec.Vec.{Vec}
use Rattle.std.proofs.lemmas.Bool.{cases_eq}
use Rattle.std.proofs.lemmas.List.{length-set, length-replicate}
use Rattle.graph_order.specs.Wiring.{has}
use Rattle.graph_order.proofs.OneOrder.{has-none}
use Rattle.graph_order.specs.Rows.{lists_of, row_at}
use Rattle.graph_order.proofs.Lists.{has-kept, has-last, has-split}

pub lists-length : {Z : Type 0} (rows : List (Vec ℕ Z)) → length (lists_of rows) ≡ length rows
lists-length [] = refl
lists-length (first ∷ rest) = ap suc (lists-length rest)

module _ {Z : Type 0} (rows new : List (Vec ℕ Z)) (at node : ℕ) where
  abbrev Adds : Type 0
  Adds = lists_of new ≡ set (lists_of rows) at (row_at rows at ++ node ∷ [])

  pub rows-length : Adds → length new ≡ length rows
  rows-length is = sym (lists-length new) ∙ ap length is ∙ length-set (lists_of rows) at (row_at rows at ++ node ∷ []) ∙ lists-length rows

  module _ (within : at < length rows) (is : Adds) where
    row-here : row_at new at ≡ row_at rows at ++ node ∷ []
    row-here =
        let inside : at < length (lists_of rows) = omega (arith, lists-length rows, within) in
        ap (λ lists. get_or lists at []) is ∙ get_or-set_same (lists_of rows) at (row_at rows at ++ node ∷ []) [] inside

    row-other : (k : ℕ) → k ≢ at → row_at new k ≡ row_at rows k
    row-other k apart = ap (λ lists. get_or lists k []) is ∙ get_or-set_other (lists_of rows) at k (row_at rows at ++ node ∷ []) [] apart

    pub rows-kept : (other reader : ℕ) → has (row_at rows other) reader ≡ true → has (row_at new other) reader ≡ true
    rows-kept other reader found = elim (cases_eq other at) [
      | inl same ↦
          let before : has (row_at rows at) reader ≡ true = subst (λ k. has (row_at rows k) reader ≡ true) same found in
          let after : has (row_at new at) reader ≡ true = ap (λ l. has l reader) row-here ∙ has-kept (row_at rows at) node reader before in
          subst (λ k. has (row_at new k) reader ≡ true) (sym same) after
      | inr apart ↦ ap (λ l. has l reader) (row-other other apart) ∙ found
    ]

    pub rows-added : has (row_at new at) node ≡ true
    rows-added = ap (λ l. has l node) row-here ∙ has-last (row_at rows at) node

    pub rows-within : (bound : ℕ) → node < bound → ((other reader : ℕ) → has (row_at rows other) reader ≡ true → reader < bound)
        → (other reader : ℕ) → has (row_at new other) reader ≡ true → reader < bound
    rows-within bound less all other reader found = elim (cases_eq other at) [
      | inl same ↦
          let here : has (row_at new at) reader ≡ true = subst (λ k. has (row_at new k) reader ≡ true) same found in
          elim (has-split (row_at rows at) node reader (ap (λ l. has l reader) (sym row-here) ∙ here)) [
            | inl before ↦ all at reader before
            | inr one ↦ omega (arith, one, less)
          ]
      | inr apart ↦ all other reader (ap (λ l. has l reader) (sym (row-other other apart)) ∙ found)
    ]

-- empty rows hold nothing
empty-row : (n at k : ℕ) → has (get_or (replicate {A = List ℕ} n []) at []) k ≡ true → ⊥
empty-row zero at k found = has-none k found
empty-row (suc n) zero k found = has-none k found
empty-row (suc n) (suc at) k found = empty-row n at k found

pub no-rows : {Z : Type 0} (rows : List (Vec ℕ Z)) (n : ℕ) → lists_of rows ≡ replicate n [] → (at k : ℕ) → has (row_at rows at) k ≡ true → ⊥
no-rows rows n is at k found = empty-row n at k (ap (λ lists. has (get_or lists at []) k) (sym is) ∙ found)

pub no-rows-length : {Z : Type 0} (rows : List (Vec ℕ Z)) (n : ℕ) → lists_of rows ≡ replicate n [] → length rows ≡ n
no-rows-length rows n is = sym (lists-length rows) ∙ ap length is ∙ length-replicate {A = List ℕ} n []
