-- Places of numbers in lists.
use Rattle.std.proofs.Common.{◌≡◌, ℕ, zero, suc, ◌<◌, ◌≤◌, true, ◌⊎◌, inl, inr, List, [], ◌∷◌, ◌++◌, length, get_or, sym, ap, ◌∙◌, subst, arith}
use Rattle.std.specs.declared.vec.Vec.{Vec}
use Rattle.std.proofs.lemmas.Bool.{cases_lt}
use Rattle.std.proofs.lemmas.List.{get_or-map}
use Rattle.graph_order.specs.Wiring.{has}
use Rattle.graph_order.proofs.OneOrder.{has-none, has-first, has-after, has-cases}
use Rattle.graph_order.specs.Rows.{row_at}

-- a list has what stands in it
pub has-at : (list : List ℕ) (place : ℕ) → place < length list → has list (get_or list place 0) ≡ true
has-at [] place within = absurd (omega arith)
has-at (first ∷ rest) zero within = has-first first rest
has-at (first ∷ rest) (suc place) within = has-after first rest (get_or rest place 0) (has-at rest place (omega arith))

-- where a number stands in a list, from a place on
pub record StandsFrom (list : List ℕ) (from n : ℕ) : Type 0 where
  pub place : ℕ
  pub following : from ≤ place
  pub within : place < length list
  pub here : get_or list place 0 ≡ n

pub has-place : (list : List ℕ) (n : ℕ) → has list n ≡ true → StandsFrom list 0 n
has-place [] n found = absurd (has-none n found)
has-place (first ∷ rest) n found =
    elim (has-cases first rest n found) [
      | inl here ↦ record { place = 0; following = omega arith; within = omega arith; here = here }
      | inr following ↦
          let there = has-place rest n following in
          record { place = suc there.place; following = omega arith; within = omega (arith, there.within); here = there.here }
    ]

-- at the place, or after it
pub stands-next : (list : List ℕ) (from n : ℕ) → StandsFrom list from n → (get_or list from 0 ≡ n) ⊎ StandsFrom list (suc from) n
stands-next list from n there =
    elim (cases_lt from there.place) [
      | inl less ↦ inr (record { place = there.place; following = omega arith; within = there.within; here = there.here })
      | inr more ↦
          let same : there.place ≡ from = omega (arith, there.following) in
          inl (ap (λ k. get_or list k 0) (sym same) ∙ there.here)
    ]

-- one more at the end
pub has-kept : (list : List ℕ) (last n : ℕ) → has list n ≡ true → has (list ++ last ∷ []) n ≡ true
has-kept [] last n found = absurd (has-none n found)
has-kept (first ∷ rest) last n found =
    elim (has-cases first rest n found) [
      | inl here ↦ subst (λ k. has (first ∷ (rest ++ last ∷ [])) k ≡ true) here (has-first first (rest ++ last ∷ []))
      | inr following ↦ has-after first (rest ++ last ∷ []) n (has-kept rest last n following)
    ]

pub has-last : (list : List ℕ) (last : ℕ) → has (list ++ last ∷ []) last ≡ true
has-last [] last = has-first last []
has-last (first ∷ rest) last = has-after first (rest ++ last ∷ []) last (has-last rest last)

pub has-split : (list : List ℕ) (last n : ℕ) → has (list ++ last ∷ []) n ≡ true → (has list n ≡ true) ⊎ (last ≡ n)
has-split [] last n found =
    elim (has-cases last [] n found) [ inl here ↦ inr here | inr following ↦ absurd (has-none n following) ]
has-split (first ∷ rest) last n found =
    elim (has-cases first (rest ++ last ∷ []) n found) [
      | inl here ↦ inl (subst (λ k. has (first ∷ rest) k ≡ true) here (has-first first rest))
      | inr following ↦ elim (has-split rest last n following) [ inl there ↦ inl (has-after first rest n there) | inr here ↦ inr here ]
    ]

-- what stands in a row is the row's part of the lists
pub row-items : {Z : Type 0} (rows : List (Vec ℕ Z)) (at : ℕ) (row default : Vec ℕ Z) → at < length rows → row ≡ get_or rows at default → row_at rows at ≡ row.items
row-items rows at row default within is = get_or-map (λ (places : Vec ℕ _). places.items) rows at default [] within ∙ ap (λ (places : Vec ℕ _). places.items) (sym is)
