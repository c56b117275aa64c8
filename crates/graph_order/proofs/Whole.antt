-- Nodes are written one by one until none can be: all are written if there is a write order, and some node lies on a cycle if there
-- is none.
use Rattle.std.proofs.Common.{◌≡◌, ℕ, zero, suc, ◌<◌, ◌≤◌, Bool, true, inl, inr, List, [], ◌∷◌, ◌++◌, length, take, get_or, refl, sym, ap, ◌∙◌, subst, arith, take-suc, take_all}
use Rattle.std.specs.declared.vec.Vec.{Vec}
use Rattle.std.proofs.lemmas.Bool.{cases_lt}
use Rattle.shared_lemmas.proofs.Searches.{some_or_none}
use Rattle.graph_order.specs.Wiring.{Wiring, has, is_on_cycle, IsReady, IsLeastReady, IsWriteOrder}
use Rattle.graph_order.proofs.Cycles.{IsBounded}
use Rattle.graph_order.proofs.OneOrder.{has-none, least-one, ready-same}
use Rattle.graph_order.proofs.Ordered.{write_order-there}
use Rattle.graph_order.specs.Rows.{is_marked, row_at, wiring_of}
use Rattle.graph_order.specs.Ready.{IsWritten}

module _ (wiring : Wiring) (written : ℕ → Bool) (part order : List ℕ) (before : IsWritten wiring written part) (is : IsWriteOrder wiring order) where
  -- what was written stands first in the order
  record StandsFirst (n : ℕ) : Type 0 where
    few : n ≤ length order
    same : take n part ≡ take n order

  stands-first : (n : ℕ) → n ≤ length part → StandsFirst n
  stands-first zero within = record { few = omega arith; same = refl }
  stands-first (suc n) within =
      let so_far = stands-first n (omega arith) in
      let here = before.each n (omega arith) in
      elim (cases_lt n (length order)) [
        | inl less ↦
            let there : IsLeastReady wiring (has (take n part)) (get_or order n 0) = subst (λ l. IsLeastReady wiring (has l) (get_or order n 0)) (sym so_far.same) (is.each n less) in
            let one : get_or part n 0 ≡ get_or order n 0 = least-one wiring (has (take n part)) (get_or part n 0) (get_or order n 0) here there in
            record {
              few = less;
              same = take-suc part n 0 (omega arith) ∙ ap (λ l. l ++ get_or part n 0 ∷ []) so_far.same ∙ ap (λ k. take n order ++ k ∷ []) one ∙ sym (take-suc order n 0 less);
            }
        | inr more ↦
            let all : take n part ≡ order = so_far.same ∙ take_all n order more in
            let listed : has (take n part) (get_or part n 0) ≡ true = ap (λ l. has l (get_or part n 0)) all ∙ is.whole (get_or part n 0) here.ready.within here.ready.driven in
            absurd (cc (listed, here.ready.unlisted))
      ]

  -- all are written if none is left that can be
  pub stuck-whole : ((node : ℕ) → IsReady wiring written node → ⊥) → (node : ℕ) → node < wiring.count → wiring.driven node ≡ true → written node ≡ true
  stuck-whole stuck node within driven =
      let n = length part in
      let so_far = stands-first n (omega arith) in
      let first : part ≡ take n order = sym (take_all n part (omega arith)) ∙ so_far.same in
      elim (cases_lt n (length order)) [
        | inl less ↦
            let next = is.each n less in
            absurd (stuck (get_or order n 0) (ready-same wiring (has (take n order)) written (get_or order n 0) (λ k. ap (λ l. has l k) (sym first) ∙ sym (before.marks k)) next.ready))
        | inr more ↦
            before.marks node ∙ ap (λ l. has l node) (first ∙ take_all n order more) ∙ is.whole node within driven
      ]

-- if all are written, this is the order
pub whole-order : (wiring : Wiring) (written : ℕ → Bool) (order : List ℕ) → IsWritten wiring written order
    → ((node : ℕ) → node < wiring.count → wiring.driven node ≡ true → written node ≡ true) → IsWriteOrder wiring order
whole-order wiring written order before all = record {
  each = before.each;
  whole = λ node within driven. sym (before.marks node) ∙ all node within driven;
}

-- a graph without a write order has a cycle
pub cycle-there : (wiring : Wiring) → IsBounded wiring → ((order : List ℕ) → IsWriteOrder wiring order → ⊥)
    → (node : ℕ) × (node < wiring.count) × (is_on_cycle wiring node ≡ true)
cycle-there wiring bounded none =
    elim (some_or_none wiring.count (is_on_cycle wiring)) [
      | inl some ↦ some
      | inr open_ ↦ let there = write_order-there wiring bounded open_ in absurd (none there.0 there.1)
    ]

-- a node that is marked has a mark
pub marked-within : (marks : List Bool) (k : ℕ) → is_marked marks k ≡ true → k < length marks
marked-within [] k set = absurd cc
marked-within (first ∷ rest) zero set = omega arith
marked-within (first ∷ rest) (suc k) set = let less = marked-within rest k set in omega (arith, less)

pub row-within : {Z : Type 0} (rows : List (Vec ℕ Z)) (k n : ℕ) → has (row_at rows k) n ≡ true → k < length rows
row-within [] k n found = absurd (has-none n found)
row-within (first ∷ rest) zero n found = omega arith
row-within (first ∷ rest) (suc k) n found = let less = row-within rest k n found in omega (arith, less)

pub rows-bounded : {Z : Type 0} (driven : List Bool) (reads : List (Vec ℕ Z)) → length reads ≡ length driven → IsBounded (wiring_of driven reads)
rows-bounded driven reads rows = record {
  driven = λ node set. marked-within driven node set;
  depending = λ node other found. let less = row-within reads node other found in omega (arith, less, rows);
}
