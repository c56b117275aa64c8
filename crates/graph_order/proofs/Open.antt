-- If there is a write order, and only driven nodes read any, no node lies on a cycle.
use Rattle.std.proofs.Common.{◌≡◌, ℕ, ◌<◌, true, false, List, [], ◌∷◌, length, take, get_or, sym, ◌∙◌, subst, arith}
use Rattle.std.proofs.lemmas.Bool.{false_from_ne_true}
use Rattle.std.proofs.lemmas.List.{length-take-le, get_or-take}
use Rattle.graph_order.specs.Wiring.{Wiring, has, depends, is_on_cycle, IsPath, IsCycle, IsWriteOrder}
use Rattle.graph_order.proofs.Cycles.{IsBounded, is_on_cycle-sound}
use Rattle.graph_order.specs.Rows.{ReadsByDriven}
use Rattle.graph_order.proofs.Lists.{has-at, has-place}

module _ (wiring : Wiring) (bounded : IsBounded wiring) (driven : ReadsByDriven wiring) (order : List ℕ) (is : IsWriteOrder wiring order) where
  -- a node that stands before a place
  record StandsBefore (n node : ℕ) : Type 0 where
    place : ℕ
    less : place < n
    here : get_or order place 0 ≡ node

  -- each driven node of the fan-in of the node at a place stands before it
  depends-before : (n other : ℕ) → n < length order → depends wiring (get_or order n 0) other ≡ true → wiring.driven other ≡ true → StandsBefore n other
  depends-before n other within reads drives =
      let there = has-place (take n order) other ((is.each n within).ready.inputs other reads drives) in
      let part : length (take n order) ≡ n = length-take-le n order (omega arith) in
      let less : there.place < n = omega (arith, there.within, part) in
      record { place = there.place; less = less; here = sym (get_or-take n order there.place 0 less) ∙ there.here }

  -- a node that a path leads from is driven
  path-driven : (rest : List ℕ) (node other : ℕ) → IsPath wiring node rest other → wiring.driven node ≡ true
  path-driven [] node other path = driven node other path
  path-driven (next ∷ rest) node other path = driven node next path.0

  path-before : (rest : List ℕ) (n node other : ℕ) → n < length order → get_or order n 0 ≡ node → IsPath wiring node rest other → wiring.driven other ≡ true
      → StandsBefore n other
  path-before [] n node other within here path drives =
      depends-before n other within (subst (λ k. depends wiring k other ≡ true) (sym here) path) drives
  path-before (next ∷ rest) n node other within here path drives =
      let next_drives = path-driven rest next other path.1 in
      let first = depends-before n next within (subst (λ k. depends wiring k next ≡ true) (sym here) path.0) next_drives in
      let last = path-before rest first.place next other (omega (arith, first.less)) first.here path.1 drives in
      record { place = last.place; less = omega (arith, last.less, first.less); here = last.here }

  -- no node stands at two places
  stands-once : (n : ℕ) → n < length order → StandsBefore n (get_or order n 0) → ⊥
  stands-once n within there =
      let part : length (take n order) ≡ n = length-take-le n order (omega arith) in
      let found = has-at (take n order) there.place (omega (arith, part, there.less)) in
      let listed : has (take n order) (get_or order n 0) ≡ true = subst (λ k. has (take n order) k ≡ true) (get_or-take n order there.place 0 there.less ∙ there.here) found in
      absurd (cc (listed, (is.each n within).ready.unlisted))

  no-cycle : (node : ℕ) (rest : List ℕ) → IsCycle wiring (node ∷ rest) → ⊥
  no-cycle node rest cycle =
      let drives = path-driven rest node node cycle in
      let there = has-place order node (is.whole node (bounded.driven node drives) drives) in
      let again = path-before rest there.place node node there.within there.here cycle drives in
      stands-once there.place there.within (record { place = again.place; less = again.less; here = again.here ∙ sym there.here })

  pub order-open : (node : ℕ) → is_on_cycle wiring node ≡ false
  order-open node = false_from_ne_true _ (λ lies. let found = is_on_cycle-sound wiring node lies in no-cycle node found.0 found.1)
