-- The write order, if there is one, is the one that the function gives.
use Rattle.std.proofs.Common.{◌≡◌, ℕ, zero, suc, ◌<◌, Bool, true, false, not, ◌&&◌, ◌||◌, List, [], ◌∷◌, length, take, get_or, refl, sym, ap, ◌∙◌, inl, inr, arith}
use Rattle.std.specs.Prelude.{Some, None}
use Rattle.std.specs.List.{list_all}
use Rattle.std.proofs.lemmas.Bool.{cases_Bool, cases_lt}
use Rattle.std.proofs.lemmas.List.{append-nil, take_all}
use Rattle.std.proofs.Math.Seq.{take-suc}
use Rattle.shared_lemmas.proofs.Tests.{first_true, second_true}
use Rattle.index_search.specs.Places.{least_below}
use Rattle.index_search.proofs.Places.{least_below-first, least_below-none}
use Rattle.graph_order.specs.Wiring.{Wiring, has, IsReady, IsWriteOrder}
use Rattle.graph_order.proofs.OneOrder.{has-none, has-cases, has-first, has-after}
use Rattle.graph_order.proofs.Ordered.{order-few}
use Rattle.design_answers.specs.Order.{is_ready, first_classes, write_order}

-- ---- the test says what the record says

module _ (driven listed : ℕ → Bool) where
  -- a number that has a driver is listed
  abbrev is_settled : ℕ → Bool
  is_settled other = not (driven other) || listed other

  settled-listed : (other : ℕ) → is_settled other ≡ true → driven other ≡ true → listed other ≡ true
  settled-listed other settled drives = rw drives at settled

  listed-settled : (other : ℕ) → (driven other ≡ true → listed other ≡ true) → is_settled other ≡ true
  listed-settled other there = elim (cases_Bool (driven other)) [ inl drives ↦ rw drives (there drives) | inr away ↦ rw away refl ]

  all-listed : (reads : List ℕ) → list_all is_settled reads ≡ true → (other : ℕ) → has reads other ≡ true → driven other ≡ true → listed other ≡ true
  all-listed [] all other there drives = absurd (has-none other there)
  all-listed (first ∷ rest) all other there drives =
      elim (has-cases first rest other there) [
        | inl here ↦ let settled : is_settled other ≡ true = sym (ap is_settled here) ∙ first_true (is_settled first) (list_all is_settled rest) all in settled-listed other settled drives
        | inr after ↦ all-listed rest (second_true (is_settled first) (list_all is_settled rest) all) other after drives
      ]

  listed-all : (reads : List ℕ) → ((other : ℕ) → has reads other ≡ true → driven other ≡ true → listed other ≡ true) → list_all is_settled reads ≡ true
  listed-all [] each = refl
  listed-all (first ∷ rest) each =
      rw (listed-settled first (each first (has-first first rest)))
      (listed-all rest (λ other there. each other (has-after first rest other there)))

module _ (wiring : Wiring) where
  ready-passes : (listed : List ℕ) (class : ℕ) → IsReady wiring (has listed) class → is_ready wiring listed class ≡ true
  ready-passes listed class ready = rw ready.driven (rw ready.unlisted (listed-all wiring.driven (has listed) (wiring.reads class) ready.inputs))

  passes-ready : (listed : List ℕ) (class : ℕ) → class < wiring.count → is_ready wiring listed class ≡ true → IsReady wiring (has listed) class
  passes-ready listed class within passes =
      let open_ = wiring.driven class && not (has listed class) in
      let all = list_all (is_settled wiring.driven (has listed)) (wiring.reads class) in
      let front : open_ ≡ true = first_true open_ all passes in
      record {
        within = within;
        driven = first_true (wiring.driven class) (not (has listed class)) front;
        unlisted = not-true (has listed class) (second_true (wiring.driven class) (not (has listed class)) front);
        inputs = all-listed wiring.driven (has listed) (wiring.reads class) (second_true open_ all passes);
      }
    where
      not-true : (b : Bool) → not b ≡ true → b ≡ false
      not-true true e = cc
      not-true false e = refl

-- ---- the order

module _ (wiring : Wiring) (order : List ℕ) (is : IsWriteOrder wiring order) where
  -- the next class of the order is the least that can come next
  next-least : (n : ℕ) → n < length order → least_below wiring.count (is_ready wiring (take n order)) ≡ Some (get_or order n 0)
  next-least n lt =
      let least = is.each n lt in
      least_below-first wiring.count (get_or order n 0) (is_ready wiring (take n order)) least.ready.within
      (λ k before. elim (cases_Bool (is_ready wiring (take n order) k)) [
        | inl passes ↦
            let ready = passes-ready wiring (take n order) k (omega (arith, least.ready.within, before)) passes in
            absurd (omega (arith, before, least.least k ready))
        | inr fails ↦ fails
      ])
      (ready-passes wiring (take n order) (get_or order n 0) least.ready)

  -- after the whole order no class can come next
  none-left : least_below wiring.count (is_ready wiring order) ≡ None
  none-left =
      least_below-none wiring.count (is_ready wiring order) (λ k below. elim (cases_Bool (is_ready wiring order k)) [
        | inl passes ↦
            let ready = passes-ready wiring order k below passes in
            absurd (cc (is.whole k below ready.driven, ready.unlisted))
        | inr fails ↦ fails
      ])

  first-taken : (n : ℕ) → first_classes wiring n ≡ take n order
  unfolding first_classes
  first-taken zero = refl
  first-taken (suc n) =
      elim (cases_lt n (length order)) [
        | inl lt ↦ rw (first-taken n) (rw (next-least n lt) (sym (take-suc order n 0 lt)))
        | inr ge ↦
            let all = take_all n order ge in
            rw (first-taken n) (rw all (rw none-left (append-nil order ∙ sym (take_all (suc n) order (omega (arith, ge))))))
      ]

  -- the order is the one that the function gives
  pub order-is : order ≡ write_order wiring
  unfolding write_order
  order-is = sym (first-taken wiring.count ∙ take_all wiring.count order (order-few wiring order is))
