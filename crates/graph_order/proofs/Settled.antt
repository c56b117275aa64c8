-- If a graph has a write order, its nodes have exactly one value each, whatever their rules are. A rule gives the value of a node from
-- the values of all nodes; it depends on none but those of the node's fan-in.
use Rattle.std.proofs.Common.{◌≡◌, ℕ, Bool, true, false, cond, inl, inr, List, [], ◌∷◌, refl, sym, ap, ◌∙◌, subst, eq-eqb}
use Rattle.std.specs.Prelude.{◌==◌}
use Rattle.std.proofs.lemmas.Bool.{cases_Bool, eqb-true, false_from_ne_true}
use Rattle.graph_order.specs.Wiring.{Wiring, has, depends, IsReady, IsWriteOrder}
use Rattle.graph_order.proofs.Cycles.{IsBounded}
use Rattle.graph_order.proofs.OneOrder.{has-none, has-first, has-after, has-other, has-cases, Continues, order-continues}
use Rattle.graph_order.proofs.OneOrder.Continues.{whole, next}

abbrev pub Rules : Type 0
Rules = ℕ → (ℕ → Bool) → Bool

-- the rule of a node looks at no nodes but those of its fan-in
abbrev pub ReadsNoOther : Wiring → Rules → Type 0
ReadsNoOther wiring rules = (node : ℕ) (one two : ℕ → Bool) → wiring.driven node ≡ true
    → ((other : ℕ) → depends wiring node other ≡ true → one other ≡ two other) → rules node one ≡ rules node two

-- each driven node has the value by its rule, and all others are 0
pub record IsSettled (wiring : Wiring) (rules : Rules) (value : ℕ → Bool) : Type 0 where
  pub driven : (node : ℕ) → wiring.driven node ≡ true → value node ≡ rules node value
  pub not_driven : (node : ℕ) → wiring.driven node ≡ false → value node ≡ false

module _ (wiring : Wiring) (bounded : IsBounded wiring) (rules : Rules) (reads : ReadsNoOther wiring rules) where
  -- ---- no two values

  module _ (one two : ℕ → Bool) (of_one : IsSettled wiring rules one) (of_two : IsSettled wiring rules two) where
    -- a node whose fan-in agrees
    agree-at : (listed : ℕ → Bool) (node : ℕ) → IsReady wiring listed node → ((k : ℕ) → listed k ≡ true → one k ≡ two k) → one node ≡ two node
    agree-at listed node ready before =
        let inputs : rules node one ≡ rules node two = reads node one two ready.driven (λ other input. elim (cases_Bool (wiring.driven other)) [
          | inl drives ↦ before other (ready.inputs other input drives)
          | inr still ↦ of_one.not_driven other still ∙ sym (of_two.not_driven other still)
        ]) in
        of_one.driven node ready.driven ∙ (inputs ∙ sym (of_two.driven node ready.driven))

    agree-from : {before order : List ℕ} → Continues wiring before order → ((k : ℕ) → has before k ≡ true → one k ≡ two k)
        → (node : ℕ) → wiring.driven node ≡ true → one node ≡ two node
    agree-from (whole all) same node driven = same node (all node (bounded.driven node driven) driven)
    agree-from {before} (next {node = first} least rest) same node driven =
        agree-from rest (λ k listed. elim (has-cases first before k listed) [
          | inl here ↦ subst (λ c. one c ≡ two c) here (agree-at (has before) first least.ready same)
          | inr following ↦ same k following
        ]) node driven

    pub settled-one : (order : List ℕ) → IsWriteOrder wiring order → (node : ℕ) → one node ≡ two node
    settled-one order is node =
        elim (cases_Bool (wiring.driven node)) [
          | inl drives ↦ agree-from (order-continues wiring order is) (λ k listed. absurd (has-none k listed)) node drives
          | inr still ↦ of_one.not_driven node still ∙ sym (of_two.not_driven node still)
        ]

  -- ---- a value

  -- the values along an order, whose newest node stands first
  settle : List ℕ → ℕ → Bool
  settle [] k = false
  settle (node ∷ before) k = cond (node == k) (rules node (settle before)) (settle before k)

  settle-here : (node : ℕ) (before : List ℕ) → settle (node ∷ before) node ≡ rules node (settle before)
  unfolding settle
  settle-here node before = rw (eq-eqb node node refl) refl

  settle-other : (node : ℕ) (before : List ℕ) (k : ℕ) → (node == k) ≡ false → settle (node ∷ before) k ≡ settle before k
  unfolding settle
  settle-other node before k away = rw away refl

  settle-none : (k : ℕ) → settle [] k ≡ false
  unfolding settle
  settle-none k = refl

  -- what holds along the order
  record IsKept (before : List ℕ) : Type 0 where
    done : (k : ℕ) → has before k ≡ true → settle before k ≡ rules k (settle before)
    undone : (k : ℕ) → has before k ≡ false → settle before k ≡ false
    closed : (k other : ℕ) → has before k ≡ true → depends wiring k other ≡ true → wiring.driven other ≡ true → has before other ≡ true
    driven : (k : ℕ) → has before k ≡ true → wiring.driven k ≡ true

  module _ (node : ℕ) (before : List ℕ) (ready : IsReady wiring (has before) node) (kept : IsKept before) where
    -- the node isn't one that is listed
    apart-listed : (k : ℕ) → has before k ≡ true → (node == k) ≡ false
    apart-listed k listed = false_from_ne_true (node == k) (λ same.
        let e : node ≡ k = eqb-true node k same in absurd (cc (ap (has before) e, ready.unlisted, listed)))

    -- nor one that isn't driven
    apart-still : (k : ℕ) → wiring.driven k ≡ false → (node == k) ≡ false
    apart-still k still = false_from_ne_true (node == k) (λ same.
        let e : node ≡ k = eqb-true node k same in absurd (cc (ap wiring.driven e, ready.driven, still)))

    -- what the node or a listed one reads is listed before
    inputs-listed : (k other : ℕ) → has (node ∷ before) k ≡ true → depends wiring k other ≡ true → wiring.driven other ≡ true → has before other ≡ true
    inputs-listed k other listed input drives =
        elim (has-cases node before k listed) [
          | inl here ↦ ready.inputs other (subst (λ c. depends wiring c other ≡ true) (sym here) input) drives
          | inr following ↦ kept.closed k other following input drives
        ]

    -- so it stays
    inputs-same : (k other : ℕ) → has (node ∷ before) k ≡ true → depends wiring k other ≡ true → settle (node ∷ before) other ≡ settle before other
    inputs-same k other listed input =
        elim (cases_Bool (wiring.driven other)) [
          | inl drives ↦ settle-other node before other (apart-listed other (inputs-listed k other listed input drives))
          | inr still ↦ settle-other node before other (apart-still other still)
        ]

    driven-more : (k : ℕ) → has (node ∷ before) k ≡ true → wiring.driven k ≡ true
    driven-more k listed =
        elim (has-cases node before k listed) [
          | inl here ↦ subst (λ c. wiring.driven c ≡ true) here ready.driven
          | inr following ↦ kept.driven k following
        ]

    rule-same : (k : ℕ) → has (node ∷ before) k ≡ true → rules k (settle (node ∷ before)) ≡ rules k (settle before)
    rule-same k listed = reads k (settle (node ∷ before)) (settle before) (driven-more k listed) (λ other input. inputs-same k other listed input)

    done-more : (k : ℕ) → has (node ∷ before) k ≡ true → settle (node ∷ before) k ≡ rules k (settle (node ∷ before))
    done-more k listed =
        elim (has-cases node before k listed) [
          | inl here ↦ subst (λ c. settle (node ∷ before) c ≡ rules c (settle (node ∷ before))) here
              (settle-here node before ∙ sym (rule-same node (has-first node before)))
          | inr following ↦ settle-other node before k (apart-listed k following) ∙ (kept.done k following ∙ sym (rule-same k listed))
        ]

    undone-more : (k : ℕ) → has (node ∷ before) k ≡ false → settle (node ∷ before) k ≡ false
    undone-more k fresh =
        let away : (node == k) ≡ false = false_from_ne_true (node == k) (λ same.
        let e : node ≡ k = eqb-true node k same in absurd (cc (subst (λ c. has (node ∷ before) c ≡ true) e (has-first node before), fresh))) in
        settle-other node before k away ∙ kept.undone k (sym (has-other node before k away) ∙ fresh)

    kept-more : IsKept (node ∷ before)
    kept-more = record {
      done = done-more;
      undone = undone-more;
      closed = λ k other listed input drives. has-after node before other (inputs-listed k other listed input drives);
      driven = driven-more;
    }

  kept-none : IsKept []
  kept-none = record {
    done = λ k listed. absurd (has-none k listed);
    undone = λ k fresh. settle-none k;
    closed = λ k other listed. absurd (has-none k listed);
    driven = λ k listed. absurd (has-none k listed);
  }

  settled-from : {before order : List ℕ} → Continues wiring before order → IsKept before → (value : ℕ → Bool) × IsSettled wiring rules value
  settled-from {before} (whole all) kept = (
    settle before,
    record {
      driven = λ node drives. kept.done node (all node (bounded.driven node drives) drives);
      not_driven = λ node still. kept.undone node (false_from_ne_true (has before node) (λ listed. absurd (cc (kept.driven node listed, still))));
    },
  )
  settled-from {before} (next {node} least rest) kept = settled-from rest (kept-more node before least.ready kept)

  -- there is a value
  pub settled-there : (order : List ℕ) → IsWriteOrder wiring order → (value : ℕ → Bool) × IsSettled wiring rules value
  settled-there order is = settled-from (order-continues wiring order is) kept-none
