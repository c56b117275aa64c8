-- One node more is written.
use Rattle.std.proofs.Common.{◌≡◌, ◌≢◌, ℕ, ◌<◌, Bool, true, false, not, inl, inr, List, [], ◌∷◌, ◌++◌, length, take, get_or, set, refl, sym, ap, ◌∙◌, subst, arith, get_or-set_same, get_or-set_other}
use Rattle.std.specs.Ordering.{nat_cmp}
use Rattle.std.specs.Ordering.{is_eq}
use Rattle.std.specs.declared.cmp.Ordering.TheVariants.{Less, Greater}
use Rattle.std.specs.Cmp.{nat_cmp_is}
use Rattle.std.specs.BTreeMap.{is_at}
use Rattle.std.specs.BTreeSet.{BTreeSet, contains, Updates, IsLowerBound}
use Rattle.std.proofs.lemmas.Bool.{cases_lt, cases_eq, cases_Bool, false_from_ne_true}
use Rattle.std.proofs.lemmas.Map.Keys.{le_from_not_gt}
use Rattle.std.proofs.lemmas.List.{take-append-le, length-append, get_or_append_left, get_or_push, take_at}
use Rattle.graph_order.specs.Wiring.{Wiring, has, depends, IsReady, IsLeastReady}
use Rattle.graph_order.proofs.OneOrder.{has-none, least-same}
use Rattle.graph_order.proofs.Ordered.{count_below, count_below-lt}
use Rattle.graph_order.specs.Rows.{is_marked}
use Rattle.graph_order.specs.Ready.{HoldsReady, HoldsAllBut, IsWritten}
use Rattle.graph_order.proofs.Lists.{has-kept, has-last, has-split}

-- ---- how numbers compare

pub at-apart : (a b : ℕ) → b ≢ a → is_at (nat_cmp a) b ≡ false
at-apart a b apart =
    elim (cases_lt a b) [
      | inl less ↦ ap is_eq (sym (nat_cmp_is a b Less less))
      | inr more ↦ let greater : b < a = omega (arith, apart) in ap is_eq (sym (nat_cmp_is a b Greater greater))
    ]

-- marks with one more that is set
pub record Marks (old new : ℕ → Bool) (node : ℕ) : Type 0 where
  pub here : new node ≡ true
  pub other : (k : ℕ) → k ≢ node → new k ≡ old k

pub marked : (marks : List Bool) (node : ℕ) → node < length marks → Marks (is_marked marks) (is_marked (set marks node true)) node
marked marks node within = record {
  here = get_or-set_same marks node true false within;
  other = λ k away. get_or-set_other marks node k true false away;
}

-- an order with one more at its end
has-apart : (order : List ℕ) (node k : ℕ) → k ≢ node → has order k ≡ has (order ++ node ∷ []) k
has-apart order node k apart =
    elim (cases_Bool (has order k)) [
      | inl found ↦ found ∙ sym (has-kept order node k found)
      | inr missing ↦ missing ∙ sym (false_from_ne_true _ (λ found. elim (has-split order node k found) [ inl there ↦ absurd (cc (there, missing)) | inr here ↦ absurd (apart (sym here)) ]))
    ]

module _ (wiring : Wiring) (old new : ℕ → Bool) (node : ℕ) (marks : Marks old new node) where
  -- what can be written still can, but for the node itself
  pub ready-kept : (k : ℕ) → k ≢ node → IsReady wiring old k → IsReady wiring new k
  ready-kept k away ready = record {
    within = ready.within;
    driven = ready.driven;
    unlisted = marks.other k away ∙ ready.unlisted;
    inputs = λ other reads drives. elim (cases_eq other node) [
      | inl same ↦ subst (λ n. new n ≡ true) (sym same) marks.here
      | inr apart ↦ marks.other other apart ∙ ready.inputs other reads drives
    ];
  }

  -- what can be written could before, but for what reads the node
  pub ready-was : (k : ℕ) → depends wiring k node ≡ false → IsReady wiring new k → IsReady wiring old k
  ready-was k apart ready = record {
    within = ready.within;
    driven = ready.driven;
    unlisted = sym (marks.other k (λ same. absurd (cc (ap new same, marks.here, ready.unlisted)))) ∙ ready.unlisted;
    inputs = λ other reads drives.
        sym (marks.other other (λ same. let here : depends wiring k node ≡ true = subst (λ n. depends wiring k n ≡ true) same reads in absurd (cc (here, apart))))
        ∙ ready.inputs other reads drives;
  }

  -- what was written can't be written again
  pub ready-away : (k : ℕ) → IsReady wiring new k → k ≢ node
  ready-away k ready same = absurd (cc (ap new same, marks.here, ready.unlisted))

  -- the least that can be written is the next in the order
  pub written-more : (order : List ℕ) → IsLeastReady wiring old node → IsWritten wiring old order → IsWritten wiring new (order ++ node ∷ [])
  written-more order least before = record {
    marks = λ k. elim (cases_eq k node) [
      | inl same ↦ let last : has (order ++ node ∷ []) k ≡ true = subst (λ n. has (order ++ node ∷ []) n ≡ true) (sym same) (has-last order node) in ap new same ∙ marks.here ∙ sym last
      | inr apart ↦ marks.other k apart ∙ before.marks k ∙ has-apart order node k apart
    ];
    each = λ place within. elim (cases_lt place (length order)) [
      | inl less ↦ subst (λ n. IsLeastReady wiring (has (take place (order ++ node ∷ []))) n) (sym (get_or_append_left order (node ∷ []) 0 place less))
          (subst (λ part. IsLeastReady wiring (has part) (get_or order place 0)) (sym (take-append-le place order (node ∷ []) (omega arith))) (before.each place less))
      | inr more ↦
          let long = length-append order (node ∷ []) in
          let same : length order ≡ place = omega (arith, long) in
          subst (λ n. IsLeastReady wiring (has (take n (order ++ node ∷ []))) (get_or (order ++ node ∷ []) n 0)) same
          (subst (λ n. IsLeastReady wiring (has (take (length order) (order ++ node ∷ []))) n) (sym (get_or_push order node 0 (length order) refl))
          (subst (λ part. IsLeastReady wiring (has part) node) (sym (take_at order (node ∷ []) (length order) refl)) (least-same wiring old (has order) node before.marks least)))
    ];
  }

  -- ---- the set of what can be written

  -- the least of the set is the least that can be written
  pub popped-least : (set : BTreeSet ℕ) → contains nat_cmp set node ≡ true → IsLowerBound nat_cmp set node → HoldsReady wiring old set
      → HoldsAllBut wiring old (λ k. false) set → IsLeastReady wiring old node
  popped-least set held least ready all = record {
    ready = ready node held;
    least = λ other rival. le_from_not_gt node other (least other (all other rival refl));
  }

  -- without it the set holds what can be written once it is
  pub popped-ready : (set rest : BTreeSet ℕ) → Updates nat_cmp set rest node false → HoldsReady wiring old set → HoldsReady wiring new rest
  popped-ready set rest gone ready = λ k held. elim (cases_eq k node) [
    | inl same ↦ let here : contains nat_cmp rest node ≡ true = subst (λ n. contains nat_cmp rest n ≡ true) same held in absurd (cc (here, gone.1))
    | inr apart ↦ ready-kept k apart (ready k (sym (gone.2 k (at-apart node k apart)) ∙ held))
  ]

  -- all of it, but for the readers of the node
  pub popped-others : (but : ℕ → Bool) (set rest : BTreeSet ℕ) → ((k : ℕ) → depends wiring k node ≡ true → but k ≡ true)
      → Updates nat_cmp set rest node false → HoldsAllBut wiring old (λ k. false) set → HoldsAllBut wiring new but rest
  popped-others but set rest readers gone all = λ k ready missing.
      let apart : depends wiring k node ≡ false = false_from_ne_true _ (λ reads. absurd (cc (readers k reads, missing))) in
      gone.2 k (at-apart node k (ready-away k ready)) ∙ all k (ready-was k apart ready) refl

  -- fewer are left
  pub fewer-left : (n : ℕ) → node < n → old node ≡ false → count_below n (λ k. not (new k)) < count_below n (λ k. not (old k))
  fewer-left n within fresh =
      count_below-lt n node (λ k. not (old k)) (λ k. not (new k)) (λ k left. elim (cases_eq k node) [
        | inl same ↦ absurd (cc (ap new same, marks.here, left))
        | inr apart ↦ ap not (sym (marks.other k apart)) ∙ left
      ]) within (ap not fresh) (ap not marks.here)

-- nothing is written at first
pub nothing-written : (wiring : Wiring) (written : ℕ → Bool) (order : List ℕ) → order ≡ [] → ((k : ℕ) → written k ≡ false) → IsWritten wiring written order
nothing-written wiring written order empty unmarked = record {
  marks = λ k. unmarked k ∙ sym (false_from_ne_true (has order k) (λ found. absurd (has-none k (ap (λ l. has l k) (sym empty) ∙ found))));
  each = λ place within. let none : length order ≡ 0 = ap length empty in absurd (omega arith);
}
