-- A graph without a cycle has a write order.
use Rattle.std.proofs.Common.{◌≡◌, ℕ, zero, suc, ◌+◌, ◌<◌, ◌≤◌, Bool, true, false, not, ◌&&◌, inl, inr, List, [], ◌∷◌, length, refl, sym, ap, ◌∙◌, subst, arith}
use Rattle.std.specs.Prelude.{Option, Some, None}
use Rattle.std.proofs.lemmas.Bool.{cases_lt, cases_Bool, false_from_ne_true, and_from, not-true}
use Rattle.shared_lemmas.proofs.Tests.{first_true, second_true}
use Rattle.index_search.specs.Places.{least_below}
use Rattle.index_search.proofs.Found.{least_below-place, least_below-clear}
use Rattle.graph_order.specs.Wiring.{Wiring, has, leads_below, is_on_cycle, IsReady, IsLeastReady, IsWriteOrder}
use Rattle.graph_order.proofs.Cycles.{IsBounded, leads_below-then, leads_below-step}
use Rattle.graph_order.proofs.OneOrder.{has-first, has-after, has-cases, Continues, order-continues, continues-order}
use Rattle.graph_order.proofs.OneOrder.Continues.{whole, next}

-- ---- how many numbers below a bound pass

-- what a test counts: 1 if it passes
abbrev pub worth : Bool → ℕ
worth false = 0
worth true = 1

worth-le : (passes : Bool) → worth passes ≤ 1
worth-le true = omega arith
worth-le false = omega arith

unfoldable pub count_below : ℕ → (ℕ → Bool) → ℕ
count_below zero test = 0
count_below (suc n) test = count_below n test + worth (test n)

bit-le : (a b : Bool) → (b ≡ true → a ≡ true) → worth b ≤ worth a
bit-le true true so = omega arith
bit-le true false so = omega arith
bit-le false true so = absurd (cc (so refl))
bit-le false false so = omega arith

pub count_below-le : (n : ℕ) (test other : ℕ → Bool) → ((k : ℕ) → other k ≡ true → test k ≡ true) → count_below n other ≤ count_below n test
unfolding count_below
count_below-le zero test other so = omega arith
count_below-le (suc n) test other so = omega (arith, count_below-le n test other so, bit-le (test n) (other n) (so n))

-- at most as many as there are
count_below-le_all : (n : ℕ) (test : ℕ → Bool) → count_below n test ≤ n
unfolding count_below
count_below-le_all zero test = omega arith
count_below-le_all (suc n) test = omega (arith, count_below-le_all n test, worth-le (test n))

-- one that passes no more
pub count_below-lt : (n k : ℕ) (test other : ℕ → Bool) → ((j : ℕ) → other j ≡ true → test j ≡ true) → k < n → test k ≡ true → other k ≡ false
    → count_below n other < count_below n test
unfolding count_below
count_below-lt zero k test other so within passed fails = absurd (omega arith)
count_below-lt (suc n) k test other so within passed fails =
    elim (cases_lt k n) [
      | inl less ↦ omega (arith, count_below-lt n k test other so less passed fails, bit-le (test n) (other n) (so n))
      | inr more ↦
          let same : k ≡ n = omega arith in
          let gone : worth (other n) ≡ 0 = ap worth (ap other (sym same) ∙ fails) in
          let was : worth (test n) ≡ 1 = ap worth (ap test (sym same) ∙ passed) in
          omega (arith, count_below-le n test other so)
    ]

-- none of them passes
pub count_below-none : (n k : ℕ) (test : ℕ → Bool) → count_below n test ≡ 0 → k < n → test k ≡ false
unfolding count_below
count_below-none zero k test none within = absurd (omega arith)
count_below-none (suc n) k test none within =
    elim (cases_lt k n) [
      | inl less ↦ count_below-none n k test (omega arith) less
      | inr more ↦
          let same : n ≡ k = omega arith in
          let here : test n ≡ false = false_from_ne_true (test n) (λ passes. let one : worth (test n) ≡ 1 = ap worth passes in absurd (omega arith)) in
          ap test (sym same) ∙ here
    ]

-- ---- what can be written next, as a test

-- whether all numbers of a list pass
each : List ℕ → (ℕ → Bool) → Bool
each [] test = true
each (first ∷ rest) test = test first && each rest test

each-so : (list : List ℕ) (test : ℕ → Bool) (n : ℕ) → each list test ≡ true → has list n ≡ true → test n ≡ true
unfolding each has
each-so [] test n all found = absurd cc
each-so (first ∷ rest) test n all found =
    elim (has-cases first rest n found) [
      | inl here ↦ ap test (sym here) ∙ first_true _ _ all
      | inr following ↦ each-so rest test n (second_true _ _ all) following
    ]

each-from : (list : List ℕ) (test : ℕ → Bool) → ((n : ℕ) → has list n ≡ true → test n ≡ true) → each list test ≡ true
unfolding each
each-from [] test all = refl
each-from (first ∷ rest) test all =
    and_from _ _ (all first (has-first first rest)) (each-from rest test (λ n found. all n (has-after first rest n found)))

-- a driven node that isn't listed
pub is_left : Wiring → (ℕ → Bool) → ℕ → Bool
is_left wiring listed node = wiring.driven node && not (listed node)

pub left-from : (wiring : Wiring) (listed : ℕ → Bool) (node : ℕ) → wiring.driven node ≡ true → listed node ≡ false → is_left wiring listed node ≡ true
unfolding is_left
left-from wiring listed node driven fresh = and_from _ _ driven (ap not fresh)

left-driven : (wiring : Wiring) (listed : ℕ → Bool) (node : ℕ) → is_left wiring listed node ≡ true → wiring.driven node ≡ true
unfolding is_left
left-driven wiring listed node left = first_true _ _ left

left-fresh : (wiring : Wiring) (listed : ℕ → Bool) (node : ℕ) → is_left wiring listed node ≡ true → listed node ≡ false
unfolding is_left
left-fresh wiring listed node left = not-true _ (second_true _ _ left)

-- it is left, and no node of its fan-in is
is_ready : Wiring → (ℕ → Bool) → ℕ → Bool
is_ready wiring listed node = is_left wiring listed node && each (wiring.reads node) (λ other. not (is_left wiring listed other))

ready-sound : (wiring : Wiring) (listed : ℕ → Bool) (node : ℕ) → node < wiring.count → is_ready wiring listed node ≡ true → IsReady wiring listed node
unfolding is_ready
ready-sound wiring listed node within passes = record {
  within = within;
  driven = left-driven wiring listed node (first_true _ _ passes);
  unlisted = left-fresh wiring listed node (first_true _ _ passes);
  inputs = λ other reads drives. elim (cases_Bool (listed other)) [
    | inl done ↦ done
    | inr fresh ↦
        let none_left : each (wiring.reads node) (λ k. not (is_left wiring listed k)) ≡ true = second_true (is_left wiring listed node) _ passes in
        let kept : not (is_left wiring listed other) ≡ true = each-so (wiring.reads node) (λ k. not (is_left wiring listed k)) other none_left reads in
        absurd (cc (left-from wiring listed other drives fresh, not-true (is_left wiring listed other) kept))
  ];
}

ready-whole : (wiring : Wiring) (listed : ℕ → Bool) (node : ℕ) → IsReady wiring listed node → is_ready wiring listed node ≡ true
unfolding is_ready
ready-whole wiring listed node ready =
    and_from _ _ (left-from wiring listed node ready.driven ready.unlisted)
    (each-from (wiring.reads node) (λ other. not (is_left wiring listed other)) (λ other reads.
    ap not (false_from_ne_true (is_left wiring listed other) (λ left.
    absurd (cc (ready.inputs other reads (left-driven wiring listed other left), left-fresh wiring listed other left))))))

-- the least node that can be written, if one can
least_by : (wiring : Wiring) (listed : ℕ → Bool) (node : ℕ) (found : Option ℕ) → IsReady wiring listed node
    → least_below wiring.count (is_ready wiring listed) ≡ found → (least : ℕ) × IsLeastReady wiring listed least
least_by wiring listed node None ready missing =
    absurd (cc (ready-whole wiring listed node ready, least_below-clear wiring.count node (is_ready wiring listed) missing ready.within))
least_by wiring listed node (Some least) ready found =
    let here = least_below-place wiring.count (is_ready wiring listed) least found in (
      least,
      record {
        ready = ready-sound wiring listed least here.within here.passes;
        least = λ other rival. elim (cases_lt other least) [
          | inl less ↦ absurd (cc (ready-whole wiring listed other rival, here.before other less))
          | inr more ↦ more
        ];
      },
    )

-- ---- without a cycle some node can be written while any is left

-- a node below a bound that passes and leads to no other that does
record IsLast (wiring : Wiring) (n : ℕ) (test : ℕ → Bool) (node : ℕ) : Type 0 where
  within : node < n
  passes : test node ≡ true
  last : (other : ℕ) → other < n → test other ≡ true → leads_below wiring wiring.count node other ≡ false

-- no node below the bound leads to itself
IsOpen : Wiring → Type 0
IsOpen wiring = (node : ℕ) → node < wiring.count → is_on_cycle wiring node ≡ false

module _ (wiring : Wiring) (open_ : (node : ℕ) → node < wiring.count → leads_below wiring wiring.count node node ≡ false) (test : ℕ → Bool) where
  last-next : (n node : ℕ) → n < wiring.count → test n ≡ true → IsLast wiring n test node → (last : ℕ) × IsLast wiring (suc n) test last
  last-next n node within here old =
      elim (cases_Bool (leads_below wiring wiring.count node n)) [
        | inl leads ↦ (
          n,
          record {
            within = omega arith;
            passes = here;
            last = λ other below passes. elim (cases_lt other n) [
              | inl less ↦ false_from_ne_true _ (λ more. absurd (cc (leads_below-then wiring wiring.count node n other within leads more, old.last other less passes)))
              | inr not_less ↦ let same : n ≡ other = omega arith in subst (λ k. leads_below wiring wiring.count n k ≡ false) same (open_ n within)
            ];
          },
        )
        | inr apart ↦ (
          node,
          record {
            within = omega (arith, old.within);
            passes = old.passes;
            last = λ other below passes. elim (cases_lt other n) [
              | inl less ↦ old.last other less passes
              | inr not_less ↦ let same : n ≡ other = omega arith in subst (λ k. leads_below wiring wiring.count node k ≡ false) same apart
            ];
          },
        )
      ]

  -- none passes, or one is the last
  data Search (n : ℕ) : Type 0 where
    none : ((node : ℕ) → node < n → test node ≡ false) → Search n
    some : (node : ℕ) → IsLast wiring n test node → Search n

  search_more : (n : ℕ) → n < wiring.count → Search n → Search (suc n)
  search_more n within (none all) =
      elim (cases_Bool (test n)) [
        | inl here ↦ some n (record {
          within = omega arith;
          passes = here;
          last = λ other below passes. elim (cases_lt other n) [
            | inl less ↦ absurd (cc (all other less))
            | inr not_less ↦ let same : n ≡ other = omega arith in subst (λ k. leads_below wiring wiring.count n k ≡ false) same (open_ n within)
          ];
        })
        | inr away ↦ none (λ node below. elim (cases_lt node n) [
          | inl less ↦ all node less
          | inr not_less ↦ let same : n ≡ node = omega arith in ap test (sym same) ∙ away
        ])
      ]
  search_more n within (some node old) =
      elim (cases_Bool (test n)) [
        | inl here ↦ let found = last-next n node within here old in some found.0 found.1
        | inr away ↦ some node (record {
          within = omega (arith, old.within);
          passes = old.passes;
          last = λ other below passes. elim (cases_lt other n) [
            | inl less ↦ old.last other less passes
            | inr not_less ↦ let same : n ≡ other = omega arith in absurd (cc (ap test same, away, passes))
          ];
        })
      ]

  search_all : (n : ℕ) → n ≤ wiring.count → Search n
  search_all zero within = none (λ node below. absurd (omega arith))
  search_all (suc n) within = search_more n (omega arith) (search_all n (omega arith))

-- what is left once one more is listed
pub still-left : (wiring : Wiring) (node : ℕ) (before : List ℕ) (other : ℕ) → is_left wiring (has (node ∷ before)) other ≡ true → is_left wiring (has before) other ≡ true
still-left wiring node before other left =
    left-from wiring (has before) other (left-driven wiring (has (node ∷ before)) other left)
    (false_from_ne_true _ (λ listed. absurd (cc (has-after node before other listed, left-fresh wiring (has (node ∷ before)) other left))))

pub gone-left : (wiring : Wiring) (node : ℕ) (before : List ℕ) → is_left wiring (has (node ∷ before)) node ≡ false
gone-left wiring node before = false_from_ne_true _ (λ left. absurd (cc (has-first node before, left-fresh wiring (has (node ∷ before)) node left)))

-- ---- the topological order

module _ (wiring : Wiring) (bounded : IsBounded wiring) (open_ : (node : ℕ) → node < wiring.count → leads_below wiring wiring.count node node ≡ false) where
  -- a node that leads to no other that is left can be written
  last-ready : (listed : ℕ → Bool) (node : ℕ) → IsLast wiring wiring.count (is_left wiring listed) node → IsReady wiring listed node
  last-ready listed node last = record {
    within = last.within;
    driven = left-driven wiring listed node last.passes;
    unlisted = left-fresh wiring listed node last.passes;
    inputs = λ other reads drives. elim (cases_Bool (listed other)) [
      | inl done ↦ done
      | inr fresh ↦
          let apart = last.last other (bounded.driven other drives) (left-from wiring listed other drives fresh) in
          absurd (cc (apart, leads_below-step wiring wiring.count node other reads))
    ];
  }

  -- all is listed if nothing is left
  none-left : (before : List ℕ) → ((node : ℕ) → node < wiring.count → is_left wiring (has before) node ≡ false) → Continues wiring before []
  none-left before clear = whole (λ node within driven. elim (cases_Bool (has before node)) [
    | inl listed ↦ listed
    | inr fresh ↦ absurd (cc (left-from wiring (has before) node driven fresh, clear node within))
  ])

  order-from : (most : ℕ) (before : List ℕ) → count_below wiring.count (is_left wiring (has before)) ≤ most → (order : List ℕ) × Continues wiring before order
  order-from zero before few =
      ([], none-left before (λ node within. count_below-none wiring.count node (is_left wiring (has before)) (omega arith) within))
  order-from (suc most) before few =
      elim (search_all wiring open_ (is_left wiring (has before)) wiring.count (omega arith)) [
        | none all ↦ ([], none-left before all)
        | some node last ↦
            let least = least_by wiring (has before) node _ (last-ready (has before) node last) refl in
            let ready = least.1.ready in
            let fewer = count_below-lt wiring.count least.0 (is_left wiring (has before)) (is_left wiring (has (least.0 ∷ before)))
            (still-left wiring least.0 before) ready.within (left-from wiring (has before) least.0 ready.driven ready.unlisted) (gone-left wiring least.0 before) in
            let rest = order-from most (least.0 ∷ before) (omega arith) in
            (least.0 ∷ rest.0, next least.1 rest.1)
      ]

-- a graph without a cycle has a write order
pub write_order-there : (wiring : Wiring) → IsBounded wiring → ((node : ℕ) → node < wiring.count → is_on_cycle wiring node ≡ false)
    → (order : List ℕ) × IsWriteOrder wiring order
unfolding is_on_cycle
write_order-there wiring bounded open_ =
    let found = order-from wiring bounded open_ (count_below wiring.count (is_left wiring (has []))) [] (omega arith) in
    (found.0, continues-order wiring found.0 found.1)

-- ---- a write order has at most as many nodes as there are

module _ (wiring : Wiring) where
  continues-few : {before order : List ℕ} → Continues wiring before order → length order ≤ count_below wiring.count (is_left wiring (has before))
  continues-few (whole all) = omega arith
  continues-few {before} (next {node} {rest} least more) =
      let ready = least.ready in
      omega (
        arith,
        continues-few more,
        count_below-lt wiring.count node (is_left wiring (has before)) (is_left wiring (has (node ∷ before)))
            (still-left wiring node before) ready.within (left-from wiring (has before) node ready.driven ready.unlisted) (gone-left wiring node before),
      )

  pub order-few : (order : List ℕ) → IsWriteOrder wiring order → length order ≤ wiring.count
  order-few order is = omega (arith, continues-few (order-continues wiring order is), count_below-le_all wiring.count (is_left wiring (has [])))
