-- A graph has at most one write order.
use Rattle.std.proofs.Common.{◌≡◌, ℕ, zero, suc, ◌<◌, Bool, true, false, cond, ◌||◌, ◌⊎◌, inl, inr, List, [], ◌∷◌, length, take, get_or, refl, sym, ◌∙◌, subst, arith, eq-eqb}
use Rattle.std.specs.Prelude.{◌==◌}
use Rattle.std.proofs.lemmas.Bool.{cases_Bool, eqb-true, or_left, or_right}
use Rattle.graph_order.specs.Wiring.{Wiring, has, IsReady, IsLeastReady, IsWriteOrder}

-- ---- numbers in lists

pub has-none : (n : ℕ) → has [] n ≡ true → ⊥
unfolding has
has-none n found = cc

pub has-first : (first : ℕ) (rest : List ℕ) → has (first ∷ rest) first ≡ true
unfolding has
has-first first rest = rw (eq-eqb first first refl) refl

pub has-after : (first : ℕ) (rest : List ℕ) (n : ℕ) → has rest n ≡ true → has (first ∷ rest) n ≡ true
unfolding has
has-after first rest n found = elim (cases_Bool (first == n)) [ inl here ↦ rw here refl | inr away ↦ rw away found ]

-- another number than the first
pub has-other : (first : ℕ) (rest : List ℕ) (n : ℕ) → (first == n) ≡ false → has (first ∷ rest) n ≡ has rest n
unfolding has
has-other first rest n away = rw away refl

pub has-cases : (first : ℕ) (rest : List ℕ) (n : ℕ) → has (first ∷ rest) n ≡ true → (first ≡ n) ⊎ (has rest n ≡ true)
unfolding has
has-cases first rest n found =
    elim (cases_Bool (first == n)) [ inl here ↦ inl (eqb-true first n here) | inr away ↦ inr (rw away at found) ]

-- ---- nodes that are listed in two ways

pub ready-same : (wiring : Wiring) (listed other : ℕ → Bool) (node : ℕ) → ((k : ℕ) → listed k ≡ other k) → IsReady wiring listed node → IsReady wiring other node
ready-same wiring listed other node same ready = record {
  within = ready.within;
  driven = ready.driven;
  unlisted = sym (same node) ∙ ready.unlisted;
  inputs = λ input reads drives. sym (same input) ∙ ready.inputs input reads drives;
}

pub least-same : (wiring : Wiring) (listed other : ℕ → Bool) (node : ℕ) → ((k : ℕ) → listed k ≡ other k) → IsLeastReady wiring listed node → IsLeastReady wiring other node
least-same wiring listed other node same least = record {
  ready = ready-same wiring listed other node same least.ready;
  least = λ rival ready. least.least rival (ready-same wiring other listed rival (λ k. sym (same k)) ready);
}

-- two least ones are one
pub least-one : (wiring : Wiring) (listed : ℕ → Bool) (a b : ℕ) → IsLeastReady wiring listed a → IsLeastReady wiring listed b → a ≡ b
least-one wiring listed a b of_a of_b = omega (arith, of_a.least b of_b.ready, of_b.least a of_a.ready)

-- ---- the order from some listed nodes on, the newest of them first

pub data Continues (wiring : Wiring) : List ℕ → List ℕ → Type 0 where
  whole : {before : List ℕ} → ((node : ℕ) → node < wiring.count → wiring.driven node ≡ true → has before node ≡ true) → Continues wiring before []
  next : {before : List ℕ} {node : ℕ} {rest : List ℕ} → IsLeastReady wiring (has before) node → Continues wiring (node ∷ before) rest
      → Continues wiring before (node ∷ rest)

-- only one order continues
pub continues-one : {wiring : Wiring} {before one two : List ℕ} → Continues wiring before one → Continues wiring before two → one ≡ two
continues-one (whole all) (whole every) = refl
continues-one (whole all) (next least rest) = absurd (cc (all _ least.ready.within least.ready.driven, least.ready.unlisted))
continues-one (next least rest) (whole all) = absurd (cc (all _ least.ready.within least.ready.driven, least.ready.unlisted))
continues-one {wiring} {before} (next {node = a} {rest = one} least rest) (next {node = b} {rest = two} other more) =
    let same : b ≡ a = least-one wiring (has before) b a other least in
    let moved : Continues wiring (a ∷ before) two = subst (λ node. Continues wiring (node ∷ before) two) same more in
    let following : one ≡ two = continues-one rest moved in
    cc

moved-test : (here before part : Bool) → (before || cond here true part) ≡ (cond here true before || part)
moved-test true before part = or_right before true refl
moved-test false before part = refl

-- listed before or in a part, by either way of adding a node
moved-listed : (node : ℕ) (before part : List ℕ) (k : ℕ) → (has before k || has (node ∷ part) k) ≡ (has (node ∷ before) k || has part k)
unfolding has
moved-listed node before part k = moved-test (node == k) (has before k) (has part k)

or-nothing : (before : List ℕ) (k : ℕ) → (has before k || has [] k) ≡ has before k
unfolding has
or-nothing before k = elim (cases_Bool (has before k)) [ inl here ↦ rw here refl | inr away ↦ rw away refl ]

module _ (wiring : Wiring) where
  -- an order by places continues
  places-continue : (before order : List ℕ)
      → ((place : ℕ) → place < length order → IsLeastReady wiring (λ k. has before k || has (take place order) k) (get_or order place 0))
      → ((node : ℕ) → node < wiring.count → wiring.driven node ≡ true → (has before node || has order node) ≡ true)
      → Continues wiring before order
  places-continue before [] each all = whole (λ node within driven. sym (or-nothing before node) ∙ all node within driven)
  places-continue before (node ∷ rest) each all =
      next (least-same wiring _ (has before) node (or-nothing before) (each 0 (omega arith)))
      (places-continue (node ∷ before) rest
      (λ place within. least-same wiring _ _ _ (λ k. moved-listed node before (take place rest) k) (each (suc place) (omega arith)))
      (λ other within driven. sym (moved-listed node before rest other) ∙ all other within driven))

  -- and the other way
  continues-places : {before order : List ℕ} → Continues wiring before order
      → (place : ℕ) → place < length order → IsLeastReady wiring (λ k. has before k || has (take place order) k) (get_or order place 0)
  continues-places (whole all) place within = absurd (omega arith)
  continues-places {before} (next {node} {rest} least more) zero within = least-same wiring (has before) _ node (λ k. sym (or-nothing before k)) least
  continues-places {before} (next {node} {rest} least more) (suc place) within =
      least-same wiring _ _ _ (λ k. sym (moved-listed node before (take place rest) k)) (continues-places more place (omega arith))

  continues-whole : {before order : List ℕ} → Continues wiring before order
      → (node : ℕ) → node < wiring.count → wiring.driven node ≡ true → (has before node || has order node) ≡ true
  continues-whole {before} (whole all) node within driven = or_left _ _ (all node within driven)
  continues-whole {before} (next {node = first} {rest} least more) node within driven =
      moved-listed first before rest node ∙ continues-whole more node within driven

  -- nothing is listed before the first
  nothing-listed : (part : List ℕ) (k : ℕ) → (has [] k || has part k) ≡ has part k
  unfolding has
  nothing-listed part k = refl

  pub order-continues : (order : List ℕ) → IsWriteOrder wiring order → Continues wiring [] order
  order-continues order is =
      places-continue [] order
      (λ place within. least-same wiring _ _ _ (λ k. sym (nothing-listed (take place order) k)) (is.each place within))
      (λ node within driven. nothing-listed order node ∙ is.whole node within driven)

  pub continues-order : (order : List ℕ) → Continues wiring [] order → IsWriteOrder wiring order
  continues-order order is = record {
    each = λ place within. least-same wiring _ _ _ (λ k. nothing-listed (take place order) k) (continues-places is place within);
    whole = λ node within driven. sym (nothing-listed order node) ∙ continues-whole is node within driven;
  }

  -- there is one write order at most
  pub order-one : (one two : List ℕ) → IsWriteOrder wiring one → IsWriteOrder wiring two → one ≡ two
  order-one one two of_one of_two = continues-one (order-continues one of_one) (order-continues two of_two)
