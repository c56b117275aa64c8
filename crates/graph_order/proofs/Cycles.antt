-- A node passes the test for cycles exactly if it lies on one.
use Rattle.std.proofs.Common.{◌≡◌, ℕ, zero, suc, ◌<◌, true, inl, inr, List, [], ◌∷◌, ◌++◌, subst, arith}
use Rattle.std.proofs.lemmas.Bool.{cases_lt, or_cases, or_left, or_right, and_from}
use Rattle.shared_lemmas.proofs.Tests.{first_true, second_true}
use Rattle.graph_order.specs.Wiring.{Wiring, depends, IsPath, IsCycle, leads_below, is_on_cycle}

-- nodes that are driven, or depend on any, are below the bound
pub record IsBounded (wiring : Wiring) : Type 0 where
  pub driven : (node : ℕ) → wiring.driven node ≡ true → node < wiring.count
  pub depending : (node other : ℕ) → depends wiring node other ≡ true → node < wiring.count

module _ (wiring : Wiring) where
  -- ---- paths

  -- a path after a path
  pub path-then : (a middle b : ℕ) (first second : List ℕ) → IsPath wiring a first middle → IsPath wiring middle second b
      → IsPath wiring a (first ++ middle ∷ second) b
  path-then a middle b [] second path more = (path, more)
  path-then a middle b (next ∷ first) second path more = (path.0, path-then next middle b first second path.1 more)

  -- a test that passes gives a path
  pub leads_below-path : (n a b : ℕ) → leads_below wiring n a b ≡ true → (rest : List ℕ) × IsPath wiring a rest b
  unfolding leads_below
  leads_below-path zero a b passes = ([], passes)
  leads_below-path (suc n) a b passes =
      elim (or_cases (leads_below wiring n a b) _ passes) [
        | inl without ↦ leads_below-path n a b without
        | inr through ↦
            let first = leads_below-path n a n (first_true _ _ through) in
            let second = leads_below-path n n b (second_true _ _ through) in
            (first.0 ++ n ∷ second.0, path-then a n b first.0 second.0 first.1 second.1)
      ]

  -- ---- the test passes for all paths

  -- how it passes with one node more in between
  data Leads (n a b : ℕ) : Type 0 where
    without : leads_below wiring n a b ≡ true → Leads n a b
    through : leads_below wiring n a n ≡ true → leads_below wiring n n b ≡ true → Leads n a b

  leads-how : (n a b : ℕ) → leads_below wiring (suc n) a b ≡ true → Leads n a b
  unfolding leads_below
  leads-how n a b passes =
      elim (or_cases (leads_below wiring n a b) _ passes) [
        | inl this ↦ without this
        | inr that ↦ through (first_true _ _ that) (second_true _ _ that)
      ]

  leads-so : (n a b : ℕ) → Leads n a b → leads_below wiring (suc n) a b ≡ true
  unfolding leads_below
  leads-so n a b (without this) = or_left _ _ this
  leads-so n a b (through first second) = or_right _ _ (and_from _ _ first second)

  -- the parts at the node itself
  leads-to-last : (n a : ℕ) → Leads n a n → leads_below wiring n a n ≡ true
  leads-to-last n a (without this) = this
  leads-to-last n a (through first second) = first

  leads-from-last : (n b : ℕ) → Leads n n b → leads_below wiring n n b ≡ true
  leads-from-last n b (without this) = this
  leads-from-last n b (through first second) = second

  leads-then : (n a c b : ℕ) → ((d e f : ℕ) → e < n → leads_below wiring n d e ≡ true → leads_below wiring n e f ≡ true → leads_below wiring n d f ≡ true)
      → c < n → Leads n a c → Leads n c b → Leads n a b
  leads-then n a c b step less (without p) (without q) = without (step a c b less p q)
  leads-then n a c b step less (without p) (through q r) = through (step a c n less p q) r
  leads-then n a c b step less (through p q) (without r) = through p (step n c b less q r)
  leads-then n a c b step less (through p q) (through r s) = through p s

  -- over a node below the bound
  pub leads_below-then : (n a c b : ℕ) → c < n → leads_below wiring n a c ≡ true → leads_below wiring n c b ≡ true → leads_below wiring n a b ≡ true
  leads_below-then zero a c b less p q = absurd (omega arith)
  leads_below-then (suc n) a c b less p q =
      elim (cases_lt c n) [
        | inl inner ↦ leads-so n a b (leads-then n a c b (leads_below-then n) inner (leads-how n a c p) (leads-how n c b q))
        | inr outer ↦
            let same : c ≡ n = omega arith in
            let first : Leads n a n = subst (λ d. Leads n a d) same (leads-how n a c p) in
            let second : Leads n n b = subst (λ d. Leads n d b) same (leads-how n c b q) in
            leads-so n a b (through (leads-to-last n a first) (leads-from-last n b second))
      ]

  -- one step
  pub leads_below-step : (n a b : ℕ) → depends wiring a b ≡ true → leads_below wiring n a b ≡ true
  unfolding leads_below
  leads_below-step zero a b step = step
  leads_below-step (suc n) a b step = or_left _ _ (leads_below-step n a b step)

  module _ (bounded : IsBounded wiring) where
    path-bound : (a b : ℕ) (rest : List ℕ) → IsPath wiring a rest b → a < wiring.count
    path-bound a b [] path = bounded.depending a b path
    path-bound a b (next ∷ rest) path = bounded.depending a next path.0

    pub leads_below-whole : (a b : ℕ) (rest : List ℕ) → IsPath wiring a rest b → leads_below wiring wiring.count a b ≡ true
    leads_below-whole a b [] path = leads_below-step wiring.count a b path
    leads_below-whole a b (next ∷ rest) path =
        leads_below-then wiring.count a next b (path-bound next b rest path.1)
        (leads_below-step wiring.count a next path.0) (leads_below-whole next b rest path.1)

  -- ---- cycles

  -- a node that passes is the first of a cycle
  pub is_on_cycle-sound : (node : ℕ) → is_on_cycle wiring node ≡ true → (rest : List ℕ) × IsCycle wiring (node ∷ rest)
  unfolding is_on_cycle
  is_on_cycle-sound node passes = leads_below-path wiring.count node node passes

  -- the first of a cycle passes
  pub is_on_cycle-whole : (bounded : IsBounded wiring) (node : ℕ) (rest : List ℕ) → IsCycle wiring (node ∷ rest) → is_on_cycle wiring node ≡ true
  unfolding is_on_cycle
  is_on_cycle-whole bounded node rest cycle = leads_below-whole bounded node node rest cycle
