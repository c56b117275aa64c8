-- A node that a search doesn't come back to, or that reads none of its own level, lies on no cycle.
use Rattle.std.proofs.Common.{◌≡◌, ℕ, ◌<◌, ◌≤◌, Bool, true, false, List, [], ◌∷◌, ◌++◌, length, reverse, get_or, refl, sym, ap, ◌∙◌, subst, arith}
use Rattle.std.proofs.lemmas.Bool.{false_from_ne_true}
use Rattle.std.proofs.lemmas.List.{reverse-append}
use Rattle.graph_order.specs.Wiring.{Wiring, depends, IsPath, IsCycle, is_on_cycle}
use Rattle.graph_order.proofs.Cycles.{IsBounded, is_on_cycle-sound, is_on_cycle-whole}
use Rattle.graph_order.specs.Rows.{is_marked}
use Rattle.graph_order.specs.Levels.{DontRise}
use Rattle.graph_order.specs.Search.{node_at, from_at, StandsIn, IsTrail, IsSearch}
use Rattle.graph_order.specs.declared.search.Found.{Found}

module _ (wiring : Wiring) where
  -- ---- levels

  -- levels don't rise along a path
  path-level : (levels : List ℕ) → DontRise wiring.reads levels → (rest : List ℕ) (a b : ℕ) → IsPath wiring a rest b → get_or levels b 0 ≤ get_or levels a 0
  path-level levels fall [] a b path = fall a b path
  path-level levels fall (next ∷ rest) a b path = omega (arith, fall a next path.0, path-level levels fall rest next b path.1)

  -- a node on a cycle reads one of its own level
  cycle-level : (levels : List ℕ) → DontRise wiring.reads levels → (rest : List ℕ) (node : ℕ) → IsPath wiring node rest node
      → (other : ℕ) × (depends wiring node other ≡ true) × (get_or levels other 0 ≡ get_or levels node 0)
  cycle-level levels fall [] node path = (node, path, refl)
  cycle-level levels fall (next ∷ rest) node path =
      (next, path.0, omega (arith, fall node next path.0, path-level levels fall rest next node path.1))

  pub level-open : (levels : List ℕ) → DontRise wiring.reads levels → (node : ℕ)
      → ((other : ℕ) → depends wiring node other ≡ true → get_or levels other 0 ≡ get_or levels node 0 → ⊥) → is_on_cycle wiring node ≡ false
  level-open levels fall node none = false_from_ne_true _ (λ lies.
      let found = is_on_cycle-sound wiring node lies in
      let own = cycle-level levels fall found.0 node found.1 in
      none own.0 own.1 own.2)

  -- ---- the search from a node

  module _ (start : ℕ) (old new : List Bool) (trail : List Found) (search_is : IsSearch wiring.reads start old new (length trail) trail)
      (unmarked : (node : ℕ) → is_marked old node ≡ false) where
    -- what a node of the trail reads stands in it
    reads-in : (place other : ℕ) → place < length trail → depends wiring (node_at trail place) other ≡ true → StandsIn trail other
    reads-in place other within reads = search_is.listed other (search_is.marked place other within reads) (unmarked other)

    -- so a path from one of its nodes ends with a node that one of them reads
    path-in : (rest : List ℕ) (a b : ℕ) → StandsIn trail a → IsPath wiring a rest b → (place : ℕ) × (place < length trail) × (depends wiring (node_at trail place) b ≡ true)
    path-in [] a b there path = (there.place, there.within, ap (λ k. depends wiring k b) there.here ∙ path)
    path-in (next ∷ rest) a b there path =
        let reads : depends wiring (node_at trail there.place) next ≡ true = ap (λ k. depends wiring k next) there.here ∙ path.0 in
        path-in rest next b (reads-in there.place next there.within reads) path.1

    pub search-open : ((place : ℕ) → place < length trail → depends wiring (node_at trail place) start ≡ false) → is_on_cycle wiring start ≡ false
    search-open none = false_from_ne_true _ (λ lies.
        let found = is_on_cycle-sound wiring start lies in
        let last = path-in found.0 start start (record { place = 0; within = search_is.some; here = search_is.first }) found.1 in
        absurd (cc (last.2, none last.0 last.1)))

  -- ---- the way back

  -- from a place of the trail over some nodes to its first one
  abbrev pub LeadsBack : List Found → ℕ → List ℕ → Type 0
  LeadsBack trail place way = IsPath wiring (node_at trail place) (reverse way) (node_at trail 0)

  pub back-one : (trail : List Found) (place : ℕ) (way more : List ℕ) → IsTrail wiring.reads trail → 0 < place → place < length trail
      → more ≡ way ++ node_at trail place ∷ [] → LeadsBack trail place way → LeadsBack trail (from_at trail place) more
  back-one trail place way more is following within next leads =
      let turned : reverse more ≡ node_at trail place ∷ reverse way = ap reverse next ∙ reverse-append way (node_at trail place ∷ []) in
      subst (λ list. IsPath wiring (node_at trail (from_at trail place)) list (node_at trail 0)) (sym turned) (is.in_row place following within, leads)

  pub back-whole : (trail : List Found) (way more : List ℕ) → more ≡ way ++ node_at trail 0 ∷ [] → LeadsBack trail 0 way → IsCycle wiring (reverse more)
  back-whole trail way more next leads =
      let turned : reverse more ≡ node_at trail 0 ∷ reverse way = ap reverse next ∙ reverse-append way (node_at trail 0 ∷ []) in
      subst (IsCycle wiring) (sym turned) leads

  -- ---- nodes outside the graph

  path-first : (rest : List ℕ) (a b : ℕ) → IsPath wiring a rest b → (other : ℕ) × (depends wiring a other ≡ true)
  path-first [] a b path = (b, path)
  path-first (next ∷ rest) a b path = (next, path.0)

  pub open-outside : IsBounded wiring → (node : ℕ) → wiring.count ≤ node → is_on_cycle wiring node ≡ false
  open-outside bounded node outside = false_from_ne_true _ (λ lies.
      let found = is_on_cycle-sound wiring node lies in
      let first = path-first found.0 node node found.1 in
      let within = bounded.depending node first.0 first.1 in
      absurd (omega arith))

  -- the first node of a cycle lies on one
  pub cycle-lies : IsBounded wiring → (cycle : List ℕ) → IsCycle wiring cycle → is_on_cycle wiring (get_or cycle 0 0) ≡ true
  cycle-lies bounded [] is = absurd is
  cycle-lies bounded (first ∷ rest) is = is_on_cycle-whole wiring bounded first rest is
