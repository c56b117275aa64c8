-- Graphs that say the same have the same write orders and cycles.
use Rattle.std.proofs.Common.{◌≡◌, ℕ, zero, suc, ◌<◌, Bool, List, [], ◌∷◌, take, get_or, refl, sym, ◌∙◌, ap, subst}
use Rattle.graph_order.specs.Wiring.{Wiring, has, IsPath, IsCycle, leads_below, is_on_cycle, IsReady, IsLeastReady, IsWriteOrder}
use Rattle.graph_order.specs.Alike.{AreAlike}

pub alike-back : {one two : Wiring} → AreAlike one two → AreAlike two one
alike-back alike = record {
  count = sym alike.count;
  driven = λ node. sym (alike.driven node);
  reads = λ node other. sym (alike.reads node other);
}

-- ---- the write order

ready-alike : {one two : Wiring} → AreAlike one two → (listed : ℕ → Bool) (node : ℕ) → IsReady one listed node → IsReady two listed node
ready-alike alike listed node ready = record {
  within = subst (λ n. node < n) alike.count ready.within;
  driven = sym (alike.driven node) ∙ ready.driven;
  unlisted = ready.unlisted;
  inputs = λ other reads driven. ready.inputs other (alike.reads node other ∙ reads) (alike.driven other ∙ driven);
}

least-alike : {one two : Wiring} → AreAlike one two → (listed : ℕ → Bool) (node : ℕ) → IsLeastReady one listed node → IsLeastReady two listed node
least-alike alike listed node least = record {
  ready = ready-alike alike listed node least.ready;
  least = λ other ready. least.least other (ready-alike (alike-back alike) listed other ready);
}

pub order-alike : {one two : Wiring} → AreAlike one two → (order : List ℕ) → IsWriteOrder one order → IsWriteOrder two order
order-alike alike order is = record {
  each = λ place within. least-alike alike (has (take place order)) (get_or order place 0) (is.each place within);
  whole = λ node within driven. is.whole node (subst (λ n. node < n) (sym alike.count) within) (alike.driven node ∙ driven);
}

-- ---- cycles

leads-alike : {one two : Wiring} → AreAlike one two → (n a b : ℕ) → leads_below one n a b ≡ leads_below two n a b
unfolding leads_below
leads-alike alike zero a b = alike.reads a b
leads-alike alike (suc n) a b = rw (leads-alike alike n a b, leads-alike alike n a n, leads-alike alike n n b) refl

pub is_on_cycle-alike : {one two : Wiring} → AreAlike one two → (node : ℕ) → is_on_cycle one node ≡ is_on_cycle two node
unfolding is_on_cycle
is_on_cycle-alike {one} {two} alike node = leads-alike alike one.count node node ∙ ap (λ n. leads_below two n node node) alike.count

path-alike : {one two : Wiring} → AreAlike one two → (a b : ℕ) (rest : List ℕ) → IsPath one a rest b → IsPath two a rest b
path-alike alike a b [] path = sym (alike.reads a b) ∙ path
path-alike alike a b (next ∷ rest) path = (sym (alike.reads a next) ∙ path.0, path-alike alike next b rest path.1)

pub cycle-alike : {one two : Wiring} → AreAlike one two → (cycle : List ℕ) → IsCycle one cycle → IsCycle two cycle
cycle-alike alike [] cycle = absurd cycle
cycle-alike alike (first ∷ rest) cycle = path-alike alike first first rest cycle
