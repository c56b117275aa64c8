-- The start words of a RAM may stand at the end of a written module.
use Rattle.std.proofs.Common.{◌≡◌, ℕ, zero, suc, ◌<◌, ◌≤◌, Bool, false, List, [], ◌∷◌, ◌++◌, get_or, fold, refl, sym, ap, ◌∙◌, subst, arith, inl, inr, append_assoc, append-nil}
use Rattle.std.specs.Prelude.{All, flat_map, bytes_eq, not, ◌&&◌, ◌==◌, IsTrue}
use Rattle.std.specs.List.{list_any}
use Rattle.std.proofs.lemmas.Bool.{cases_Bool, eqb-true, and_left, and_right}
use Rattle.std.proofs.lemmas.List.Sums.{fold-append}
use Rattle.std.proofs.lemmas.List.Elements.{All-nil, All-cons, All-head, All-tail, All-append, All-weaker}
use Rattle.index_search.proofs.Gathered.{All-gathered_below}
use Rattle.index_search.specs.Places.{gathered_below}
use Rattle.bit_plane.specs.BitList.{word_of}
use Rattle.vlog_module.specs.declared.sort.Sort.TheVariants as sort
use Rattle.vlog_module.specs.Uses.Use.{Starts}
use Rattle.vlog_module.specs.WellFormed.{Scope, IsAllowed}
use Rattle.fabric_model.specs.declared.ram.RamCell.{RamCell}
use Rattle.fabric_model.specs.Fabric.{Fabric}
use Rattle.fabric_model.specs.Tiles.{each_below}
use Rattle.fabric_model.proofs.Within.{All-single}
use Rattle.fabric_module.specs.Names.{memory_name}
use Rattle.fabric_module.specs.Written.{start_item, start_items}
use Rattle.fabric_module.proofs.Lists.{Apart}
use Rattle.fabric_module.proofs.Grown.{grown, grown-section, grown-declared, grown-started, Grows, Grows-append}
use Rattle.fabric_module.proofs.Used.{IsFine, fine-allowed, IsThere, there-more}

unstarted : (list : List (List ℕ × ℕ)) (name : List ℕ) (k : ℕ) → All (λ (p : List ℕ × ℕ). (bytes_eq p.0 name && (p.1 == k)) ≡ false) list
    → IsTrue (not (list_any (λ (p : List ℕ × ℕ). bytes_eq p.0 name && (p.1 == k)) list))
unstarted [] name k away = refl
unstarted (p ∷ list) name k away =
    rw (All-head (λ (q : List ℕ × ℕ). (bytes_eq q.0 name && (q.1 == k)) ≡ false) p list away)
    (unstarted list name k (All-tail (λ (q : List ℕ × ℕ). (bytes_eq q.0 name && (q.1 == k)) ≡ false) p list away))

other-number : (a b : ℕ) → a < b → (a == b) ≡ false
other-number a b less =
    elim (cases_Bool (a == b)) [ inl same ↦ let e : a ≡ b = eqb-true a b same in absurd (omega arith) | inr away ↦ away ]

-- what start words leave
pub record Started (before after : Scope) (words : List (List ℕ × ℕ)) : Type 0 where
  pub section : after.section ≤ 10
  pub declared_is : after.declared ≡ before.declared
  pub started_is : after.started ≡ before.started ++ words

module _ (ram : RamCell) (words : List (List Bool)) (small : (k : ℕ) → word_of (get_or words k []) < 65536) (scope : Scope) (low : scope.section ≤ 10)
    (there : IsThere scope (memory_name ram) sort.Memory) (away : All (λ (p : List ℕ × ℕ). bytes_eq p.0 (memory_name ram) ≡ false) scope.started) where
  one-more : (n : ℕ) (middle : Scope) → n < 256 → Started scope middle (each_below n (λ k. (memory_name ram, k))) → IsAllowed middle (start_item ram words n)
  one-more n middle few is =
      fine-allowed middle (start_item ram words n) (small n) is.section
      (All-single (IsFine middle) (Starts (memory_name ram) n) (record {
        named = there.named;
        in_range = omega arith;
        known = rw (is.declared_is, there.declared) refl;
        first = unstarted middle.started (memory_name ram) n
            (subst (All (λ (p : List ℕ × ℕ). (bytes_eq p.0 (memory_name ram) && (p.1 == n)) ≡ false)) (sym is.started_is)
            (All-append (λ (p : List ℕ × ℕ). (bytes_eq p.0 (memory_name ram) && (p.1 == n)) ≡ false) scope.started (each_below n (λ k. (memory_name ram, k)))
            (All-weaker (λ (p : List ℕ × ℕ). bytes_eq p.0 (memory_name ram) ≡ false) (λ (p : List ℕ × ℕ). (bytes_eq p.0 (memory_name ram) && (p.1 == n)) ≡ false)
            (λ p other. and_left (bytes_eq p.0 (memory_name ram)) (p.1 == n) other) scope.started away)
            (All-gathered_below (λ (p : List ℕ × ℕ). (bytes_eq p.0 (memory_name ram) && (p.1 == n)) ≡ false) n (λ k. (memory_name ram, k) ∷ [])
            (λ k less. All-single (λ (p : List ℕ × ℕ). (bytes_eq p.0 (memory_name ram) && (p.1 == n)) ≡ false) (memory_name ram, k)
            (and_right (bytes_eq (memory_name ram) (memory_name ram)) (k == n) (other-number k n less))))));
      }))

  -- the first n start words
  pub starts-grow : (n : ℕ) → n ≤ 256 → Grows scope (each_below n (start_item ram words)) × Started scope (fold grown scope (each_below n (start_item ram words))) (each_below n (λ k. (memory_name ram, k)))
  unfolding gathered_below
  starts-grow zero few = (tt, record { section = low; declared_is = refl; started_is = sym (append-nil scope.started) })
  starts-grow (suc n) few =
      let before = starts-grow n (omega arith) in
      let middle = fold grown scope (each_below n (start_item ram words)) in
      let joined : fold grown scope (each_below n (start_item ram words) ++ start_item ram words n ∷ []) ≡ grown (fold grown scope (each_below n (start_item ram words))) (start_item ram words n) =
      fold-append grown scope (each_below n (start_item ram words)) (start_item ram words n ∷ []) in (
        Grows-append scope (each_below n (start_item ram words)) (start_item ram words n ∷ []) before.0 (one-more n middle (omega arith) before.1, tt),
        subst (λ s. Started scope s (each_below n (λ k. (memory_name ram, k)) ++ (memory_name ram, n) ∷ [])) (sym joined) (record {
          section = omega (arith, grown-section middle (start_item ram words n));
          declared_is = grown-declared middle (start_item ram words n) ∙ (append-nil middle.declared ∙ before.1.declared_is);
          started_is = grown-started middle (start_item ram words n)
              ∙ (ap (λ list. list ++ (memory_name ram, n) ∷ []) before.1.started_is ∙ append_assoc scope.started (each_below n (λ k. (memory_name ram, k))) ((memory_name ram, n) ∷ []));
        }),
      )

-- ---- all RAMs

abbrev pub NotStarted : List (List ℕ × ℕ) → RamCell → Type 0
NotStarted started ram = All (λ (p : List ℕ × ℕ). bytes_eq p.0 (memory_name ram) ≡ false) started

module _ (fabric : Fabric) (small : (place k : ℕ) → word_of (get_or (get_or fabric.start place []) k []) < 65536) where
  -- the other RAMs have no start words yet
  others-away : (ram : RamCell) (old all : List (List ℕ × ℕ)) → all ≡ old ++ each_below 256 (λ k. (memory_name ram, k)) → (places : List (ℕ × RamCell))
      → All (λ (place : ℕ × RamCell). bytes_eq (memory_name ram) (memory_name place.1) ≡ false) places
      → All (λ (place : ℕ × RamCell). NotStarted old place.1) places → All (λ (place : ℕ × RamCell). NotStarted all place.1) places
  others-away ram old all is [] apart away = All-nil (λ (place : ℕ × RamCell). NotStarted all place.1)
  others-away ram old all is (place ∷ places) apart away =
      All-cons (λ (other : ℕ × RamCell). NotStarted all other.1) place places
      (subst (λ list. NotStarted list place.1) (sym is)
      (All-append (λ (p : List ℕ × ℕ). bytes_eq p.0 (memory_name place.1) ≡ false) old (each_below 256 (λ k. (memory_name ram, k)))
      (All-head (λ (other : ℕ × RamCell). NotStarted old other.1) place places away)
      (All-gathered_below (λ (p : List ℕ × ℕ). bytes_eq p.0 (memory_name place.1) ≡ false) 256 (λ k. (memory_name ram, k) ∷ [])
      (λ k less. All-single (λ (p : List ℕ × ℕ). bytes_eq p.0 (memory_name place.1) ≡ false) (memory_name ram, k)
      (All-head (λ (other : ℕ × RamCell). bytes_eq (memory_name ram) (memory_name other.1) ≡ false) place places apart)))))
      (others-away ram old all is places (All-tail (λ (other : ℕ × RamCell). bytes_eq (memory_name ram) (memory_name other.1) ≡ false) place places apart)
      (All-tail (λ (other : ℕ × RamCell). NotStarted old other.1) place places away))

  -- the start words of all RAMs
  pub all-start : (places : List (ℕ × RamCell)) → Apart (λ (place : ℕ × RamCell). memory_name place.1) places → (scope : Scope) → scope.section ≤ 10
      → All (λ (place : ℕ × RamCell). IsThere scope (memory_name place.1) sort.Memory) places → All (λ (place : ℕ × RamCell). NotStarted scope.started place.1) places
      → Grows scope (flat_map (start_items fabric) places)
  all-start [] apart scope low there away = tt
  all-start (place ∷ places) apart scope low there away =
      let words = get_or fabric.start place.0 [] in
      let next = fold grown scope (each_below 256 (start_item place.1 (get_or fabric.start place.0 []))) in
      let first = starts-grow place.1 (get_or fabric.start place.0 []) (small place.0) scope low (All-head (λ (other : ℕ × RamCell). IsThere scope (memory_name other.1) sort.Memory) place places there)
      (All-head (λ (other : ℕ × RamCell). NotStarted scope.started other.1) place places away) 256 (omega arith) in
      Grows-append scope (each_below 256 (start_item place.1 (get_or fabric.start place.0 []))) (flat_map (start_items fabric) places) first.0
      (all-start places apart.1 next first.1.section
      (All-weaker (λ (other : ℕ × RamCell). IsThere scope (memory_name other.1) sort.Memory) (λ (other : ℕ × RamCell). IsThere next (memory_name other.1) sort.Memory)
      (λ other found. there-more scope next [] (memory_name other.1) sort.Memory (first.1.declared_is ∙ sym (append-nil scope.declared)) found) places
      (All-tail (λ (other : ℕ × RamCell). IsThere scope (memory_name other.1) sort.Memory) place places there))
      (others-away place.1 scope.started next.started first.1.started_is places apart.0 (All-tail (λ (other : ℕ × RamCell). NotStarted scope.started other.1) place places away)))
