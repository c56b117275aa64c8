-- Items that assign one name each may follow one another if their names are distinct; the assigned outputs of a written module.
use Rattle.std.proofs.Common.{◌≡◌, ℕ, ◌≤◌, false, List, [], ◌∷◌, ◌++◌, map, fold, refl, sym, ap, ◌∙◌, subst, arith, append_assoc, append-nil}
use Rattle.std.specs.Prelude.{All, flat_map, bytes_eq, not, IsTrue}
use Rattle.std.specs.List.{list_any}
use Rattle.std.proofs.lemmas.List.Elements.{All-nil, All-cons, All-head, All-tail, All-append}
use Rattle.vlog_module.specs.declared.sort.Sort.{Sort}
use Rattle.vlog_module.specs.declared.sort.Sort.TheVariants as sort
use Rattle.vlog_module.specs.declared.item.Item.{Item}
use Rattle.vlog_module.specs.Uses.{atom_uses, uses_of}
use Rattle.vlog_module.specs.Uses.Use.{Assigns}
use Rattle.vlog_module.specs.WellFormed.{section_of, declared_by, Reading, wire_readings, assigned_by, started_by, Scope, IsAllowed}
use Rattle.fabric_model.specs.Fabric.{Fabric}
use Rattle.fabric_model.specs.Outputs.{Output}
use Rattle.fabric_model.specs.declared.signal.Signal.{Signal}
use Rattle.fabric_model.specs.Drivers.{is_driven}
use Rattle.fabric_model.proofs.Signals.{IsSignalThere}
use Rattle.fabric_model.proofs.Within.{All-single}
use Rattle.fabric_module.specs.Names.{output_name}
use Rattle.fabric_module.specs.Rights.{signal_atom}
use Rattle.fabric_module.specs.Written.{output_assign}
use Rattle.fabric_module.proofs.Lists.{Apart}
use Rattle.fabric_module.proofs.Grown.{grown, grown-section, grown-declared, grown-read, grown-assigned, grown-started, Grows}
use Rattle.fabric_module.proofs.Used.{IsFine, fine-allowed, IsThere, Knows, knows-allows, signal-fine}
use Rattle.fabric_module.proofs.Wired.{atom-none}

-- a name that isn't assigned yet
pub unassigned : (names : List (List ℕ)) (name : List ℕ) → All (λ n. bytes_eq n name ≡ false) names → IsTrue (not (list_any (λ other. bytes_eq other name) names))
unassigned [] name away = refl
unassigned (n ∷ names) name away =
    rw (All-head (λ m. bytes_eq m name ≡ false) n names away) (unassigned names name (All-tail (λ m. bytes_eq m name ≡ false) n names away))

-- what some items leave, that assign names and declare nothing
pub record Assigned (before after : Scope) (k : ℕ) (names : List (List ℕ)) : Type 0 where
  pub section : after.section ≤ k
  pub declared_is : after.declared ≡ before.declared
  pub read_is : after.read ≡ before.read
  pub assigned_is : after.assigned ≡ before.assigned ++ names
  pub started_is : after.started ≡ before.started

-- an item that assigns one name, and declares nothing and is no wire
pub record AssignsOne {X : Type 0} (k : ℕ) (name : X → List ℕ) (item : X → Item) : Type 0 where
  pub section : (x : X) → section_of (item x) ≡ k
  pub declares : (x : X) → flat_map declared_by (uses_of (item x)) ≡ []
  pub reads : (x : X) → wire_readings (item x) ≡ []
  pub assigns : (x : X) → flat_map assigned_by (uses_of (item x)) ≡ name x ∷ []
  pub starts : (x : X) → flat_map started_by (uses_of (item x)) ≡ []

module _ {X : Type 0} (k : ℕ) (name : X → List ℕ) (item : X → Item) (single : AssignsOne k name item) (Is : X → Type 0) (declared : List (List ℕ × Sort)) (read : List (List ℕ × Reading))
    (allowed : (scope : Scope) (x : X) → Is x → scope.section ≤ k → scope.declared ≡ declared → scope.read ≡ read → All (λ n. bytes_eq n (name x) ≡ false) scope.assigned → IsAllowed scope (item x)) where
  assigned-one : (scope : Scope) (x : X) → Assigned scope (grown scope (item x)) k (name x ∷ [])
  assigned-one scope x = record {
    section = omega (arith, grown-section scope (item x), single.section x);
    declared_is = grown-declared scope (item x) ∙ (rw (single.declares x) (append-nil scope.declared));
    read_is = grown-read scope (item x) ∙ (rw (single.reads x) (append-nil scope.read));
    assigned_is = grown-assigned scope (item x) ∙ (rw (single.assigns x) refl);
    started_is = grown-started scope (item x) ∙ (rw (single.starts x) (append-nil scope.started));
  }

  more-away : (x : X) (old all : List (List ℕ)) → all ≡ old ++ name x ∷ [] → (ys : List X) → All (λ y. bytes_eq (name x) (name y) ≡ false) ys
      → All (λ y. All (λ n. bytes_eq n (name y) ≡ false) old) ys → All (λ y. All (λ n. bytes_eq n (name y) ≡ false) all) ys
  more-away x old all is [] apart away = All-nil (λ y. All (λ n. bytes_eq n (name y) ≡ false) all)
  more-away x old all is (y ∷ ys) apart away =
      All-cons (λ y. All (λ n. bytes_eq n (name y) ≡ false) all) y ys
      (subst (All (λ n. bytes_eq n (name y) ≡ false)) (sym is)
      (All-append (λ n. bytes_eq n (name y) ≡ false) old (name x ∷ []) (All-head (λ z. All (λ n. bytes_eq n (name z) ≡ false) old) y ys away)
      (All-single (λ n. bytes_eq n (name y) ≡ false) (name x) (All-head (λ z. bytes_eq (name x) (name z) ≡ false) y ys apart))))
      (more-away x old all is ys (All-tail (λ z. bytes_eq (name x) (name z) ≡ false) y ys apart) (All-tail (λ z. All (λ n. bytes_eq n (name z) ≡ false) old) y ys away))

  -- items whose names are apart, and none of them assigned yet
  pub grows-assigned : (xs : List X) → All Is xs → Apart name xs → (scope : Scope) → scope.section ≤ k → scope.declared ≡ declared → scope.read ≡ read
      → All (λ x. All (λ n. bytes_eq n (name x) ≡ false) scope.assigned) xs
      → Grows scope (map item xs) × Assigned scope (fold grown scope (map item xs)) k (map name xs)
  grows-assigned [] all apart scope low same same_read away = (tt, record { section = low; declared_is = refl; read_is = refl; assigned_is = sym (append-nil scope.assigned); started_is = refl })
  grows-assigned (x ∷ xs) all apart scope low same same_read away =
      let first = assigned-one scope x in
      let here = All-head (λ y. All (λ n. bytes_eq n (name y) ≡ false) scope.assigned) x xs away in
      let others = more-away x scope.assigned (grown scope (item x)).assigned first.assigned_is xs apart.0 (All-tail (λ y. All (λ n. bytes_eq n (name y) ≡ false) scope.assigned) x xs away) in
      let rest = grows-assigned xs (All-tail Is x xs all) apart.1 (grown scope (item x)) first.section (first.declared_is ∙ same) (first.read_is ∙ same_read) others in (
        (allowed scope x (All-head Is x xs all) low same same_read here, rest.0),
        record {
          section = rest.1.section;
          declared_is = rest.1.declared_is ∙ first.declared_is;
          read_is = rest.1.read_is ∙ first.read_is;
          assigned_is = rest.1.assigned_is ∙ (ap (λ list. list ++ map name xs) first.assigned_is ∙ append_assoc scope.assigned (name x ∷ []) (map name xs));
          started_is = rest.1.started_is ∙ first.started_is;
        },
      )

-- ---- outputs

module _ (fabric : Fabric) where
  pub output-one : AssignsOne 6 output_name (output_assign fabric)
  output-one = record {
    section = λ output. refl;
    declares = λ output. atom-none declared_by (λ name. refl) (λ name k. refl) (signal_atom fabric output.source);
    reads = λ output. refl;
    assigns = λ output. rw (atom-none assigned_by (λ name. refl) (λ name k. refl) (signal_atom fabric output.source)) refl;
    starts = λ output. atom-none started_by (λ name. refl) (λ name k. refl) (signal_atom fabric output.source);
  }

  output-fine : (scope : Scope) → Knows fabric scope (is_driven fabric) → (source : Signal) → IsSignalThere fabric source → All (IsFine scope) (atom_uses (signal_atom fabric source))
  output-fine scope knows source there =
      signal-fine fabric (is_driven fabric) (IsFine scope) (knows-allows fabric scope (is_driven fabric) knows) source there (λ n found connected. connected)

  pub output-allowed : (scope : Scope) (output : Output) → Knows fabric scope (is_driven fabric) → IsSignalThere fabric output.source → IsThere scope (output_name output) sort.Output → scope.section ≤ 6
      → All (λ n. bytes_eq n (output_name output) ≡ false) scope.assigned → IsAllowed scope (output_assign fabric output)
  output-allowed scope output knows ruled there low away =
      fine-allowed scope (output_assign fabric output) tt low
      (All-cons (IsFine scope) (Assigns sort.Output (output_name output)) (atom_uses (signal_atom fabric output.source))
      (record { named = there.named; in_range = tt; known = rw (there.declared) refl; first = unassigned scope.assigned (output_name output) away })
      (output-fine scope knows output.source ruled))
