-- The state that a written module declares may stand after its ports.
use Rattle.std.proofs.Common.{◌≡◌, ℕ, ◌≤◌, false, List, [], ◌∷◌, ◌++◌, map, fold, refl, sym, ap, ◌∙◌, subst, arith, append_assoc, append-nil}
use Rattle.std.specs.Prelude.{All, bytes_eq, IsTrue}
use Rattle.std.proofs.lemmas.List.{map-append}
use Rattle.std.proofs.lemmas.List.Sums.{fold-append}
use Rattle.std.proofs.lemmas.List.Elements.{All-nil, All-cons, All-head, All-tail, All-append}
use Rattle.vlog_module.specs.declared.sort.Sort.{Sort}
use Rattle.vlog_module.specs.declared.sort.Sort.TheVariants as sort
use Rattle.vlog_module.specs.declared.item.Item.{Item}
use Rattle.vlog_module.specs.Names.{IsName}
use Rattle.vlog_module.specs.Uses.{uses_of, used_name}
use Rattle.vlog_module.specs.Uses.Use.{Declares}
use Rattle.vlog_module.specs.WellFormed.{section_of, port_sort, Scope, scope_of, is_known, is_first, IsInRange, IsShaped, IsAllowed}
use Rattle.vlog_semantics.specs.Named.{names_of}
use Rattle.fabric_model.proofs.Within.{All-single}
use Rattle.fabric_model.specs.Fabric.{Fabric}
use Rattle.fabric_model.proofs.Apart.{All-every}
use Rattle.fabric_module.specs.Names.{register_name, read_name, memory_name}
use Rattle.fabric_module.specs.Written.{register_item, read_register, ram_memory}
use Rattle.fabric_module.proofs.Lists.{Apart, value_in-none, names-absent, map-map}
use Rattle.fabric_module.proofs.Apart.{io-no_register, pll-no_register, io-no_read, pll-no_read, io-no_memory, pll-no_memory, register-no_read, register-no_memory, read-no_memory}
use Rattle.fabric_module.proofs.Ports.{ports_of, port_label, ports-absent}
use Rattle.fabric_module.proofs.Settled.{IsWritable}
use Rattle.fabric_module.proofs.Grown.{grown, grown-section, grown-declared, grown-assigned, grown-started, Grows, Grows-append}

-- what some items leave, that declare names of one sort and do nothing else
pub record Declared (before after : Scope) (k : ℕ) (declared : List (List ℕ × Sort)) : Type 0 where
  pub section : after.section ≤ k
  pub declared_is : after.declared ≡ before.declared ++ declared
  pub assigned_is : after.assigned ≡ before.assigned
  pub started_is : after.started ≡ before.started

-- an item that declares one name, and no more
pub record DeclaresOne {X : Type 0} (k : ℕ) (as_sort : Sort) (name : X → List ℕ) (item : X → Item) : Type 0 where
  pub section : (x : X) → section_of (item x) ≡ k
  pub uses : (x : X) → uses_of (item x) ≡ Declares as_sort (name x) ∷ []
  pub shaped : (x : X) → IsShaped (item x)

module _ {X : Type 0} (k : ℕ) (as_sort : Sort) (name : X → List ℕ) (item : X → Item) (one : DeclaresOne k as_sort name item) where
  -- it may come where the name isn't there yet
  declares-allowed : (scope : Scope) (x : X) → scope.section ≤ k → IsName (name x) → All (λ n. bytes_eq n (name x) ≡ false) (names_of scope.declared) → IsAllowed scope (item x)
  declares-allowed scope x low named absent = record {
    shaped = one.shaped x;
    ordered = subst (λ n. scope.section ≤ n) (sym (one.section x)) low;
    named = subst (All (λ used. IsName (used_name used))) (sym (one.uses x)) (All-single (λ used. IsName (used_name used)) (Declares as_sort (name x)) named);
    in_range = subst (All IsInRange) (sym (one.uses x)) (All-single IsInRange (Declares as_sort (name x)) tt);
    known = subst (All (λ used. IsTrue (is_known scope used))) (sym (one.uses x)) (All-single (λ used. IsTrue (is_known scope used)) (Declares as_sort (name x)) refl);
    first = subst (All (λ used. IsTrue (is_first scope used))) (sym (one.uses x))
        (All-single (λ used. IsTrue (is_first scope used)) (Declares as_sort (name x)) (rw (value_in-none scope.declared (name x) absent) refl));
  }

  declared-one : (scope : Scope) (x : X) → Declared scope (grown scope (item x)) k ((name x, as_sort) ∷ [])
  declared-one scope x = record {
    section = omega (arith, grown-section scope (item x), one.section x);
    declared_is = grown-declared scope (item x) ∙ (rw (one.uses x) refl);
    assigned_is = grown-assigned scope (item x) ∙ (rw (one.uses x) (append-nil scope.assigned));
    started_is = grown-started scope (item x) ∙ (rw (one.uses x) (append-nil scope.started));
  }

  -- a name more, from which the others are apart too
  more-absent : (x : X) (old all : List (List ℕ)) → all ≡ old ++ name x ∷ [] → (ys : List X) → All (λ y. bytes_eq (name x) (name y) ≡ false) ys
      → All (λ y. All (λ n. bytes_eq n (name y) ≡ false) old) ys → All (λ y. All (λ n. bytes_eq n (name y) ≡ false) all) ys
  more-absent x old all is [] apart absent = All-nil (λ y. All (λ n. bytes_eq n (name y) ≡ false) all)
  more-absent x old all is (y ∷ ys) apart absent =
      All-cons (λ y. All (λ n. bytes_eq n (name y) ≡ false) all) y ys
      (subst (All (λ n. bytes_eq n (name y) ≡ false)) (sym is)
      (All-append (λ n. bytes_eq n (name y) ≡ false) old (name x ∷ []) (All-head (λ z. All (λ n. bytes_eq n (name z) ≡ false) old) y ys absent)
      (All-single (λ n. bytes_eq n (name y) ≡ false) (name x) (All-head (λ z. bytes_eq (name x) (name z) ≡ false) y ys apart))))
      (more-absent x old all is ys (All-tail (λ z. bytes_eq (name x) (name z) ≡ false) y ys apart) (All-tail (λ z. All (λ n. bytes_eq n (name z) ≡ false) old) y ys absent))

  -- items whose names are apart, and none of them there yet
  pub grows-declared : (xs : List X) (scope : Scope) → scope.section ≤ k → All (λ x. IsName (name x)) xs → Apart name xs
      → All (λ x. All (λ n. bytes_eq n (name x) ≡ false) (names_of scope.declared)) xs
      → Grows scope (map item xs) × Declared scope (fold grown scope (map item xs)) k (map (λ x. (name x, as_sort)) xs)
  grows-declared [] scope low named apart absent =
      (tt, record { section = low; declared_is = sym (append-nil scope.declared); assigned_is = refl; started_is = refl })
  grows-declared (x ∷ xs) scope low named apart absent =
      let next = grown scope (item x) in
      let first = declared-one scope x in
      let here = All-head (λ y. All (λ n. bytes_eq n (name y) ≡ false) (names_of scope.declared)) x xs absent in
      let names : names_of (grown scope (item x)).declared ≡ names_of scope.declared ++ name x ∷ [] =
      ap names_of first.declared_is ∙ map-append (λ (entry : List ℕ × Sort). entry.0) scope.declared ((name x, as_sort) ∷ []) in
      let away : All (λ y. All (λ n. bytes_eq n (name y) ≡ false) (names_of (grown scope (item x)).declared)) xs =
      more-absent x (names_of scope.declared) (names_of (grown scope (item x)).declared) names xs apart.0 (All-tail (λ y. All (λ n. bytes_eq n (name y) ≡ false) (names_of scope.declared)) x xs absent) in
      let rest = grows-declared xs (grown scope (item x)) first.section (All-tail (λ y. IsName (name y)) x xs named) apart.1 away in (
        (declares-allowed scope x low (All-head (λ y. IsName (name y)) x xs named) here, rest.0),
        record {
          section = rest.1.section;
          declared_is = rest.1.declared_is ∙ (ap (λ list. list ++ map (λ y. (name y, as_sort)) xs) first.declared_is ∙ append_assoc scope.declared ((name x, as_sort) ∷ []) (map (λ y. (name y, as_sort)) xs));
          assigned_is = rest.1.assigned_is ∙ first.assigned_is;
          started_is = rest.1.started_is ∙ first.started_is;
        },
      )

-- ---- the state of a fabric

-- the names of a fabric's parts are names
pub record AreNamed (fabric : Fabric) : Type 0 where
  pub ports : All (λ port. IsName (port_label port)) (ports_of fabric)
  pub registers : All (λ register. IsName (register_name register)) fabric.registers
  pub reads : All (λ ram. IsName (read_name ram)) fabric.rams
  pub memories : All (λ ram. IsName (memory_name ram)) fabric.rams

-- what ports and state declare
abbrev pub state_names : Fabric → List (List ℕ × Sort)
state_names fabric =
    ((map (λ port. (port_label port, port_sort port)) (ports_of fabric)
    ++ map (λ register. (register_name register, sort.Register)) fabric.registers)
    ++ map (λ ram. (read_name ram, sort.Word)) fabric.rams)
    ++ map (λ ram. (memory_name ram, sort.Memory)) fabric.rams

-- what they leave
pub record StateLeft (fabric : Fabric) (scope : Scope) : Type 0 where
  pub section : scope.section ≤ 4
  pub declared_is : scope.declared ≡ state_names fabric
  pub assigned_is : scope.assigned ≡ []
  pub started_is : scope.started ≡ []

module _ (fabric : Fabric) (writable : IsWritable fabric) (named : AreNamed fabric) where
  scope-ports : Scope
  scope-ports = scope_of (ports_of fabric) []

  ports-names : names_of scope-ports.declared ≡ map port_label (ports_of fabric)
  unfolding scope-ports
  ports-names =
      ap names_of (append-nil (map (λ port. (port.name, port_sort port)) (ports_of fabric)))
      ∙ map-map (λ port. (port_label port, port_sort port)) (λ (entry : List ℕ × Sort). entry.0) (ports_of fabric)

  ports-low : scope-ports.section ≡ 1
  unfolding scope-ports
  ports-low = refl

  registers-one : DeclaresOne 2 sort.Register register_name register_item
  registers-one = record { section = λ register. refl; uses = λ register. refl; shaped = λ register. tt }

  reads-one : DeclaresOne 3 sort.Word read_name read_register
  reads-one = record { section = λ ram. refl; uses = λ ram. refl; shaped = λ ram. omega arith }

  memories-one : DeclaresOne 4 sort.Memory memory_name ram_memory
  memories-one = record { section = λ ram. refl; uses = λ ram. refl; shaped = λ ram. tt }

  registers-grow : Grows scope-ports (map register_item fabric.registers)
      × Declared scope-ports (fold grown scope-ports (map register_item fabric.registers)) 2 (map (λ register. (register_name register, sort.Register)) fabric.registers)
  registers-grow =
      grows-declared 2 sort.Register register_name register_item registers-one fabric.registers scope-ports (omega (arith, ports-low))
      named.registers writable.registers
      (All-every (λ register. All (λ n. bytes_eq n (register_name register) ≡ false) (names_of scope-ports.declared)) (λ register.
      subst (All (λ n. bytes_eq n (register_name register) ≡ false)) (sym ports-names) (ports-absent fabric (register_name register) (λ rest. io-no_register rest register) (λ rest. pll-no_register rest register))) fabric.registers)

  scope-registers : Scope
  scope-registers = fold grown scope-ports (map register_item fabric.registers)

  registers-names : names_of scope-registers.declared ≡ map port_label (ports_of fabric) ++ map register_name fabric.registers
  unfolding scope-registers
  registers-names =
      ap names_of registers-grow.1.declared_is
      ∙ (map-append (λ (entry : List ℕ × Sort). entry.0) scope-ports.declared (map (λ register. (register_name register, sort.Register)) fabric.registers)
      ∙ (ap (λ list. list ++ names_of (map (λ register. (register_name register, sort.Register)) fabric.registers)) ports-names
      ∙ ap (λ list. map port_label (ports_of fabric) ++ list) (map-map (λ register. (register_name register, sort.Register)) (λ (entry : List ℕ × Sort). entry.0) fabric.registers)))

  reads-grow : Grows scope-registers (map read_register fabric.rams)
      × Declared scope-registers (fold grown scope-registers (map read_register fabric.rams)) 3 (map (λ ram. (read_name ram, sort.Word)) fabric.rams)
  unfolding scope-registers
  reads-grow =
      grows-declared 3 sort.Word read_name read_register reads-one fabric.rams scope-registers (omega (arith, registers-grow.1.section))
      named.reads writable.reads
      (All-every (λ ram. All (λ n. bytes_eq n (read_name ram) ≡ false) (names_of scope-registers.declared)) (λ ram.
      subst (All (λ n. bytes_eq n (read_name ram) ≡ false)) (sym registers-names)
      (All-append (λ n. bytes_eq n (read_name ram) ≡ false) (map port_label (ports_of fabric)) (map register_name fabric.registers)
      (ports-absent fabric (read_name ram) (λ rest. io-no_read rest ram) (λ rest. pll-no_read rest ram))
      (names-absent register_name fabric.registers (read_name ram) (λ register. register-no_read register ram)))) fabric.rams)

  scope-reads : Scope
  scope-reads = fold grown scope-registers (map read_register fabric.rams)

  reads-names : names_of scope-reads.declared ≡ (map port_label (ports_of fabric) ++ map register_name fabric.registers) ++ map read_name fabric.rams
  unfolding scope-reads
  reads-names =
      ap names_of reads-grow.1.declared_is
      ∙ (map-append (λ (entry : List ℕ × Sort). entry.0) scope-registers.declared (map (λ ram. (read_name ram, sort.Word)) fabric.rams)
      ∙ (ap (λ list. list ++ names_of (map (λ ram. (read_name ram, sort.Word)) fabric.rams)) registers-names
      ∙ ap (λ list. (map port_label (ports_of fabric) ++ map register_name fabric.registers) ++ list) (map-map (λ ram. (read_name ram, sort.Word)) (λ (entry : List ℕ × Sort). entry.0) fabric.rams)))

  memories-grow : Grows scope-reads (map ram_memory fabric.rams)
      × Declared scope-reads (fold grown scope-reads (map ram_memory fabric.rams)) 4 (map (λ ram. (memory_name ram, sort.Memory)) fabric.rams)
  unfolding scope-reads
  memories-grow =
      grows-declared 4 sort.Memory memory_name ram_memory memories-one fabric.rams scope-reads (omega (arith, reads-grow.1.section))
      named.memories writable.memories
      (All-every (λ ram. All (λ n. bytes_eq n (memory_name ram) ≡ false) (names_of scope-reads.declared)) (λ ram.
      subst (All (λ n. bytes_eq n (memory_name ram) ≡ false)) (sym reads-names)
      (All-append (λ n. bytes_eq n (memory_name ram) ≡ false) (map port_label (ports_of fabric) ++ map register_name fabric.registers) (map read_name fabric.rams)
      (All-append (λ n. bytes_eq n (memory_name ram) ≡ false) (map port_label (ports_of fabric)) (map register_name fabric.registers)
      (ports-absent fabric (memory_name ram) (λ rest. io-no_memory rest ram) (λ rest. pll-no_memory rest ram))
      (names-absent register_name fabric.registers (memory_name ram) (λ register. register-no_memory register ram)))
      (names-absent read_name fabric.rams (memory_name ram) (λ other. read-no_memory other ram)))) fabric.rams)

  -- registers, words and memories may stand after the ports
  pub state-grows : Grows (scope_of (ports_of fabric) []) (map register_item fabric.registers ++ (map read_register fabric.rams ++ map ram_memory fabric.rams))
  unfolding scope-ports scope-registers scope-reads
  state-grows =
      Grows-append scope-ports (map register_item fabric.registers) (map read_register fabric.rams ++ map ram_memory fabric.rams) registers-grow.0
      (Grows-append scope-registers (map read_register fabric.rams) (map ram_memory fabric.rams) reads-grow.0 memories-grow.0)

  -- what stands after registers, words and memories
  pub state-left : StateLeft fabric (fold grown (scope_of (ports_of fabric) []) (map register_item fabric.registers ++ (map read_register fabric.rams ++ map ram_memory fabric.rams)))
  unfolding scope-ports scope-registers scope-reads
  state-left =
      let joined : fold grown (scope_of (ports_of fabric) []) (map register_item fabric.registers ++ (map read_register fabric.rams ++ map ram_memory fabric.rams))
      ≡ fold grown scope-reads (map ram_memory fabric.rams) =
      fold-append grown scope-ports (map register_item fabric.registers) (map read_register fabric.rams ++ map ram_memory fabric.rams)
      ∙ fold-append grown scope-registers (map read_register fabric.rams) (map ram_memory fabric.rams) in
      let ports : scope-ports.declared ≡ map (λ port. (port_label port, port_sort port)) (ports_of fabric) =
      append-nil (map (λ port. (port.name, port_sort port)) (ports_of fabric)) in
      subst (StateLeft fabric) (sym joined) (record {
        section = memories-grow.1.section;
        declared_is = memories-grow.1.declared_is
            ∙ ap (λ list. list ++ map (λ ram. (memory_name ram, sort.Memory)) fabric.rams)
            (reads-grow.1.declared_is
            ∙ ap (λ list. list ++ map (λ ram. (read_name ram, sort.Word)) fabric.rams)
            (registers-grow.1.declared_is ∙ ap (λ list. list ++ map (λ register. (register_name register, sort.Register)) fabric.registers) ports));
        assigned_is = memories-grow.1.assigned_is ∙ (reads-grow.1.assigned_is ∙ registers-grow.1.assigned_is);
        started_is = memories-grow.1.started_is ∙ (reads-grow.1.started_is ∙ registers-grow.1.started_is);
      })
