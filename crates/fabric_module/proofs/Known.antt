-- What stands before the wires, the outputs and the clocked items of a written module: the names that they use.
use Rattle.std.proofs.Common.{◌≡◌, ℕ, Bool, true, false, List, [], ◌∷◌, ◌++◌, map, refl, sym, ap, ◌∙◌, subst, inl, inr, append-nil}
use Rattle.std.specs.Prelude.{All, Some, filter, bytes_eq, codes, not, if◌then◌else◌}
use Rattle.std.proofs.lemmas.Bool.{cases_Bool}
use Rattle.std.proofs.lemmas.List.{map-append}
use Rattle.std.proofs.lemmas.List.Elements.{All-nil, All-cons, All-head, All-tail, All-append, All-weaker, All-contains, All-filter, filter_passes}
use Rattle.shared_lemmas.proofs.Lists.{All-both}
use Rattle.shared_lemmas.proofs.Bytes.{bytes_eq-same}
use Rattle.vlog_module.specs.Maps.{value_in}
use Rattle.vlog_module.specs.declared.sort.Sort.{Sort}
use Rattle.vlog_module.specs.declared.sort.Sort.TheVariants as sort
use Rattle.vlog_module.specs.Names.{IsName}
use Rattle.vlog_module.specs.WellFormed.{port_sort, Scope}
use Rattle.vlog_semantics.specs.Named.{names_of}
use Rattle.fabric_model.specs.declared.ram.RamCell.{RamCell}
use Rattle.vlog_module.specs.declared.modules.Port.{Port}
use Rattle.fabric_model.specs.Fabric.{Fabric, inputs_of}
use Rattle.fabric_model.specs.Outputs.{outputs_of}
use Rattle.graph_order.specs.Wiring.{has}
use Rattle.graph_order.proofs.OneOrder.{has-none, has-cases}
use Rattle.fabric_module.specs.Names.{input_port_name, output_name, register_name, read_name, memory_name, wire_name}
use Rattle.fabric_module.specs.Written.{input_port}
use Rattle.fabric_module.proofs.Lists.{Apart, value_in-front, value_in-after, names-absent, map-map, All-pick}
use Rattle.fabric_module.proofs.Apart.{io-no_register, io-no_read, io-no_memory, io-no_wire, pll-no_register, pll-no_read, pll-no_memory, pll-no_wire, register-no_read, register-no_memory, register-no_wire, read-no_memory}
use Rattle.fabric_module.proofs.Ports.{ports_of, port_label, port_of, ports-inputs, outputs-ports, All-unmap, ports-absent}
use Rattle.fabric_module.proofs.Settled.{IsWritable}
use Rattle.fabric_module.proofs.Declared.{AreNamed, StateLeft}
use Rattle.fabric_module.proofs.Used.{IsThere, Knows, there-more}

-- ---- names with their sorts

abbrev pub with_sorts : {X : Type 0} → (X → List ℕ) → (X → Sort) → List X → List (List ℕ × Sort)
with_sorts name sort_of xs = map (λ x. (name x, sort_of x)) xs

abbrev IsSorted : {X : Type 0} → (X → List ℕ) → (X → Sort) → List (List ℕ × Sort) → X → Type 0
IsSorted name sort_of list x = value_in list (name x) ≡ Some (sort_of x)

-- no name of a list is that name
abbrev pub NoName : List (List ℕ × Sort) → List ℕ → Type 0
NoName list q = All (λ n. bytes_eq n q ≡ false) (names_of list)

module _ {X : Type 0} (name : X → List ℕ) (sort_of : X → Sort) where
  -- each of some items has the sort that it is declared as
  sorted-there : (xs : List X) → Apart name xs → All (IsSorted name sort_of (with_sorts name sort_of xs)) xs
  sorted-there [] apart = All-nil (IsSorted name sort_of [])
  sorted-there (x ∷ xs) apart =
      All-cons (IsSorted name sort_of (with_sorts name sort_of (x ∷ xs))) x xs
      (rw (bytes_eq-same (name x) (name x) refl) refl)
      (all-away xs apart.0 (sorted-there xs apart.1))
    where
      all-away : (ys : List X) → All (λ y. bytes_eq (name x) (name y) ≡ false) ys → All (IsSorted name sort_of (with_sorts name sort_of xs)) ys
          → All (IsSorted name sort_of (with_sorts name sort_of (x ∷ xs))) ys
      all-away [] away there = All-nil (IsSorted name sort_of (with_sorts name sort_of (x ∷ xs)))
      all-away (y ∷ ys) away there =
          All-cons (IsSorted name sort_of (with_sorts name sort_of (x ∷ xs))) y ys
          (rw (All-head (λ z. bytes_eq (name x) (name z) ≡ false) y ys away) (All-head (IsSorted name sort_of (with_sorts name sort_of xs)) y ys there))
          (all-away ys (All-tail (λ z. bytes_eq (name x) (name z) ≡ false) y ys away) (All-tail (IsSorted name sort_of (with_sorts name sort_of xs)) y ys there))

  -- they stay if there is more before and after them
  sorted-between : (front back : List (List ℕ × Sort)) (xs : List X) → Apart name xs → ((x : X) → NoName front (name x))
      → All (IsSorted name sort_of ((front ++ with_sorts name sort_of xs) ++ back)) xs
  sorted-between front back xs apart absent =
      All-weaker (IsSorted name sort_of (with_sorts name sort_of xs)) (IsSorted name sort_of ((front ++ with_sorts name sort_of xs) ++ back))
      (λ x found. value_in-front (front ++ with_sorts name sort_of xs) back (name x) (sort_of x) (value_in-after front (with_sorts name sort_of xs) (name x) (absent x) ∙ found))
      xs (sorted-there xs apart)

  sorted-front : (front back : List (List ℕ × Sort)) (xs : List X) → All (IsSorted name sort_of front) xs → All (IsSorted name sort_of (front ++ back)) xs
  sorted-front front back xs all =
      All-weaker (IsSorted name sort_of front) (IsSorted name sort_of (front ++ back)) (λ x found. value_in-front front back (name x) (sort_of x) found) xs all

  no-name-of : (xs : List X) (q : List ℕ) → ((x : X) → bytes_eq (name x) q ≡ false) → NoName (with_sorts name sort_of xs) q
  no-name-of xs q away =
      subst (All (λ n. bytes_eq n q ≡ false)) (sym (map-map (λ x. (name x, sort_of x)) (λ (entry : List ℕ × Sort). entry.0) xs)) (names-absent name xs q away)

pub no-name-both : (first second : List (List ℕ × Sort)) (q : List ℕ) → NoName first q → NoName second q → NoName (first ++ second) q
no-name-both first second q of_first of_second =
    subst (All (λ n. bytes_eq n q ≡ false)) (sym (map-append (λ (entry : List ℕ × Sort). entry.0) first second))
    (All-append (λ n. bytes_eq n q ≡ false) (names_of first) (names_of second) of_first of_second)

-- ---- what the state declares

-- all ports, registers, words and memories of a fabric are declared
pub record Stands (fabric : Fabric) (scope : Scope) : Type 0 where
  pub inputs : All (λ port. IsThere scope (input_port_name port) sort.Input) (inputs_of fabric)
  pub outputs : All (λ output. IsThere scope (output_name output) sort.Output) (outputs_of fabric)
  pub registers : All (λ register. IsThere scope (register_name register) sort.Register) fabric.registers
  pub reads : All (λ ram. IsThere scope (read_name ram) sort.Word) fabric.rams
  pub memories : All (λ ram. IsThere scope (memory_name ram) sort.Memory) fabric.rams

-- they stay if more is declared
pub stands-more : (fabric : Fabric) (old new : Scope) (more : List (List ℕ × Sort)) → new.declared ≡ old.declared ++ more → Stands fabric old → Stands fabric new
stands-more fabric old new more is stands =
    let moved = λ (name : List ℕ) (as_sort : Sort) (there : IsThere old name as_sort). there-more old new more name as_sort is there in record {
      inputs = All-weaker (λ port. IsThere old (input_port_name port) sort.Input) (λ port. IsThere new (input_port_name port) sort.Input) (λ port there. moved (input_port_name port) sort.Input there) (inputs_of fabric) stands.inputs;
      outputs = All-weaker (λ output. IsThere old (output_name output) sort.Output) (λ output. IsThere new (output_name output) sort.Output) (λ output there. moved (output_name output) sort.Output there) (outputs_of fabric) stands.outputs;
      registers = All-weaker (λ register. IsThere old (register_name register) sort.Register) (λ register. IsThere new (register_name register) sort.Register) (λ register there. moved (register_name register) sort.Register there) fabric.registers stands.registers;
      reads = All-weaker (λ ram. IsThere old (read_name ram) sort.Word) (λ ram. IsThere new (read_name ram) sort.Word) (λ ram there. moved (read_name ram) sort.Word there) fabric.rams stands.reads;
      memories = All-weaker (λ ram. IsThere old (memory_name ram) sort.Memory) (λ ram. IsThere new (memory_name ram) sort.Memory) (λ ram there. moved (memory_name ram) sort.Memory there) fabric.rams stands.memories;
    }

-- so inputs and read registers are known by their places, and registers
pub stands-knows : (fabric : Fabric) (scope : Scope) (wired : ℕ → Bool) → Stands fabric scope → ((class : ℕ) → wired class ≡ true → IsThere scope (wire_name class) sort.Wire) → Knows fabric scope wired
stands-knows fabric scope wired stands wires = record {
  input = λ place there. All-pick input_port_name (λ n. IsThere scope n sort.Input) (inputs_of fabric) place stands.inputs there;
  register = λ register there. All-contains (λ r. IsThere scope (register_name r) sort.Register) fabric.registers register stands.registers there;
  read = λ place there. All-pick read_name (λ n. IsThere scope n sort.Word) fabric.rams place stands.reads there;
  wire = wires;
}

input-sort : (port : Port) → not port.output ≡ true → port_sort port ≡ sort.Input
input-sort port is = by-bit port.output is
  where
    by-bit : (output : Bool) → not output ≡ true → (if output then sort.Output else sort.Input) ≡ sort.Input
    by-bit true never = absurd cc
    by-bit false is = refl

output-sort : (port : Port) → port.output ≡ true → port_sort port ≡ sort.Output
output-sort port is = rw is refl

read-no_wire : (ram : RamCell) (class : ℕ) → bytes_eq (read_name ram) (wire_name class) ≡ false
unfolding read_name wire_name
read-no_wire ram class = refl

memory-no_wire : (ram : RamCell) (class : ℕ) → bytes_eq (memory_name ram) (wire_name class) ≡ false
unfolding memory_name wire_name
memory-no_wire ram class = refl

module _ (fabric : Fabric) (writable : IsWritable fabric) (named : AreNamed fabric) (scope : Scope) (left : StateLeft fabric scope) where
  ports : List (List ℕ × Sort)
  ports = with_sorts port_label port_sort (ports_of fabric)

  registers : List (List ℕ × Sort)
  registers = with_sorts register_name (λ register. sort.Register) fabric.registers

  words : List (List ℕ × Sort)
  words = with_sorts read_name (λ ram. sort.Word) fabric.rams

  memories : List (List ℕ × Sort)
  memories = with_sorts memory_name (λ ram. sort.Memory) fabric.rams

  state-is : scope.declared ≡ ((ports ++ registers) ++ words) ++ memories
  unfolding ports registers words memories
  state-is = left.declared_is

  port-sorts : All (IsSorted port_label port_sort scope.declared) (ports_of fabric)
  unfolding ports
  port-sorts =
      subst (λ list. All (IsSorted port_label port_sort list) (ports_of fabric)) (sym state-is)
      (sorted-front port_label port_sort ((ports ++ registers) ++ words) memories (ports_of fabric)
      (sorted-front port_label port_sort (ports ++ registers) words (ports_of fabric)
      (sorted-front port_label port_sort ports registers (ports_of fabric) (sorted-there port_label port_sort (ports_of fabric) writable.ports))))

  no-port : (q : List ℕ) → ((rest : List ℕ) → bytes_eq (codes "io_" ++ rest) q ≡ false) → ((rest : List ℕ) → bytes_eq (codes "pll_" ++ rest) q ≡ false) → NoName ports q
  unfolding ports
  no-port q away other =
      subst (All (λ n. bytes_eq n q ≡ false)) (sym (map-map (λ port. (port_label port, port_sort port)) (λ (entry : List ℕ × Sort). entry.0) (ports_of fabric)))
      (ports-absent fabric q away other)

  register-sorts : All (IsSorted register_name (λ register. sort.Register) scope.declared) fabric.registers
  unfolding ports registers
  register-sorts =
      subst (λ list. All (IsSorted register_name (λ register. sort.Register) list) fabric.registers) (sym state-is)
      (sorted-front register_name (λ register. sort.Register) ((ports ++ registers) ++ words) memories fabric.registers
      (sorted-between register_name (λ register. sort.Register) ports words fabric.registers writable.registers
      (λ register. no-port (register_name register) (λ rest. io-no_register rest register) (λ rest. pll-no_register rest register))))

  word-sorts : All (IsSorted read_name (λ ram. sort.Word) scope.declared) fabric.rams
  unfolding ports registers words
  word-sorts =
      subst (λ list. All (IsSorted read_name (λ ram. sort.Word) list) fabric.rams) (sym state-is)
      (sorted-between read_name (λ ram. sort.Word) (ports ++ registers) memories fabric.rams writable.reads
      (λ ram. no-name-both ports registers (read_name ram)
      (no-port (read_name ram) (λ rest. io-no_read rest ram) (λ rest. pll-no_read rest ram))
      (no-name-of register_name (λ register. sort.Register) fabric.registers (read_name ram) (λ register. register-no_read register ram))))

  memory-sorts : All (IsSorted memory_name (λ ram. sort.Memory) scope.declared) fabric.rams
  unfolding ports registers words memories
  memory-sorts =
      subst (λ list. All (IsSorted memory_name (λ ram. sort.Memory) list) fabric.rams) (append-nil _ ∙ sym state-is)
      (sorted-between memory_name (λ ram. sort.Memory) ((ports ++ registers) ++ words) [] fabric.rams writable.memories
      (λ ram. no-name-both (ports ++ registers) words (memory_name ram)
      (no-name-both ports registers (memory_name ram)
      (no-port (memory_name ram) (λ rest. io-no_memory rest ram) (λ rest. pll-no_memory rest ram))
      (no-name-of register_name (λ register. sort.Register) fabric.registers (memory_name ram) (λ register. register-no_memory register ram)))
      (no-name-of read_name (λ ram. sort.Word) fabric.rams (memory_name ram) (λ other. read-no_memory other ram))))

  -- each port is declared as what it is
  ports-there : All (λ port. IsThere scope (port_label port) (port_sort port)) (ports_of fabric)
  ports-there =
      All-both (λ port. IsName (port_label port)) (IsSorted port_label port_sort scope.declared) (λ port. IsThere scope (port_label port) (port_sort port))
      (λ port name found. record { named = name; declared = found }) (ports_of fabric) named.ports port-sorts

  sorted-port : (test : Port → Bool) (as_sort : Sort) → ((port : Port) → test port ≡ true → port_sort port ≡ as_sort)
      → All (λ port. IsThere scope (port_label port) as_sort) (filter test (ports_of fabric))
  sorted-port test as_sort is =
      All-both (λ port. IsThere scope (port_label port) (port_sort port)) (λ port. test port ≡ true) (λ port. IsThere scope (port_label port) as_sort)
      (λ port there passes. subst (IsThere scope (port_label port)) (is port passes) there) (filter test (ports_of fabric))
      (All-filter test (λ port. IsThere scope (port_label port) (port_sort port)) (ports_of fabric) ports-there) (filter_passes test (ports_of fabric))

  -- after the state, all of it is declared
  pub state-stands : Stands fabric scope
  state-stands = record {
    inputs = All-unmap (λ port. IsThere scope (port_label port) sort.Input) input_port (inputs_of fabric)
        (subst (All (λ port. IsThere scope (port_label port) sort.Input)) (ports-inputs fabric) (sorted-port (λ port. not port.output) sort.Input input-sort));
    outputs = All-unmap (λ port. IsThere scope (port_label port) sort.Output) port_of (outputs_of fabric)
        (subst (All (λ port. IsThere scope (port_label port) sort.Output)) (outputs-ports fabric) (sorted-port (λ port. port.output) sort.Output output-sort));
    registers = All-both (λ register. IsName (register_name register)) (IsSorted register_name (λ register. sort.Register) scope.declared) (λ register. IsThere scope (register_name register) sort.Register)
        (λ register name found. record { named = name; declared = found }) fabric.registers named.registers register-sorts;
    reads = All-both (λ ram. IsName (read_name ram)) (IsSorted read_name (λ ram. sort.Word) scope.declared) (λ ram. IsThere scope (read_name ram) sort.Word)
        (λ ram name found. record { named = name; declared = found }) fabric.rams named.reads word-sorts;
    memories = All-both (λ ram. IsName (memory_name ram)) (IsSorted memory_name (λ ram. sort.Memory) scope.declared) (λ ram. IsThere scope (memory_name ram) sort.Memory)
        (λ ram name found. record { named = name; declared = found }) fabric.rams named.memories memory-sorts;
  }

  -- and no wire
  pub state-no_wire : (class : ℕ) → NoName scope.declared (wire_name class)
  unfolding ports registers words memories
  state-no_wire class =
      subst (λ list. NoName list (wire_name class)) (sym state-is)
      (no-name-both ((ports ++ registers) ++ words) memories (wire_name class)
      (no-name-both (ports ++ registers) words (wire_name class)
      (no-name-both ports registers (wire_name class)
      (no-port (wire_name class) (λ rest. io-no_wire rest class) (λ rest. pll-no_wire rest class))
      (no-name-of register_name (λ register. sort.Register) fabric.registers (wire_name class) (λ register. register-no_wire register class)))
      (no-name-of read_name (λ ram. sort.Word) fabric.rams (wire_name class) (λ ram. read-no_wire ram class)))
      (no-name-of memory_name (λ ram. sort.Memory) fabric.rams (wire_name class) (λ ram. memory-no_wire ram class)))

  pub state-knows : Knows fabric scope (has [])
  state-knows = stands-knows fabric scope (has []) state-stands (λ class listed. absurd (has-none class listed))

-- ---- what the wires declare

pub wire-listed : (order : List ℕ) (class : ℕ) → has order class ≡ true → value_in (map (λ c. (wire_name c, sort.Wire)) order) (wire_name class) ≡ Some sort.Wire
wire-listed [] class listed = absurd (has-none class listed)
wire-listed (first ∷ order) class listed =
    elim (cases_Bool (bytes_eq (wire_name first) (wire_name class))) [
      | inl here ↦ rw here refl
      | inr away ↦ rw away (wire-listed order class (elim (has-cases first order class listed) [
        | inl same ↦ let never : true ≡ false = sym (bytes_eq-same (wire_name first) (wire_name class) (ap wire_name same)) ∙ away in absurd cc
        | inr following ↦ following
      ]))
    ]
