-- The names of what a module holds.
use Rattle.std.proofs.Common.{◌≡◌, ℕ, zero, suc, Bool, true, false, cond, List, [], ◌∷◌, flat_map, refl, sym, subst, ◌∙◌}
use Rattle.std.specs.Prelude.{All, fold}
use Rattle.std.specs.List.{list_any}
use Rattle.std.proofs.lemmas.List.{map-append}
use Rattle.std.proofs.lemmas.List.Elements.{All-nil, All-cons, All-head, All-tail, All-append}
use Rattle.vlog_module.specs.declared.item.Item.{Item}
use Rattle.vlog_module.specs.declared.item.Item.TheVariants.{Register, Word, Memory, Wire, Assign}
use Rattle.vlog_module.specs.declared.modules.Port.{Port}
use Rattle.vlog_module.specs.Parts.{Parts}
use Rattle.vlog_module.specs.Uses.{uses_of}
use Rattle.vlog_semantics.specs.declared.event.Event.{Event}
use Rattle.vlog_semantics.specs.Entries.{Entry, put}
use Rattle.vlog_semantics.specs.ModuleSlots.{IsNamed, wire_start}
use Rattle.vlog_semantics.specs.Named.{names_of}
use Rattle.vlog_semantics.specs.Run.{Edges, acted, changed, edges_between, edges_by, followed, has_its_edge, input_bit, input_start, is_same_bit, memory_start, memory_step, module_run, output_start, output_step, register_start, register_step, run_from, settled, start, start_step, wave_bound, waved, with_input, word_start, word_step}
use Rattle.vlog_semantics.specs.Values.{Readable, atom_value}
use Rattle.vlog_semantics.proofs.Entering.{AreNamed, acted-named, names-input, settled-named, start-named}
use Rattle.vlog_semantics.proofs.Lookups.{names-put}
use Rattle.port_names.proofs.Declared.{names_by}

-- ---- entries of a run have the names of the module

-- an entry has the names of the module, its outputs too
pub record HasNames (m : Parts) (entry : Entry) : Type 0 where
  pub named : IsNamed m entry
  pub outputs : names_of entry.outputs ≡ names_of (flat_map output_start m.ports)

names-outputs : (from : Readable) (outputs : List (List ℕ × Bool)) (items : List Item) → names_of (fold (output_step from) outputs items) ≡ names_of outputs
names-outputs from outputs [] = refl
names-outputs from outputs (Assign name value ∷ items) = names-outputs from (put outputs name (atom_value from value)) items ∙ names-put outputs name (atom_value from value)
names-outputs from outputs (other ∷ items) = names-outputs from outputs items

settled-names : (m : Parts) (inputs registers : List (List ℕ × Bool)) (words : List (List ℕ × ℕ)) (memories : List (List ℕ × List ℕ)) → AreNamed m inputs registers words memories
    → HasNames m (settled m inputs registers words memories)
unfolding settled
settled-names m inputs registers words memories named = record { named = settled-named m inputs registers words memories named; outputs = names-outputs _ (flat_map output_start m.ports) m.items }

pub start-names : (m : Parts) → HasNames m (start m)
unfolding start
start-names m = settled-names m (flat_map input_start m.ports) (flat_map register_start m.items) (flat_map word_start m.items) (fold start_step (flat_map memory_start m.items) m.items) (start-named m)

acted-names : (m : Parts) (edges : Edges) (inputs : List (List ℕ × Bool)) (entry : Entry) → names_of inputs ≡ names_of entry.inputs → HasNames m entry → HasNames m (acted m edges inputs entry)
unfolding acted
acted-names m edges inputs entry same names =
    settled-names m inputs (fold (register_step edges entry) entry.registers m.items) (fold (word_step edges entry) entry.words m.items)
    (fold (memory_step edges entry) entry.memories m.items) (acted-named m entry edges inputs same names.named)

waved-names : (m : Parts) (most : ℕ) (before after : Entry) → HasNames m after → HasNames m (waved m most before after)
unfolding waved
waved-names m zero before after names = names
waved-names m (suc most) before after names =
    let edges : Edges = edges_between before after in
    let next : Entry = acted m edges after.inputs after in
    elim (list_any (has_its_edge edges) m.items) as (λ b. HasNames m (cond b (waved m most after next) after)) [
      | true ↦ waved-names m most after next (acted-names m edges after.inputs after refl names)
      | false ↦ names
    ]

changed-names : (m : Parts) (entry : Entry) (event : Event) → HasNames m entry → HasNames m (changed m entry event)
unfolding changed
changed-names m entry event names =
    let inputs : List (List ℕ × Bool) = with_input entry.inputs event.pin event.bit in
    waved-names m (wave_bound m) entry (acted m (edges_by m event) inputs entry)
    (acted-names m (edges_by m event) inputs entry (names-input entry.inputs event.pin event.bit) names)

pub followed-names : (m : Parts) (entry : Entry) (event : Event) → HasNames m entry → HasNames m (followed m entry event)
unfolding followed
followed-names m entry event names =
    elim (is_same_bit event.bit (input_bit entry event.pin)) as (λ b. HasNames m (cond b entry (changed m entry event))) [ true ↦ names | false ↦ changed-names m entry event names ]

run-names-from : (m : Parts) (entry : Entry) (events : List Event) → HasNames m entry → All (HasNames m) (run_from m entry events)
unfolding run_from
run-names-from m entry [] names = All-cons (HasNames m) entry [] names (All-nil (HasNames m))
run-names-from m entry (event ∷ events) names =
    All-cons (HasNames m) entry (run_from m (followed m entry event) events) names (run-names-from m (followed m entry event) events (followed-names m entry event names))

pub run-names : (m : Parts) (events : List Event) → All (HasNames m) (module_run m events)
unfolding module_run
run-names m events = run-names-from m (start m) events (start-names m)

-- ---- what holds of the names that are declared, holds of those of an entry

-- names that the parts of a list give
names-given : {X A : Type 0} (P : List ℕ → Type 0) (Q : X → Type 0) (given : X → List (List ℕ × A)) → ((x : X) → Q x → All P (names_of (given x))) → (xs : List X) → All Q xs → All P (names_of (flat_map given xs))
names-given P Q given each [] all = All-nil P
names-given {A = A} P Q given each (x ∷ xs) all =
    subst (All P) (sym (map-append (λ (e : List ℕ × A). e.0) (given x) (flat_map given xs)))
    (All-append P (names_of (given x)) (names_of (flat_map given xs)) (each x (All-head Q x xs all)) (names-given P Q given each xs (All-tail Q x xs all)))

module _ (P : List ℕ → Type 0) where
  of-input : (port : Port) → P port.name → All P (names_of (input_start port))
  of-input port is = elim port.output as (λ b. All P (names_of (cond b [] ((port.name, false) ∷ [])))) [ true ↦ All-nil P | false ↦ All-cons P port.name [] is (All-nil P) ]

  of-output : (port : Port) → P port.name → All P (names_of (output_start port))
  of-output port is = elim port.output as (λ b. All P (names_of (cond b ((port.name, false) ∷ []) []))) [ true ↦ All-cons P port.name [] is (All-nil P) | false ↦ All-nil P ]

  of-register : (item : Item) → All P (names_by (uses_of item)) → All P (names_of (register_start item))
  of-register (Register name start) all = all
  of-register other all = All-nil P

  of-word : (item : Item) → All P (names_by (uses_of item)) → All P (names_of (word_start item))
  of-word (Word name start) all = all
  of-word other all = All-nil P

  of-memory : (item : Item) → All P (names_by (uses_of item)) → All P (names_of (memory_start item))
  of-memory (Memory name) all = all
  of-memory other all = All-nil P

  of-wire : (item : Item) → All P (names_by (uses_of item)) → All P (names_of (wire_start item))
  of-wire (Wire name right) all = All-cons P name [] (All-head P name _ all) (All-nil P)
  of-wire other all = All-nil P

  -- the names of an entry's state
  pub record OfState (entry : Entry) : Type 0 where
    pub registers : All P (names_of entry.registers)
    pub words : All P (names_of entry.words)
    pub memories : All P (names_of entry.memories)
    pub wires : All P (names_of entry.wires)

  -- and of its ports
  pub record OfPorts (entry : Entry) : Type 0 where
    pub inputs : All P (names_of entry.inputs)
    pub outputs : All P (names_of entry.outputs)

  pub of-state : (m : Parts) (entry : Entry) → HasNames m entry → All (λ item. All P (names_by (uses_of item))) m.items → OfState entry
  of-state m entry names all = record {
    registers = subst (All P) (sym names.named.registers) (names-given P (λ item. All P (names_by (uses_of item))) register_start of-register m.items all);
    words = subst (All P) (sym names.named.words) (names-given P (λ item. All P (names_by (uses_of item))) word_start of-word m.items all);
    memories = subst (All P) (sym names.named.memories) (names-given P (λ item. All P (names_by (uses_of item))) memory_start of-memory m.items all);
    wires = subst (All P) (sym names.named.wires) (names-given P (λ item. All P (names_by (uses_of item))) wire_start of-wire m.items all);
  }

  pub of-ports : (m : Parts) (entry : Entry) → HasNames m entry → All (λ port. P port.name) m.ports → OfPorts entry
  of-ports m entry names all = record {
    inputs = subst (All P) (sym names.named.inputs) (names-given P (λ port. P port.name) input_start of-input m.ports all);
    outputs = subst (All P) (sym names.outputs) (names-given P (λ port. P port.name) output_start of-output m.ports all);
  }
