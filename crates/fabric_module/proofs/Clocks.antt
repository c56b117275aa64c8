-- The outputs and the items of registers and RAM ports of a written module may stand after its wires.
use Rattle.std.proofs.Common.{◌≡◌, ℕ, ◌<◌, ◌≤◌, Bool, false, arith, List, [], ◌∷◌, ◌++◌, map, fold, refl, sym, ap, ◌∙◌, subst, append-nil}
use Rattle.std.specs.Prelude.{All, Contains, IsTrue, Option, Some, None, flat_map, bytes_eq}
use Rattle.std.proofs.lemmas.List.Elements.{All-nil, All-cons, All-head, All-tail, All-append, All-contains_itself}
use Rattle.shared_lemmas.proofs.Lists.{All-both}
use Rattle.vlog_module.specs.declared.sort.Sort.{Sort}
use Rattle.vlog_module.specs.declared.sort.Sort.TheVariants as sort
use Rattle.vlog_module.specs.declared.item.Item.{Item}
use Rattle.vlog_module.specs.WellFormed.{sort_in, is_clock, is_read_unless, Scope, IsAllowed}
use Rattle.fabric_model.specs.declared.register.Register.{Register}
use Rattle.fabric_model.specs.declared.ram.RamCell.{RamCell}
use Rattle.fabric_model.specs.Joins.{class_of}
use Rattle.fabric_model.specs.Fabric.{Fabric}
use Rattle.fabric_model.specs.Outputs.{Output, outputs_of}
use Rattle.fabric_model.proofs.Apart.{All-every}
use Rattle.fabric_model.specs.Drivers.{is_driven}
use Rattle.fabric_model.specs.Clocks.{ClockEnd, LeadsTo, clock_end}
use Rattle.fabric_model.specs.Clocks.ClockEnd.{at_pin, at_register, still, logic}
use Rattle.graph_order.specs.Wiring.{IsWriteOrder}
use Rattle.fabric_model.specs.Wiring.{clocked_wiring}
use Rattle.fabric_model.proofs.Chains.{clock_end-leads_clocked}
use Rattle.fabric_model.specs.Within.{IsClosed}
use Rattle.fabric_model.proofs.Signals.{IsSignalThere, HasSignals, item-at}
use Rattle.fabric_model.proofs.Settling.{outputs-have}
use Rattle.fabric_model.proofs.OneValue.{IsWithin}
use Rattle.fabric_module.specs.Names.{output_name, register_name, read_name, memory_name}
use Rattle.fabric_module.specs.Rights.{input_name, register_at, setting_wire}
use Rattle.fabric_module.specs.Written.{end_name, clock_name, clocked, output_assign, register_items, read_item, read_items, write_item, write_items}
use Rattle.fabric_module.proofs.Lists.{Apart, flat_map-every, names-absent}
use Rattle.fabric_module.proofs.Apart.{output-no_register, output-no_read, output-no_memory, register-no_read, register-no_memory, read-no_memory}
use Rattle.fabric_module.proofs.Ports.{outputs-apart}
use Rattle.fabric_module.proofs.Settled.{IsWritable}
use Rattle.fabric_module.proofs.Beginning.{IsPorted, IsStarted}
use Rattle.fabric_module.proofs.Ticks.{leads-place, leads-index}
use Rattle.fabric_module.proofs.Grown.{grown, Grows}
use Rattle.fabric_module.proofs.Used.{IsThere, IsClockThere, input-clock, register-clock, Knows, there-more, setting-class}
use Rattle.fabric_module.proofs.Readings.{IsReadWell, read-unless}
use Rattle.fabric_module.proofs.Known.{Stands, stands-more}
use Rattle.fabric_module.proofs.Assigned.{Assigned, AssignsOne, grows-assigned, output-one, output-allowed}
use Rattle.fabric_module.proofs.Ticking.{Way, way_of, item_in, optional, items_by-way, IsWay, register-allowed, read-allowed, write-allowed, register-one, read-one, write-one}
use Rattle.fabric_module.proofs.Ticking.Way.{waits, acts, sets}

-- ---- items with their ways

-- a thing with its way in front of others, where it has one
abbrev and_pair : {X W : Type 0} → Option W → X → List (X × W) → List (X × W)
and_pair None x pairs = pairs
and_pair (Some way) x pairs = (x, way) ∷ pairs

module _ {X W : Type 0} (way : X → Option W) where
  -- the things that have ways, with them
  pub way_pairs : List X → List (X × W)
  way_pairs [] = []
  way_pairs (x ∷ xs) = and_pair (way x) x (way_pairs xs)

  one-given : (item : X → W → Item) (given : Option W) (x : X) (items : List Item) (pairs : List (X × W))
      → items ≡ map (λ pair. item pair.0 pair.1) pairs → optional given (item x) ++ items ≡ map (λ pair. item pair.0 pair.1) (and_pair given x pairs)
  one-given item None x items pairs same = same
  one-given item (Some at) x items pairs same = ap (λ list. item x at ∷ list) same

  all-given : (item : X → W → Item) (xs : List X) → flat_map (λ x. optional (way x) (item x)) xs ≡ map (λ pair. item pair.0 pair.1) (way_pairs xs)
  unfolding way_pairs
  all-given item [] = refl
  all-given item (x ∷ xs) = one-given item (way x) x (flat_map (λ y. optional (way y) (item y)) xs) (way_pairs xs) (all-given item xs)

  -- the items of things that give one each where they have ways
  pub given-map : (item : X → W → Item) (items : X → List Item) → ((x : X) → items x ≡ optional (way x) (item x)) → (xs : List X)
      → flat_map items xs ≡ map (λ pair. item pair.0 pair.1) (way_pairs xs)
  given-map item items same xs = flat_map-every items (λ x. optional (way x) (item x)) same xs ∙ all-given item xs

  one-all : (Q : X × W → Type 0) (given : Option W) (x : X) (pairs : List (X × W)) → ((at : W) → given ≡ Some at → Q (x, at)) → All Q pairs → All Q (and_pair given x pairs)
  one-all Q None x pairs each all = all
  one-all Q (Some at) x pairs each all = All-cons Q (x, at) pairs (each at refl) all

  pub pairs-all : (P : X → Type 0) (Q : X × W → Type 0) → ((x : X) (at : W) → P x → way x ≡ Some at → Q (x, at)) → (xs : List X) → All P xs → All Q (way_pairs xs)
  unfolding way_pairs
  pairs-all P Q each [] all = All-nil Q
  pairs-all P Q each (x ∷ xs) all = one-all Q (way x) x (way_pairs xs) (λ at is. each x at (All-head P x xs all) is) (pairs-all P Q each xs (All-tail P x xs all))

  module _ (name : X → List ℕ) where
    one-apart : (given : Option W) (x : X) (pairs : List (X × W)) → All (λ (pair : X × W). bytes_eq (name x) (name pair.0) ≡ false) pairs
        → Apart (λ (pair : X × W). name pair.0) pairs → Apart (λ (pair : X × W). name pair.0) (and_pair given x pairs)
    one-apart None x pairs away apart = apart
    one-apart (Some at) x pairs away apart = (away, apart)

    pub pairs-apart : (xs : List X) → Apart name xs → Apart (λ (pair : X × W). name pair.0) (way_pairs xs)
    unfolding way_pairs
    pairs-apart [] apart = tt
    pairs-apart (x ∷ xs) apart =
        one-apart (way x) x (way_pairs xs)
        (pairs-all (λ y. bytes_eq (name x) (name y) ≡ false) (λ (pair : X × W). bytes_eq (name x) (name pair.0) ≡ false) (λ y at away is. away) xs apart.0)
        (pairs-apart xs apart.1)

-- an item by its clock, if there is one
clocked-optional : (clock : Option (List ℕ)) (item : List ℕ → Item) → clocked clock item ≡ optional clock item
clocked-optional None item = refl
clocked-optional (Some name) item = refl

-- ---- clocks are declared

module _ (fabric : Fabric) (within : IsWithin fabric) (writable : IsWritable fabric) (order : List ℕ) (ordered : IsWriteOrder (clocked_wiring fabric) order)
    (scope : Scope) (knows : Knows fabric scope (is_driven fabric)) where
  end-there : (class : ℕ) (end : ClockEnd) (name : List ℕ) → LeadsTo fabric class end → end_name fabric end ≡ Some name → IsClockThere scope name
  end-there class (at_pin place turned) name leads is =
      let same : Some (input_name fabric place) ≡ Some name = is in
      let named : input_name fabric place ≡ name = cc in
      subst (IsClockThere scope) named (input-clock scope (input_name fabric place) (knows.input place (leads-place fabric writable leads place turned refl)))
  end-there class (at_register at_class place turned) name leads is =
      let same : Some (register_at fabric place) ≡ Some name = is in
      let named : register_at fabric place ≡ name = cc in
      let at = item-at fabric.registers place (leads-index fabric within class at_class place turned leads) in
      subst (IsClockThere scope) (sym (at.1.named register_name) ∙ named) (register-clock scope (register_name at.0) (knows.register at.0 at.1.there))
  end-there class (still bit) name leads is = absurd cc
  end-there class logic name leads is = absurd cc

  pub clock-there : (clock : Option ℕ) (name : List ℕ) → clock_name fabric clock ≡ Some name → IsClockThere scope name
  unfolding clock_name
  clock-there None name is = absurd cc
  clock-there (Some net) name is = end-there (class_of fabric.joins net) (clock_end fabric net) name (clock_end-leads_clocked fabric within order ordered net) is

-- ---- what stands before outputs and clocked items

pub record Standing (fabric : Fabric) (k : ℕ) (assigned : List (List ℕ)) (scope : Scope) : Type 0 where
  pub section : scope.section ≤ k
  pub knows : Knows fabric scope (is_driven fabric)
  pub stands : Stands fabric scope
  pub reads : All (IsReadWell fabric) scope.read
  pub assigned_is : scope.assigned ≡ assigned
  pub started_is : scope.started ≡ []

knows-same : (fabric : Fabric) (old new : Scope) (wired : ℕ → Bool) → new.declared ≡ old.declared → Knows fabric old wired → Knows fabric new wired
knows-same fabric old new wired same knows =
    let is : new.declared ≡ old.declared ++ [] = same ∙ sym (append-nil old.declared) in record {
      input = λ place there. there-more old new [] _ sort.Input is (knows.input place there);
      register = λ register there. there-more old new [] _ sort.Register is (knows.register register there);
      read = λ place there. there-more old new [] _ sort.Word is (knows.read place there);
      wire = λ class listed. there-more old new [] _ sort.Wire is (knows.wire class listed);
    }

there-same : (old new : Scope) (name : List ℕ) (as_sort : Sort) → new.declared ≡ old.declared → IsThere old name as_sort → IsThere new name as_sort
there-same old new name as_sort same there = there-more old new [] name as_sort (same ∙ sym (append-nil old.declared)) there

-- a clock stays one
clock-same : (old new : Scope) (name : List ℕ) → new.declared ≡ old.declared → IsClockThere old name → IsClockThere new name
clock-same old new name same there = record { named = there.named; known = subst (λ declared. IsTrue (is_clock (sort_in declared name))) (sym same) there.known }

-- it stays if names are assigned
standing-after : (fabric : Fabric) (j k : ℕ) (assigned names : List (List ℕ)) (before after : Scope) → Standing fabric j assigned before → Assigned before after k names
    → Standing fabric k (assigned ++ names) after
standing-after fabric j k assigned names before after standing more = record {
  section = more.section;
  knows = knows-same fabric before after (is_driven fabric) more.declared_is standing.knows;
  stands = stands-more fabric before after [] (more.declared_is ∙ sym (append-nil before.declared)) standing.stands;
  reads = subst (All (IsReadWell fabric)) (sym more.read_is) standing.reads;
  assigned_is = more.assigned_is ∙ ap (λ list. list ++ names) standing.assigned_is;
  started_is = more.started_is ∙ standing.started_is;
}

-- ---- outputs

module _ (fabric : Fabric) (closed : IsClosed fabric) (writable : IsWritable fabric) (scope : Scope) (standing : Standing fabric 5 [] scope) where
  abbrev IsOutput : Output → Type 0
  IsOutput output = IsThere scope (output_name output) sort.Output × IsSignalThere fabric output.source

  outputs-next : (next : Scope) (output : Output) → IsOutput output → next.section ≤ 6 → next.declared ≡ scope.declared → next.read ≡ scope.read
      → All (λ n. bytes_eq n (output_name output) ≡ false) next.assigned → IsAllowed next (output_assign fabric output)
  outputs-next next output is low same same_read away =
      output-allowed fabric next output (knows-same fabric scope next (is_driven fabric) same standing.knows) is.1
      (there-same scope next (output_name output) sort.Output same is.0) low away

  outputs-are : All IsOutput (outputs_of fabric)
  outputs-are =
      All-both (λ (output : Output). IsThere scope (output_name output) sort.Output) (λ (output : Output). IsSignalThere fabric output.source)
      (λ (output : Output). IsThere scope (output_name output) sort.Output × IsSignalThere fabric output.source) (λ output there ruled. (there, ruled))
      (outputs_of fabric) standing.stands.outputs (outputs-have fabric closed)

  pub outputs-grow : Grows scope (map (output_assign fabric) (outputs_of fabric))
      × Standing fabric 6 (map output_name (outputs_of fabric)) (fold grown scope (map (output_assign fabric) (outputs_of fabric)))
  outputs-grow =
      let found =
      grows-assigned 6 output_name (output_assign fabric) (output-one fabric) IsOutput scope.declared scope.read outputs-next
      (outputs_of fabric) outputs-are (outputs-apart fabric writable.ports) scope (omega (arith, standing.section)) refl refl
      (All-every (λ output. All (λ n. bytes_eq n (output_name output) ≡ false) scope.assigned)
      (λ output. subst (All (λ n. bytes_eq n (output_name output) ≡ false)) (sym standing.assigned_is) (All-nil (λ n. bytes_eq n (output_name output) ≡ false))) (outputs_of fabric)) in
      (found.0, standing-after fabric 5 6 [] (map output_name (outputs_of fabric)) scope (fold grown scope (map (output_assign fabric) (outputs_of fabric))) standing found.1)

-- ---- things that give an item each, where they have ways

-- Their items may stand where each is allowed, and where none of their names is assigned yet.
module _ (fabric : Fabric) {X W : Type 0} (j k : ℕ) (later : j ≤ k) (name : X → List ℕ) (way : X → Option W) (item : X → W → Item) (items : X → List Item)
    (gives : (x : X) → items x ≡ optional (way x) (item x)) (single : AssignsOne {X = X × W} k (λ pair. name pair.0) (λ pair. item pair.0 pair.1))
    (assigned : List (List ℕ)) (scope : Scope) (standing : Standing fabric j assigned scope) where
  pub part-grows : (P : X → Type 0) (Is : X × W → Type 0) → ((x : X) (at : W) → P x → way x ≡ Some at → Is (x, at))
      → ((next : Scope) (pair : X × W) → Is pair → next.section ≤ k → next.declared ≡ scope.declared → next.read ≡ scope.read
      → All (λ n. bytes_eq n (name pair.0) ≡ false) next.assigned → IsAllowed next (item pair.0 pair.1))
      → ((x : X) → All (λ n. bytes_eq n (name x) ≡ false) assigned) → (xs : List X) → All P xs → Apart name xs
      → Grows scope (flat_map items xs) × Standing fabric k (assigned ++ map (λ (pair : X × W). name pair.0) (way_pairs way xs)) (fold grown scope (flat_map items xs))
  part-grows P Is is allowed away xs all apart =
      let pairs = way_pairs way xs in
      let found =
      grows-assigned k (λ (pair : X × W). name pair.0) (λ (pair : X × W). item pair.0 pair.1) single Is scope.declared scope.read allowed
      pairs (pairs-all way P Is is xs all) (pairs-apart way name xs apart) scope (omega (arith, standing.section, later)) refl refl
      (All-every (λ (pair : X × W). All (λ n. bytes_eq n (name pair.0) ≡ false) scope.assigned)
      (λ pair. subst (All (λ n. bytes_eq n (name pair.0) ≡ false)) (sym standing.assigned_is) (away pair.0)) pairs) in
      subst (λ list. Grows scope list × Standing fabric k (assigned ++ map (λ (pair : X × W). name pair.0) pairs) (fold grown scope list)) (sym (given-map way item items gives xs))
      (found.0, standing-after fabric j k assigned (map (λ (pair : X × W). name pair.0) pairs) scope (fold grown scope (map (λ (pair : X × W). item pair.0 pair.1) pairs)) standing found.1)

-- ---- items of registers and of RAM ports

-- the registers, read ports and write ports that are written, with their ways or clocks
pub register_pairs : Fabric → List (Register × Way)
register_pairs fabric = way_pairs (λ register. way_of (setting_wire fabric register) (clock_name fabric register.clk)) fabric.registers

pub read_pairs : Fabric → List (RamCell × List ℕ)
read_pairs fabric = way_pairs (λ ram. clock_name fabric ram.rclk) fabric.rams

pub write_pairs : Fabric → List (RamCell × List ℕ)
write_pairs fabric = way_pairs (λ ram. clock_name fabric ram.wclk) fabric.rams

-- what they assign
pub after_registers : Fabric → List (List ℕ)
after_registers fabric = map output_name (outputs_of fabric) ++ map (λ (pair : Register × Way). register_name pair.0) (register_pairs fabric)

pub after_reads : Fabric → List (List ℕ)
after_reads fabric =
    (map output_name (outputs_of fabric) ++ map (λ (pair : Register × Way). register_name pair.0) (register_pairs fabric))
    ++ map (λ (pair : RamCell × List ℕ). read_name pair.0) (read_pairs fabric)

pub after_writes : Fabric → List (List ℕ)
after_writes fabric =
    ((map output_name (outputs_of fabric) ++ map (λ (pair : Register × Way). register_name pair.0) (register_pairs fabric))
    ++ map (λ (pair : RamCell × List ℕ). read_name pair.0) (read_pairs fabric))
    ++ map (λ (pair : RamCell × List ℕ). memory_name pair.0) (write_pairs fabric)

-- a register whose table has 16 bits and reads pins that are there
abbrev IsTabled : Fabric → Register → Type 0
IsTabled fabric register = (register.table.word < 65536) × HasSignals fabric register

module _ (fabric : Fabric) (within : IsWithin fabric) (writable : IsWritable fabric) (sized : IsStarted fabric) (few : All (λ register. register.table.word < 65536) fabric.registers)
    (order : List ℕ) (ordered : IsWriteOrder (clocked_wiring fabric) order) where
  module _ (scope : Scope) (standing : Standing fabric 6 (map output_name (outputs_of fabric)) scope) where
    -- the wire that sets a register at once is there
    setting-there : (register : Register) (wire : List ℕ) → setting_wire fabric register ≡ Some wire → IsThere scope wire sort.Wire
    setting-there register wire is =
        let found = setting-class fabric (is_driven fabric) 0 register wire (λ n reads connected. connected) is in
        subst (λ name. IsThere scope name sort.Wire) (sym found.1) (standing.knows.wire found.0 found.2)

    -- each way is one that the register may have
    way-is : (register : Register) → Contains fabric.registers register → (wire clock : Option (List ℕ)) → setting_wire fabric register ≡ wire → clock_name fabric register.clk ≡ clock
        → (way : Way) → way_of wire clock ≡ Some way → IsWay scope register way
    way-is register there (Some wire) (Some clock) of_wire of_clock way is =
        let same : acts wire clock ≡ way = cc in
        subst (IsWay scope register) same (
          clock-there fabric within writable order ordered scope standing.knows register.clk clock of_clock,
          setting-there register wire of_wire,
          read-unless fabric scope.read standing.reads register wire there of_wire,
        )
    way-is register there (Some wire) None of_wire of_clock way is =
        let same : sets wire ≡ way = cc in
        subst (IsWay scope register) same (setting-there register wire of_wire, read-unless fabric scope.read standing.reads register wire there of_wire)
    way-is register there None (Some clock) of_wire of_clock way is =
        let same : waits clock ≡ way = cc in
        subst (IsWay scope register) same (clock-there fabric within writable order ordered scope standing.knows register.clk clock of_clock)
    way-is register there None None of_wire of_clock way is = absurd cc

    abbrev IsRegister : Register × Way → Type 0
    IsRegister pair = IsTabled fabric pair.0 × IsThere scope (register_name pair.0) sort.Register × IsWay scope pair.0 pair.1

    tabled-there : All (λ register. IsTabled fabric register × IsThere scope (register_name register) sort.Register × Contains fabric.registers register) fabric.registers
    tabled-there =
        All-both (IsTabled fabric) (λ register. IsThere scope (register_name register) sort.Register × Contains fabric.registers register)
        (λ register. IsTabled fabric register × IsThere scope (register_name register) sort.Register × Contains fabric.registers register)
        (λ register tabled there. (tabled, there.0, there.1)) fabric.registers
        (All-both (λ register. register.table.word < 65536) (HasSignals fabric) (IsTabled fabric) (λ register small sources. (small, sources)) fabric.registers few writable.tables)
        (All-both (λ register. IsThere scope (register_name register) sort.Register) (Contains fabric.registers)
        (λ register. IsThere scope (register_name register) sort.Register × Contains fabric.registers register) (λ register there among. (there, among)) fabric.registers
        standing.stands.registers (All-contains_itself fabric.registers))

    way-same : (next : Scope) (register : Register) → next.declared ≡ scope.declared → next.read ≡ scope.read → (way : Way) → IsWay scope register way → IsWay next register way
    way-same next register same same_read (waits clock) is = clock-same scope next clock same is
    way-same next register same same_read (acts wire clock) is = (
      clock-same scope next clock same is.0,
      there-same scope next wire sort.Wire same is.1,
      ap (λ readings. is_read_unless readings wire register.«set» (register_name register)) same_read ∙ is.2,
    )
    way-same next register same same_read (sets wire) is = (
      there-same scope next wire sort.Wire same is.0,
      ap (λ readings. is_read_unless readings wire register.«set» (register_name register)) same_read ∙ is.1,
    )

    registers-next : (next : Scope) (pair : Register × Way) → IsRegister pair → next.section ≤ 7 → next.declared ≡ scope.declared → next.read ≡ scope.read
        → All (λ n. bytes_eq n (register_name pair.0) ≡ false) next.assigned → IsAllowed next (item_in fabric pair.0 pair.1)
    registers-next next pair is low same same_read away =
        register-allowed fabric next (knows-same fabric scope next (is_driven fabric) same standing.knows) pair.0 is.0.0 is.0.1
        (there-same scope next (register_name pair.0) sort.Register same is.1) low away pair.1 (way-same next pair.0 same same_read pair.1 is.2)

    pub registers-tick : Grows scope (flat_map (register_items fabric) fabric.registers)
        × Standing fabric 7 (after_registers fabric) (fold grown scope (flat_map (register_items fabric) fabric.registers))
    unfolding after_registers register_pairs
    registers-tick =
        part-grows fabric 6 7 (omega arith) register_name (λ register. way_of (setting_wire fabric register) (clock_name fabric register.clk)) (item_in fabric) (register_items fabric)
        (λ register. items_by-way fabric register (setting_wire fabric register) (clock_name fabric register.clk)) (register-one fabric) (map output_name (outputs_of fabric)) scope standing
        (λ register. IsTabled fabric register × IsThere scope (register_name register) sort.Register × Contains fabric.registers register) IsRegister
        (λ register way here is. (here.0, here.1, way-is register here.2 (setting_wire fabric register) (clock_name fabric register.clk) refl refl way is)) registers-next
        (λ register. names-absent output_name (outputs_of fabric) (register_name register) (λ output. output-no_register output register)) fabric.registers tabled-there writable.registers

  module _ (scope : Scope) (standing : Standing fabric 7 (after_registers fabric) scope) where
    abbrev IsRead : RamCell × List ℕ → Type 0
    IsRead pair = IsPorted pair.0 × IsClockThere scope pair.1 × IsThere scope (read_name pair.0) sort.Word × IsThere scope (memory_name pair.0) sort.Memory

    reads-there : All (λ ram. IsPorted ram × IsThere scope (read_name ram) sort.Word × IsThere scope (memory_name ram) sort.Memory) fabric.rams
    reads-there =
        All-both IsPorted (λ ram. IsThere scope (read_name ram) sort.Word × IsThere scope (memory_name ram) sort.Memory) (λ ram. IsPorted ram × IsThere scope (read_name ram) sort.Word × IsThere scope (memory_name ram) sort.Memory)
        (λ ram ported there. (ported, there.0, there.1)) fabric.rams sized.each_port
        (All-both (λ ram. IsThere scope (read_name ram) sort.Word) (λ ram. IsThere scope (memory_name ram) sort.Memory) (λ ram. IsThere scope (read_name ram) sort.Word × IsThere scope (memory_name ram) sort.Memory)
        (λ ram word memory. (word, memory)) fabric.rams standing.stands.reads standing.stands.memories)

    reads-next : (next : Scope) (pair : RamCell × List ℕ) → IsRead pair → next.section ≤ 8 → next.declared ≡ scope.declared → next.read ≡ scope.read
        → All (λ n. bytes_eq n (read_name pair.0) ≡ false) next.assigned → IsAllowed next (read_item fabric pair.0 pair.1)
    reads-next next pair is low same same_read away =
        read-allowed fabric next (knows-same fabric scope next (is_driven fabric) same standing.knows) pair.0 pair.1 is.0
        (clock-same scope next pair.1 same is.1) (there-same scope next (read_name pair.0) sort.Word same is.2) (there-same scope next (memory_name pair.0) sort.Memory same is.3) low away

    reads-away : (ram : RamCell) → All (λ n. bytes_eq n (read_name ram) ≡ false) (after_registers fabric)
    unfolding after_registers
    reads-away ram =
        All-append (λ n. bytes_eq n (read_name ram) ≡ false) (map output_name (outputs_of fabric)) (map (λ (pair : Register × Way). register_name pair.0) (register_pairs fabric))
        (names-absent output_name (outputs_of fabric) (read_name ram) (λ output. output-no_read output ram))
        (names-absent (λ (pair : Register × Way). register_name pair.0) (register_pairs fabric) (read_name ram) (λ pair. register-no_read pair.0 ram))

    pub reads-tick : Grows scope (flat_map (read_items fabric) fabric.rams) × Standing fabric 8 (after_reads fabric) (fold grown scope (flat_map (read_items fabric) fabric.rams))
    unfolding after_reads after_registers read_pairs
    reads-tick =
        part-grows fabric 7 8 (omega arith) read_name (λ ram. clock_name fabric ram.rclk) (read_item fabric) (read_items fabric)
        (λ ram. clocked-optional (clock_name fabric ram.rclk) (read_item fabric ram)) (read-one fabric) (after_registers fabric) scope standing
        (λ ram. IsPorted ram × IsThere scope (read_name ram) sort.Word × IsThere scope (memory_name ram) sort.Memory) IsRead
        (λ ram at here is. (here.0, clock-there fabric within writable order ordered scope standing.knows ram.rclk at is, here.1, here.2)) reads-next reads-away fabric.rams reads-there writable.reads

  module _ (scope : Scope) (standing : Standing fabric 8 (after_reads fabric) scope) where
    abbrev IsWrite : RamCell × List ℕ → Type 0
    IsWrite pair = IsPorted pair.0 × IsClockThere scope pair.1 × IsThere scope (memory_name pair.0) sort.Memory

    writes-there : All (λ ram. IsPorted ram × IsThere scope (memory_name ram) sort.Memory) fabric.rams
    writes-there =
        All-both IsPorted (λ ram. IsThere scope (memory_name ram) sort.Memory) (λ ram. IsPorted ram × IsThere scope (memory_name ram) sort.Memory)
        (λ ram ported there. (ported, there)) fabric.rams sized.each_port standing.stands.memories

    writes-next : (next : Scope) (pair : RamCell × List ℕ) → IsWrite pair → next.section ≤ 9 → next.declared ≡ scope.declared → next.read ≡ scope.read
        → All (λ n. bytes_eq n (memory_name pair.0) ≡ false) next.assigned → IsAllowed next (write_item fabric pair.0 pair.1)
    writes-next next pair is low same same_read away =
        write-allowed fabric next (knows-same fabric scope next (is_driven fabric) same standing.knows) pair.0 pair.1 is.0
        (clock-same scope next pair.1 same is.1) (there-same scope next (memory_name pair.0) sort.Memory same is.2) low away

    writes-away : (ram : RamCell) → All (λ n. bytes_eq n (memory_name ram) ≡ false) (after_reads fabric)
    unfolding after_reads
    writes-away ram =
        All-append (λ n. bytes_eq n (memory_name ram) ≡ false) (map output_name (outputs_of fabric) ++ map (λ (pair : Register × Way). register_name pair.0) (register_pairs fabric))
        (map (λ (pair : RamCell × List ℕ). read_name pair.0) (read_pairs fabric))
        (All-append (λ n. bytes_eq n (memory_name ram) ≡ false) (map output_name (outputs_of fabric)) (map (λ (pair : Register × Way). register_name pair.0) (register_pairs fabric))
        (names-absent output_name (outputs_of fabric) (memory_name ram) (λ output. output-no_memory output ram))
        (names-absent (λ (pair : Register × Way). register_name pair.0) (register_pairs fabric) (memory_name ram) (λ pair. register-no_memory pair.0 ram)))
        (names-absent (λ (pair : RamCell × List ℕ). read_name pair.0) (read_pairs fabric) (memory_name ram) (λ pair. read-no_memory pair.0 ram))

    pub writes-tick : Grows scope (flat_map (write_items fabric) fabric.rams) × Standing fabric 9 (after_writes fabric) (fold grown scope (flat_map (write_items fabric) fabric.rams))
    unfolding after_writes after_reads write_pairs
    writes-tick =
        part-grows fabric 8 9 (omega arith) memory_name (λ ram. clock_name fabric ram.wclk) (write_item fabric) (write_items fabric)
        (λ ram. clocked-optional (clock_name fabric ram.wclk) (write_item fabric ram)) (write-one fabric) (after_reads fabric) scope standing
        (λ ram. IsPorted ram × IsThere scope (memory_name ram) sort.Memory) IsWrite
        (λ ram at here is. (here.0, clock-there fabric within writable order ordered scope standing.knows ram.wclk at is, here.1)) writes-next writes-away fabric.rams writes-there writable.memories
