-- The written module of a fabric is well-formed.
use Rattle.std.proofs.Common.{◌≡◌, ℕ, ◌<◌, true, false, List, [], ◌∷◌, ◌++◌, map, get_or, fold, refl, sym, ap, ◌∙◌, subst, arith, append_assoc}
use Rattle.std.specs.Prelude.{All, flat_map, bytes_eq}
use Rattle.std.proofs.lemmas.Grind.{flat_map-append}
use Rattle.std.proofs.lemmas.List.Elements.{All-nil}
use Rattle.bit_plane.specs.BitList.{word_of}
use Rattle.vlog_module.specs.Maps.{value_in}
use Rattle.vlog_module.specs.declared.sort.Sort.TheVariants as sort
use Rattle.vlog_module.specs.declared.item.Item.{Item}
use Rattle.vlog_module.specs.Names.{IsName}
use Rattle.vlog_module.specs.WellFormed.{wire_readings, Scope, scope_of, IsRight, IsComplete, IsModule}
use Rattle.fabric_model.specs.declared.ram.RamCell.{RamCell}
use Rattle.fabric_model.specs.Fabric.{Fabric, numbered}
use Rattle.fabric_model.specs.Outputs.{outputs_of}
use Rattle.fabric_model.proofs.Apart.{apart-numbered, All-every}
use Rattle.fabric_model.specs.Drivers.{is_driven}
use Rattle.graph_order.specs.Wiring.{has, IsWriteOrder}
use Rattle.fabric_model.specs.Wiring.{clocked_wiring}
use Rattle.graph_order.proofs.OneOrder.{order-continues}
use Rattle.fabric_model.proofs.OneValue.{IsWithin, driven-below}
use Rattle.fabric_model.proofs.Clocking.{clocked-count, clocked-driven}
use Rattle.fabric_model.proofs.Within.{All-numbered}
use Rattle.fabric_module.specs.Names.{output_name, memory_name, wire_name}
use Rattle.fabric_module.specs.Rights.{class_right}
use Rattle.fabric_module.specs.Written.{register_item, read_register, ram_memory, class_wire, output_assign, register_items, read_items, write_items, start_items, items_of, module_of}
use Rattle.fabric_module.proofs.Lists.{NamesDiffer, value_in-after}
use Rattle.fabric_module.proofs.Ports.{ports_of, port_label}
use Rattle.fabric_module.proofs.Settled.{IsWritable}
use Rattle.fabric_module.proofs.Beginning.{IsStarted}
use Rattle.fabric_module.proofs.Named.{wire-named, distinct-names}
use Rattle.fabric_module.proofs.Grown.{grown, grown-reads, reads-grow, Grows, Grows-append, grows-begun}
use Rattle.fabric_module.proofs.Readings.{IsReadWell, classes-well}
use Rattle.fabric_module.proofs.Declared.{AreNamed, StateLeft, Declared, state-grows, state-left}
use Rattle.fabric_module.proofs.Used.{IsThere}
use Rattle.fabric_module.proofs.Wired.{wires-grow}
use Rattle.fabric_module.proofs.Known.{Stands, stands-more, stands-knows, state-stands, state-no_wire, state-knows, wire-listed}
use Rattle.fabric_module.proofs.Clocks.{Standing, after_writes, outputs-grow, registers-tick, reads-tick, writes-tick}
use Rattle.fabric_module.proofs.Starts.{NotStarted, all-start}
use Rattle.fabric_module.proofs.Complete.{outputs-complete}

-- What the items of a fabric need: names, tables of 16 bits, and start words of 16 bits.
pub record IsShapely (fabric : Fabric) : Type 0 where
  pub named : AreNamed fabric
  pub tables : All (λ register. register.table.word < 65536) fabric.registers
  pub rights : (class : ℕ) → IsRight (class_right fabric class)
  pub words : (place k : ℕ) → word_of (get_or (get_or fabric.start place []) k []) < 65536

module _ (fabric : Fabric) (within : IsWithin fabric) (writable : IsWritable fabric) (sized : IsStarted fabric) (shapely : IsShapely fabric)
    (order : List ℕ) (ordered : IsWriteOrder (clocked_wiring fabric) order) where
  -- ---- the wires after the state

  module _ (scope : Scope) (left : StateLeft fabric scope) (reads : scope.read ≡ []) where
    wires-after : Grows scope (map (class_wire fabric) order) × Declared scope (fold grown scope (map (class_wire fabric) order)) 5 (map (λ c. (wire_name c, sort.Wire)) order)
    wires-after =
        wires-grow fabric within writable shapely.rights (order-continues (clocked_wiring fabric) order ordered) scope (omega (arith, left.section))
        (state-knows fabric writable shapely.named scope left) (λ class driven fresh. state-no_wire fabric writable shapely.named scope left class)

    wire-after : (after : Scope) → Declared scope after 5 (map (λ c. (wire_name c, sort.Wire)) order) → (class : ℕ) → is_driven fabric class ≡ true → IsThere after (wire_name class) sort.Wire
    wire-after after more class driven =
        let below : class < fabric.nets = driven-below fabric within class driven in
        let listed : has order class ≡ true = ordered.whole class (subst (λ n. class < n) (sym (clocked-count fabric)) below) (clocked-driven fabric class ∙ driven) in
        record {
          named = wire-named class (omega (arith, below, writable.few));
          declared = ap (λ list. value_in list (wire_name class)) more.declared_is
              ∙ (value_in-after scope.declared (map (λ c. (wire_name c, sort.Wire)) order) (wire_name class) (state-no_wire fabric writable shapely.named scope left class)
              ∙ wire-listed order class listed);
        }

    standing-wires : Standing fabric 5 [] (fold grown scope (map (class_wire fabric) order))
    standing-wires =
        let after = fold grown scope (map (class_wire fabric) order) in
        let stands : Stands fabric after = stands-more fabric scope after (map (λ c. (wire_name c, sort.Wire)) order) wires-after.1.declared_is (state-stands fabric writable shapely.named scope left) in
        record {
          section = wires-after.1.section;
          knows = stands-knows fabric after (is_driven fabric) stands (wire-after after wires-after.1);
          stands = stands;
          reads = reads-grow (IsReadWell fabric) scope (map (class_wire fabric) order) (subst (All (IsReadWell fabric)) (sym reads) (All-nil (IsReadWell fabric))) (classes-well fabric writable order);
          assigned_is = wires-after.1.assigned_is ∙ left.assigned_is;
          started_is = wires-after.1.started_is ∙ left.started_is;
        }

  -- ---- the items after the wires

  starts-end : (scope : Scope) → Standing fabric 9 (after_writes fabric) scope → Grows scope (flat_map (start_items fabric) (numbered fabric.rams))
  starts-end scope standing =
      all-start fabric shapely.words (numbered fabric.rams) (apart-numbered (NamesDiffer memory_name) 0 fabric.rams writable.memories) scope (omega (arith, standing.section))
      (All-numbered (λ ram. IsThere scope (memory_name ram) sort.Memory) 0 fabric.rams standing.stands.memories)
      (All-every (λ (place : ℕ × RamCell). NotStarted scope.started place.1)
      (λ place. subst (λ list. NotStarted list place.1) (sym standing.started_is) (All-nil (λ (p : List ℕ × ℕ). bytes_eq p.0 (memory_name place.1) ≡ false))) (numbered fabric.rams))

  clocked-end : (scope : Scope) → Standing fabric 6 (map output_name (outputs_of fabric)) scope
      → Grows scope (flat_map (register_items fabric) fabric.registers ++ (flat_map (read_items fabric) fabric.rams ++ (flat_map (write_items fabric) fabric.rams ++ flat_map (start_items fabric) (numbered fabric.rams))))
  clocked-end scope standing =
      let registers = registers-tick fabric within writable sized shapely.tables order ordered scope standing in
      let second = fold grown scope (flat_map (register_items fabric) fabric.registers) in
      let reads = reads-tick fabric within writable sized shapely.tables order ordered second registers.1 in
      let third = fold grown second (flat_map (read_items fabric) fabric.rams) in
      let writes = writes-tick fabric within writable sized shapely.tables order ordered third reads.1 in
      let last = fold grown third (flat_map (write_items fabric) fabric.rams) in
      Grows-append scope (flat_map (register_items fabric) fabric.registers) _ registers.0
      (Grows-append second (flat_map (read_items fabric) fabric.rams) _ reads.0
      (Grows-append third (flat_map (write_items fabric) fabric.rams) _ writes.0 (starts-end last writes.1)))

  -- the items from the wires on
  ends : List Item
  ends =
      map (output_assign fabric) (outputs_of fabric)
      ++ (flat_map (register_items fabric) fabric.registers ++ (flat_map (read_items fabric) fabric.rams ++ (flat_map (write_items fabric) fabric.rams ++ flat_map (start_items fabric) (numbered fabric.rams))))

  ends-grow : (scope : Scope) → Standing fabric 5 [] scope → Grows scope ends
  unfolding ends
  ends-grow scope standing =
      let outputs = outputs-grow fabric within.closed writable scope standing in
      Grows-append scope (map (output_assign fabric) (outputs_of fabric)) _ outputs.0 (clocked-end (fold grown scope (map (output_assign fabric) (outputs_of fabric))) outputs.1)

  state : List Item
  state = map register_item fabric.registers ++ (map read_register fabric.rams ++ map ram_memory fabric.rams)

  parts-are : items_of fabric order ≡ (state ++ map (class_wire fabric) order) ++ ends
  unfolding items_of state ends
  parts-are =
      let rest = map (class_wire fabric) order ++ ends in
      sym (append_assoc (map register_item fabric.registers ++ (map read_register fabric.rams ++ map ram_memory fabric.rams)) (map (class_wire fabric) order) ends
      ∙ (append_assoc (map register_item fabric.registers) (map read_register fabric.rams ++ map ram_memory fabric.rams) rest
      ∙ ap (λ list. map register_item fabric.registers ++ list) (append_assoc (map read_register fabric.rams) (map ram_memory fabric.rams) rest)))

  -- the items of the state are no wires
  mapped-still : {X : Type 0} (item : X → Item) → ((x : X) → wire_readings (item x) ≡ []) → (xs : List X) → flat_map wire_readings (map item xs) ≡ []
  mapped-still item none [] = refl
  mapped-still item none (x ∷ xs) = rw (none x) (mapped-still item none xs)

  still-both : (first second : List Item) → flat_map wire_readings first ≡ [] → flat_map wire_readings second ≡ [] → flat_map wire_readings (first ++ second) ≡ []
  still-both first second of_first of_second = flat_map-append wire_readings first second ∙ (rw (of_first, of_second) refl)

  state-still : flat_map wire_readings state ≡ []
  unfolding state
  state-still =
      still-both (map register_item fabric.registers) (map read_register fabric.rams ++ map ram_memory fabric.rams)
      (mapped-still register_item (λ register. refl) fabric.registers)
      (still-both (map read_register fabric.rams) (map ram_memory fabric.rams) (mapped-still read_register (λ ram. refl) fabric.rams) (mapped-still ram_memory (λ ram. refl) fabric.rams))

  state-reads : (fold grown (scope_of (ports_of fabric) []) state).read ≡ []
  state-reads = grown-reads (scope_of (ports_of fabric) []) state ∙ state-still

  items-grow : Grows (scope_of (ports_of fabric) []) (items_of fabric order)
  unfolding state
  items-grow =
      let left = state-left fabric writable shapely.named in
      let after = fold grown (scope_of (ports_of fabric) []) state in
      let wires = wires-after after left state-reads in
      subst (Grows (scope_of (ports_of fabric) [])) (sym (parts-are ∙ append_assoc state (map (class_wire fabric) order) ends))
      (Grows-append (scope_of (ports_of fabric) []) state (map (class_wire fabric) order ++ ends) (state-grows fabric writable shapely.named)
      (Grows-append after (map (class_wire fabric) order) ends wires.0 (ends-grow (fold grown after (map (class_wire fabric) order)) (standing-wires after left state-reads))))

  items-complete : IsComplete (ports_of fabric) (items_of fabric order)
  unfolding ends
  items-complete = subst (IsComplete (ports_of fabric)) (sym parts-are) (outputs-complete fabric (state ++ map (class_wire fabric) order) _)

  -- the written module is a module
  pub module-well_formed : (name : List ℕ) → IsName name → IsModule (module_of fabric order name)
  unfolding module_of
  module-well_formed name is = record {
    named = is;
    begun = grows-begun (ports_of fabric) (items_of fabric order)
        shapely.named.ports (distinct-names port_label (ports_of fabric) writable.ports)
        items-grow;
    complete = items-complete;
  }
