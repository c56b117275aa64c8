use Rattle.std.proofs.Common.{◌++◌, ℕ, Bool, List, ap, arith, length, length-append, subst, sym, ◌∙◌}
use Rattle.vlog_semantics.specs.ModuleSlots.{register_names, wire_names}
use Rattle.vlog_semantics.specs.Run.{input_names}
use Rattle.vlog_semantics.proofs.Showing.{start-bits}
use Rattle.vlog_engine.specs.Circuits.{AreWaves, IsCircuit}
use Rattle.vlog_engine.specs.Lanes.{AreLanes}
use Rattle.vlog_engine.proofs.First.{cells-room, few-room, first-lane}
use Rattle.vlog_engine.proofs.board.Board.new.Goals as goal

pub returns : goal.returns
returns g c lane within =
    let m = c.args.module.now in
    let first = c.in_ok-start.start in
    let begins = c.in_ok-start.ensures in
    let made = c.in_ok-started.started in
    let known = c.in_ok-started.ensures in
    let here = first-lane g.V.Value.LANES g.V.Value.at m first begins c.deref.result.now c.deref-2.result.now c.deref-3.result.now made known c.deref.ensures.value c.deref-2.ensures.value c.deref-3.ensures.value lane within in
    record { within = within; whole = c.items.ensures.well_formed; laid_out = begins.laid_out; bit_count = here.bit_count; cells = here.cells; shown = here.shown; tracked = here.tracked }

pub started_of-requires-clause-room : goal.started_of-requires-clause-room
started_of-requires-clause-room g c =
    omega (
      arith,
      c.in_ok-start.ensures.cells,
      ap (λ (list : List Bool). length list) c.deref.ensures.value,
      ap (λ (list : List ℕ). length list) c.deref-2.ensures.value,
    )

pub started_of-requires-clause-first : goal.started_of-requires-clause-first
started_of-requires-clause-first g c =
    let m = c.args.module.now in
    let begins = c.in_ok-start.ensures in
    omega (
      arith,
      begins.laid_out.first_wire,
      length-append (input_names m.ports ++ register_names m.items) (wire_names m.items),
      start-bits m c.in_ok-start.start.bits.items begins.bits,
      ap (λ (list : List Bool). length list) c.deref.ensures.value,
    )

pub invariant_of-result-clause-circuit_is : goal.invariant_of-result-clause-circuit_is
invariant_of-result-clause-circuit_is g c =
    let first = c.in_ok-start.start in
    let layout = first.layout in
    let circuit = c.in_ok-started.started.wires.circuit in
    let known = c.in_ok-started.ensures.wires.circuit in
    subst (λ n. IsCircuit layout.first_wire n first.words.len layout.plan circuit) (sym known.bits_are)
    (subst (λ n. IsCircuit layout.first_wire (length c.deref.result.now) n layout.plan circuit)
    (ap (λ (list : List ℕ). length list) c.deref-2.ensures.value ∙ sym first.words.ok.0) known)

pub invariant_of-result-clause-rising_room : goal.invariant_of-result-clause-rising_room
invariant_of-result-clause-rising_room g c = c.in_ok-started.started.wires.circuit.rising.ok.0 ∙ c.in_ok-started.ensures.wires.rising

pub invariant_of-result-clause-falling_room : goal.invariant_of-result-clause-falling_room
invariant_of-result-clause-falling_room g c = c.in_ok-started.started.wires.circuit.falling.ok.0 ∙ c.in_ok-started.ensures.wires.falling

pub invariant_of-result-clause-cells_room : goal.invariant_of-result-clause-cells_room
invariant_of-result-clause-cells_room g c =
    let known = c.in_ok-started.ensures.wires in
    let wires = c.in_ok-started.started.wires in
    let words = c.in_ok-start.start.words in
    cells-room (length c.deref.result.now) (length c.deref-2.result.now) (length wires.cells.items) wires.cells.len wires.circuit.bits words.len (length words.items)
    known.cells_room known.circuit.bits_are wires.cells.ok.0 words.ok.0 (ap (λ (list : List ℕ). length list) c.deref-2.ensures.value)

pub invariant_of-result-clause-lanes : goal.invariant_of-result-clause-lanes
invariant_of-result-clause-lanes g c =
    let words = c.in_ok-start.start.words in
    subst (λ n. AreLanes g.V.Value.LANES n c.in_ok-started.started.words.items) (ap (λ (list : List ℕ). length list) c.deref-2.ensures.value ∙ sym words.ok.0) c.in_ok-started.ensures.lanes_are

pub invariant_of-result-clause-memory_lanes : goal.invariant_of-result-clause-memory_lanes
invariant_of-result-clause-memory_lanes g c = c.in_ok-started.started.memories.ok.0 ∙ c.in_ok-started.ensures.memory_lanes

pub invariant_of-result-clause-writes_room : goal.invariant_of-result-clause-writes_room
invariant_of-result-clause-writes_room g c = c.in_ok-started.started.written.ok.0 ∙ c.in_ok-started.ensures.writes_room ∙ sym c.in_ok-start.start.layout.plan.writes.ok.0

pub invariant_of-result-clause-outputs_room : goal.invariant_of-result-clause-outputs_room
invariant_of-result-clause-outputs_room g c = c.in_ok-started.started.outputs.ok.0 ∙ c.in_ok-started.ensures.outputs_room ∙ sym c.in_ok-start.start.layout.plan.outputs.ok.0

pub invariant_of-result-clause-flips_room : goal.invariant_of-result-clause-flips_room
invariant_of-result-clause-flips_room g c =
    few-room c.in_ok-start.start.layout.plan.flips.len (length c.in_ok-start.start.layout.plan.flips.items) (length c.in_ok-started.started.wires.changes.items) c.in_ok-started.started.wires.changes.len
    c.in_ok-start.start.layout.plan.flips.ok.0 c.in_ok-started.ensures.wires.flips_room c.in_ok-started.started.wires.changes.ok.0

pub invariant_of-result-clause-settles_room : goal.invariant_of-result-clause-settles_room
invariant_of-result-clause-settles_room g c =
    few-room c.in_ok-start.start.layout.plan.settles.len (length c.in_ok-start.start.layout.plan.settles.items) (length c.in_ok-started.started.wires.changes.items) c.in_ok-started.started.wires.changes.len
    c.in_ok-start.start.layout.plan.settles.ok.0 c.in_ok-started.ensures.wires.settles_room c.in_ok-started.started.wires.changes.ok.0

pub invariant_of-result-clause-waves_are : goal.invariant_of-result-clause-waves_are
invariant_of-result-clause-waves_are g c =
    let first = c.in_ok-start.start in
    let layout = first.layout in
    let circuit = c.in_ok-started.started.wires.circuit in
    let known = c.in_ok-started.ensures.wires in
    subst (λ n. AreWaves layout.input_count layout.first_wire n first.words.len circuit.roots.items layout.plan circuit.waves) (sym known.circuit.bits_are)
    (subst (λ n. AreWaves layout.input_count layout.first_wire (length c.deref.result.now) n circuit.roots.items layout.plan circuit.waves)
    (ap (λ (list : List ℕ). length list) c.deref-2.ensures.value ∙ sym first.words.ok.0) known.waves)

pub invariant_of-result-clause-sources_room : goal.invariant_of-result-clause-sources_room
invariant_of-result-clause-sources_room g c =
    let m = c.args.module.now in
    let begins = c.in_ok-start.ensures in
    omega (
      arith,
      begins.laid_out.first_wire,
      length-append (input_names m.ports ++ register_names m.items) (wire_names m.items),
      start-bits m c.in_ok-start.start.bits.items begins.bits,
      ap (λ (list : List Bool). length list) c.deref.ensures.value,
      c.in_ok-started.ensures.wires.circuit.bits_are,
    )
