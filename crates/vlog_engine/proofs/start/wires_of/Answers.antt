use Rattle.std.proofs.Common.{ℕ, Bool, true, List, ap, arith, length, subst, sym, ◌∙◌}
use Rattle.std.proofs.lemmas.List.{with_items_is}
use Rattle.std.specs.Vec.{with_items}
use Rattle.vlog_engine.specs.Circuits.{watched}
use Rattle.vlog_engine.specs.Lanes.{lane_bits}
use Rattle.vlog_engine.specs.Passing.{IsSettled}
use Rattle.vlog_semantics.specs.Cells.{cells_of}
use Rattle.vlog_engine.proofs.start.wires_of.Goals as goal

pub returns-clause-started : goal.returns-clause-started
returns-clause-started g c =
    let at = g.V.Value.at in
    let first = c.args.layout.now.first_wire in
    let circuit = c.in_ok-circuit.circuit in
    let known = c.in_ok-circuit.ensures.circuit in
    let marks = c.in_ok-marks.marks in
    let cells = c.in_ok-cells.cells in
    let changes = c.in_ok-changes.changes in
    let before : List Bool = cells_of c.args.bits.now c.args.words.now in
    let new_cells = with_items_is cells c.settle_first.new.cells (omega (arith, c.settle_first.auto.cells, cells.ok.0, ap length c.deref_mut.ensures.value)) in
    let new_marks = with_items_is marks c.settle_first.new.marks (omega (arith, c.settle_first.auto.marks, marks.ok.0, ap (λ (list : List ℕ). length list) c.deref_mut-2.ensures.value)) in
    let changes_count = ap length c.deref_mut-3.ensures.value in
    let new_changes = with_items_is changes c.settle_first.new.changes (omega (arith, c.settle_first.auto.changes, changes.ok.0, changes_count)) in
    let cells_count = ap length new_cells in
    let room_count = ap length new_changes in
    let last_cells = with_items cells c.settle_first.new.cells in
    let last_marks = with_items marks c.settle_first.new.marks in
    record {
      circuit = known;
      waves = c.in_ok-circuit.ensures.waves;
      rising = c.in_ok-circuit.ensures.rising;
      falling = c.in_ok-circuit.ensures.falling;
      cells_room = omega (arith, cells_count, c.settle_first.auto.cells, ap length c.deref_mut.ensures.value, c.in_ok-cells.ensures.count);
      flips_room = omega (arith, room_count, c.settle_first.auto.changes, changes_count, c.in_ok-changes.ensures.flips, c.len.ensures, c.args.layout.now.plan.flips.ok.0);
      settles_room = omega (arith, room_count, c.settle_first.auto.changes, changes_count, c.in_ok-changes.ensures.settles, c.len-2.ensures, c.args.layout.now.plan.settles.ok.0);
      settled = λ lane count inside rising within.
          let start_is = ap (lane_bits at lane) c.deref_mut.ensures.value ∙ c.in_ok-cells.ensures.lanes lane inside in
          let now_is = ap (lane_bits at lane) new_cells in
          subst (λ b. IsSettled true first count circuit.gates.items (watched circuit) circuit.settles.items b (lane_bits at lane last_cells.items) last_marks.items) start_is
          (subst (λ k. IsSettled true first count circuit.gates.items (watched circuit) circuit.settles.items (lane_bits at lane c.deref_mut.result.now) k last_marks.items) (sym now_is)
          (subst (IsSettled true first count circuit.gates.items (watched circuit) circuit.settles.items (lane_bits at lane c.deref_mut.result.now) (lane_bits at lane c.settle_first.new.cells)) (sym new_marks)
          (c.settle_first.ensures lane first count inside rising known.read (omega (arith, within, ap length c.deref_mut.ensures.value, c.in_ok-cells.ensures.count)))));
    }
