use Rattle.std.proofs.Common.{ℕ, List, ap, arith, length, refl, subst, sym, ◌∙◌}
use Rattle.std.proofs.lemmas.List.{with_items_is}
use Rattle.std.specs.Vec.{with_items}
use Rattle.vlog_engine.specs.Circuits.{watched}
use Rattle.vlog_engine.specs.Lanes.{lane_bits}
use Rattle.vlog_engine.specs.Marks.{IsTracked}
use Rattle.vlog_engine.specs.Passing.{IsSettled}
use Rattle.vlog_engine.proofs.Lanes.{lane-length}
use Rattle.vlog_engine.proofs.Watched.{wires-first}
use Rattle.vlog_engine.proofs.board.Board.settle.Goals as goal

pub returns-clause-same : goal.returns-clause-same
returns-clause-same g c = record { layout = refl; circuit = refl; words_room = refl }

pub returns-clause-settled : goal.returns-clause-settled
returns-clause-settled g c lane within =
    let at = g.V.Value.at in
    let active = at c.args.active lane in
    let r = c.args.self.now in
    let gates = r.circuit.gates.items in
    let settles = r.circuit.settles.items in
    let new_cells = with_items_is r.cells c.settle.new.cells (omega (arith, c.settle.auto.cells, r.cells.ok.0, ap length c.deref_mut.ensures.value)) in
    let new_marks = with_items_is r.marks c.settle.new.marks (omega (arith, c.settle.auto.marks, r.marks.ok.0, ap (λ (list : List ℕ). length list) c.deref_mut-2.ensures.value)) in
    let before_is = ap (lane_bits at lane) c.deref_mut.ensures.value in
    let last_cells = with_items r.cells c.settle.new.cells in
    let last_marks = with_items r.marks c.settle.new.marks in
    record {
      words = refl;
      memories = refl;
      outputs = refl;
      idle = λ off. ap (lane_bits at lane) new_cells ∙ c.settle.ensures.idle lane within off ∙ before_is;
      settled = λ first count rising room tracked.
          subst (λ k. IsSettled active first count gates (watched r.circuit) settles k (lane_bits at lane last_cells.items) last_marks.items) before_is
          (subst (λ k. IsSettled active first count gates (watched r.circuit) settles (lane_bits at lane c.deref_mut.result.now) k last_marks.items) (sym (ap (lane_bits at lane) new_cells))
          (subst (IsSettled active first count gates (watched r.circuit) settles (lane_bits at lane c.deref_mut.result.now) (lane_bits at lane c.settle.new.cells)) (sym new_marks)
          (c.settle.ensures.settled lane first count (watched r.circuit) within rising (wires-first r.circuit) r.circuit_is.read (omega (arith, room, lane-length at lane r.cells.items, ap length c.deref_mut.ensures.value))
          (subst (λ k. IsTracked (watched r.circuit) k c.deref_mut-2.result.now) (sym before_is)
          (subst (IsTracked (watched r.circuit) (lane_bits at lane r.cells.items)) (sym c.deref_mut-2.ensures.value) tracked)))));
    }
