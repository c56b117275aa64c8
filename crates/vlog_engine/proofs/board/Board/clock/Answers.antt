use Rattle.std.proofs.Common.{◌≡◌, ◌<◌, ◌+◌, ◌*◌, List, [], ℕ, false, replicate, true, ap, ap₂, arith, length, refl, subst, sym, ◌∙◌}
use Rattle.std.proofs.lemmas.List.{with_items_is}
use Rattle.std.specs.List.{All}
use Rattle.std.specs.Vec.{with_items}
use Rattle.vlog_semantics.specs.Cells.{zero_cell}
use Rattle.vlog_engine.specs.Circuits.{IsWatched, watched}
use Rattle.vlog_engine.specs.Flips.{IsOver}
use Rattle.vlog_engine.specs.Lanes.{AreLanes, lane_bits, list_of}
use Rattle.vlog_engine.specs.Marks.{IsRead, IsTracked}
use Rattle.vlog_engine.specs.Passing.{IsClocked}
use Rattle.vlog_engine.specs.Roots.{held_by, root}
use Rattle.vlog_engine.specs.StepKinds.{Step}
use Rattle.vlog_engine.specs.Triggers.{step_by}
use Rattle.vlog_engine.specs.Waves.{earlier_in}
use Rattle.vlog_engine.specs.Boards.{cells_in}
use Rattle.vlog_engine.proofs.Bits.{no-both}
use Rattle.vlog_engine.proofs.Joining.{roots-below}
use Rattle.vlog_engine.proofs.Over.{group-over, group-targets}
use Rattle.vlog_engine.proofs.Rooms.{flips-few, writes-few}
use Rattle.vlog_engine.proofs.Stored.{clocked-idle, clocked-like}
use Rattle.vlog_engine.proofs.board.Board.clock.Goals as goal

-- what the step runs is what the plan has for it
pub clock-requires-clause-written : goal.clock-requires-clause-written
clock-requires-clause-written g c =
    let r = c.args.self.now in
    let grouped = c.group_by.ensures.group r.layout.input_count r.layout.first_wire r.circuit.bits r.next_words.len r.layout.plan [] [] r.circuit_is r.waves_are c.requires.cause in
    omega (arith, writes-few (step_by c.args.cause [] []) r.layout.first_wire r.circuit.bits r.next_words.len r.circuit.roots.items r.layout.plan c.group_by.result.now grouped, r.writes_room, r.layout.plan.writes.ok.0, r.written.ok.0, c.deref_mut-6.ensures.len)

pub clock-requires-clause-changes : goal.clock-requires-clause-changes
clock-requires-clause-changes g c =
    let r = c.args.self.now in
    let grouped = c.group_by.ensures.group r.layout.input_count r.layout.first_wire r.circuit.bits r.next_words.len r.layout.plan [] [] r.circuit_is r.waves_are c.requires.cause in
    omega (arith, flips-few (step_by c.args.cause [] []) r.layout.first_wire r.circuit.bits r.next_words.len r.circuit.roots.items r.layout.plan c.group_by.result.now grouped, r.flips_room, r.layout.plan.flips.ok.0, r.changes.ok.0, c.deref_mut-7.ensures.len)

-- its flip-flops are over cells that there are
pub clock-requires-clause-over : goal.clock-requires-clause-over
clock-requires-clause-over g c =
    let r = c.args.self.now in
    let bits = r.circuit.bits in
    let words = r.next_words.len in
    let grouped = c.group_by.ensures.group r.layout.input_count r.layout.first_wire bits words r.layout.plan [] [] r.circuit_is r.waves_are c.requires.cause in
    let total : ℕ = bits + 16 * words + 2 in
    let below : (cell : ℕ) → root r.circuit.roots.items cell < total =
    λ cell. subst (λ list. root list cell < total) (sym r.circuit_is.roots) (roots-below (zero_cell bits words) (held_by (replicate total false) r.layout.plan.settles.items) total r.layout.plan.gates.items (omega arith) cell) in
    let size : total ≡ length c.deref_mut.result.now = omega (arith, r.cells_room, r.cells.ok.0, ap length c.deref_mut.ensures.value) in
    subst (λ n. All (IsOver n) c.group_by.result.now.flips.items) size
    (group-over (step_by c.args.cause [] []) r.layout.first_wire bits words total r.circuit.roots.items (omega arith) below r.layout.plan c.group_by.result.now grouped (omega (arith, r.sources_room)))

pub clock-requires-clause-targets : goal.clock-requires-clause-targets
clock-requires-clause-targets g c =
    let r = c.args.self.now in
    let bits = r.circuit.bits in
    let words = r.next_words.len in
    let grouped = c.group_by.ensures.group r.layout.input_count r.layout.first_wire bits words r.layout.plan [] [] r.circuit_is r.waves_are c.requires.cause in
    let total : ℕ = bits + 16 * words + 2 in
    let below : (cell : ℕ) → root r.circuit.roots.items cell < total =
    λ cell. subst (λ list. root list cell < total) (sym r.circuit_is.roots) (roots-below (zero_cell bits words) (held_by (replicate total false) r.layout.plan.settles.items) total r.layout.plan.gates.items (omega arith) cell) in
    group-targets (step_by c.args.cause [] []) r.layout.first_wire bits words total r.circuit.roots.items (omega arith) below r.layout.plan c.group_by.result.now grouped bits r.sources_room

pub clock-requires-clause-words : goal.clock-requires-clause-words
clock-requires-clause-words g c =
    let r = c.args.self.now in
    let count = r.next_words.ok.0 ∙ ap (λ (list : List ℕ). length list) (sym c.deref_mut-4.ensures.value) in
    subst (λ n. AreLanes g.V.Value.LANES n c.deref_mut-3.result.now) count (subst (AreLanes g.V.Value.LANES r.next_words.len) (sym c.deref_mut-3.ensures.value) r.lanes)

pub clock-requires-clause-places : goal.clock-requires-clause-places
clock-requires-clause-places g c =
    let r = c.args.self.now in
    let group_watched = c.group_by.ensures.watched r.layout.first_wire r.circuit.bits r.next_words.len r.layout.plan r.circuit_is in
    omega (arith, group_watched.places.fit, r.circuit_is.watched_count)

pub clock-requires-clause-apart : goal.clock-requires-clause-apart
clock-requires-clause-apart g c =
    let r = c.args.self.now in
    (c.group_by.ensures.watched r.layout.first_wire r.circuit.bits r.next_words.len r.layout.plan r.circuit_is).apart.0

-- a lane that is tracked stays tracked, active or not
pub returns-clause-tracked : goal.returns-clause-tracked
returns-clause-tracked g c lane within tracked =
    let at = g.V.Value.at in
    let r = c.args.self.now in
    let all = watched r.circuit in
    let new_cells = with_items_is r.cells c.clock.new.cells (omega (arith, c.clock.auto.cells, r.cells.ok.0, ap length c.deref_mut.ensures.value)) in
    let new_marks = with_items_is r.marks c.clock.new.marks (omega (arith, c.clock.auto.marks, r.marks.ok.0, ap (λ (list : List ℕ). length list) c.deref_mut-2.ensures.value)) in
    subst (λ k. IsTracked all k (with_items r.marks c.clock.new.marks).items) (sym (ap (lane_bits at lane) new_cells))
    (subst (IsTracked all (lane_bits at lane c.clock.new.cells)) (sym new_marks)
    (c.clock.ensures.tracked lane all within (c.group_by.ensures.watched r.layout.first_wire r.circuit.bits r.next_words.len r.layout.plan r.circuit_is)
    (subst (IsRead all) (sym c.deref-2.ensures.value) r.circuit_is.read)
    (subst (λ k. IsTracked all k c.deref_mut-2.result.now) (sym (ap (lane_bits at lane) c.deref_mut.ensures.value))
    (subst (IsTracked all (lane_bits at lane r.cells.items)) (sym c.deref_mut-2.ensures.value) tracked))))

pub returns-clause-clocked : goal.returns-clause-clocked
returns-clause-clocked g c lane within on =
    let at = g.V.Value.at in
    let r = c.args.self.now in
    let bits = r.circuit.bits in
    let new_cells = with_items_is r.cells c.clock.new.cells (omega (arith, c.clock.auto.cells, r.cells.ok.0, ap length c.deref_mut.ensures.value)) in
    let new_words = with_items_is r.words c.clock.new.words (omega (arith, c.clock.auto.words, r.words.ok.0, ap length c.deref_mut-3.ensures.value)) in
    let new_memories = with_items_is r.memories c.clock.new.memories (omega (arith, c.clock.auto.memories, r.memories.ok.0, ap length c.deref_mut-5.ensures.value)) in
    let step : Step = step_by c.args.cause (earlier_in r lane) (cells_in r lane) in
    let step_is : step_by c.args.cause (lane_bits at lane c.deref.result.now) (lane_bits at lane c.deref_mut.result.now) ≡ step =
    ap₂ (λ earlier now. step_by c.args.cause earlier now) (ap (lane_bits at lane) c.deref.ensures.value) (ap (lane_bits at lane) c.deref_mut.ensures.value) in
    let all = watched r.circuit in
    let group_watched : IsWatched all c.group_by.result.now = c.group_by.ensures.watched r.layout.first_wire bits r.next_words.len r.layout.plan r.circuit_is in
    let given : IsTracked all (lane_bits at lane r.cells.items) r.marks.items → IsTracked all (lane_bits at lane c.deref_mut.result.now) c.deref_mut-2.result.now =
    λ tracked.
    subst (λ k. IsTracked all k c.deref_mut-2.result.now) (sym (ap (lane_bits at lane) c.deref_mut.ensures.value))
    (subst (IsTracked all (lane_bits at lane r.cells.items)) (sym c.deref_mut-2.ensures.value) tracked) in
    record {
      group = c.group_by.result.now;
      grouped = c.group_by.ensures.group r.layout.input_count r.layout.first_wire bits r.next_words.len r.layout.plan (earlier_in r lane) (cells_in r lane) r.circuit_is r.waves_are c.requires.cause;
      clocked = λ tracked.
          clocked-like bits step c.group_by.result.now (list_of lane r.words.items) (list_of lane c.deref_mut-3.result.now) (list_of lane c.clock.new.words) _
          (list_of lane r.memories.items) (list_of lane c.deref_mut-5.result.now) (list_of lane c.clock.new.memories) _ (lane_bits at lane r.cells.items) (lane_bits at lane c.deref_mut.result.now) (lane_bits at lane c.clock.new.cells) _
          (subst (λ s. IsClocked true bits s c.group_by.result.now (list_of lane c.deref_mut-3.result.now) (list_of lane c.clock.new.words) (list_of lane c.deref_mut-5.result.now) (list_of lane c.clock.new.memories)
          (lane_bits at lane c.deref_mut.result.now) (lane_bits at lane c.clock.new.cells)) step_is
          (subst (λ a. IsClocked a bits (step_by c.args.cause (lane_bits at lane c.deref.result.now) (lane_bits at lane c.deref_mut.result.now)) c.group_by.result.now (list_of lane c.deref_mut-3.result.now) (list_of lane c.clock.new.words)
          (list_of lane c.deref_mut-5.result.now) (list_of lane c.clock.new.memories) (lane_bits at lane c.deref_mut.result.now) (lane_bits at lane c.clock.new.cells)) on (c.clock.ensures.clocked lane all within group_watched (λ now_on. given tracked))))
          (ap (list_of lane) c.deref_mut-3.ensures.value) (sym (ap (list_of lane) new_words)) (ap (list_of lane) c.deref_mut-5.ensures.value) (sym (ap (list_of lane) new_memories))
          (ap (lane_bits at lane) c.deref_mut.ensures.value) (sym (ap (lane_bits at lane) new_cells));
      tracked = λ first count rising room tracked. returns-clause-tracked g c lane within tracked;
    }

pub returns-then-is_none-clause-clocked : goal.returns-then-is_none-clause-clocked
returns-then-is_none-clause-clocked g c lane within on = absurd (no-both on (c.is_none.ensures c.if-is_none.true lane within))

pub returns-then-is_none-clause-idle : goal.returns-then-is_none-clause-idle
returns-then-is_none-clause-idle g c lane within off = record { cells = refl; words = refl; memories = refl; outputs = refl; tracked = λ first count rising room tracked. tracked }

pub returns-clause-idle : goal.returns-clause-idle
returns-clause-idle g c lane within off =
    let at = g.V.Value.at in
    let r = c.args.self.now in
    let new_cells = with_items_is r.cells c.clock.new.cells (omega (arith, c.clock.auto.cells, r.cells.ok.0, ap length c.deref_mut.ensures.value)) in
    let new_words = with_items_is r.words c.clock.new.words (omega (arith, c.clock.auto.words, r.words.ok.0, ap length c.deref_mut-3.ensures.value)) in
    let new_memories = with_items_is r.memories c.clock.new.memories (omega (arith, c.clock.auto.memories, r.memories.ok.0, ap length c.deref_mut-5.ensures.value)) in
    let stays = clocked-idle (at c.args.active lane) r.circuit.bits (step_by c.args.cause (lane_bits at lane c.deref.result.now) (lane_bits at lane c.deref_mut.result.now)) c.group_by.result.now (list_of lane c.deref_mut-3.result.now) (list_of lane c.clock.new.words) (list_of lane c.deref_mut-5.result.now) (list_of lane c.clock.new.memories)
    (lane_bits at lane c.deref_mut.result.now) (lane_bits at lane c.clock.new.cells)
    (c.clock.ensures.clocked lane (watched r.circuit) within (c.group_by.ensures.watched r.layout.first_wire r.circuit.bits r.next_words.len r.layout.plan r.circuit_is) (λ on. absurd (no-both on off))) off in
    record {
      cells = ap (lane_bits at lane) new_cells ∙ stays.1.1 ∙ ap (lane_bits at lane) c.deref_mut.ensures.value;
      words = ap (list_of lane) new_words ∙ stays.0 ∙ ap (list_of lane) c.deref_mut-3.ensures.value;
      memories = ap (list_of lane) new_memories ∙ stays.1.0 ∙ ap (list_of lane) c.deref_mut-5.ensures.value;
      outputs = refl;
      tracked = λ first count rising room tracked. returns-clause-tracked g c lane within tracked;
    }

pub returns-clause-same : goal.returns-clause-same
returns-clause-same g c = record { layout = refl; circuit = refl; words_room = refl }

pub invariant_of-self-clause-lanes : goal.invariant_of-self-clause-lanes
invariant_of-self-clause-lanes g c =
    let r = c.args.self.now in
    let count = sym (r.next_words.ok.0 ∙ ap (λ (list : List ℕ). length list) (sym c.deref_mut-4.ensures.value)) in
    subst (AreLanes g.V.Value.LANES r.next_words.len) (sym (with_items_is r.words c.clock.new.words (omega (arith, c.clock.auto.words, r.words.ok.0, ap length c.deref_mut-3.ensures.value))))
    (subst (λ n. AreLanes g.V.Value.LANES n c.clock.new.words) count c.clock.ensures.lanes)
