use Rattle.std.proofs.Common.{List, Bool, ap, cond, fold, length, subst, sym, ◌∙◌}
use Rattle.vlog_semantics.specs.Steps.{settle_slot}
use Rattle.vlog_engine.specs.Changes.{step_in}
use Rattle.vlog_engine.specs.Lanes.{lane_bits}
use Rattle.vlog_engine.specs.Marks.{AreFirst, AreRising, IsRead, IsSwept}
use Rattle.vlog_engine.proofs.Lanes.{lane-length, steps-in}
use Rattle.vlog_engine.proofs.settling.settle.Goals as goal

pub returns-clause-settled : goal.returns-clause-settled
returns-clause-settled g c lane first count watched within rising among read room tracked =
    let at = g.V.Value.at in
    let active = at c.args.active lane in
    let gates = c.args.circuit.now.gates.items in
    let wired : List Bool = lane_bits at lane c.run_gates.new.cells in
    let gates_are = sym c.deref.ensures.value in
    let listed = subst (IsRead watched) (sym c.deref-2.ensures.value) read in
    let swept : IsSwept active gates watched (length gates) wired c.run_gates.new.marks =
    subst (λ k. IsSwept active k watched (length k) wired c.run_gates.new.marks) c.deref.ensures.value
    (c.run_gates.ensures.swept lane first count watched within (subst (AreRising first count) gates_are rising) (subst (λ k. AreFirst k watched) gates_are among) listed room tracked) in
    record {
      wired = wired;
      size = lane-length at lane c.run_gates.new.cells ∙ c.run_gates.auto.cells ∙ sym (lane-length at lane c.args.cells.now);
      same = c.run_gates.ensures.same lane first count (subst (AreRising first count) gates_are rising);
      even = λ on place inside. swept.done on place inside inside;
      idle = c.run_gates.ensures.idle lane within;
      are = c.commit.ensures.cells lane within
          ∙ c.note_settles-count.ensures.noted lane wired within
          ∙ ap (fold (step_in active (settle_slot wired)) wired) c.deref-3.ensures.value
          ∙ steps-in active (settle_slot wired) wired c.args.circuit.now.settles.items;
      tracked = c.commit.ensures.tracked lane watched (subst (IsRead watched) (sym c.deref-4.ensures.value) read) swept.tracked;
    }

pub returns-clause-idle : goal.returns-clause-idle
returns-clause-idle g c lane within off =
    let wired : List Bool = lane_bits g.V.Value.at lane c.run_gates.new.cells in
    c.commit.ensures.cells lane within
    ∙ c.note_settles-count.ensures.noted lane wired within
    ∙ steps-in (g.V.Value.at c.args.active lane) (settle_slot wired) wired c.deref-3.result.now
    ∙ ap (λ a. cond a (fold (settle_slot wired) wired c.deref-3.result.now) wired) off
    ∙ c.run_gates.ensures.idle lane within off
