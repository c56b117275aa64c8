use Rattle.std.proofs.Common.{◌≡◌, ◌+◌, arith, length, refl, subst, ◌∙◌}
use Rattle.vlog_engine.specs.Lanes.{lane_bits}
use Rattle.vlog_engine.specs.Marks.{IsSwept}
use Rattle.vlog_engine.proofs.Marked.{gates-passed, swept-none}
use Rattle.vlog_engine.proofs.sweep.run_gates.Goals as goal

pub loop-place-init : goal.loop-place-init
loop-place-init g c = record {
  few = omega (arith, c.next_marked-place.ensures.last);
  swept = λ lane first count watched within rising among read room tracked.
      let active = g.V.Value.at c.args.active lane in
      let cells = lane_bits g.V.Value.at lane c.args.cells.now in
      gates-passed active c.args.gates.now watched 0 c.next_marked-place.result cells c.args.marks.now among c.next_marked-place.ensures.none
      (swept-none active c.args.gates.now watched cells c.args.marks.now tracked);
  same = λ lane first count rising cell source. refl;
  idle = λ lane within off. refl;
}

pub loop-place-preserved : goal.loop-place-preserved
loop-place-preserved g c = record {
  few = omega (arith, c.next_marked-place-in-loop-place.ensures.last);
  swept = λ lane first count watched within rising among read room tracked.
      gates-passed (g.V.Value.at c.args.active lane) c.args.gates.now watched (c.loop-place.place + 1) c.next_marked-place-in-loop-place.result (lane_bits g.V.Value.at lane c.run_gate.new.cells) c.run_gate.new.marks
      among c.next_marked-place-in-loop-place.ensures.none
      (c.run_gate.ensures.swept lane first count watched within rising among read (omega (arith, room)) (c.loop-place.invariant.swept lane first count watched within rising among read room tracked));
  same = λ lane first count rising cell source. c.run_gate.ensures.same lane first count rising cell source ∙ c.loop-place.invariant.same lane first count rising cell source;
  idle = λ lane within off. c.run_gate.ensures.idle lane within off ∙ c.loop-place.invariant.idle lane within off;
}

pub returns-clause-swept : goal.returns-clause-swept
returns-clause-swept g c lane first count watched within rising among read room tracked =
    let last : c.loop-place.place ≡ length c.args.gates.now = omega (arith, c.loop-place.invariant.few) in
    subst (λ end. IsSwept (g.V.Value.at c.args.active lane) c.args.gates.now watched end (lane_bits g.V.Value.at lane c.loop-place.cells) c.loop-place.marks) last
    (c.loop-place.invariant.swept lane first count watched within rising among read room tracked)
