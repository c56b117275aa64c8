use Rattle.std.proofs.Common.{◌≡◌, ◌-◌, suc, Bool, true, false, ap, arith, cond, refl, sym, ◌∙◌}
use Rattle.vlog_semantics.specs.declared.layout.SlotLayout.{SlotLayout}
use Rattle.vlog_engine.proofs.Calls.{idle-then, stays-then}
use Rattle.vlog_engine.proofs.Waves.{awaits-next, awaits-none, awaits-rests}
use Rattle.vlog_engine.proofs.board.Board.run_waves.Goals as goal

while-on : (active comes : Bool) → active ≡ true → cond active comes false ≡ comes
while-on true comes on = refl
while-on false comes on = cc

while-off : (active comes : Bool) → active ≡ false → cond active comes false ≡ false
while-off true comes off = cc
while-off false comes off = refl

pub returns-then-is_none-clause-shown : goal.returns-then-is_none-clause-shown
returns-then-is_none-clause-shown g c lane m last on awaits =
    let left = c.len-end.result - c.loop.counter in
    let here = c.loop.invariant.awaits lane m last on awaits left (omega (arith, c.loop.auto.counter-end)) in
    let within = here.shows.within in
    awaits-rests m last lane c.loop.self left here
    (sym (c.wave_lanes-lanes.ensures lane within ∙ while-on _ _ on) ∙ c.is_none.ensures c.if-is_none.true lane within)

pub loop-preserved : goal.loop-preserved
loop-preserved g c =
    let a = c.loop.self in
    let b = c.keep.new.self in
    let d = c.run_wave.new.self in
    let e = c.turn.new.self in
    let two = stays-then a b d c.keep.ensures.same c.run_wave.ensures.same in
    let three = stays-then a d e two c.turn.ensures.same in
    record {
      same = stays-then c.args.self.now a e c.loop.invariant.same three;
      idle = λ lane within off.
          let lanes_off = c.wave_lanes-lanes.ensures lane within ∙ while-off _ _ off in
          let moved = idle-then lane a b d c.keep.ensures.same (c.keep.ensures.idle lane) (c.run_wave.ensures.idle lane within lanes_off) in
          idle-then lane c.args.self.now a e c.loop.invariant.same (c.loop.invariant.idle lane within off)
          (idle-then lane a d e two moved (c.turn.ensures.idle lane));
      awaits = λ lane m last on awaits left sum.
          let here = c.loop.invariant.awaits lane m last on awaits (suc left) (omega (arith, sum)) in
          let within = here.shows.within in
          awaits-next m last lane a left b d e (g.V.Value.at c.wave_lanes-lanes.result lane) here
          (omega (arith, sum, c.len-end.ensures, ap (λ (layout : SlotLayout). layout.plan.clocks.len) c.loop.invariant.same.layout))
          c.keep.ensures.same (c.keep.ensures.idle lane) c.keep.ensures.earlier (c.keep.ensures.next lane)
          c.run_wave.ensures.same c.run_wave.ensures.moments (c.run_wave.ensures.changed lane within) (c.run_wave.ensures.idle lane within)
          c.turn.ensures.same (c.turn.ensures.idle lane) c.turn.ensures.earlier
          (c.wave_lanes-lanes.ensures lane within ∙ while-on _ _ on);
    }

pub returns-clause-shown : goal.returns-clause-shown
returns-clause-shown g c lane m last on awaits =
    awaits-none m last lane c.loop.self (c.loop.invariant.awaits lane m last on awaits 0 (omega (arith, c.loop.auto.counter-end, c.loop-test.false)))
