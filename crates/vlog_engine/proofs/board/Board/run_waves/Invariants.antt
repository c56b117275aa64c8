use Rattle.std.proofs.Common.{◌≡◌, ◌<◌, ◌+◌, ℕ, true, false}
use Rattle.std.specs.Prelude.{vec_len}
use Rattle.vlog_module.specs.Parts.{Parts}
use Rattle.vlog_semantics.specs.Entries.{Entry}
use Rattle.vlog_engine.specs.Boards.{IsIdleIn, StaysLaidOut}
use Rattle.vlog_engine.specs.Waves.{AwaitsWaves}
use Rattle.vlog_engine.proofs.board.Board.run_waves.Given as goal

abbrev pub invariant-loop : goal.invariant-loop
invariant-loop g l = record {
  same : StaysLaidOut l.initial.self l.self;
  idle : (lane : ℕ) → lane < g.V.Value.LANES → g.V.Value.at l.active lane ≡ false → IsIdleIn lane l.initial.self l.self;
  awaits : (lane : ℕ) (m : Parts) (last : Entry) → g.V.Value.at l.active lane ≡ true → AwaitsWaves l.initial.self lane m (vec_len l.initial.self.layout.plan.clocks) last
      → (left : ℕ) → l.counter + left ≡ l.end → AwaitsWaves l.self lane m left last;
}
