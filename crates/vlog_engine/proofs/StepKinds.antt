-- The two kinds of steps.
use Rattle.std.proofs.Common.{◌≡◌, ◌≤◌, ℕ, Bool, false, List, ap, arith, get_or, length, refl}
use Rattle.std.specs.Prelude.{◌&&◌, take}
use Rattle.std.proofs.lemmas.List.{get_or-set_other, length-set}
use Rattle.vlog_semantics.specs.declared.plan.Edge.{Edge}
use Rattle.vlog_semantics.specs.Run.{has_edge}
use Rattle.vlog_semantics.specs.Steps.{is_at}
use Rattle.vlog_engine.specs.StepKinds.{IsPinnedBelow, Step, picks, pinned, slots_of}
use Rattle.vlog_engine.specs.StepKinds.Step.{at_event, at_wave}

-- an item that isn't picked hasn't its edge
pub picks-idle : (step : Step) (edge : Edge) → picks step edge ≡ false → is_at (slots_of step) edge ≡ false
unfolding slots_of
picks-idle (at_event event) edge off = off
picks-idle (at_wave first end earlier now) edge off =
    ap (λ b. b && has_edge edge.falling (get_or (take end earlier) edge.clock false) (get_or (take end now) edge.clock false)) off

pub length-pinned : (step : Step) (cells : List Bool) → length (pinned step cells) ≡ length cells
unfolding pinned
length-pinned (at_event event) cells = length-set cells event.pin event.bit
length-pinned (at_wave first end earlier now) cells = refl

-- cells after the inputs stay
pub pinned-past : (step : Step) (cells : List Bool) (first cell : ℕ) → IsPinnedBelow first step → first ≤ cell → get_or (pinned step cells) cell false ≡ get_or cells cell false
unfolding pinned
pinned-past (at_event event) cells first cell below past = get_or-set_other cells event.pin cell event.bit false (λ same. omega (arith, same, below, past))
pinned-past (at_wave from end earlier now) cells first cell below past = refl
