use Rattle.std.proofs.Common.{◌≡◌, ◌*◌, ◌<◌, ℕ, length, take}
use Rattle.std.specs.Prelude.{◌||◌}
use Rattle.vlog_engine.specs.Marks.{has, is_marked}
use Rattle.vlog_engine.proofs.marks.mark_all.Given as goal

abbrev pub invariant-loop-place : goal.invariant-loop-place
invariant-loop-place l = (place : ℕ) → place < 64 * length l.initial.marks → is_marked l.marks place ≡ (has (take l.place-index l.places) place || is_marked l.initial.marks place)
