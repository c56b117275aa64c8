-- Steps that are read line by line.
use Rattle.std.specs.Prelude.{◌≡◌, ◌≤◌, ◌<◌, ◌&&◌, ◌==◌, ℕ, List, ◌++◌, Some, if◌then◌else◌}
use Rattle.long_events.specs.declared.reading.Reading.{Reading}
use Rattle.long_events.specs.declared.step.Step.{Step}
use Rattle.long_events.specs.declared.step.Step.TheVariants.{Repeat}
use Rattle.long_events.specs.Lists.{is_repeat, level_after}
use Rattle.long_events.specs.Moves.{parts_of}
use Rattle.long_events.specs.inside.Nesting.{reached}

-- what is kept of steps has their moves, and as many `repeat`s are open
pub record Keeps (kept : List Step) (level : ℕ) (steps : List Step) : Type 0 where
  pub same_level : level ≡ level_after steps
  pub deep : level ≤ 8
  pub reaches : reached (Some 0) kept ≡ Some level
  pub parts : (rest : List Step) → parts_of (kept ++ rest) ≡ parts_of (steps ++ rest)

-- the line of the last `repeat` that is inside no other one, after what a line says
abbrev pub outermost_after : Reading → ℕ → List Step → ℕ
outermost_after reading line steps = if is_repeat steps && (reading.level == 0) then line else reading.outermost

-- a `repeat` comes at least once
abbrev pub IsCounted : Step → Type 0
IsCounted (Repeat count) = 0 < count
IsCounted _ = Unit {0}
