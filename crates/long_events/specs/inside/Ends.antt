-- Steps that end.
use Rattle.std.specs.Prelude.{◌-◌, List, [], ◌∷◌, ◌++◌, drop, length, take, if◌then◌else◌}
use Rattle.long_events.specs.declared.step.Step.{Step}
use Rattle.long_events.specs.declared.step.Step.TheVariants.{End}
use Rattle.long_events.specs.Lists.{is_repeat}

-- the last step, if there is one
abbrev pub last_steps : List Step → List Step
last_steps steps = drop (length steps - 1) steps

-- steps that an `end` follows: a `repeat` right before it goes
abbrev pub ended : List Step → List Step
ended steps = if is_repeat (last_steps steps) then take (length steps - 1) steps else steps ++ End ∷ []
