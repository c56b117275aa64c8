use Rattle.std.proofs.Common.{◌≡◌, ◌∙◌, ℕ, List, ap, inl, subst}
use Rattle.std.specs.Prelude.{drop, map, string_bytes}
use Rattle.tool_run.specs.Runs.{Outside, Scene}
use Rattle.icestorm_cli.specs.Starts.{Keeps, Starts}
use Rattle.icestorm_cli.proofs.starting.start_args.Goals as goal

-- what holds of a list of the arguments holds of the arguments
starts-listed : {F I O E : Type 0} (by : Outside F I O E) (listed args : List (List ℕ)) (status : ℕ) (old new : Scene F I O E) → listed ≡ args
    → Keeps by (drop 1 listed) status old new → Starts by args status old new
starts-listed by listed args status old new same keeps = inl (subst (λ given. Keeps by (drop 1 given) status old new) same keeps)

pub returns-in-Ok : goal.returns-in-Ok
returns-in-Ok g c =
    starts-listed _ _ _ _ _ _ (ap (map string_bytes) (c.as_slice.ensures.value ∙ c.in-Ok.ensures)) c.run_args.ensures
