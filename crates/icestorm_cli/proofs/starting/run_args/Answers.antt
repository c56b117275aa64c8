use Rattle.std.proofs.Common.{◌≡◌, ◌∙◌, ℕ, List, ap, subst, sym}
use Rattle.std.specs.Prelude.{drop, map, string_bytes}
use Rattle.std.specs.List.{drop-map}
use Rattle.std.proofs.lemmas.List.{take_rest}
use Rattle.tool_run.specs.Runs.{Outside, Scene}
use Rattle.icestorm_cli.specs.Starts.{Keeps}
use Rattle.icestorm_cli.proofs.starting.run_args.Goals as goal

-- what holds of arguments holds of equal ones
keeps-same : {F I O E : Type 0} (by : Outside F I O E) (given args : List (List ℕ)) (status : ℕ) (old new : Scene F I O E) → given ≡ args
    → Keeps by given status old new → Keeps by args status old new
keeps-same by given args status old new same keeps = subst (λ (of : List (List ℕ)). Keeps by of status old new) same keeps

-- src/starting.rt:42:1
pub returns-in-len1-up : goal.returns-in-len1-up
returns-in-len1-up g c =
    keeps-same _ _ _ _ _ _ (ap (map string_bytes) (take_rest c.args.args.now 1) ∙ sym (drop-map string_bytes 1 c.args.args.now)) (record {
      does = c.run-in-len1-up.ensures.does;
      one_answer = c.run-in-len1-up.ensures.one_answer;
      written_fabric = c.run-in-len1-up.ensures.written_fabric;
      written_names = c.run-in-len1-up.ensures.written_names;
      run_of_fabric = c.run-in-len1-up.ensures.run_of_fabric;
    })
