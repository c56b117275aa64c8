-- What a run of a task appends to standard output.
use Rattle.std.proofs.Common.{◌≡◌, ℕ, List, [], drop, subst, sym}
use Rattle.std.specs.Prelude.{Option, None, Some, get_or}
use Rattle.tool_run.specs.Effects.{Delivers, with_beside}
use Rattle.tool_run.specs.Runs.{Does, Outside, Scene}
use Rattle.tool_run.specs.Tasks.{Answer, Both, Task, layout_first}
use Rattle.tool_run.proofs.Same.{Does-same}
use Rattle.tool_inputs.specs.Appended.{AppendsFor, UnderLayout}

-- P holds of what a task makes of texts for its target
abbrev Gives : (List (List ℕ) → List ℕ → Type 0) → Task → Type 0
Gives P task = (texts : List (List ℕ)) (bytes beside : List ℕ) → task.answer texts ≡ Both bytes beside → P texts bytes

module _ (P : List (List ℕ) → List ℕ → Type 0) where
  -- a task that is done appends what it makes of texts
  done-appends : {F I O E : Type 0} (by : Outside F I O E) (task : Task) (status : ℕ) (old new : Scene F I O E) → Gives P task → task.target ≡ None
      → Does by task status old new → status ≡ 0
      → AppendsFor by P task old new
  done-appends by task status old new gives target does done =
      let made = does.whole done in
      let goes : Option (List ℕ) → Type 0 = λ to. Delivers to made.0 (with_beside (by.contents old.files) task.beside made.1) (by.contents new.files) (by.held old.output) (by.held new.output) in (
        made.0,
        (subst goes target made.2).1,
        (made.4.0, made.4.1, gives made.4.0 made.0 made.1 made.4.2),
      )

  -- and so does a task that is equal to it
  pub helped-kept : {F I O E : Type 0} (by : Outside F I O E) (task other : Task) (status : ℕ) (old new : Scene F I O E) → task ≡ other → Gives P task → task.target ≡ None
      → Does by other status old new → status ≡ 0
      → AppendsFor by P other old new
  helped-kept by task other status old new same gives target does done =
      subst (λ one. AppendsFor by P one old new) same (done-appends by task status old new gives target (Does-same by other task status old new (sym same) does) done)

-- P holds of what an answer under a layout file makes of all texts
pub first_gives : (layout : Option (List ℕ)) (answer : Option (List ℕ) → List (List ℕ) → Answer) (P : Option (List ℕ) → List (List ℕ) → List ℕ → Type 0)
    → ((file : Option (List ℕ)) (texts : List (List ℕ)) (bytes beside : List ℕ) → answer file texts ≡ Both bytes beside → P file texts bytes)
    → (texts : List (List ℕ)) (bytes beside : List ℕ) → layout_first layout answer texts ≡ Both bytes beside → UnderLayout layout P texts bytes
first_gives None answer P gives texts bytes beside done = gives None texts bytes beside done
first_gives (Some file) answer P gives texts bytes beside done = gives (Some (get_or texts 0 [])) (drop 1 texts) bytes beside done
