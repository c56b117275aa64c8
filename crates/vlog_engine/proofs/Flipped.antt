-- What flip-flops over cells do in a lane.
use Rattle.std.proofs.Common.{◌≡◌, ◌≢◌, ℕ, ◌+◌, ◌<◌, Bool, true, false, cond, List, [], ◌∷◌, ◌++◌, Option, Some, None, ap, fold, get_or, length, refl, set, sym, take, ◌∙◌}
use Rattle.std.specs.Prelude.{◌&&◌}
use Rattle.std.proofs.lemmas.List.{get_or-set_other, map-append, set-get_or}
use Rattle.std.proofs.lemmas.List.Sums.{fold_more}
use Rattle.vlog_semantics.specs.Cells.{cell_at}
use Rattle.vlog_semantics.specs.declared.plan.FlipFlop.{FlipFlop}
use Rattle.vlog_engine.specs.Changes.{changed_by}
use Rattle.vlog_engine.specs.Flips.{flip_flop, flip_flops}
use Rattle.vlog_engine.specs.declared.changes.Change.{Change}
use Rattle.vlog_engine.specs.declared.flips.Flip.{Flip}

-- the change that a flip-flop makes
pub flip-makes : (active edge enable lanes : Bool) (next : List Bool) (target : ℕ) (value old bit : Bool) → lanes ≡ cond (cond active edge false) enable false
    → value ≡ cond enable bit old → cond lanes (set next target value) next ≡ cond active (cond (edge && enable) (set next target bit) next) next
flip-makes active edge enable lanes next target value old bit lanes_is value_is = ap (λ l. cond l (set next target value) next) lanes_is ∙ cases active edge enable value_is
  where
    cases : (active edge enable : Bool) → value ≡ cond enable bit old
        → cond (cond (cond active edge false) enable false) (set next target value) next ≡ cond active (cond (edge && enable) (set next target bit) next) next
    cases true true true is = ap (set next target) is
    cases true true false is = refl
    cases true false enable is = refl
    cases false edge enable is = refl

-- a flip-flop that gives its register the bit that it has
pub flip-keeps : (active edge enable : Bool) (next : List Bool) (target : ℕ) (value old bit : Bool) → value ≡ cond enable bit old → value ≡ old → cell_at next target ≡ old
    → next ≡ cond active (cond (edge && enable) (set next target bit) next) next
flip-keeps true true true next target value old bit is same has = sym (ap (set next target) (sym is ∙ same ∙ sym has) ∙ set-get_or next target false)
flip-keeps true true false next target value old bit is same has = refl
flip-keeps true false enable next target value old bit is same has = refl
flip-keeps false edge enable next target value old bit is same has = refl

-- a flip-flop is added
pub flips_more : (flips : List Flip) (flip : Flip) → flip_flops (flips ++ flip ∷ []) ≡ flip_flops flips ++ flip_flop flip ∷ []
flips_more flips flip = map-append flip_flop flips (flip ∷ [])

-- a change of another cell
pub change-apart : {V : Type 0} (at : V → ℕ → Bool) (lane : ℕ) (state : List Bool) (made : Option (Change V)) (cell : ℕ) → ((change : Change V) → made ≡ Some change → cell ≢ change.cell)
    → cell_at (changed_by at lane state made) cell ≡ cell_at state cell
change-apart at lane state None cell apart = refl
change-apart at lane state (Some change) cell apart =
    elim (at change.lanes lane) as (λ b. cell_at (cond b (set state change.cell (at change.value lane)) state) cell ≡ cell_at state cell) [
      | true ↦ get_or-set_other state change.cell cell (at change.value lane) false (apart change refl)
      | false ↦ refl
    ]

-- one flip-flop more
pub fold-flips : (step : List Bool → FlipFlop → List Bool) (next : List Bool) (flips : List Flip) (i : ℕ) (none : Flip) → i < length flips
    → fold step next (flip_flops (take (i + 1) flips)) ≡ step (fold step next (flip_flops (take i flips))) (flip_flop (get_or flips i none))
fold-flips step next flips i none within =
    fold-map (take (i + 1) flips) next ∙ fold_more each next flips i none within ∙ ap (λ state. step state (flip_flop (get_or flips i none))) (sym (fold-map (take i flips) next))
  where
    each : List Bool → Flip → List Bool
    each state flip = step state (flip_flop flip)

    fold-map : (list : List Flip) (state : List Bool) → fold step state (flip_flops list) ≡ fold each state list
    fold-map [] state = refl
    fold-map (flip ∷ list) state = fold-map list (step state (flip_flop flip))
