-- One more item of a section.
use Rattle.std.proofs.Common.{◌≡◌, ℕ, ◌+◌, List, [], ◌∷◌, ◌++◌, ap, ◌∙◌}
use Rattle.index_search.proofs.Gathered.{appended-none, appended-more}
use Rattle.fabric_model.specs.Tiles.{each_below}

-- no item yet
pub each-start : {Y : Type 0} (given : ℕ → Y) (start : List Y) → start ≡ start ++ each_below 0 given
each-start given start = appended-none start (λ k. given k ∷ [])

-- an item of a number is pushed
pub each-step : {Y : Type 0} (given : ℕ → Y) (i : ℕ) (start before after : List Y) (item : Y)
    → before ≡ start ++ each_below i given → after ≡ before ++ item ∷ [] → item ≡ given i → after ≡ start ++ each_below (i + 1) given
each-step given i start before after item of_before of_after of_item =
    appended-more start before after i (λ k. given k ∷ []) of_before (of_after ∙ ap (λ y. before ++ y ∷ []) of_item)
