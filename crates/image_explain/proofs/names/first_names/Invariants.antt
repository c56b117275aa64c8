use Rattle.std.proofs.Common.{◌≡◌, ℕ, drop}
use Rattle.std.specs.Prelude.{find}
use Rattle.std.specs.BTreeMap.{get}
use Rattle.image_explain.specs.Keys.{is_name_in, tile_cmp, tile_key}
use Rattle.image_explain.proofs.names.first_names.Given as goal

abbrev pub invariant-loop-place : goal.invariant-loop-place
invariant-loop-place l = (x y : ℕ) → get tile_cmp l.firsts (tile_key x y) ≡ find (is_name_in x y) (drop l.place l.names)
