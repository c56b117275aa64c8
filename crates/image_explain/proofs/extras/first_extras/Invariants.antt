use Rattle.std.proofs.Common.{◌≡◌, drop}
use Rattle.std.specs.Prelude.{find}
use Rattle.std.specs.BTreeMap.{get}
use Rattle.plane_map.specs.declared.tile.Place.{Place}
use Rattle.ice_image.specs.Owned.{is_same_place}
use Rattle.image_explain.specs.Keys.{place_cmp, place_key}
use Rattle.image_explain.proofs.extras.first_extras.Given as goal

abbrev pub invariant-loop-place : goal.invariant-loop-place
invariant-loop-place l = (at : Place) → get place_cmp l.firsts (place_key at) ≡ find (λ extra. is_same_place extra.at at) (drop l.place l.extras)
