-- What holds in the course of comparing. Only contracts within this crate use this.
use Rattle.std.specs.Prelude.{◌≡◌, Bool}
use Rattle.index_search.specs.Places.{any_below}
use Rattle.plane_map.specs.Layout.{grid_width, grid_height}
use Rattle.ice_image.specs.Configuration.{Configuration}
use Rattle.chipdb_reader.specs.Kept.{Kept}
use Rattle.image_explain.specs.Known.{Explains}
use Rattle.image_diff.specs.Differences.{is_other_tile}
use Rattle.image_diff.specs.declared.tiles.Explainers.{Explainers}

-- both images are of the database's device, and each explainer is that of its image
pub record ExplainsBoth (kept : Kept) (first second : Configuration) (explainers : Explainers) : Type 0 where
  pub first_device : kept.chip.device ≡ first.layout.device
  pub second_device : kept.chip.device ≡ second.layout.device
  pub first_explained : Explains kept first explainers.first
  pub second_explained : Explains kept second explainers.second

-- there is a tile in which a bit differs
unfoldable pub has_other_tile : Configuration → Configuration → Bool
has_other_tile first second =
    any_below (grid_height first.layout.device) (λ y. any_below (grid_width first.layout.device) (λ x. is_other_tile first second x y))
