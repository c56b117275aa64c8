-- What an explainer holds: what is looked up once for all tiles of an image.
use Rattle.std.specs.Prelude.{◌≡◌, length}
use Rattle.ice_image.specs.Configuration.{Configuration}
use Rattle.chipdb_reader.specs.Kept.{Kept, database_in}
use Rattle.image_explain.specs.declared.explainer.Explainer.{Explainer}
use Rattle.image_explain.specs.Cells.{places_of_cells}
use Rattle.image_explain.specs.Inside.{AreLists, lists_of}
use Rattle.image_explain.specs.Keys.{FindsNets}

-- the logic cells of the database, the links that are on in the image, and names of their nets
pub record Explains (kept : Kept) (image : Configuration) (explainer : Explainer) : Type 0 where
  pub cells : explainer.cells.places ≡ places_of_cells (database_in kept).functions
  pub buffers : AreLists image (database_in kept).buffers (length (database_in kept).buffers) (lists_of explainer.buffers.lists.items)
  pub routings : AreLists image (database_in kept).routings (length (database_in kept).routings) (lists_of explainer.routings.lists.items)
  pub nets : FindsNets kept explainer.nets.nets
