-- Tiles in their order: by row, then by column.
use Rattle.std.specs.Prelude.{ℕ, List, [], ◌∷◌, Bool, if◌then◌else◌, Option, Some, None}
use Rattle.index_search.specs.Places.{gathered_below}
use Rattle.plane_map.specs.Layout.{kind_of, grid_width, grid_height}
use Rattle.plane_map.specs.declared.device.DeviceName.{DeviceName}
use Rattle.plane_map.specs.declared.tile.TileKind.{TileKind}
use Rattle.chipdb_lines.specs.Statements.{is_kind_there}

-- what all places of the grid give, in the order of tiles
unfoldable pub over_grid : {A : Type 0} → DeviceName → (ℕ → ℕ → List A) → List A
over_grid device given = gathered_below (grid_height device) (λ y. gathered_below (grid_width device) (λ x. given x y))

-- what a place of the grid gives if a tile of that kind is there, else nothing
abbrev pub at_kind : {A : Type 0} → DeviceName → TileKind → (ℕ → ℕ → List A) → ℕ → ℕ → List A
at_kind device kind given x y = if is_kind_there kind (kind_of device x y) then given x y else []

-- what all tiles of a kind give, in the order of tiles
abbrev pub over_tiles : {A : Type 0} → DeviceName → TileKind → (ℕ → ℕ → List A) → List A
over_tiles device kind given = over_grid device (at_kind device kind given)

-- a list of `count` items, from the item at each index
abbrev pub each_below : {A : Type 0} → ℕ → (ℕ → A) → List A
each_below count given = gathered_below count (λ k. given k ∷ [])

-- an item if a test passes, else nothing
abbrev pub item_if : {A : Type 0} → Bool → A → List A
item_if passes item = if passes then item ∷ [] else []

-- the first item of a list, if it has one
abbrev pub first_of : {A : Type 0} → List A → Option A
first_of [] = None
first_of (item ∷ items) = Some item
