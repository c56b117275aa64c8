-- Tiles, which may be outside of the grid.
use Rattle.std.specs.Prelude.{◌≡◌, ℕ, Option, Some}
use Rattle.fabric_plls.specs.declared.tile.TilePlace.{TilePlace}
use Rattle.fabric_plls.specs.declared.fault.PllFault.{PllFault}
use Rattle.fabric_plls.specs.declared.fault.PllFault.TheVariants.{Pll, Memory}

-- the place of a tile
abbrev pub place_of : TilePlace → ℕ × ℕ
place_of tile = (tile.x, tile.y)

-- a refusal tells the tile, or that memory ran out
abbrev pub IsCause : Option (ℕ × ℕ) → PllFault → Type 0
IsCause tile (Pll x y) = tile ≡ Some (x, y)
IsCause tile (Memory failed) = Unit {0}
