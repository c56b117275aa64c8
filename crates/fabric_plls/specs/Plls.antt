-- Tiles of a list, and lines of a kept PLL.
use Rattle.std.specs.Prelude.{ℕ, Bool, List}
use Rattle.std.specs.List.{list_any}
use Rattle.chipdb_reader.specs.declared.items.PllCell.{PllCell}
use Rattle.chipdb_reader.specs.Kept.{pll_line, pll_of}
use Rattle.fabric_model.specs.declared.pll.PllSource.{PllSource}
use Rattle.fabric_model.specs.Tiles.{item_if}
use Rattle.ice_image.specs.Configuration.{Configuration}
use Rattle.chipdb_reader.specs.Database.{Database, Pll}
use Rattle.fabric_model.specs.Plls.{is_line_of, is_pll_refused, sources_in}

-- a tile, if a test passes there
abbrev pub tile_with : (ℕ → ℕ → Bool) → ℕ → ℕ → List (ℕ × ℕ)
tile_with passes x y = item_if (passes x y) (x, y)

-- whether a line of a kept PLL names the function at (x, y)
abbrev pub has_line_of : ℕ → ℕ → List ℕ → PllCell → Bool
has_line_of x y name pll = list_any (λ line. is_line_of x y name (pll_line line)) pll.lines.items

-- the tile of a PLL with its index, if it isn't taken
abbrev pub refused_tile : Database → Configuration → ℕ × Pll → List (ℕ × ℕ)
refused_tile db image place = item_if (is_pll_refused db image place) (place.1.x, place.1.y)

-- the outputs of a kept PLL that is on
abbrev pub kept_sources : Database → Configuration → PllCell → List PllSource
kept_sources db image pll = sources_in db image (pll_of pll)

-- the tile of a kept PLL with its index, if it isn't taken
abbrev pub kept_refused : Database → Configuration → ℕ × PllCell → List (ℕ × ℕ)
kept_refused db image place = refused_tile db image (place.0, pll_of place.1)
