-- PLLs while they are read: those that were begun before the last, by their tiles, and the last. Only contracts within this crate use this.
use Rattle.std.specs.Prelude.{◌≡◌, ℕ, Bool, not, ◌&&◌, ◌||◌, List, [], ◌∷◌, ◌++◌, map, is_some, bytes_eq, if◌then◌else◌, Option, Some, None, All}
use Rattle.std.specs.List.{list_any}
use Rattle.std.specs.Map.{keys_of, lookup}
use Rattle.std.specs.BTreeMap.{get, insert_entry, is_at}
use Rattle.std.specs.declared.cmp.Ordering.{Ordering}
use Rattle.std.specs.declared.vec.Vec.{Vec}
use Rattle.std.specs.declared.alloc.Global.{Global}
use Rattle.index_search.specs.Places.{gathered_below}
use Rattle.chipdb_lines.specs.declared.statements.Below.{Below}
use Rattle.chipdb_lines.specs.declared.statements.Below.TheVariants.{Pll}
use Rattle.chipdb_lines.specs.Items.{PllLine}
use Rattle.chipdb_reader.specs.declared.items.PllCell.{PllCell}
use Rattle.chipdb_reader.specs.declared.items.PllLine.{PllLine as KeptPllLine}
use Rattle.chipdb_reader.specs.declared.plls.PllTile.{PllTile}
use Rattle.chipdb_reader.specs.declared.plls.Plls.{Plls}
use Rattle.chipdb_reader.specs.contracts.plls.PllTileOrd.TheImpl as pll_tile_ord
use Rattle.chipdb_reader.specs.Blocks.{statement_over}
use Rattle.chipdb_reader.specs.Database.{by_tile, is_first_of, is_pll_named_before, pll_below, pll_line_at, pll_tile_at}
use Rattle.chipdb_reader.specs.Kept.{pll_line, pll_of}

-- the order of tiles
abbrev pub tile_cmp : PllTile → PllTile → Ordering
tile_cmp = (pll_tile_ord.ghosts).cmp

-- the place of a tile
abbrev pub tile_xy : PllTile → ℕ × ℕ
tile_xy tile = (tile.x, tile.y)

-- the PLL at a tile
abbrev pub cell_at : PllTile → Vec KeptPllLine Global → PllCell
cell_at tile lines = record { x = tile.x; y = tile.y; lines = lines }

-- PLLs by their tiles, with the last
abbrev pub with_last : Option PllTile → Vec KeptPllLine Global → List (PllTile × PllCell) → List (PllTile × PllCell)
with_last None lines entries = entries
with_last (Some tile) lines entries = insert_entry tile_cmp entries tile (cell_at tile lines)

-- all PLLs by their tiles
abbrev pub all_plls : Plls → List (PllTile × PllCell)
all_plls plls = with_last plls.last plls.lines plls.earlier.entries

-- the lines of the last PLL
abbrev pub last_lines : Plls → List PllLine
last_lines plls = map pll_line plls.lines.items

-- whether the last PLL has a line of that name
abbrev pub is_named : Plls → List ℕ → Bool
is_named plls name = list_any (λ key. bytes_eq name key.items) plls.names.keys

-- the last PLL is put to the earlier ones
pub record ClosesPll (old new : Plls) : Type 0 where
  pub entries : new.earlier.entries ≡ all_plls old
  pub last : new.last ≡ None

-- a PLL is begun, unless there is one at its tile
pub record BeginsPll (old new : Plls) (x y : ℕ) : Type 0 where
  pub entries : new.earlier.entries ≡ all_plls old
  pub last : new.last ≡ (if is_some (lookup (is_at (tile_cmp (record { y = y; x = x }))) (all_plls old)) then None else Some (record { y = y; x = x }))
  pub lines : new.lines.items ≡ []
  pub names : new.names.keys ≡ []

-- whether a line of that name is one of the last PLL and new to it
abbrev pub is_new_line : Plls → List ℕ → Bool
is_new_line plls name = is_some plls.last && not (is_named plls name)

-- a line is added to the last PLL, if it is new to it
pub record AddsPllLine (old new : Plls) (line : PllLine) : Type 0 where
  pub earlier : new.earlier ≡ old.earlier
  pub last : new.last ≡ old.last
  pub lines : last_lines new ≡ last_lines old ++ (if is_new_line old line.name then line ∷ [] else [])
  pub named : (name : List ℕ) → is_named new name ≡ (is_named old name || (is_new_line old line.name && bytes_eq name line.name))

-- the last PLL is the one whose lines follow, if the statement above them is its first
pub record IsOpen (plls : Plls) (lines : List (List ℕ)) (n x y : ℕ) : Type 0 where
  pub first : is_some plls.last ≡ is_first_of lines x y (statement_over lines n)
  pub tile : (tile : PllTile) → plls.last ≡ Some tile → tile ≡ record { y = y; x = x }
  pub named : (tile : PllTile) → plls.last ≡ Some tile → (name : List ℕ) → is_named plls name ≡ is_pll_named_before lines n name

abbrev pub OpenHolds : Plls → List (List ℕ) → ℕ → Below → Type 0
OpenHolds plls lines n (Pll x y) = IsOpen plls lines n x y
OpenHolds plls lines n below = Unit {0}

-- the PLL of an entry is that of its tile
abbrev pub IsTold : List (List ℕ) → ℕ → PllTile × PllCell → Type 0
IsTold lines n entry = pll_of entry.1 ≡ pll_below lines n (tile_xy entry.0)

-- what the first n lines give of PLLs is kept
pub record PllsHold (plls : Plls) (lines : List (List ℕ)) (n : ℕ) : Type 0 where
  pub tiles : map tile_xy (keys_of (all_plls plls)) ≡ by_tile (gathered_below n (pll_tile_at lines))
  pub told : All (IsTold lines n) plls.earlier.entries
  pub last : (tile : PllTile) → plls.last ≡ Some tile → last_lines plls ≡ gathered_below n (pll_line_at lines tile.x tile.y)
  pub apart : (tile : PllTile) → plls.last ≡ Some tile → get tile_cmp plls.earlier tile ≡ None
