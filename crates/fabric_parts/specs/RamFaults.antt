-- Why RAMs aren't taken.
use Rattle.std.specs.Prelude.{◌≡◌, ℕ, List, Option, Some, None}
use Rattle.ice_image.specs.Configuration.{Configuration}
use Rattle.chipdb_reader.specs.Database.{Database}
use Rattle.chipdb_reader.specs.declared.items.TileXy8.{TileXy8}
use Rattle.fabric_model.specs.Tiles.{item_if}
use Rattle.fabric_model.specs.Rams.{is_cascaded}
use Rattle.fabric_model.specs.Faults.{Fault}
use Rattle.fabric_model.specs.Faults.Fault.{cascade}
use Rattle.fabric_parts.specs.declared.ram.fault.RamFault.{RamFault}
use Rattle.fabric_parts.specs.declared.ram.fault.RamFault.TheVariants.{Cascade, Memory}

-- a refusal tells the fault, or that memory ran out
abbrev pub IsCause : Option Fault → RamFault → Type 0
IsCause fault (Cascade x y) = fault ≡ Some (cascade x y)
IsCause fault (Memory cause) = Unit {0}

-- ---- one RAM

-- a RAM that is cascaded
abbrev pub cascade_at : Database → Configuration → ℕ → ℕ → List Fault
cascade_at db image x y = item_if (is_cascaded db image x y) (cascade x y)

-- ---- what was found

abbrev pub cascade_fault : Option TileXy8 → Option Fault
cascade_fault None = None
cascade_fault (Some tile) = Some (cascade tile.x tile.y)
