-- Lists over used RAMs.
use Rattle.std.proofs.Common.{◌≡◌, ℕ, ◌+◌, ◌<◌, Bool, List, [], ◌∷◌, refl, ap, sym, ◌∙◌, inl, inr}
use Rattle.std.specs.Prelude.{Option, Some, None, filter, if◌then◌else◌, IfSome}
use Rattle.std.specs.List.{flat_map}
use Rattle.std.proofs.lemmas.Bool.{cases_Bool}
use Rattle.index_search.specs.Places.{or_else}
use Rattle.plane_map.specs.declared.tile.TileKind.TheVariants.{RamB}
use Rattle.ice_image.specs.Configuration.{Configuration}
use Rattle.chipdb_reader.specs.Database.{Database}
use Rattle.chipdb_reader.specs.Fit.{IsFit}
use Rattle.chipdb_reader.specs.declared.items.TileXy8.{TileXy8}
use Rattle.fabric_model.specs.declared.ram.RamCell.{RamCell}
use Rattle.fabric_model.specs.Nets.{net_named}
use Rattle.fabric_model.specs.Rams.{is_ram_used, over_rams, port_net, ram_at, rams_of}
use Rattle.fabric_model.specs.Faults.{Fault, rams_fault, cascade_faults}
use Rattle.fabric_model.specs.Tiles.{first_of}
use Rattle.fabric_model.specs.TilesOfKind.{tiles_of}
use Rattle.fabric_model.proofs.InOrder.{over_tiles-listed}
use Rattle.fabric_model.proofs.Nets.{net_named-inside}
use Rattle.fabric_parts.specs.RamFaults.{cascade_at}

-- what items that pass give
pub flat_map-filter : {A B : Type 0} (passes : A → Bool) (given : A → List B) (items : List A)
    → flat_map (λ item. if passes item then given item else []) items ≡ flat_map given (filter passes items)
flat_map-filter passes given [] = refl
flat_map-filter passes given (item ∷ items) =
    elim (cases_Bool (passes item)) [
      | inl here ↦ rw (here, flat_map-filter passes given items) refl
      | inr other ↦ rw (other, flat_map-filter passes given items) refl
    ]

-- what used RAMs give is what their list gives
over_rams-listed : {A : Type 0} (db : Database) (image : Configuration) (given : ℕ → ℕ → List A)
    → over_rams db image given ≡ flat_map (λ (tile : TileXy8). given tile.x tile.y) (filter (λ (tile : TileXy8). is_ram_used db image tile.x tile.y) (tiles_of image.layout.device RamB))
over_rams-listed db image given =
    over_tiles-listed image.layout.device RamB (λ x y. if is_ram_used db image x y then given x y else [])
    ∙ flat_map-filter (λ (tile : TileXy8). is_ram_used db image tile.x tile.y) (λ (tile : TileXy8). given tile.x tile.y) (tiles_of image.layout.device RamB)

-- the list of used RAMs
abbrev pub AreUsed : Database → Configuration → List TileXy8 → Type 0
AreUsed db image used = used ≡ filter (λ (tile : TileXy8). is_ram_used db image tile.x tile.y) (tiles_of image.layout.device RamB)

pub rams_listed : (db : Database) (image : Configuration) (used : List TileXy8) → AreUsed db image used
    → flat_map (λ (tile : TileXy8). ram_at db image tile.x tile.y ∷ []) used ≡ rams_of db image
unfolding rams_of
rams_listed db image used all =
    let given : TileXy8 → List RamCell = λ tile. ram_at db image tile.x tile.y ∷ [] in
    ap (flat_map given) all ∙ sym (over_rams-listed db image (λ x y. ram_at db image x y ∷ []))

cascades_listed : (db : Database) (image : Configuration) (used : List TileXy8) → AreUsed db image used
    → cascade_faults db image ≡ flat_map (λ (tile : TileXy8). cascade_at db image tile.x tile.y) used
unfolding cascade_faults
cascades_listed db image used all =
    let given : TileXy8 → List Fault = λ tile. cascade_at db image tile.x tile.y in
    over_rams-listed db image (cascade_at db image) ∙ ap (flat_map given) (sym all)

-- the first cascade is the first fault
pub fault_listed : (db : Database) (image : Configuration) (used : List TileXy8) (cascade : Option Fault) → AreUsed db image used
    → first_of (flat_map (λ (tile : TileXy8). cascade_at db image tile.x tile.y) used) ≡ cascade
    → rams_fault db image ≡ cascade
unfolding rams_fault
fault_listed db image used cascade all is = ap first_of (cascades_listed db image used all) ∙ is

-- ---- ports

either_inside : (bound : ℕ) (first other : Option ℕ) → IfSome first (λ net. net < bound) → IfSome other (λ net. net < bound) → IfSome (or_else first other) (λ net. net < bound)
either_inside bound (Some net) other inside other_inside = inside
either_inside bound None other inside other_inside = other_inside

-- the net of a port is one of the device's
pub port_net-inside : (db : Database) (x y : ℕ) (name : List ℕ) → IsFit db → IfSome (port_net db x y name) (λ net. net < db.chip.nets)
port_net-inside db x y name fit =
    either_inside db.chip.nets (net_named db x y name) (net_named db x (y + 1) name) (net_named-inside db x y name fit) (net_named-inside db x (y + 1) name fit)
