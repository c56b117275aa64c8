use Rattle.std.proofs.Common.{◌≡◌, ℕ, false, refl}
use Rattle.chipdb_reader.specs.Database.{Database}
use Rattle.plane_map.specs.declared.tile.TileKind.{TileKind}
use Rattle.plane_map.specs.declared.tile.TileKind.TheVariants.{Io, Logic, RamB, RamT}
use Rattle.chipdb_reader.specs.Kept.{database_in}
use Rattle.image_explain.specs.Items.{is_in_cells}
use Rattle.image_explain.proofs.Boards.{Knows-none}
use Rattle.image_explain.proofs.known.cell_bits.Goals as goal

none : (kind : TileKind) (database : Database) (row col : ℕ) → (kind ≡ Logic → ⊥) → is_in_cells kind database row col ≡ false
none Io database row col other = refl
none Logic database row col other = absurd (other refl)
none RamB database row col other = refl
none RamT database row col other = refl

pub returns-in_default : goal.returns-in_default
returns-in_default c = Knows-none _ c.new.result c.new.ensures (λ row col. none c.args.kind (database_in c.args.db.now) row col c.in_default.not-Logic)
