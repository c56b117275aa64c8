use Rattle.std.proofs.Common.{◌≡◌, ap, ◌∙◌, None, get_or, arith}
use Rattle.std.specs.Prelude.{List}
use Rattle.plane_map.specs.declared.tile.RowCol.{RowCol}
use Rattle.ice_image.specs.Either.{configuration_of}
use Rattle.chipdb_reader.specs.Kept.{database_in}
use Rattle.fabric_model.specs.Cells.{cell_bits, cell_places}
use Rattle.fabric_model.specs.On.{bits_at}
use Rattle.image_explain.specs.Cells.{bits_at_place, places_of_cells}
use Rattle.image_explain.specs.Items.{cell_item}
use Rattle.image_explain.proofs.CellPlaces.{bits-of-cell}
use Rattle.image_explain.proofs.Gathered.{gathered-next}
use Rattle.image_explain.proofs.cells.push_logic_cells.Goals as goal

pub loop-i-preserved : goal.loop-i-preserved
unfolding cell_bits
loop-i-preserved c =
    let database = database_in c.args.db.now in
    let image = configuration_of c.args.image.now in
    let here : c.bits-bits.result.now ≡ cell_places database c.loop-i.i =
    c.bits-bits.ensures.bits ∙ ap (λ places. bits_at_place database.functions (get_or places c.from.result None)) c.requires.cells ∙ ap (λ i. bits_at_place database.functions (get_or (places_of_cells database.functions) i None)) c.from.ensures ∙ bits-of-cell database c.loop-i.i (omega arith) in
    gathered-next c.loop-i.i (λ i. cell_item i (cell_bits database image c.args.at.x c.args.at.y i)) c.args.items.now.items c.loop-i.items.items c.push_cell.new.items.items _ c.loop-i.invariant c.in_ok-push_cell.ensures (ap (λ (bits : List RowCol). cell_item c.loop-i.i (bits_at image c.args.at.x c.args.at.y bits)) here)
