use Rattle.std.proofs.Common.{◌≡◌, ◌||◌, None, get_or, sym, ap, ◌∙◌, arith}
use Rattle.std.specs.List.{list_any}
use Rattle.index_search.specs.Places.{any_below}
use Rattle.index_search.proofs.Places.{any_below-more, any_below-none}
use Rattle.chipdb_reader.specs.Kept.{database_in}
use Rattle.fabric_model.specs.Cells.{cell_places}
use Rattle.image_explain.specs.Cells.{bits_at_place}
use Rattle.image_explain.specs.Items.{is_bit}
use Rattle.image_explain.proofs.CellPlaces.{bits-of-cell}
use Rattle.image_explain.proofs.Boards.{Knows-more, Knows-none}
use Rattle.image_explain.proofs.known.all_cell_bits.Goals as goal

pub loop-i-init : goal.loop-i-init
loop-i-init c = Knows-none _ c.new-known.result c.new-known.ensures (λ row col. any_below-none 0 (λ i. list_any (is_bit row col) (cell_places (database_in c.args.db.now) i)) (λ k below. absurd (omega arith)))

pub loop-i-preserved : goal.loop-i-preserved
loop-i-preserved c =
    let database = database_in c.args.db.now in
    let here : c.bits.result.now ≡ cell_places database c.loop-i.i =
    c.bits.ensures.bits ∙ ap (λ places. bits_at_place database.functions (get_or places c.loop-i.i None)) c.requires ∙ bits-of-cell database c.loop-i.i (omega arith) in
    Knows-more (λ row col. any_below c.loop-i.i (λ i. list_any (is_bit row col) (cell_places database i))) (λ row col. list_any (is_bit row col) c.bits.result.now) _ c.loop-i.known c.add_bits.new.known c.loop-i.invariant c.add_bits.ensures
    (λ row col. any_below-more c.loop-i.i (λ i. list_any (is_bit row col) (cell_places database i)) ∙ ap (λ bits. any_below c.loop-i.i (λ i. list_any (is_bit row col) (cell_places database i)) || list_any (is_bit row col) bits) (sym here))
