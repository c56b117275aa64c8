use Rattle.std.proofs.Common.{map, ap, sym, ◌∙◌}
use Rattle.index_search.specs.Places.{gathered_below}
use Rattle.asc_text.proofs.Pieces.{nothing-written}
use Rattle.ice_gen.specs.Numbers.{cell_number}
use Rattle.ice_gen.specs.Database.{cell_names, name_line}
use Rattle.ice_gen.proofs.Nameless.{cells-nameless}
use Rattle.ice_gen.proofs.names.append_names_of_cells.Goals as goal

pub returns-else-is_of_tile : goal.returns-else-is_of_tile
returns-else-is_of_tile c =
    let device = c.args.device in
    let line = name_line c.args.x c.args.y in
    let names = gathered_below 8 (λ i. cell_names device c.args.net (cell_number device c.args.x c.args.y i) i) in
    nothing-written c.args.text.now.items (map line names) (ap (map line) (cells-nameless device c.args.net c.args.x c.args.y (sym c.is_of_tile.ensures ∙ c.if-is_of_tile.false)))
