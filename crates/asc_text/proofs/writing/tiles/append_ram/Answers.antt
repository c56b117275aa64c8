use Rattle.std.proofs.Common.{ℕ, List, [], ◌∷◌, arith}
use Rattle.ice_image.specs.Either.{configuration_of}
use Rattle.asc_text.specs.Statements.{ram_data_keyword}
use Rattle.asc_text.specs.Canonical.{grid_line, memory_line}
use Rattle.index_search.specs.Places.{gathered_below}
use Rattle.asc_text.proofs.Pieces.{lines-joined, gathered-all}
use Rattle.asc_text.proofs.writing.tiles.append_ram.Goals as goal

pub returns-clause-text : goal.returns-clause-text
returns-clause-text c =
    let given : ℕ → List (List ℕ) = λ row. memory_line (configuration_of c.args.image.now) c.args.x c.args.y row ∷ [] in
    lines-joined c.args.text.now.items c.append_grid_line.new.text.items c.loop-row.text.items (grid_line ram_data_keyword c.args.x c.args.y ∷ []) (gathered_below 16 given) c.in_ok-append_grid_line.ensures.text (gathered-all c.append_grid_line.new.text.items c.loop-row.text.items c.loop-row.row 16 given (omega arith) c.loop-row.invariant.text)
