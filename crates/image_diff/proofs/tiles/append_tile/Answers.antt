use Rattle.std.proofs.Common.{[], ◌∷◌, ◌++◌, ap, ◌∙◌}
use Rattle.std.proofs.lemmas.Result.{on_ok_weaker}
use Rattle.text_lines.specs.Written.{text_of}
use Rattle.ice_image.specs.Either.{configuration_of}
use Rattle.asc_text.specs.Statements.{tile_keyword}
use Rattle.asc_text.specs.Canonical.{grid_line}
use Rattle.asc_text.proofs.Pieces.{lines-joined}
use Rattle.chipdb_reader.specs.Kept.{database_in}
use Rattle.image_explain.specs.Explained.{item_lines}
use Rattle.image_explain.specs.Inside.{lists_of}
use Rattle.image_diff.specs.Differences.{line_changes}
use Rattle.image_diff.proofs.tiles.append_tile.Goals as goal

pub returns : goal.returns
returns c =
    let database = database_in c.args.db.now in
    let firsts = item_lines database (configuration_of c.args.first.now) c.args.x c.args.y c.args.kind in
    let seconds = item_lines database (configuration_of c.args.second.now) c.args.x c.args.y c.args.kind in
    let text = c.append_grid_line.new.text.items in
    on_ok_weaker c.append_changes.result (λ written.
    lines-joined c.args.text.now.items text c.append_changes.new.text.items (grid_line (tile_keyword c.args.kind) c.args.x c.args.y ∷ []) (line_changes firsts seconds)
    (c.in_ok-append_grid_line.ensures.text ∙ ap (λ keyword. c.args.text.now.items ++ text_of (grid_line keyword c.args.x c.args.y ∷ [])) c.tile_keyword.ensures.word)
    (written
    ∙ ap (λ lines. text ++ text_of (line_changes lines (lists_of c.deref-2.result.now))) (ap (λ lines. lists_of lines) c.deref.ensures.value ∙ c.in_ok-first.ensures)
    ∙ ap (λ lines. text ++ text_of (line_changes firsts lines)) (ap (λ lines. lists_of lines) c.deref-2.ensures.value ∙ c.in_ok-second.ensures))) c.append_changes.ensures
