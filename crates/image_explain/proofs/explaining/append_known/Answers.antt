use Rattle.std.proofs.Common.{◌∷◌, ◌++◌, map, ap, ◌∙◌}
use Rattle.std.proofs.lemmas.Result.{on_ok_weaker}
use Rattle.text_lines.specs.Written.{text_of}
use Rattle.asc_text.specs.Statements.{tile_keyword}
use Rattle.asc_text.specs.Canonical.{grid_line}
use Rattle.chipdb_reader.specs.Kept.{database_in}
use Rattle.image_explain.specs.Explained.{item_line, tile_lines}
use Rattle.image_explain.proofs.explaining.append_known.Goals as goal

pub returns : goal.returns
unfolding tile_lines
returns c =
    on_ok_weaker c.append_tile.result (λ written. written
    ∙ ap (λ items. c.args.text.now.items ++ text_of (grid_line (tile_keyword c.args.at.kind) c.args.at.x c.args.at.y ∷ map (item_line (database_in c.args.db.now) c.args.at.x c.args.at.y) items)) (c.deref.ensures.value ∙ c.in_ok-items.ensures)) c.append_tile.ensures
