use Rattle.std.proofs.Common.{◌<◌, [], ◌∷◌, ◌++◌, length, map, ap, sym, ◌∙◌, arith}
use Rattle.std.proofs.lemmas.List.{get_or-map, length-map}
use Rattle.text_lines.specs.Written.{text_of}
use Rattle.asc_text.specs.Statements.{tile_keyword}
use Rattle.asc_text.specs.Canonical.{grid_line}
use Rattle.asc_text.proofs.Pieces.{line-ended, lines-all, lines-joined, lines-more}
use Rattle.chipdb_reader.specs.Kept.{database_in}
use Rattle.image_explain.specs.Explained.{item_line}
use Rattle.image_explain.proofs.lines.append_tile.Goals as goal

pub loop-item-preserved : goal.loop-item-preserved
loop-item-preserved c =
    let line = item_line (database_in c.args.db.now) c.args.at.x c.args.at.y in
    let within : c.loop-item.item-index < length c.args.items.now = c.loop-item-test.true in
    lines-more c.append_grid_line.new.text.items c.loop-item.text.items c.end_line.new.text.items (map line c.args.items.now) _ c.loop-item.item-index (omega (arith, length-map c.args.items.now line)) (sym (get_or-map line c.args.items.now c.loop-item.item-index _ [] within)) c.loop-item.invariant
    (line-ended c.loop-item.text.items c.append_item.new.text.items c.end_line.new.text.items _ c.in_ok-append_item.ensures c.in_ok-end_line.ensures.text)

pub returns : goal.returns
returns c =
    let line = item_line (database_in c.args.db.now) c.args.at.x c.args.at.y in
    lines-joined c.args.text.now.items c.append_grid_line.new.text.items c.loop-item.text.items (grid_line (tile_keyword c.args.at.kind) c.args.at.x c.args.at.y ∷ []) (map line c.args.items.now)
    (c.in_ok-append_grid_line.ensures.text ∙ ap (λ keyword. c.args.text.now.items ++ text_of (grid_line keyword c.args.at.x c.args.at.y ∷ [])) c.tile_keyword.ensures.word)
    (lines-all c.append_grid_line.new.text.items c.loop-item.text.items (map line c.args.items.now) c.loop-item.item-index (omega (arith, length-map c.args.items.now line)) c.loop-item.invariant)
