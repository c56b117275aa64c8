use Rattle.std.proofs.Common.{◌<◌, [], length, map, sym, arith}
use Rattle.std.proofs.lemmas.List.{get_or-map, length-map}
use Rattle.asc_text.proofs.Pieces.{line-ended, lines-more}
use Rattle.chipdb_reader.specs.Kept.{database_in}
use Rattle.image_explain.specs.Explained.{extra_text}
use Rattle.image_explain.proofs.extras.append_each.Goals as goal

pub loop-at-preserved : goal.loop-at-preserved
loop-at-preserved c =
    let line = extra_text (database_in c.args.db.now).extras in
    let within : c.loop-at.at-index < length c.args.places.now = c.loop-at-test.true in
    lines-more c.args.text.now.items c.loop-at.text.items c.end_line.new.text.items (map line c.args.places.now) _ c.loop-at.at-index (omega (arith, length-map c.args.places.now line)) (sym (get_or-map line c.args.places.now c.loop-at.at-index _ [] within)) c.loop-at.invariant
    (line-ended c.loop-at.text.items c.append_extra.new.text.items c.end_line.new.text.items _ c.in_ok-append_extra.ensures c.in_ok-end_line.ensures.text)
