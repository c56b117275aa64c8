use Rattle.std.proofs.Common.{[], ◌∷◌, ◌++◌, ap, ◌∙◌, arith}
use Rattle.text_lines.specs.Written.{text_of}
use Rattle.ice_image.specs.Bits.{tile_bit_of}
use Rattle.ice_image.specs.Either.{configuration_of}
use Rattle.asc_text.specs.Canonical.{grid_line}
use Rattle.asc_text.proofs.Pieces.{rows-none, rows-more, tile-written}
use Rattle.asc_text.proofs.writing.tiles.append_tile.Goals as goal

pub loop-row-init : goal.loop-row-init
loop-row-init c = record { text = rows-none _ _ _; room = omega arith; most = omega arith }

pub loop-row-preserved : goal.loop-row-preserved
loop-row-preserved c = record {
  text = rows-more c.append_grid_line.new.text.items c.loop-row.text.items c.append_row.new.text.items c.tile_width-width.result c.loop-row.row (λ col row. tile_bit_of (configuration_of c.args.image.now) c.args.x c.args.y row col) c.loop-row.invariant.text c.in_ok-append_row.ensures.text;
  room = omega (arith, c.loop-row.invariant.room, c.in_ok-append_row.ensures.room);
  most = omega (arith, c.loop-row.invariant.most, c.in_ok-append_row.ensures.most);
}

pub returns-clause-text : goal.returns-clause-text
returns-clause-text c =
    tile-written (configuration_of c.args.image.now) c.args.x c.args.y c.args.kind c.args.text.now.items c.append_grid_line.new.text.items c.loop-row.text.items c.tile_width-width.result c.loop-row.row c.requires c.tile_width-width.ensures (omega arith) (c.in_ok-append_grid_line.ensures.text ∙ ap (λ keyword. c.args.text.now.items ++ text_of (grid_line keyword c.args.x c.args.y ∷ [])) c.tile_keyword.ensures.word) c.loop-row.invariant.text
