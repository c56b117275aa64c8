use Rattle.std.proofs.Common.{ℕ, ap, ◌∙◌, subst, arith}
use Rattle.bit_plane.specs.BitList.{word_of}
use Rattle.bit_plane.specs.Rows.{row_at}
use Rattle.ice_image.specs.Contents.{tile_place}
use Rattle.ice_image.specs.Written.{IsWritten, bit_of_word}
use Rattle.ice_image.proofs.Written.{rows_written-none, rows_written-more, rows_written-all}
use Rattle.ice_image.proofs.tiles.write_tile.Goals as goal

pub loop-row-init : goal.loop-row-init
loop-row-init g c = (rows_written-none c.args.layout.now c.requires.layout c.args.x c.args.y g.row.C c.args.tile.now c.requires.width c.args.cram.now, c.requires.whole)

pub loop-row-preserved : goal.loop-row-preserved
loop-row-preserved g c = (
  rows_written-more c.args.layout.now c.requires.layout c.args.x c.args.y g.row.C c.args.tile.now c.requires.width c.loop-row.row c.row.result c.args.cram.now c.loop-row.cram c.write_row.new.cram (omega arith) c.loop-row.invariant.0
      (subst (λ (n : ℕ). IsWritten (tile_place c.args.layout.now c.args.x c.args.y c.loop-row.row) (bit_of_word n c.row.result) n c.loop-row.cram c.write_row.new.cram) c.requires.width c.write_row.ensures.written) (c.row.ensures.word ∙ ap (λ row. word_of (row_at c.args.tile.now row)) c.from.ensures) c.row.ensures.grid,
  c.write_row.ensures.whole,
)

pub returns-clause-tile : goal.returns-clause-tile
returns-clause-tile g c =
    (rows_written-all c.args.layout.now c.requires.layout c.args.x c.args.y g.row.C c.args.tile.now c.requires.width c.loop-row.row c.args.cram.now c.loop-row.cram (omega arith) c.loop-row.invariant.0).0

pub returns-clause-others : goal.returns-clause-others
returns-clause-others g c =
    (rows_written-all c.args.layout.now c.requires.layout c.args.x c.args.y g.row.C c.args.tile.now c.requires.width c.loop-row.row c.args.cram.now c.loop-row.cram (omega arith) c.loop-row.invariant.0).1
