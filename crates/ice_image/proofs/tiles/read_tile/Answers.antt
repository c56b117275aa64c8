use Rattle.std.proofs.Common.{ℕ, Bool, ◌∙◌, ap, arith, lit<}
use Rattle.bit_plane.specs.BitList.{word_of}
use Rattle.bit_plane.specs.Rows.{row_from}
use Rattle.ice_image.specs.Configuration.{place_bit}
use Rattle.ice_image.specs.Contents.{tile_place}
use Rattle.ice_image.proofs.Made.{rows-none, rows-more, rows-all, row_word-below}
use Rattle.ice_image.proofs.tiles.read_tile.Goals as goal

pub loop-row-init : goal.loop-row-init
loop-row-init g c = rows-none g.row.C 16 _ _ c.new-tile.ensures

pub set_row-requires : goal.set_row-requires
set_row-requires g c =
    let bit : ℕ → Bool = λ col. place_bit c.args.cram.now (tile_place c.args.layout.now c.args.x c.args.y c.loop-row.row col) in
    (lit< tt, (omega arith, row_word-below g.row.C bit c.row_word.result (c.row_word.ensures ∙ ap (λ n. word_of (row_from n bit)) c.requires.columns)))

pub loop-row-preserved : goal.loop-row-preserved
loop-row-preserved g c =
    let bit : ℕ → ℕ → Bool = λ col row. place_bit c.args.cram.now (tile_place c.args.layout.now c.args.x c.args.y row col) in
    (rows-more g.row.C 16 bit c.loop-row.row c.from.result c.row_word.result c.loop-row.tile c.set_row.new.self c.loop-row.invariant.1 (omega arith) c.loop-row.invariant.0 (c.row_word.ensures ∙ ap (λ n. word_of (row_from n (λ col. bit col c.loop-row.row))) c.requires.columns) c.from.ensures c.set_row.ensures.bits, c.set_row.ensures.grid)

pub returns : goal.returns
returns g c =
    let bit : ℕ → ℕ → Bool = λ col row. place_bit c.args.cram.now (tile_place c.args.layout.now c.args.x c.args.y row col) in
    rows-all g.row.C 16 bit c.loop-row.row _ c.loop-row.tile c.loop-row.invariant.1 (omega arith) c.requires.columns c.loop-row.invariant.0
