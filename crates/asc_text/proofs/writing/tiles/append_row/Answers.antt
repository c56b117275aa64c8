use Rattle.std.proofs.Common.{ℕ, Bool, ◌≤◌, ◌++◌, ap, ◌∙◌, take, arith}
use Rattle.std.proofs.lemmas.Result.{on_ok_weaker}
use Rattle.bit_plane.specs.BitList.{word_of}
use Rattle.bit_plane.specs.Rows.{row_from}
use Rattle.ice_image.specs.Bits.{tile_bit_of}
use Rattle.ice_image.specs.Either.{configuration_of}
use Rattle.ice_image.proofs.TileColumns.{columns_at-le}
use Rattle.asc_text.specs.Canonical.{row_line}
use Rattle.asc_text.proofs.Pieces.{row-written, line-ended}
use Rattle.asc_text.proofs.writing.tiles.append_row.Goals as goal

pub returns-clause-text : goal.returns-clause-text
returns-clause-text c =
    let bit : ℕ → Bool = tile_bit_of (configuration_of c.args.image.now) c.args.x c.args.y c.args.row in
    let word = c.tile_row.ensures ∙ ap (λ n. word_of (row_from n bit)) c.requires.width in
    let few : c.args.width ≤ 64 = omega (arith, c.requires.width, columns_at-le (configuration_of c.args.image.now).layout.device c.args.x c.args.y) in
    let row = row-written c.args.width c.tile_row.result bit c.characters_of-characters.result word few (omega arith) c.characters_of-characters.ensures in
    let taken = ap (λ n. take n c.characters_of-characters.result) c.from.ensures ∙ row in
    on_ok_weaker c.end_line.result (λ ended. line-ended c.args.text.now.items c.extend_from_slice.new.self.items c.end_line.new.text.items (row_line (row_from c.args.width bit)) (c.in_ok-extend_from_slice.ensures.items ∙ ap (λ more. c.args.text.now.items ++ more) taken) ended) c.end_line.ensures.text
