use Rattle.bit_plane.proofs.Kept.{word_in_rows}
use Rattle.bit_plane.proofs.plane.PlaneBits.row_bits.Goals as goal

pub returns : goal.returns
returns g c =
    word_in_rows g.row.W g.row.H c.args.self.now.words.items c.deref.result.now c.args.x c.args.y c.args.count c.take_word.result c.requires.columns c.requires.row c.deref.ensures.value c.take_word.ensures
