use Rattle.std.proofs.Common.{sym, ◌∙◌}
use Rattle.bit_plane.proofs.Kept.{bit_in_rows}
use Rattle.bit_plane.proofs.plane.PlaneBits.get.Goals as goal

pub returns : goal.returns
returns g c =
    let plane = c.args.self.now in
    bit_in_rows g.row.W g.row.H plane.words.items c.deref.result.now c.args.x c.args.y c.take_word.result c.requires.column c.requires.row (sym plane.words.ok.0 ∙ plane.sized) c.deref.ensures.value c.take_word.ensures
