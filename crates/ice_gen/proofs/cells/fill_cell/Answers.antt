use Rattle.std.proofs.Common.{ap, ◌∙◌}
use Rattle.ice_image.specs.Either.{configuration_of, device_of}
use Rattle.ice_gen.specs.Draws.{draw}
use Rattle.ice_gen.proofs.Filled.{cell-filled}
use Rattle.ice_gen.proofs.cells.fill_cell.Goals as goal

pub returns-clause-filled : goal.returns-clause-filled
returns-clause-filled c =
    let seed = c.args.draws.now.seed in
    let choice_is = c.next-choice.ensures.draw ∙ ap (λ s. draw s c.next-lut.new.self.count) c.next-lut.ensures.seed ∙ ap (λ n. draw seed n) c.next-lut.ensures.count in
    cell-filled (device_of c.args.image.now) (device_of c.fill_row.new.image) seed c.args.x c.args.y c.args.i c.next-lut.result c.next-choice.result c.args.draws.now.count
    (configuration_of c.args.image.now) (configuration_of c.fill_row.new.image) (configuration_of c.fill_row-2.new.image)
    c.fill_row.ensures.device c.requires.count c.next-lut.ensures.draw choice_is c.fill_row.ensures.filled c.fill_row-2.ensures.filled c.requires.filled
