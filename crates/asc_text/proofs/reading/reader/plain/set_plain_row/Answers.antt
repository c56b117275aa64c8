use Rattle.std.proofs.Common.{take}
use Rattle.ice_image.specs.Either.{configuration_of}
use Rattle.ice_image.specs.Bits.{row_ones}
use Rattle.asc_text.specs.Meaning.{row_sets}
use Rattle.asc_text.proofs.Gains.{Gains-same, ones-characters}
use Rattle.asc_text.proofs.reading.reader.plain.set_plain_row.Goals as goal

pub returns-in-Some : goal.returns-in-Some
returns-in-Some c =
    let x = c.args.runs.x in
    let y = c.args.runs.y in
    let row = c.args.row in
    let line = take c.args.width c.args.text.now in
    let ones = c.in-Some.ones in
    let is = c.in-Some.ensures in
    let gains = Gains-same (row_ones x y row ones) (row_sets x y row line) (configuration_of c.args.image.now) (configuration_of c.set_ones_in.new.self) c.set_ones_in.ensures.bits (λ bit there. ones-characters x y row ones line is.2 bit) in
    (is.0, is.1, record { device = c.set_ones_in.ensures.device; gains = gains })
