use Rattle.pin_file.specs.Feeding.{StandsFor}
use Rattle.pin_file.proofs.pin_reader.PinReader.new.Goals as goal

pub returns-clause-stands : goal.returns-clause-stands
unfolding StandsFor
returns-clause-stands c = c.new-lines.ensures.stands c.args.name.now c.in_ok-taker.ensures
