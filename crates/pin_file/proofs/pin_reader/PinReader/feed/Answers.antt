use Rattle.pin_file.specs.Feeding.{StandsFor}
use Rattle.pin_file.proofs.pin_reader.PinReader.feed.Goals as goal

pub returns-clause-stands : goal.returns-clause-stands
unfolding StandsFor
returns-clause-stands c = λ name text stands. c.feed.ensures.stands name text stands
