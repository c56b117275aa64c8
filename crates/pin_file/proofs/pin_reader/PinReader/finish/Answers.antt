use Rattle.text_lines.specs.Lines.{lines_of}
use Rattle.pin_file.specs.Feeding.{StandsFor}
use Rattle.pin_file.proofs.PackageSteps.{package-is}
use Rattle.pin_file.proofs.pin_reader.PinReader.finish.Goals as goal

pub returns-in-Ok-clause-pins : goal.returns-in-Ok-clause-pins
unfolding StandsFor
returns-in-Ok-clause-pins c = λ name text stands.
    package-is name text _ (c.finish-in-Ok.ensures name (lines_of text) (c.in-Ok.ensures.taken name text stands))
