use Rattle.pin_file.specs.Faults.{cause_of}
use Rattle.pin_file.specs.Feeding.{kept_in}
use Rattle.pin_file.specs.Lines.{line_of}
use Rattle.pin_file.proofs.reading.take_line.Goals as goal

pub returns-in-Err-clause-refused : goal.returns-in-Err-clause-refused
returns-in-Err-clause-refused c = c.of_line.ensures (cause_of (kept_in c.args.pins.now) (line_of c.args.line.now)) c.in-Err.ensures.refused
