use Rattle.std.proofs.Common.{[]}
use Rattle.text_lines.specs.Lines.{lines_of}
use Rattle.chipdb_reader.specs.Faults.{DbMeans, Tells, db_fault_of}
use Rattle.chipdb_reader.specs.Feeding.{HasTaken}
use Rattle.chipdb_reader.specs.Kept.{database_in}
use Rattle.chipdb_reader.proofs.Ends.{answered, fit-at_end, refused, sound-kept}
use Rattle.chipdb_reader.proofs.Feeding.{in_order}
use Rattle.chipdb_reader.proofs.Outcomes.{err-each, ok-each}
use Rattle.chipdb_reader.proofs.line_reader.LineReader.finish.Goals as goal

pub finish-requires-clause-ready : goal.finish-requires-clause-ready
finish-requires-clause-ready c = (in_order c.args.self c.requires.going).ready

pub finish-requires-clause-sound : goal.finish-requires-clause-sound
finish-requires-clause-sound c = λ chip kept given fits. sound-kept chip c.args.self.reader kept (c.requires.going.1.read.holds []).in_range fits

pub finish-requires-clause-fit : goal.finish-requires-clause-fit
finish-requires-clause-fit c = λ chip kept given fits. fit-at_end c.requires.going.0 c.args.self.reader c.requires.going.1.read chip kept given fits

pub returns-clause-means : goal.returns-clause-means
returns-clause-means c =
    ok-each c.finish.result (λ text. HasTaken (lines_of text) c.args.self) (λ text db. DbMeans text (database_in db)) (λ text has.
    answered text c.args.self c.finish.result has c.finish.ensures.ended)

pub returns-clause-refused : goal.returns-clause-refused
returns-clause-refused c =
    err-each c.finish.result (λ text. HasTaken (lines_of text) c.args.self) (λ text fault. Tells (db_fault_of text) fault) (λ text has.
    refused text c.args.self c.finish.result has c.finish.ensures.ended)
