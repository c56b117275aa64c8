use Rattle.std.proofs.Common.{[]}
use Rattle.chipdb_reader.proofs.Feeding.{told-whole}
use Rattle.chipdb_reader.specs.Faults.{DbMeans, Tells, db_fault_of}
use Rattle.chipdb_reader.specs.Feeding.{HasTaken}
use Rattle.chipdb_reader.specs.Kept.{database_in}
use Rattle.text_lines.specs.Lines.{lines_of}
use Rattle.chipdb_reader.proofs.Outcomes.{err-at, ok-at}
use Rattle.chipdb_reader.proofs.reader.read.Goals as goal

pub take_lines-requires-clause-ready : goal.take_lines-requires-clause-ready
take_lines-requires-clause-ready c = ([], c.new-lines.ensures.taken)

pub returns-in-Err-clause-refused : goal.returns-in-Err-clause-refused
returns-in-Err-clause-refused c = told-whole c.args.bytes.now c.in-Err.fault (c.in-Err.ensures.refused tt [] [] c.new-lines.ensures.taken)

pub returns-in-Ok-clause-means : goal.returns-in-Ok-clause-means
returns-in-Ok-clause-means c =
    ok-at c.finish.result (λ text. HasTaken (lines_of text) c.take_lines.new.self) (λ text db. DbMeans text (database_in db)) c.finish.ensures.means c.args.bytes.now (c.in-Ok.ensures.taken tt [] c.new-lines.ensures.taken)

pub returns-in-Ok-clause-refused : goal.returns-in-Ok-clause-refused
returns-in-Ok-clause-refused c =
    err-at c.finish.result (λ text. HasTaken (lines_of text) c.take_lines.new.self) (λ text fault. Tells (db_fault_of text) fault) c.finish.ensures.refused c.args.bytes.now (c.in-Ok.ensures.taken tt [] c.new-lines.ensures.taken)
