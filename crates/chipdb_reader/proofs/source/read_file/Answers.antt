use Rattle.std.proofs.Common.{[]}
use Rattle.chipdb_reader.specs.Faults.{DbMeans, Tells, db_fault_of}
use Rattle.chipdb_reader.specs.Feeding.{StandsFor}
use Rattle.chipdb_reader.specs.Kept.{database_in}
use Rattle.ice_io.specs.Files.{HasFile}
use Rattle.chipdb_reader.proofs.Outcomes.{err-at, ok-at}
use Rattle.chipdb_reader.proofs.Sources.{answered-failed, answered-long, answered-means, answered-refused, untaken-db}
use Rattle.chipdb_reader.proofs.source.read_file.Goals as goal

pub returns-in-Ok-clause-means : goal.returns-in-Ok-clause-means
returns-in-Ok-clause-means g c =
    let all = c.in-Ok.ensures.bytes in
    let stands = all.3 tt [] c.new-reader.ensures.stands in
    answered-means (HasFile (g.F.Files.contents c.args.files.now) c.args.name.now) c.args.limit all.0 c.finish.result c.answer.result c.answer.ensures all.1 all.2
    (ok-at c.finish.result (λ text. StandsFor text c.load_into.new.taker) (λ text db. DbMeans text (database_in db)) c.finish.ensures.means all.0 stands)

pub returns-in-Ok-clause-refused : goal.returns-in-Ok-clause-refused
returns-in-Ok-clause-refused g c =
    let all = c.in-Ok.ensures.bytes in
    let stands = all.3 tt [] c.new-reader.ensures.stands in
    answered-refused (HasFile (g.F.Files.contents c.args.files.now) c.args.name.now) c.args.limit all.0 c.finish.result c.answer.result c.answer.ensures all.1 all.2
    (err-at c.finish.result (λ text. StandsFor text c.load_into.new.taker) (λ text fault. Tells (db_fault_of text) fault) c.finish.ensures.refused all.0 stands)

pub returns-in-Ok-clause-too_long : goal.returns-in-Ok-clause-too_long
returns-in-Ok-clause-too_long g c = λ long. absurd (answered-long c.finish.result c.answer.result c.answer.ensures long)

pub returns-in-Ok-clause-failed : goal.returns-in-Ok-clause-failed
returns-in-Ok-clause-failed g c = λ failed. absurd (answered-failed c.finish.result c.answer.result c.answer.ensures failed)

pub returns-in-Err-clause-refused : goal.returns-in-Err-clause-refused
returns-in-Err-clause-refused g c = rw c.untaken.ensures (untaken-db _ c.in-Err.fault)

pub returns-in-Ok-clause-lacks : goal.returns-in-Ok-clause-lacks
returns-in-Ok-clause-lacks g c = λ failed. absurd (answered-failed c.finish.result c.answer.result c.answer.ensures failed)
