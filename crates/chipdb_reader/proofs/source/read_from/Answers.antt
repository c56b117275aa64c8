use Rattle.std.proofs.Common.{◌≡◌, [], sym, ◌∙◌, ap}
use Rattle.std.specs.Prelude.{Err}
use Rattle.ice_io.specs.declared.source.TakeFault.TheVariants.{TooLong as TooMany}
use Rattle.chipdb_reader.specs.declared.source.SourceDbFault.TheVariants.{TooLong}
use Rattle.chipdb_reader.specs.Sources.{untaken}
use Rattle.chipdb_reader.specs.Faults.{DbMeans, Tells, db_fault_of}
use Rattle.chipdb_reader.specs.Feeding.{StandsFor}
use Rattle.chipdb_reader.specs.Kept.{database_in}
use Rattle.ice_io.specs.Taken.{TakesAll}
use Rattle.chipdb_reader.proofs.Outcomes.{err-at, ok-at}
use Rattle.chipdb_reader.proofs.Sources.{answered-failed, answered-long, answered-means, answered-refused, untaken-db, untaken-long}
use Rattle.chipdb_reader.proofs.source.read_from.Goals as goal

pub returns-in-Ok-clause-means : goal.returns-in-Ok-clause-means
returns-in-Ok-clause-means g c =
    let all = c.in-Ok.ensures.whole in
    let stands = all.3 tt [] c.new-reader.ensures.stands in
    answered-means (TakesAll (g.S.Source.left c.args.source.now) (g.S.Source.left c.feed_all.new.source)) c.args.limit all.0 c.finish.result c.answer.result c.answer.ensures all.1 all.2
    (ok-at c.finish.result (λ text. StandsFor text c.feed_all.new.taker) (λ text db. DbMeans text (database_in db)) c.finish.ensures.means all.0 stands)

pub returns-in-Ok-clause-refused : goal.returns-in-Ok-clause-refused
returns-in-Ok-clause-refused g c =
    let all = c.in-Ok.ensures.whole in
    let stands = all.3 tt [] c.new-reader.ensures.stands in
    answered-refused (TakesAll (g.S.Source.left c.args.source.now) (g.S.Source.left c.feed_all.new.source)) c.args.limit all.0 c.finish.result c.answer.result c.answer.ensures all.1 all.2
    (err-at c.finish.result (λ text. StandsFor text c.feed_all.new.taker) (λ text fault. Tells (db_fault_of text) fault) c.finish.ensures.refused all.0 stands)

pub returns-in-Ok-clause-too_long : goal.returns-in-Ok-clause-too_long
returns-in-Ok-clause-too_long g c = λ long. absurd (answered-long c.finish.result c.answer.result c.answer.ensures long)

pub returns-in-Ok-clause-failed : goal.returns-in-Ok-clause-failed
returns-in-Ok-clause-failed g c = λ failed. absurd (answered-failed c.finish.result c.answer.result c.answer.ensures failed)

pub returns-in-Err-clause-refused : goal.returns-in-Err-clause-refused
returns-in-Err-clause-refused g c = rw c.untaken.ensures (untaken-db _ c.in-Err.fault)

pub returns-in-Err-clause-too_long : goal.returns-in-Err-clause-too_long
returns-in-Err-clause-too_long g c = λ long.
    let told : c.untaken.result ≡ TooLong = cc in
    c.in-Err.ensures.too_long (ap (λ fault. Err fault) (untaken-long c.in-Err.fault (sym c.untaken.ensures ∙ told)))

pub returns-in-Err-clause-not_too_long : goal.returns-in-Err-clause-not_too_long
returns-in-Err-clause-not_too_long g c = λ other.
    c.in-Err.ensures.not_too_long (λ long.
    let is : c.in-Err.fault ≡ TooMany = cc in
    other (ap (λ fault. Err fault) (c.untaken.ensures ∙ ap untaken is)))
