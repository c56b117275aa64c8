-- What is answered of the bytes of a source or a file.
use Rattle.std.proofs.Common.{◌≡◌, ℕ, ◌≤◌, List, length, refl, sym, ◌∙◌}
use Rattle.std.specs.Prelude.{Result, Ok, Err, IfOk, IfErr, IsErrOf}
use Rattle.ice_io.specs.declared.source.TakeFault.{TakeFault}
use Rattle.ice_io.specs.declared.source.TakeFault.TheVariants.{Failed as ReadFails, TooLong as TooMany, Memory as NoRoom}
use Rattle.chipdb_reader.specs.declared.fault.DbFault.{DbFault}
use Rattle.chipdb_reader.specs.declared.fault.DbFault.TheVariants.{At, Memory}
use Rattle.chipdb_reader.specs.declared.source.SourceDbFault.{SourceDbFault}
use Rattle.chipdb_reader.specs.declared.source.SourceDbFault.TheVariants.{Failed, TooLong}
use Rattle.chipdb_reader.specs.Faults.{DbMeans, Tells, db_fault_of}
use Rattle.chipdb_reader.specs.Kept.{Kept, database_in}
use Rattle.chipdb_reader.specs.Sources.{ForDb, TellsFault, answer_of, untaken}

-- the answer, if all bytes were taken
pub answered-means : (Takes : List ℕ → Type 0) (limit : ℕ) (bytes : List ℕ) (read : Result Kept DbFault) (answer : Result Kept SourceDbFault) → answer ≡ answer_of read → Takes bytes → length bytes ≤ limit
    → IfOk read (λ db. DbMeans bytes (database_in db)) → IfOk answer (λ db. (all : List ℕ) × Takes all × (length all ≤ limit) × DbMeans all (database_in db))
answered-means Takes limit bytes (Ok db) answer is takes few means = rw is (bytes, takes, few, means)
answered-means Takes limit bytes (Err (At line cause)) answer is takes few means = rw is tt
answered-means Takes limit bytes (Err (Memory e)) answer is takes few means = rw is tt

pub answered-refused : (Takes : List ℕ → Type 0) (limit : ℕ) (bytes : List ℕ) (read : Result Kept DbFault) (answer : Result Kept SourceDbFault) → answer ≡ answer_of read → Takes bytes → length bytes ≤ limit
    → IfErr read (Tells (db_fault_of bytes)) → IfErr answer (ForDb (λ fault. (all : List ℕ) × Takes all × (length all ≤ limit) × TellsFault (db_fault_of all) fault))
answered-refused Takes limit bytes (Ok db) answer is takes few told = rw is tt
answered-refused Takes limit bytes (Err (At line cause)) answer is takes few told = rw is (bytes, takes, few, told)
answered-refused Takes limit bytes (Err (Memory e)) answer is takes few told = rw is tt

-- it is no fault of reading
pub answered-long : (read : Result Kept DbFault) (answer : Result Kept SourceDbFault) → answer ≡ answer_of read → IsErrOf answer TooLong → ⊥
answered-long (Ok db) answer is long = let none : Ok db ≡ Err TooLong = sym is ∙ long in absurd cc
answered-long (Err (At line cause)) answer is long = let none = sym is ∙ long in absurd cc
answered-long (Err (Memory e)) answer is long = let none = sym is ∙ long in absurd cc

pub answered-failed : (read : Result Kept DbFault) (answer : Result Kept SourceDbFault) → answer ≡ answer_of read → IsErrOf answer Failed → ⊥
answered-failed (Ok db) answer is failed = let none : Ok db ≡ Err Failed = sym is ∙ failed in absurd cc
answered-failed (Err (At line cause)) answer is failed = let none = sym is ∙ failed in absurd cc
answered-failed (Err (Memory e)) answer is failed = let none = sym is ∙ failed in absurd cc

-- the answer, if bytes weren't all taken
pub untaken-db : (P : DbFault → Type 0) (fault : TakeFault) → ForDb P (untaken fault)
untaken-db P ReadFails = tt
untaken-db P TooMany = tt
untaken-db P (NoRoom e) = tt

pub untaken-long : (fault : TakeFault) → untaken fault ≡ TooLong → fault ≡ TooMany
untaken-long ReadFails is = absurd cc
untaken-long TooMany is = refl
untaken-long (NoRoom e) is = absurd cc

pub untaken-failed : (fault : TakeFault) → untaken fault ≡ Failed → fault ≡ ReadFails
untaken-failed ReadFails is = refl
untaken-failed TooMany is = absurd cc
untaken-failed (NoRoom e) is = absurd cc
