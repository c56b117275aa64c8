-- Why a database couldn't be read from a source or a file.
use Rattle.std.specs.Prelude.{◌≡◌, Option, Some, Result, Ok, Err}
use Rattle.ice_io.specs.declared.source.TakeFault.{TakeFault}
use Rattle.ice_io.specs.declared.source.TakeFault.TheVariants.{Failed as ReadFails, TooLong as TooMany, Memory as NoRoom}
use Rattle.chipdb_reader.specs.declared.fault.DbFault.{DbFault}
use Rattle.chipdb_reader.specs.declared.fault.DbFault.TheVariants.{At, Memory}
use Rattle.chipdb_reader.specs.declared.source.SourceDbFault.{SourceDbFault}
use Rattle.chipdb_reader.specs.declared.source.SourceDbFault.TheVariants.{Failed, TooLong, Db, Memory as OutOfMemory}
use Rattle.chipdb_reader.specs.Faults.{Fault}
use Rattle.chipdb_reader.specs.Kept.{Kept}

-- what holds of a fault of the text
abbrev pub ForDb : (DbFault → Type 0) → SourceDbFault → Type 0
ForDb P Failed = Unit {0}
ForDb P TooLong = Unit {0}
ForDb P (Db fault) = P fault
ForDb P (OutOfMemory e) = Unit {0}

-- a fault of the text is that one, and never out of memory
abbrev pub TellsFault : Option Fault → DbFault → Type 0
TellsFault fault (At line cause) = fault ≡ Some (record { line = line; cause = cause })
TellsFault fault (Memory e) = ⊥

-- why the bytes weren't all taken
abbrev pub untaken : TakeFault → SourceDbFault
untaken ReadFails = Failed
untaken TooMany = TooLong
untaken (NoRoom e) = OutOfMemory e

-- the answer after all bytes were taken
abbrev pub answer_of : Result Kept DbFault → Result Kept SourceDbFault
answer_of (Ok db) = Ok db
answer_of (Err (At line cause)) = Err (Db (At line cause))
answer_of (Err (Memory e)) = Err (OutOfMemory e)
