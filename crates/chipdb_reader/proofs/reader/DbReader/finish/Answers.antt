use Rattle.std.proofs.Common.{arith}
use Rattle.chipdb_reader.proofs.Feeding.{told-text}
use Rattle.chipdb_reader.proofs.reader.DbReader.finish.Goals as goal

pub finish-requires-clause-room : goal.finish-requires-clause-room
finish-requires-clause-room c = λ none. omega (arith, c.self.invariant.within none, c.self.invariant.limit)

pub returns-in-Err-clause-refused : goal.returns-in-Err-clause-refused
returns-in-Err-clause-refused c = rw (← c.self.view_is) (λ text stands. told-text text c.in-Err.fault (c.in-Err.ensures.refused tt text stands.has))
