use Rattle.std.proofs.Common.{arith}
use Rattle.long_events.specs.Moves.{moves_of}
use Rattle.long_events.proofs.Counts.{count-few, count-many}
use Rattle.long_events.proofs.reading.stream_of.Goals as goal

pub returns-then-count-lt18446744073709551615-clause-accepted : goal.returns-then-count-lt18446744073709551615-clause-accepted
returns-then-count-lt18446744073709551615-clause-accepted c = count-few (moves_of c.args.steps.items) (grind arith)

pub returns-else-count-lt18446744073709551615-clause-refused : goal.returns-else-count-lt18446744073709551615-clause-refused
returns-else-count-lt18446744073709551615-clause-refused c = count-many (moves_of c.args.steps.items) (grind arith)
