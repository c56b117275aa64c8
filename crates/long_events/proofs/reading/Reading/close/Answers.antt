use Rattle.std.proofs.Common.{Some, None}
use Rattle.std.specs.Prelude.{◌==◌, if◌then◌else◌}
use Rattle.long_events.specs.declared.fault.LongFault.TheVariants.{Repeat}
use Rattle.long_events.proofs.reading.Reading.close.Goals as goal

pub returns-else-repeats_nothing-clause-refused : goal.returns-else-repeats_nothing-clause-refused
returns-else-repeats_nothing-clause-refused c = c.push.ensures.memory (if c.args.self.now.level == 0 then Some (Repeat c.args.line) else None)
