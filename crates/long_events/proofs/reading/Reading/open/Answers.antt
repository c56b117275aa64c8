use Rattle.std.proofs.Common.{Some, None}
use Rattle.std.specs.Prelude.{nat_lt, if◌then◌else◌}
use Rattle.std.proofs.lemmas.Result.{err_from_is_err_and}
use Rattle.long_events.specs.declared.fault.LongFault.TheVariants.{Repeat}
use Rattle.long_events.proofs.reading.Reading.open.Goals as goal

pub returns-in_err-push-clause-refused : goal.returns-in_err-push-clause-refused
returns-in_err-push-clause-refused c =
    let p = err_from_is_err_and c.from_residual.result c.from_residual.ensures.1 in
    rw (p.1, p.2) (c.in_err-push.ensures.memory (if nat_lt c.args.self.now.level 8 then None else Some (Repeat c.args.line)))
