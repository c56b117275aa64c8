use Rattle.std.proofs.Common.{◌+◌}
use Rattle.std.proofs.lemmas.Result.{err_from_is_err_and}
use Rattle.bin_stream.proofs.Stages.{cut-pending}
use Rattle.bin_stream.proofs.reading.stage.commands_after.Goals as goal

pub returns-in_err-taken-clause-stands : goal.returns-in_err-taken-clause-stands
returns-in_err-taken-clause-stands c = λ all read.
    let p = err_from_is_err_and c.from_residual.result c.from_residual.ensures.1 in
    rw (p.1, p.2) (c.in_err-taken.ensures.refused all c.args.comment read)

pub returns-clause-stands : goal.returns-clause-stands
returns-clause-stands c = λ all read.
    let w = c.in_ok-taken in
    c.stage_after.ensures.stands c.args.machine.layouts all
    (λ last. w.ensures.woken last all c.args.comment read)
    (λ goes. cut-pending c.args.machine.layouts all c.args.comment w.taken.machine.registers w.taken.machine.image (c.args.at.offset + w.taken.end) _ c.in_ok-left.left.items (w.ensures.cut goes all c.args.comment read) (c.in_ok-left.ensures.left goes))
