use Rattle.std.proofs.lemmas.Result.{err_from_is_err_and}
use Rattle.bin_stream.proofs.reading.stage.stage_after.Goals as goal

pub returns-in_err-image-clause-stands : goal.returns-in_err-image-clause-stands
returns-in_err-image-clause-stands c = λ layouts all woken cut.
    let p = err_from_is_err_and c.from_residual.result c.from_residual.ensures.1 in
    rw (p.1, p.2) (c.in_err-image.ensures.refused layouts all (woken c.if-is_last.true))
