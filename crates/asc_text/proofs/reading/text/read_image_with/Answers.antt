use Rattle.std.proofs.Common.{List, ℕ, [], subst}
use Rattle.std.proofs.lemmas.List.{append-nil}
use Rattle.std.proofs.lemmas.Result.{err_from_is_err_and}
use Rattle.asc_text.specs.Faults.{Tells, asc_fault_of}
use Rattle.asc_text.proofs.reading.text.read_image_with.Goals as goal

pub returns-in_err-feed-clause-refused : goal.returns-in_err-feed-clause-refused
returns-in_err-feed-clause-refused c =
    let layouts = c.args.layouts in
    let fault = c.in_err-feed.field-0.0 in
    let p = err_from_is_err_and c.from_residual.result c.from_residual.ensures.1 in
    rw (p.1, p.2) (subst (λ (t : List ℕ). Tells (asc_fault_of layouts t) fault) (append-nil c.args.bytes.now) (c.in_err-feed.ensures.refused layouts [] [] c.with-reader.ensures.stands))
