use Rattle.std.proofs.Common.{arith}
use Rattle.std.proofs.lemmas.Result.{err_from_is_err_and}
use Rattle.chipdb_lines.proofs.TableLists.{lists-kept, lists-push}
use Rattle.chipdb_lines.proofs.bits.BitTable.add.Goals as goal

pub returns-in_err-push_span-clause-unchanged : goal.returns-in_err-push_span-clause-unchanged
returns-in_err-push_span-clause-unchanged c =
    let p = err_from_is_err_and c.from_residual-in_err-push_span.result c.from_residual-in_err-push_span.ensures.1 in
    rw (p.1, c.in_err-push_span.ensures.unchanged, ← c.self.view_is)
    (lists-kept c.self.inside.bits.items c.push_bits.new.bits.items c.self.inside.spans.items c.in_ok-span.span c.in_ok-span.ensures.added c.self.invariant.1)

pub returns-clause-added : goal.returns-clause-added
returns-clause-added c =
    rw (c.in_ok-push_span.ensures.pushed, ← c.self.view_is)
    (lists-push c.self.inside.bits.items c.push_bits.new.bits.items c.self.inside.spans.items c.in_ok-span.span c.len-place.result c.in_ok-span.ensures.added c.self.invariant.1
    (omega (arith, c.len-place.ensures, c.self.inside.spans.ok.0)))
