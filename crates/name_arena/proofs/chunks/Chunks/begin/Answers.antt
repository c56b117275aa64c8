use Rattle.std.proofs.Common.{refl, arith}
use Rattle.std.proofs.lemmas.Result.{err_from_is_err_and}
use Rattle.name_arena.proofs.Kept.{begun_keeps}
use Rattle.name_arena.proofs.chunks.Chunks.begin.Goals as goal

pub returns-clause-others : goal.returns-clause-others
returns-clause-others c =
    rw (c.in_ok-push.ensures.items, ← c.self.view_is) (begun_keeps c.self.inside.chunks.items c.in_ok-chunk.chunk (omega (arith, c.if-place.false, c.len-place.ensures)))

pub returns-in_err-push-clause-unchanged : goal.returns-in_err-push-clause-unchanged
returns-in_err-push-clause-unchanged c =
    let p = err_from_is_err_and c.from_residual-in_err-push.result c.from_residual-in_err-push.ensures.1 in
    rw (p.1, c.in_err-push.ensures.items, ← c.self.view_is) refl
