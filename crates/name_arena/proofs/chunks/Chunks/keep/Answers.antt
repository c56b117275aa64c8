use Rattle.std.proofs.Common.{rules, ◌≡◌, length, ap, arith}
use Rattle.name_arena.proofs.Kept.{none_kept}
use Rattle.name_arena.proofs.chunks.Chunks.keep.Goals as goal

pub returns-then-is_empty-clause-kept : goal.returns-then-is_empty-clause-kept
returns-then-is_empty-clause-kept c =
    let none : length c.args.name.now ≡ 0 = search rules in
    none_kept c.args.self.now c.args.name.now (omega (arith, ap (λ chunks. length chunks) c.self.view_is, c.self.invariant)) none
