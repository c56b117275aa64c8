use Rattle.std.proofs.Common.{◌∷◌, ◌++◌, [], ◌≡◌, List, ℕ, length, length-append, arith, ap, ◌∙◌}
use Rattle.name_arena.specs.Buckets.{AreChained, named}
use Rattle.name_arena.proofs.Places.{chained_among, named_last}
use Rattle.name_arena.proofs.table.NameTable.push.Goals as goal

pub invariant_of-self-2 : goal.invariant_of-self-2
invariant_of-self-2 c =
    let names : List (List ℕ) = c.self.inside.names in
    let name : List ℕ = c.args.name.now in
    let pushed : c.push.new.self ≡ names ++ name ∷ [] = c.in_ok-id.ensures.pushed in
    let longer = length-append names (name ∷ []) in
    let count : length c.reserve.new.self.before.items ≡ length names = ap length c.reserve.ensures.same.1 ∙ c.widen.ensures.whole in
    let chained : AreChained (names ++ name ∷ []) c.reserve.new.self.last.items c.reserve.new.self.before.items =
    rw (c.reserve.ensures.same.0, c.reserve.ensures.same.1) (chained_among names (name ∷ []) _ _ c.widen.ensures.chained) in
    let here : named (names ++ name ∷ []) (length c.reserve.new.self.before.items) ≡ name = ap (named (names ++ name ∷ [])) count ∙ named_last names name in
    rw pushed (
      c.push-2.ensures.chained (names ++ name ∷ []) (omega (arith, count, longer)) here chained,
      omega (arith, c.push-2.ensures.counted, count, longer),
      λ _. omega (arith, c.push-2.ensures.buckets, ap (λ v. length v.items) c.reserve.ensures.same.0, c.in_ok-widen.ensures.some),
    )
