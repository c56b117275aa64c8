use Rattle.std.proofs.Common.{◌≡◌, ◌≤◌, ◌<◌, ℕ, List, [], ◌∷◌, ◌++◌, take_all, length, length-set, arith, ap, sym, ◌∙◌, refl}
use Rattle.std.specs.Prelude.{Option}
use Rattle.std.proofs.lemmas.List.{take_more_set, length-replicate}
use Rattle.index_search.specs.Places.{gathered_below}
use Rattle.index_search.proofs.Places.{gathered_below-more}
use Rattle.chipdb_reader.specs.Kept.{database_in}
use Rattle.fabric_model.specs.Nets.{ending_in}
use Rattle.fabric_model.specs.Rams.{port_net}
use Rattle.fabric_parts.proofs.ram.ports.numbered_nets.Goals as goal

pub loop-k-init : goal.loop-k-init
unfolding gathered_below
loop-k-init g c = record { long = length-replicate _ _; filled = refl }

pub loop-k-preserved : goal.loop-k-preserved
loop-k-preserved g c =
    let given : ℕ → List (Option ℕ) = λ k. port_net (database_in c.args.db.now) c.args.x c.args.y (ending_in c.args.before.now k) ∷ [] in
    let inside : c.loop-k.k < length c.loop-k.nets = omega (arith, c.loop-k.invariant.long) in
    record {
      long = length-set _ _ _ ∙ c.loop-k.invariant.long;
      filled = take_more_set c.loop-k.nets c.loop-k.k c.numbered_net.result inside
          ∙ ap (λ before. before ++ c.numbered_net.result ∷ []) c.loop-k.invariant.filled
          ∙ ap (λ net. gathered_below c.loop-k.k given ++ net ∷ []) c.numbered_net.ensures
          ∙ sym (gathered_below-more c.loop-k.k given);
    }

pub returns : goal.returns
returns g c =
    let given : ℕ → List (Option ℕ) = λ k. port_net (database_in c.args.db.now) c.args.x c.args.y (ending_in c.args.before.now k) ∷ [] in
    let all : c.loop-k.k ≡ g.row.N = omega arith in
    let past : length c.loop-k.nets ≤ c.loop-k.k = omega (arith, c.loop-k.invariant.long) in
    sym (take_all c.loop-k.k c.loop-k.nets past) ∙ c.loop-k.invariant.filled ∙ ap (λ n. gathered_below n given) all
