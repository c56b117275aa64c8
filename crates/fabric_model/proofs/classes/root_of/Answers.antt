use Rattle.std.proofs.Common.{◌≤◌, get_or, length-set, ◌∙◌, arith}
use Rattle.fabric_model.proofs.Trees.{forest-set, leads-set}
use Rattle.fabric_model.proofs.classes.root_of.Goals as goal

pub loop-parents-preserved : goal.loop-parents-preserved
loop-parents-preserved c =
    let i = c.loop-parents.invariant in
    let parents = c.loop-parents.parents in
    let at = c.loop-parents.at in
    let above = get_or parents at 0 in
    let next = get_or parents above 0 in
    let first : above ≤ at = i.forest.above at i.inside in
    let second : next ≤ above = i.forest.above above (omega (arith, i.inside)) in
    record {
      forest = forest-set parents at next i.forest i.inside (omega arith);
      inside = omega (arith, i.inside, length-set parents at next);
      below = omega (arith, i.below);
      class = λ class leads.
          let now = i.kept class leads in
          now.along above (omega (arith, i.inside)) ∙ now.along at i.inside ∙ i.class class leads;
      kept = λ class leads.
          let now = i.kept class leads in
          leads-set class parents at next now i.inside (now.along above (omega (arith, i.inside)) ∙ now.along at i.inside) (λ same. absurd (omega (arith, c.loop-parents-test.true)));
    }
