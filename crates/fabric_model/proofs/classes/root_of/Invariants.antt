use Rattle.std.proofs.Common.{◌≡◌, ℕ, ◌<◌, ◌≤◌, length}
use Rattle.fabric_model.specs.Parents.{IsForest, AreParents}
use Rattle.fabric_model.proofs.classes.root_of.Given as goal

abbrev pub invariant-loop-parents : goal.invariant-loop-parents
invariant-loop-parents l = record {
  forest : IsForest l.parents;
  inside : l.at < length l.parents;
  below : l.at ≤ l.net;
  class : (class : ℕ → ℕ) → AreParents class l.fn.parents → class l.at ≡ class l.net;
  kept : (class : ℕ → ℕ) → AreParents class l.fn.parents → AreParents class l.parents;
}

abbrev pub decreases-loop-parents : goal.decreases-loop-parents
decreases-loop-parents l = l.at
