use Rattle.std.proofs.Common.{◌≡◌, ℕ, ◌<◌, get_or}
use Rattle.fabric_model.specs.Parents.{IsForest, AreParents}
use Rattle.fabric_model.proofs.classes.name_all.Given as goal

abbrev pub invariant-loop-i : goal.invariant-loop-i
invariant-loop-i l = record {
  forest : IsForest l.parents;
  kept : (class : ℕ → ℕ) → AreParents class l.fn.parents → AreParents class l.parents;
  named : (class : ℕ → ℕ) → AreParents class l.fn.parents → (net : ℕ) → net < l.i → get_or l.parents net 0 ≡ class net;
}
