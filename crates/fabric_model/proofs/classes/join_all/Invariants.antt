use Rattle.std.proofs.Common.{drop}
use Rattle.fabric_model.specs.Joins.{class_of}
use Rattle.fabric_model.specs.Found.{ends_of}
use Rattle.fabric_model.specs.Parents.{IsForest, AreParents}
use Rattle.fabric_model.proofs.classes.join_all.Given as goal

abbrev pub invariant-loop-i : goal.invariant-loop-i
invariant-loop-i l = record {
  forest : IsForest l.parents;
  joined : AreParents (class_of (ends_of (drop l.i l.links))) l.parents;
}
