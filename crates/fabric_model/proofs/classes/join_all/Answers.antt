use Rattle.std.proofs.Common.{drop}
use Rattle.fabric_model.specs.Joins.{class_of}
use Rattle.fabric_model.specs.Found.{ends_of}
use Rattle.fabric_model.proofs.Trees.{leads-none, leads-more}
use Rattle.fabric_model.proofs.classes.join_all.Goals as goal

pub loop-i-init : goal.loop-i-init
loop-i-init c = record { forest = c.requires.forest; joined = leads-none c.args.links.now c.args.parents.now c.requires.apart }

pub loop-i-preserved : goal.loop-i-preserved
loop-i-preserved c = record {
  forest = c.join.ensures.forest;
  joined = leads-more c.args.links.now _ c.loop-i.i c.join.new.parents c.loop-i-test.true c.loop-i.auto.i
      (c.join.ensures.merged (class_of (ends_of (drop c.loop-i.i c.args.links.now))) c.loop-i.invariant.joined);
}
