use Rattle.floor_plan.proofs.Counting.{counts-agree}
use Rattle.floor_plan.proofs.law.marks_are_counted.Goals as goal

pub returns : goal.returns
returns c = counts-agree
