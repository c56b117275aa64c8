use Rattle.floor_plan.proofs.Standing.{stands-once}
use Rattle.floor_plan.proofs.law.parts_stand_once.Goals as goal

pub returns : goal.returns
returns c = λ all db image. stands-once db image all
