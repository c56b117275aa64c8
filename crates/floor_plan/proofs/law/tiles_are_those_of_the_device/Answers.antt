use Rattle.floor_plan.proofs.Standing.{has-tiles}
use Rattle.floor_plan.proofs.law.tiles_are_those_of_the_device.Goals as goal

pub returns : goal.returns
returns c = λ all db image. has-tiles db image all
