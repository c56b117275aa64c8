use Rattle.ice_image.specs.Configuration.{AreBanks}
use Rattle.ice_image.proofs.Marked.{IsMarkedBelow}
use Rattle.ice_image.proofs.extras.mark_row.Given as goal

abbrev pub invariant-loop-x : goal.invariant-loop-x
invariant-loop-x g l = IsMarkedBelow l.layout l.at.y l.at.row l.x l.initial.owned l.owned × AreBanks g.P.Bits.WIDTH g.P.Bits.HEIGHT l.owned
