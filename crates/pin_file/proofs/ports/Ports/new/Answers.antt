use Rattle.pin_file.proofs.PortSteps.{holds-new}
use Rattle.pin_file.proofs.ports.Ports.new.Goals as goal

pub returns : goal.returns
returns c = λ given same. holds-new given _ c.new.ensures.items c.new-2.ensures c.new-3.ensures same
