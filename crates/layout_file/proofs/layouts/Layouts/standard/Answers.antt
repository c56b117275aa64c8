use Rattle.layout_file.proofs.ByDevice.{standard-are}
use Rattle.layout_file.proofs.layouts.Layouts.standard.Goals as goal

pub returns-clause-devices : goal.returns-clause-devices
returns-clause-devices c = rw (c.standard.ensures, c.standard-2.ensures, c.standard-3.ensures) standard-are
