use Rattle.plan_svg.proofs.Sheets.{cells-lie, lies, pins-lie}
use Rattle.plan_svg.proofs.law.places_are_as_on_the_chip.Goals as goal

pub returns-clause-tiles : goal.returns-clause-tiles
returns-clause-tiles c = lies

pub returns-clause-cells : goal.returns-clause-cells
returns-clause-cells c = cells-lie

pub returns-clause-pins : goal.returns-clause-pins
returns-clause-pins c = pins-lie
