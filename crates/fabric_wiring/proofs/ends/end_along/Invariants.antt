use Rattle.fabric_wiring.specs.DriverLists.{is_connected_in}
use Rattle.fabric_wiring.proofs.ends.end_along.Given as goal

abbrev pub ghost-end_through : goal.ghost-end_through
ghost-end_through a = is_connected_in a.links.now a.drivers.now
