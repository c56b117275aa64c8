-- Which classes of joined nets have a driver, and what these drivers read, as it is kept.
use Rattle.std.specs.Prelude.{◌≡◌, length}
use Rattle.graph_order.specs.Wiring.{Wiring}
use Rattle.graph_order.specs.Alike.{AreAlike}
use Rattle.graph_order.specs.Rows.{wiring_of, ReadsWithin, ReadsByDriven}
use Rattle.fabric_wiring.specs.declared.wires_type.Wires.{Wires}

-- wires belong to the wiring of a fabric if they say which classes of joined nets have a driver, and what these drivers read
pub record AreWiresOf (wiring : Wiring) (wires : Wires) : Type 0 where
  pub rows : length wires.reads.items ≡ length wires.driven.items
  pub alike : AreAlike (wiring_of wires.driven.items wires.reads.items) wiring
  pub within : ReadsWithin (wiring_of wires.driven.items wires.reads.items)
  pub by_driven : ReadsByDriven (wiring_of wires.driven.items wires.reads.items)
