use Rattle.std.proofs.Common.{◌≡◌, false, sym, ap, ◌∙◌}
use Rattle.graph_order.proofs.Alike.{order-alike}
use Rattle.fabric_model.specs.Tiles.{first_of}
use Rattle.fabric_model.specs.Wiring.{wiring_of, clocked_wiring}
use Rattle.fabric_wiring.specs.Clocking.{has_register_clocks}
use Rattle.fabric_wiring.proofs.ClockNets.{clocked-alike}
use Rattle.fabric.proofs.Evidence.{loops-alike}
use Rattle.fabric.proofs.order.clocked_order.Goals as goal

pub returns-else-has_register_clocks-clause-order : goal.returns-else-has_register_clocks-clause-order
returns-else-has_register_clocks-clause-order g c =
    let none : has_register_clocks g.fabric ≡ false = sym c.has_register_clocks.ensures ∙ c.if-has_register_clocks.false in
    order-alike (clocked-alike g.fabric none c.requires.0.within) c.args.order.items c.requires.1.1.1.0

pub returns-else-has_register_clocks-clause-taken : goal.returns-else-has_register_clocks-clause-taken
returns-else-has_register_clocks-clause-taken g c =
    let none : has_register_clocks g.fabric ≡ false = sym c.has_register_clocks.ensures ∙ c.if-has_register_clocks.false in
    ap first_of (sym (loops-alike (wiring_of g.fabric) (clocked_wiring g.fabric) (clocked-alike g.fabric none c.requires.0.within))) ∙ c.requires.1.1.1.1
