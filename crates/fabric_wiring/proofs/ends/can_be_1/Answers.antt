use Rattle.std.proofs.Common.{◌≡◌, ℕ, ◌<◌, true, length, subst}
use Rattle.fabric_model.specs.Signals.{signal_nets}
use Rattle.graph_order.specs.Wiring.{has}
use Rattle.fabric_wiring.proofs.Signals.{net-within}
use Rattle.fabric_wiring.proofs.ends.can_be_1.Goals as goal

pub net_can_be_1-requires : goal.net_can_be_1-requires
net_can_be_1-requires c =
    net-within (length c.args.links.now.classes) c.in-Net.net c.in-Net.otherwise
    (subst (λ source. (net : ℕ) → has (signal_nets source) net ≡ true → net < length c.args.links.now.classes) c.in-Net.is c.requires)
