use Rattle.std.proofs.Common.{◌≡◌, true, [], sym, subst}
use Rattle.fabric_model.specs.Drivers.{nets_read}
use Rattle.graph_order.specs.Wiring.{has}
use Rattle.graph_order.proofs.OneOrder.{has-first}
use Rattle.fabric_wiring.specs.Drives.{rule_of}
use Rattle.fabric_wiring.proofs.ends.end_along.Goals as goal

pub class_of-requires : goal.class_of-requires
unfolding nets_read
class_of-requires c =
    c.requires c.in-Copied.net
    (subst (λ rule. has (nets_read (rule_of rule)) c.in-Copied.net ≡ true) (sym c.in-Copied.is) (has-first c.in-Copied.net []))
