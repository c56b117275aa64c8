use Rattle.std.proofs.Common.{◌≡◌, true, List, ℕ, [], sym, subst, ap, ◌∙◌}
use Rattle.std.specs.Prelude.{option_to_list}
use Rattle.graph_order.specs.Wiring.{has}
use Rattle.graph_order.proofs.OneOrder.{has-first}
use Rattle.fabric_model.proofs.Facts.{has-source}
use Rattle.fabric_wiring.proofs.reading.classes_of_signals.Goals as goal

pub class_of-requires : goal.class_of-requires
class_of-requires c =
    let reads = ap option_to_list (sym c.in-Some.is) ∙ c.net_of.ensures in
    c.requires c.in-Some.net (has-source c.args.ins.now c.loop-source.source-index c.in-Some.net
    (subst (λ (l : List ℕ). has l c.in-Some.net ≡ true) reads (has-first c.in-Some.net [])))
