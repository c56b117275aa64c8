use Rattle.std.proofs.Common.{sym, ap, ◌∙◌}
use Rattle.graph_order.specs.Wiring.{has}
use Rattle.fabric_model.specs.Wiring.{signal_clocks}
use Rattle.fabric_wiring.proofs.Members.{has-among}
use Rattle.fabric_wiring.proofs.clocking.append_clocks_of.Goals as goal

pub append_clock-requires : goal.append_clock-requires
append_clock-requires g c = (
  c.requires.0,
  (
    c.requires.1.0,
    λ other found.
        c.requires.1.1 other
        (has-among (signal_clocks g.fabric) c.args.ins.now c.loop-source.source-index _ other c.loop-source-test.true
        (ap (λ nets. has nets other) (sym c.signal_clock.ensures) ∙ found)),
  ),
)
