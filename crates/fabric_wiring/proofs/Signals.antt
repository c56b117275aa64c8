-- A net that an input of a table reads is one of those that the table reads.
use Rattle.std.proofs.Common.{◌≡◌, ℕ, zero, suc, ◌<◌, Bool, true, false, List, [], ◌∷◌, get_or, arith}
use Rattle.std.specs.Prelude.{Option, None, Some}
use Rattle.fabric_model.specs.declared.signal.Signal.{Signal}
use Rattle.fabric_model.specs.declared.signal.Signal.TheVariants.{Net}
use Rattle.fabric_model.specs.ClockLuts.{can_be_1}
use Rattle.fabric_model.specs.Signals.{net_or_0, signal_nets}
use Rattle.fabric_model.specs.Within.{IsNetIn}
use Rattle.graph_order.specs.Wiring.{has}
use Rattle.graph_order.proofs.OneOrder.{has-first}

-- four flags, each of which says of an input whether it can be 1
pub four-flags : (ins : List Signal) (connected : ℕ → Bool) (a b c d : Bool)
    → a ≡ can_be_1 connected (get_or ins 0 (net_or_0 None)) → b ≡ can_be_1 connected (get_or ins 1 (net_or_0 None))
    → c ≡ can_be_1 connected (get_or ins 2 (net_or_0 None)) → d ≡ can_be_1 connected (get_or ins 3 (net_or_0 None))
    → (k : ℕ) → k < 4 → get_or (a ∷ b ∷ c ∷ d ∷ []) k false ≡ can_be_1 connected (get_or ins k (net_or_0 None))
four-flags ins connected a b c d first second third fourth zero few = first
four-flags ins connected a b c d first second third fourth (suc zero) few = second
four-flags ins connected a b c d first second third fourth (suc (suc zero)) few = third
four-flags ins connected a b c d first second third fourth (suc (suc (suc zero))) few = fourth
four-flags ins connected a b c d first second third fourth (suc (suc (suc (suc k)))) few = absurd (omega arith)

-- the net of an input, if all nets that the input reads are in range
pub net-within : (nets : ℕ) (net : Option ℕ) (otherwise : Bool) → ((other : ℕ) → has (signal_nets (Net net otherwise)) other ≡ true → other < nets) → IsNetIn nets net
net-within nets None otherwise all = tt
net-within nets (Some net) otherwise all = all net (has-first net [])
