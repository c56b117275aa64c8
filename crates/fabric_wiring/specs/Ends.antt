-- Where clocks come from, as it is kept.
use Rattle.std.specs.Prelude.{◌≡◌, ℕ, ◌<◌, false, List, length, get_or}
use Rattle.fabric_model.specs.Joins.{class_of}
use Rattle.fabric_model.specs.Fabric.{Fabric}
use Rattle.fabric_model.specs.Clocks.{ClockEnd, clock_end}
use Rattle.fabric_model.specs.Clocks.ClockEnd.{at_pin, at_register, still, logic}
use Rattle.fabric_wiring.specs.declared.ends.ClockEnd.{ClockEnd as KeptEnd}
use Rattle.fabric_wiring.specs.declared.ends.ClockEnd.TheVariants.{Pin, Register, Still, Logic}

-- what a kept end says
abbrev pub end_of : KeptEnd → ClockEnd
end_of (Pin place turned) = at_pin place turned
end_of (Register class place turned) = at_register class place turned
end_of (Still bit) = still bit
end_of Logic = logic

-- the end that is kept for a class of joined nets
abbrev pub end_in : List KeptEnd → ℕ → ClockEnd
end_in ends class = end_of (get_or ends class (Still false))

-- ends belong to a fabric if the clock of each net comes from the end that is kept for its class of joined nets
pub record AreEndsOf (fabric : Fabric) (ends : List KeptEnd) : Type 0 where
  pub classes : length ends ≡ fabric.nets
  pub each : (net : ℕ) → net < fabric.nets → end_in ends (class_of fabric.joins net) ≡ clock_end fabric net
