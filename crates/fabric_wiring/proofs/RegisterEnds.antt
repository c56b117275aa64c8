-- A class of joined nets at which a clock chain ends as at a register has a driver.
use Rattle.std.proofs.Common.{◌≡◌, ℕ, zero, suc, Bool, true, refl, sym, ap, ◌∙◌}
use Rattle.std.specs.Prelude.{Some}
use Rattle.fabric_model.specs.Joins.{class_of}
use Rattle.fabric_model.specs.Fabric.{Fabric}
use Rattle.fabric_model.specs.Drivers.{is_driven}
use Rattle.fabric_model.specs.Clocks.{ClockEnd, Turn, turned_end, turn_at, end_by, end_within, clock_end, register_class, clock_class}
use Rattle.fabric_model.specs.Clocks.ClockEnd.{at_pin, at_register, still, logic}
use Rattle.fabric_model.specs.Clocks.Turn.{ends, goes_to}
use Rattle.fabric_model.specs.Clocks.LeadsTo.{ends_here}
use Rattle.fabric_model.proofs.OneValue.{IsWithin}
use Rattle.fabric_model.proofs.Chains.{leads-register}

-- a chain that is turned ends at the same register
turned-class : (turned : Bool) (end : ClockEnd) → register_class (turned_end turned end) ≡ register_class end
turned-class turned (at_pin place other) = refl
turned-class turned (at_register class place other) = refl
turned-class turned (still bit) = refl
turned-class turned logic = refl

-- an end with the class of a register is at that register
end-register : (end : ClockEnd) (class : ℕ) → register_class end ≡ Some class → (place : ℕ) × (turned : Bool) × (end ≡ at_register class place turned)
end-register (at_pin place turned) class is = absurd cc
end-register (at_register other place turned) class is = let same : other ≡ class = cc in (place, turned, ap (λ k. at_register k place turned) same)
end-register (still bit) class is = absurd cc
end-register logic class is = absurd cc

module _ (fabric : Fabric) (within : IsWithin fabric) where
  -- by what a chain does at a class, if the same holds of the chains that it goes on to
  turn-driven : (class other : ℕ) (turn : Turn) (later : ℕ → ClockEnd) → ((net : ℕ) → register_class (later net) ≡ Some other → is_driven fabric other ≡ true)
      → turn_at fabric class ≡ turn → register_class (end_by later turn) ≡ Some other → is_driven fabric other ≡ true
  turn-driven class other (ends end) later known at found =
      let register = end-register end other found in (leads-register fabric within (ends_here {class = class} (at ∙ ap ends register.2))).driven
  turn-driven class other (goes_to turned net) later known at found = known net (sym (turned-class turned (later net)) ∙ found)

  -- within any number of steps
  within-driven : (steps class other : ℕ) → register_class (end_within fabric steps class) ≡ Some other → is_driven fabric other ≡ true
  unfolding end_within
  within-driven zero class other found = absurd cc
  within-driven (suc more) class other found =
      turn-driven class other (turn_at fabric class) (λ net. end_within fabric more (class_of fabric.joins net))
      (λ net. within-driven more (class_of fabric.joins net) other) refl found

  -- the class of a register that is a clock has a driver
  pub clock-driven : (net other : ℕ) → clock_class fabric (Some net) ≡ Some other → is_driven fabric other ≡ true
  unfolding clock_class clock_end
  clock-driven net other found = within-driven (suc fabric.nets) (class_of fabric.joins net) other found
