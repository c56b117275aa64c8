-- The driver of a class, and the nets that it reads.
use Rattle.std.proofs.Common.{◌≡◌, ℕ, ◌<◌, ◌≤◌, true, false, List, [], ◌∷◌, get_or, sym, ap, ◌∙◌, subst, arith, inl, inr}
use Rattle.std.specs.Prelude.{Contains, map, option_to_list, option_and_then, slice_get, is_some, Option, Some, None, IfSome}
use Rattle.std.proofs.lemmas.Bool.{cases_Bool, cases_lt, false_from_ne_true}
use Rattle.std.proofs.lemmas.List.{get_or_past}
use Rattle.fabric_model.specs.Fabric.{Fabric}
use Rattle.fabric_model.specs.Drivers.{Drive, drivers_of, drives_of, is_driven, nets_read}
use Rattle.graph_order.specs.Wiring.{has}
use Rattle.fabric_model.specs.Clocks.{turn_of, turn_at}
use Rattle.fabric_model.specs.Links.{class_in}
use Rattle.fabric_model.specs.Values.{is_connected}
use Rattle.fabric_model.proofs.OneValue.{IsWithin, first-driver, first-is, none-driven, wiring-bounded, driven-is, count-is}
use Rattle.fabric_model.proofs.Within.{within-parts}
use Rattle.fabric_wiring.specs.declared.parts.Parts.{Parts}
use Rattle.fabric_wiring.specs.Parts.{ArePartsOf}
use Rattle.fabric_wiring.specs.declared.drive.Drive.{Drive as KeptDrive}
use Rattle.fabric_wiring.specs.Drives.{drive_of}
use Rattle.fabric_wiring.specs.DriverLists.{DriverSet, driver_in, is_connected_in, AreDriversOf}

module _ (fabric : Fabric) (class : ℕ) where
  -- whether a class has a driver, by its drivers
  pub driven-some : (first : Drive) (rest : List Drive) → drivers_of fabric class ≡ first ∷ rest → is_driven fabric class ≡ true
  driven-some first rest is =
      elim (cases_Bool (is_driven fabric class)) [
        | inl driven ↦ driven
        | inr away ↦ let none = none-driven fabric class away in absurd cc
      ]

  pub driven-none : drivers_of fabric class ≡ [] → is_driven fabric class ≡ false
  driven-none none =
      elim (cases_Bool (is_driven fabric class)) [
        | inl driven ↦
            let found = first-driver fabric class driven in
            let is = first-is fabric class found.0 found.1 found.2 in
            absurd cc
        | inr away ↦ away
      ]

  -- the first driver is one of the fabric
  pub first-there : (first : Drive) (rest : List Drive) → drivers_of fabric class ≡ first ∷ rest → Contains (drives_of fabric) first
  first-there first rest is =
      let found = first-driver fabric class (driven-some first rest is) in
      let other = first-is fabric class found.0 found.1 found.2 in
      let same : found.0 ≡ first = cc in
      subst (λ drive. Contains (drives_of fabric) drive) same found.2.there

  module _ (within : IsWithin fabric) where
    -- the nets that it reads are those of the fabric
    pub first-within : (first : Drive) (rest : List Drive) → drivers_of fabric class ≡ first ∷ rest
        → (net : ℕ) → has (nets_read first.rule) net ≡ true → net < fabric.nets
    first-within first rest is net reads = within.reads first (first-there first rest is) net reads

    -- what the kept driver reads are nets of the fabric
    pub kept-within : (drive : Option KeptDrive) → drivers_of fabric class ≡ map drive_of (option_to_list drive)
        → IfSome drive (λ d. (net : ℕ) → has (nets_read (drive_of d).rule) net ≡ true → net < fabric.nets)
    kept-within None is = tt
    kept-within (Some drive) is = first-within (drive_of drive) [] is

module _ (fabric : Fabric) (parts : Parts) (are_parts : ArePartsOf fabric parts) (drivers : DriverSet) (are : AreDriversOf fabric drivers) where
  some-driven : (class : ℕ) (kept : Option KeptDrive) → drivers_of fabric class ≡ map drive_of (option_to_list kept) → is_some kept ≡ is_driven fabric class
  some-driven class None is = sym (driven-none fabric class is)
  some-driven class (Some drive) is = sym (driven-some fabric class (drive_of drive) [] is)

  -- a class past the last has no driver
  past-none : (class : ℕ) → fabric.nets ≤ class → is_some (driver_in drivers class) ≡ is_driven fabric class
  past-none class past =
      let none : get_or drivers.places class None ≡ None = get_or_past drivers.places class None (omega (arith, are.classes, past)) in
      let away : is_driven fabric class ≡ false =
      false_from_ne_true (is_driven fabric class) (λ driven.
      let bound = (wiring-bounded fabric (within-parts fabric are_parts.within)).driven class (driven-is fabric class ∙ driven) in
      omega (arith, bound, past, count-is fabric)) in
      ap (λ place. is_some (option_and_then (slice_get drivers.drives) place)) none ∙ sym away

  class-driven : (class : ℕ) → is_some (driver_in drivers class) ≡ is_driven fabric class
  class-driven class =
      elim (cases_lt class fabric.nets) [
        | inl within ↦ some-driven class (driver_in drivers class) (are.each class within)
        | inr past ↦ past-none class past
      ]

  -- a net is connected if a driver is kept for its class
  pub connected-kept : is_connected_in parts.links drivers ≡ is_connected fabric
  connected-kept = λ i net. (class-driven (class_in parts.links net) ∙ ap (is_driven fabric) (are_parts.classes net)) i

  -- what a chain does at a class, by the kept driver
  pub turn-kept : (class : ℕ) → class < fabric.nets
      → turn_at fabric class
      ≡ turn_of (is_connected_in parts.links drivers) parts.options.register_clocks class (map drive_of (option_to_list (driver_in drivers class)))
  unfolding turn_at
  turn-kept class within =
      let drives = map drive_of (option_to_list (driver_in drivers class)) in
      ap (turn_of (is_connected fabric) fabric.register_clocks class) (are.each class within)
      ∙ ap (λ connected. turn_of connected fabric.register_clocks class drives) (sym connected-kept)
      ∙ ap (λ taken. turn_of (is_connected_in parts.links drivers) taken class drives) (sym are_parts.register_clocks)
