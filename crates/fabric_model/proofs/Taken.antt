-- What a fabric is that has no fault.
use Rattle.std.proofs.Common.{◌≡◌, ℕ, zero, suc, ◌<◌, ◌≤◌, Bool, true, false, List, [], ◌∷◌, length, refl, subst, arith, inl, inr}
use Rattle.std.specs.Prelude.{None}
use Rattle.std.proofs.lemmas.Bool.{cases_lt}
use Rattle.fabric_model.proofs.Firsts.{first_of-none}
use Rattle.shared_lemmas.proofs.Lists.{append_empty}
use Rattle.plane_map.specs.declared.device.DeviceName.{DeviceName}
use Rattle.ice_image.specs.Configuration.{Configuration}
use Rattle.chipdb_reader.specs.Database.{Database}
use Rattle.index_search.specs.Places.{gathered_below, or_else}
use Rattle.index_search.proofs.Found.{or_else-first, or_else-other}
use Rattle.fabric_model.specs.declared.options.FabricOptions.{FabricOptions}
use Rattle.fabric_model.specs.Unique.{ExactlyOne}
use Rattle.fabric_model.specs.Tiles.{item_if, first_of}
use Rattle.fabric_model.specs.Fabric.{Fabric, fabric_with}
use Rattle.fabric_model.specs.Drivers.{Drive, drivers_of}
use Rattle.fabric_model.specs.Values.{State, IsConsistent}
use Rattle.graph_order.specs.Wiring.{Wiring, is_on_cycle, IsWriteOrder}
use Rattle.fabric_model.specs.Wiring.{wiring_of, clocked_wiring}
use Rattle.fabric_model.specs.Faults.{Fault, drivers_fault, device_faults, pll_fault, pin_faults, pins_fault, rams_fault, driver_faults, loop_faults, clock_faults, fabric_fault, design_fault}
use Rattle.graph_order.proofs.Cycles.{IsBounded}
use Rattle.graph_order.proofs.OneOrder.{order-one}
use Rattle.graph_order.proofs.Ordered.{write_order-there}
use Rattle.fabric_model.proofs.OneValue.{IsWithin, HasSingleDrivers, wiring-bounded, consistent-one, consistent-there}
use Rattle.fabric_model.proofs.Clocking.{clocked-bounded}

-- ---- empty lists

-- no place gives anything
pub gathered_below-empty : {A : Type 0} (n k : ℕ) (given : ℕ → List A) → gathered_below n given ≡ [] → k < n → given k ≡ []
unfolding gathered_below
gathered_below-empty zero k given none within = absurd (omega arith)
gathered_below-empty (suc n) k given none within =
    elim (cases_lt k n) [
      | inl less ↦ gathered_below-empty n k given (append_empty (gathered_below n given) (given n) none).0 less
      | inr more ↦ let same : n ≡ k = omega arith in subst (λ place. given place ≡ []) same (append_empty (gathered_below n given) (given n) none).1
    ]

pub item_if-none : {A : Type 0} (passes : Bool) (item : A) → item_if passes item ≡ [] → passes ≡ false
item_if-none true item none = absurd cc
item_if-none false item none = refl

-- ---- drivers

few-drivers : (class : ℕ) (drives : List Drive) → drivers_fault class drives ≡ [] → length drives ≤ 1
few-drivers class [] none = omega arith
few-drivers class (first ∷ []) none = omega arith
few-drivers class (first ∷ second ∷ rest) none = absurd cc

module _ (device : DeviceName) (fabric : Fabric) (taken : fabric_fault device fabric ≡ None) where
  no-drivers : driver_faults fabric ≡ []
  unfolding fabric_fault
  no-drivers = first_of-none (driver_faults fabric) (or_else-first (first_of (driver_faults fabric)) _ taken)

  -- no fault but those of drivers
  few-faults : or_else (first_of (loop_faults (wiring_of fabric))) (or_else (first_of (loop_faults (clocked_wiring fabric))) (first_of (clock_faults device fabric))) ≡ None
  unfolding fabric_fault
  few-faults = or_else-other (first_of (driver_faults fabric)) _ taken

  no-loops : loop_faults (wiring_of fabric) ≡ []
  no-loops = first_of-none (loop_faults (wiring_of fabric)) (or_else-first (first_of (loop_faults (wiring_of fabric))) _ few-faults)

  few-clocked : or_else (first_of (loop_faults (clocked_wiring fabric))) (first_of (clock_faults device fabric)) ≡ None
  few-clocked = or_else-other (first_of (loop_faults (wiring_of fabric))) _ few-faults

  no-clocked_loops : loop_faults (clocked_wiring fabric) ≡ []
  no-clocked_loops = first_of-none (loop_faults (clocked_wiring fabric)) (or_else-first (first_of (loop_faults (clocked_wiring fabric))) _ few-clocked)

  -- no user has another clock than a pin or a register
  pub taken-clocks : clock_faults device fabric ≡ []
  taken-clocks = first_of-none (clock_faults device fabric) (or_else-other (first_of (loop_faults (clocked_wiring fabric))) _ few-clocked)

  -- each class has one driver at most
  pub taken-single : HasSingleDrivers fabric
  unfolding driver_faults
  taken-single class below =
      few-drivers class (drivers_of fabric class)
      (gathered_below-empty fabric.nets class (λ k. drivers_fault k (drivers_of fabric k)) no-drivers below)

  -- no class lies on a cycle
  open-by : (wiring : Wiring) → loop_faults wiring ≡ [] → (class : ℕ) → class < wiring.count → is_on_cycle wiring class ≡ false
  unfolding loop_faults
  open-by wiring none class below =
      item_if-none (is_on_cycle wiring class) (Fault.loop class)
      (gathered_below-empty wiring.count class (λ k. item_if (is_on_cycle wiring k) (Fault.loop k)) none below)

  pub taken-open : (class : ℕ) → class < (wiring_of fabric).count → is_on_cycle (wiring_of fabric) class ≡ false
  taken-open = open-by (wiring_of fabric) no-loops

  -- nor on one by registers that are clocks
  pub clocked-open : (class : ℕ) → class < (clocked_wiring fabric).count → is_on_cycle (clocked_wiring fabric) class ≡ false
  clocked-open = open-by (clocked_wiring fabric) no-clocked_loops

  module _ (within : IsWithin fabric) where
    order-by : (wiring : Wiring) → IsBounded wiring → ((class : ℕ) → class < wiring.count → is_on_cycle wiring class ≡ false) → ExactlyOne (IsWriteOrder wiring)
    order-by wiring bounded clear =
        let found = write_order-there wiring bounded clear in
        record { it = found.0; is = found.1; only = λ order is. order-one wiring order found.0 is found.1 }

    -- there is one write order that leaves clocks out
    pub taken-order : ExactlyOne (IsWriteOrder (wiring_of fabric))
    taken-order = order-by (wiring_of fabric) (wiring-bounded fabric within) taken-open

    -- and one that counts registers that are clocks
    pub clocked-order : ExactlyOne (IsWriteOrder (clocked_wiring fabric))
    clocked-order = order-by (clocked_wiring fabric) (clocked-bounded fabric within) clocked-open

    -- for each state and all values of pins there is one consistent list of net values
    pub taken-value : (state : State) (pins : List Bool) → ExactlyOne (IsConsistent fabric state pins)
    taken-value state pins =
        let found = consistent-there fabric within state pins taken-single taken-order.it taken-order.is in
        record {
          it = found.0;
          is = found.1;
          only = λ v is. consistent-one fabric within state pins taken-order.it taken-order.is v found.0 is found.1;
        }

-- what has no fault is a fabric without a fault, of one device, whose pins have no fault
pub record IsTaken (options : FabricOptions) (db : Database) (image : Configuration) : Type 0 where
  pub device : device_faults db image ≡ []
  pub pins : pin_faults options.all_pins db image ≡ []
  pub fabric : fabric_fault image.layout.device (fabric_with options db image) ≡ None

pub design-taken : (options : FabricOptions) (db : Database) (image : Configuration) → design_fault options db image ≡ None → IsTaken options db image
unfolding design_fault pins_fault
design-taken options db image none =
    let all = options.all_pins in
    let first = first_of (device_faults db image) in
    let after = or_else-other first _ none in
    record {
      device = first_of-none (device_faults db image) (or_else-first first _ none);
      pins = first_of-none (pin_faults all db image) (or_else-other (pll_fault all db image) _ (or_else-first (pins_fault all db image) _ after));
      fabric = or_else-other (rams_fault db image) _ (or_else-other (pins_fault all db image) _ after);
    }
