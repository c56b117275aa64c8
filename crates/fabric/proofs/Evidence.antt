-- The first of some faults has what it tells.
use Rattle.std.proofs.Common.{◌≡◌, ℕ, zero, suc, ◌<◌, ◌≤◌, Bool, true, false, List, [], ◌∷◌, ◌++◌, length, refl, sym, ap, subst, ◌∙◌, arith, inl, inr}
use Rattle.std.specs.Prelude.{Option, Some, None, Contains, flat_map, slice_index, get_or, ◌⊎◌}
use Rattle.std.proofs.lemmas.Bool.{false≢true}
use Rattle.plane_map.specs.declared.device.DeviceName.{DeviceName}
use Rattle.index_search.specs.Places.{gathered_below}
use Rattle.fabric_model.specs.declared.driver.Driver.{Driver}
use Rattle.fabric_model.specs.declared.driver.ClockUser.{ClockUser}
use Rattle.fabric_model.specs.Tiles.{first_of, item_if}
use Rattle.fabric_model.specs.Fabric.{Fabric}
use Rattle.fabric_model.specs.Drivers.{Drive, drivers_of}
use Rattle.std.specs.declared.vec.Vec.{Vec}
use Rattle.graph_order.proofs.Whole.{marked-within}
use Rattle.index_search.proofs.Places.{gathered_below-none, gathered_below-same}
use Rattle.fabric_model.proofs.Firsts.{first_of-alone}
use Rattle.graph_order.specs.Wiring.{Wiring, is_on_cycle, IsCycle}
use Rattle.fabric_model.specs.Wiring.{wiring_of, clocked_wiring}
use Rattle.graph_order.proofs.Cycles.{IsBounded, is_on_cycle-whole}
use Rattle.graph_order.specs.Rows.{ReadsByDriven, wiring_of as rows_wiring}
use Rattle.fabric_model.specs.Joins.{class_of}
use Rattle.fabric_model.specs.Clocks.{ClockEnd, LeadsTo, User, users_of, clock_end}
use Rattle.fabric_model.specs.Clocks.ClockEnd.{at_pin, at_register, still, logic}
use Rattle.fabric_model.specs.Faults.{Fault, drivers_fault, driver_faults, loop_faults, end_fault, user_fault, clock_faults, fabric_fault}
use Rattle.fabric_wiring.specs.declared.fault.DriverFault.{DriverFault}
use Rattle.fabric_wiring.specs.declared.fault.DriverFault.TheVariants as drivers
use Rattle.fabric_wiring.specs.Faults.{IsCause as IsDriverCause}
use Rattle.fabric.specs.declared.fault.FabricFault.{FabricFault}
use Rattle.fabric.specs.declared.fault.FabricFault.TheVariants.{Device, Pll, PinMode, Cascade, TwoDrivers, Loop, Clock, Memory}
use Rattle.graph_order.specs.Alike.{AreAlike}
use Rattle.graph_order.proofs.Alike.{is_on_cycle-alike, cycle-alike}
use Rattle.fabric_model.proofs.OneValue.{count-is}
use Rattle.fabric.specs.Causes.{of_drivers}
use Rattle.fabric.specs.Faults.{HasDriversApart, IsCause, AreTwoDrivers, IsLoopOf, IsUnclocked}
use Rattle.fabric.specs.Faults.IsLoopFrom.{of_logic, of_clocks}

-- ---- the first item of lists

first-append : {A : Type 0} (xs ys : List A) (item : A) → first_of (xs ++ ys) ≡ Some item → (first_of xs ≡ Some item) ⊎ (first_of ys ≡ Some item)
first-append [] ys item is = inr is
first-append (x ∷ xs) ys item is = inl is

first-gathered : {A : Type 0} (n : ℕ) (given : ℕ → List A) (item : A) → first_of (gathered_below n given) ≡ Some item → (k : ℕ) × (first_of (given k) ≡ Some item)
unfolding gathered_below
first-gathered zero given item is = absurd cc
first-gathered (suc n) given item is =
    elim (first-append (gathered_below n given) (given n) item is) [
      | inl before ↦ first-gathered n given item before
      | inr here ↦ (n, here)
    ]

first-flat_map : {X A : Type 0} (given : X → List A) (xs : List X) (item : A) → first_of (flat_map given xs) ≡ Some item
    → (x : X) × Contains xs x × (first_of (given x) ≡ Some item)
first-flat_map given [] item is = absurd cc
first-flat_map given (x ∷ xs) item is =
    elim (first-append (given x) (flat_map given xs) item is) [
      | inl here ↦ (x, (zero, omega arith, refl), here)
      | inr after ↦ let found = first-flat_map given xs item after in (found.0, (suc found.1.0, omega (arith, found.1.1), found.1.2), found.2)
    ]

-- ---- two drivers

two-drivers : (fabric : Fabric) → HasDriversApart fabric → (class : ℕ) (drives : List Drive) (net : ℕ) (first second : Driver) → drivers_of fabric class ≡ drives
    → first_of (drivers_fault class drives) ≡ Some (Fault.two_drivers net first second) → AreTwoDrivers fabric net first second
two-drivers fabric apart class [] net first second drive is = absurd cc
two-drivers fabric apart class (one ∷ []) net first second drive is = absurd cc
two-drivers fabric apart class (one ∷ two ∷ rest) net first second drive is =
    let same : class ≡ net = cc in
    record {
      one = one;
      two = two;
      rest = rest;
      drive = ap (drivers_of fabric) (sym same) ∙ drive;
      first_is = cc;
      second_is = cc;
      differ = λ one_driver. apart class one two rest drive (cc);
    }

pub drivers-evidence : (fabric : Fabric) → HasDriversApart fabric → (net : ℕ) (first second : Driver) → first_of (driver_faults fabric) ≡ Some (Fault.two_drivers net first second) → AreTwoDrivers fabric net first second
unfolding driver_faults
drivers-evidence fabric apart net first second is =
    let found = first-gathered fabric.nets (λ class. drivers_fault class (drivers_of fabric class)) _ is in
    two-drivers fabric apart found.0 (drivers_of fabric found.0) net first second refl found.1

-- ---- clocks

abbrev user_of : User → ℕ → User
user_of one net = record { x = one.x; y = one.y; user = one.user; net = Some net }

-- each clock chain of a fabric leads to its end
abbrev HaveEnds : Fabric → Type 0
HaveEnds fabric = (net : ℕ) → LeadsTo fabric (class_of fabric.joins net) (clock_end fabric net)

user-ends : (device : DeviceName) (fabric : Fabric) → HaveEnds fabric → (one : User) (found : Option ℕ) → one.net ≡ found → Contains (users_of device fabric) one
    → (x y : ℕ) (user : ClockUser) (net : ℕ) → first_of (user_fault fabric one found) ≡ Some (Fault.clock x y user net) → IsUnclocked device fabric x y user net
user-ends device fabric leads one None has there x y user net is = absurd cc
user-ends device fabric leads one (Some source) has there x y user net is = by-end (clock_end fabric source) refl is
  where
    by-end : (end : ClockEnd) → clock_end fabric source ≡ end → first_of (end_fault one source end) ≡ Some (Fault.clock x y user net) → IsUnclocked device fabric x y user net
    by-end (at_pin place turned) ends told = absurd cc
    by-end (at_register class place turned) ends told = absurd cc
    by-end (still bit) ends told = absurd cc
    by-end logic ends told =
        let same : user_of one source ≡ user_of (record { x = x; y = y; user = user; net = Some net }) net = cc in
        let is_one : one ≡ user_of one source = ap (λ n. record { x = one.x; y = one.y; user = one.user; net = n }) has in
        let is_net : source ≡ net = cc in
        record { there = subst (Contains (users_of device fabric)) (is_one ∙ same) there; ends = subst (λ n. clock_end fabric n ≡ logic) is_net ends; chain = subst (LeadsTo fabric (class_of fabric.joins net)) (subst (λ n. clock_end fabric n ≡ logic) is_net ends) (leads net) }

pub clocks-evidence : (device : DeviceName) (fabric : Fabric) → HaveEnds fabric → (x y : ℕ) (user : ClockUser) (net : ℕ) → first_of (clock_faults device fabric) ≡ Some (Fault.clock x y user net)
    → IsUnclocked device fabric x y user net
unfolding clock_faults
clocks-evidence device fabric leads x y user net is =
    let found = first-flat_map (λ one. user_fault fabric one one.net) (users_of device fabric) _ is in
    user-ends device fabric leads found.0 found.0.net refl found.1 x y user net found.2

-- ---- cycles

on-cycle : (wiring : Wiring) (class : ℕ) → is_on_cycle wiring class ≡ true → item_if (is_on_cycle wiring class) (Fault.loop class) ≡ Fault.loop class ∷ []
on-cycle wiring class on = rw on refl

off-cycle : (wiring : Wiring) (class : ℕ) → is_on_cycle wiring class ≡ false → item_if (is_on_cycle wiring class) (Fault.loop class) ≡ []
off-cycle wiring class off = rw off refl

pub loop-first : (wiring : Wiring) (class : ℕ) → class < wiring.count → is_on_cycle wiring class ≡ true → ((k : ℕ) → k < class → is_on_cycle wiring k ≡ false)
    → first_of (loop_faults wiring) ≡ Some (Fault.loop class)
unfolding loop_faults
loop-first wiring class below on least =
    first_of-alone wiring.count class (λ k. item_if (is_on_cycle wiring k) (Fault.loop k)) (Fault.loop class) below (on-cycle wiring class on)
    (λ k lower. off-cycle wiring k (least k lower))

pub loop-none : (wiring : Wiring) → ((k : ℕ) → k < wiring.count → is_on_cycle wiring k ≡ false) → first_of (loop_faults wiring) ≡ None
unfolding loop_faults
loop-none wiring none =
    ap first_of (gathered_below-none wiring.count (λ k. item_if (is_on_cycle wiring k) (Fault.loop k)) (λ k below. off-cycle wiring k (none k below)))

-- wirings that say the same have the same loops
pub loops-alike : (one two : Wiring) → AreAlike one two → loop_faults one ≡ loop_faults two
unfolding loop_faults
loops-alike one two alike =
    gathered_below-same one.count (λ k. item_if (is_on_cycle one k) (Fault.loop k)) (λ k. item_if (is_on_cycle two k) (Fault.loop k))
    (λ k below. ap (λ on. item_if on (Fault.loop k)) (is_on_cycle-alike alike k))
    ∙ ap (λ n. gathered_below n (λ k. item_if (is_on_cycle two k) (Fault.loop k))) alike.count

module _ {Z : Type 0} (wiring : Wiring) (driven : List Bool) (reads : List (Vec ℕ Z)) (alike : AreAlike (rows_wiring driven reads) wiring) where
  -- only classes of the wiring are driven and read others
  bounded : ReadsByDriven (rows_wiring driven reads) → IsBounded wiring
  bounded by_driven = record {
    driven = λ class drives. subst (λ n. class < n) alike.count (marked-within driven class (alike.driven class ∙ drives));
    depending = λ class other on. subst (λ n. class < n) alike.count (marked-within driven class (by_driven class other (alike.reads class other ∙ on)));
  }

  -- a cycle from the least class that lies on one is the evidence of that class
  pub loop-told : ReadsByDriven (rows_wiring driven reads) → (cycle : List ℕ) (net : ℕ) → IsCycle (rows_wiring driven reads) cycle → net ≡ get_or cycle 0 net
      → slice_index cycle 0 < length driven → is_on_cycle (rows_wiring driven reads) (slice_index cycle 0) ≡ true
      → ((k : ℕ) → k < slice_index cycle 0 → is_on_cycle (rows_wiring driven reads) k ≡ false)
      → IsLoopOf wiring (Loop net cycle)
  loop-told by_driven [] net is_cycle first below on least = absurd is_cycle
  loop-told by_driven (head ∷ rest) net is_cycle first below on least =
      let off = λ (k : ℕ) (lower : k < head). sym (is_on_cycle-alike alike k) ∙ least k lower in
      let told = loop-first wiring head (subst (λ n. head < n) alike.count below) (sym (is_on_cycle-alike alike head) ∙ on) off in (
        told ∙ ap (λ n. Some (Fault.loop n)) (sym first),
        record {
          is_cycle = cycle-alike alike (head ∷ rest) is_cycle;
          begins = ap (λ n. Some n) (sym first);
          least = λ lesser more lower cycles.
              false≢true (sym (off lesser (subst (λ n. lesser < n) first lower)) ∙ is_on_cycle-whole wiring (bounded by_driven) lesser more cycles);
        },
      )

-- a wiring that says what a fabric does has as many classes as the fabric has nets
pub nets-few : (fabric : Fabric) (wiring : Wiring) (most : ℕ) → AreAlike wiring (wiring_of fabric) → wiring.count ≤ most → fabric.nets ≤ most
nets-few fabric wiring most alike few = subst (λ n. n ≤ most) (alike.count ∙ count-is fabric) few

-- ---- the first cause of a fabric

module _ (device : DeviceName) (fabric : Fabric) where
  pub drivers-cause : (cause : Fault) → first_of (driver_faults fabric) ≡ Some cause → fabric_fault device fabric ≡ Some cause
  unfolding fabric_fault
  drivers-cause cause is = rw is refl

  module _ (single : first_of (driver_faults fabric) ≡ None) where
    loops-cause : (cause : Fault) → first_of (loop_faults (wiring_of fabric)) ≡ Some cause → fabric_fault device fabric ≡ Some cause
    unfolding fabric_fault
    loops-cause cause is = rw (single, is) refl

    -- a loop of the logic is the cause, and so is one by registers that are clocks if there is none of the logic
    pub logic-told : (fault : FabricFault) → IsLoopOf (wiring_of fabric) fault → IsCause device fabric (fabric_fault device fabric) fault
    logic-told Device is = absurd is
    logic-told (Pll x y) is = absurd is
    logic-told (PinMode x y pio pintype) is = absurd is
    logic-told (Cascade x y) is = absurd is
    logic-told (TwoDrivers net first second) is = absurd is
    logic-told (Loop net cycle) is = (loops-cause _ is.0, of_logic is.1)
    logic-told (Clock x y user net) is = absurd is
    logic-told (Memory failed) is = tt

    module _ (open_ : first_of (loop_faults (wiring_of fabric)) ≡ None) where
      clock_loops-cause : (cause : Fault) → first_of (loop_faults (clocked_wiring fabric)) ≡ Some cause → fabric_fault device fabric ≡ Some cause
      unfolding fabric_fault
      clock_loops-cause cause is = rw (single, open_, is) refl

      pub clock_loops-told : (fault : FabricFault) → IsLoopOf (clocked_wiring fabric) fault → IsCause device fabric (fabric_fault device fabric) fault
      clock_loops-told Device is = absurd is
      clock_loops-told (Pll x y) is = absurd is
      clock_loops-told (PinMode x y pio pintype) is = absurd is
      clock_loops-told (Cascade x y) is = absurd is
      clock_loops-told (TwoDrivers net first second) is = absurd is
      clock_loops-told (Loop net cycle) is = (clock_loops-cause _ is.0, of_clocks open_ is.1)
      clock_loops-told (Clock x y user net) is = absurd is
      clock_loops-told (Memory failed) is = tt

      module _ (still_open : first_of (loop_faults (clocked_wiring fabric)) ≡ None) where
        pub clocks-cause : (cause : Fault) → first_of (clock_faults device fabric) ≡ Some cause → fabric_fault device fabric ≡ Some cause
        unfolding fabric_fault
        clocks-cause cause is = rw (single, open_, still_open, is) refl

        pub no-cause : first_of (clock_faults device fabric) ≡ None → fabric_fault device fabric ≡ None
        unfolding fabric_fault
        no-cause is = rw (single, open_, still_open, is) refl

  -- a refusal of the fabric's drivers is one of the fabric
  pub drivers-told : HasDriversApart fabric → (fault : DriverFault) → IsDriverCause (first_of (driver_faults fabric)) fault → IsCause device fabric (fabric_fault device fabric) (of_drivers fault)
  drivers-told apart (drivers.TwoDrivers net first second) is = (drivers-cause _ is, drivers-evidence fabric apart net first second is)
  drivers-told apart (drivers.Memory failed) is = tt

  -- the same refusal for another fault
  pub same-cause : (one two : Option Fault) → ((cause : Fault) → one ≡ Some cause → two ≡ Some cause) → (fault : FabricFault) → IsCause device fabric one fault → IsCause device fabric two fault
  same-cause one two goes Device is = goes _ is
  same-cause one two goes (Pll x y) is = goes _ is
  same-cause one two goes (PinMode x y pio pintype) is = goes _ is
  same-cause one two goes (Cascade x y) is = goes _ is
  same-cause one two goes (TwoDrivers net first second) is = (goes _ is.0, is.1)
  same-cause one two goes (Loop net cycle) is = (goes _ is.0, is.1)
  same-cause one two goes (Clock x y user net) is = (goes _ is.0, is.1)
  same-cause one two goes (Memory failed) is = tt
