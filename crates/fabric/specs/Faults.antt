-- Why a database and an image aren't taken, with the evidence.
use Rattle.std.specs.Prelude.{◌≡◌, ◌≢◌, ℕ, ◌<◌, Bool, List, ◌∷◌, Contains, Option, Some, None}
use Rattle.ice_image.specs.Configuration.{Configuration}
use Rattle.fabric_model.specs.declared.driver.Driver.{Driver}
use Rattle.fabric_model.specs.declared.driver.ClockUser.{ClockUser}
use Rattle.fabric_model.specs.Tiles.{first_of}
use Rattle.fabric_model.specs.Fabric.{Fabric}
use Rattle.fabric_model.specs.Drivers.{Drive, drivers_of}
use Rattle.graph_order.specs.Wiring.{Wiring, IsCycle}
use Rattle.fabric_model.specs.Wiring.{wiring_of, clocked_wiring}
use Rattle.fabric_model.specs.Joins.{class_of}
use Rattle.fabric_model.specs.Clocks.{LeadsTo, users_of, clock_end}
use Rattle.fabric_model.specs.Clocks.ClockEnd.{logic}
use Rattle.chipdb_reader.specs.Database.{Database}
use Rattle.fabric_model.specs.Faults.{Fault, loop_faults, pins_fault, rams_fault}
use Rattle.plane_map.specs.declared.device.DeviceName.{DeviceName}
use Rattle.fabric.specs.declared.fault.FabricFault.{FabricFault}
use Rattle.fabric.specs.declared.fault.FabricFault.TheVariants.{Device, Pll, PinMode, Cascade, TwoDrivers, Loop, Clock, Memory}

-- ---- evidence

-- the first two drivers of each class of joined nets differ
abbrev pub HasDriversApart : Fabric → Type 0
HasDriversApart fabric = (class : ℕ) (one two : Drive) (rest : List Drive) → drivers_of fabric class ≡ one ∷ two ∷ rest → one.driver ≢ two.driver

-- the first two drivers of a class of joined nets, which differ
pub record AreTwoDrivers (fabric : Fabric) (class : ℕ) (first second : Driver) : Type 0 where
  pub one : Drive
  pub two : Drive
  pub rest : List Drive
  pub drive : drivers_of fabric class ≡ one ∷ two ∷ rest
  pub first_is : one.driver ≡ first
  pub second_is : two.driver ≡ second
  pub differ : first ≢ second

-- A cycle that begins with a class of joined nets: each class depends on the next, and the last one on the first. No cycle has a lesser
-- class.
pub record IsCycleFrom (wiring : Wiring) (class : ℕ) (cycle : List ℕ) : Type 0 where
  pub is_cycle : IsCycle wiring cycle
  pub begins : first_of cycle ≡ Some class
  pub least : (lesser : ℕ) (rest : List ℕ) → lesser < class → IsCycle wiring (lesser ∷ rest) → ⊥

-- The cycle of a fabric with a loop. It is a combinational one, which leaves clocks out, wherever there is one; else it is one by registers
-- that are clocks.
pub data IsLoopFrom (fabric : Fabric) (class : ℕ) (cycle : List ℕ) : Type 0 where
  of_logic : IsCycleFrom (wiring_of fabric) class cycle → IsLoopFrom fabric class cycle
  of_clocks : first_of (loop_faults (wiring_of fabric)) ≡ None → IsCycleFrom (clocked_wiring fabric) class cycle → IsLoopFrom fabric class cycle

-- a refusal tells the least class of joined nets on a cycle of a wiring, with a cycle from it, or that memory ran out
abbrev pub IsLoopOf : Wiring → FabricFault → Type 0
IsLoopOf wiring (Loop net cycle) = (first_of (loop_faults wiring) ≡ Some (Fault.loop net)) × IsCycleFrom wiring net cycle
IsLoopOf wiring (Memory failed) = Unit {0}
IsLoopOf wiring _ = ⊥

-- a user of a clock whose clock chain ends at logic
pub record IsUnclocked (device : DeviceName) (fabric : Fabric) (x y : ℕ) (user : ClockUser) (net : ℕ) : Type 0 where
  pub there : Contains (users_of device fabric) (record { x = x; y = y; user = user; net = Some net })
  pub ends : clock_end fabric net ≡ logic
  pub chain : LeadsTo fabric (class_of fabric.joins net) logic

-- ---- refusals

-- a refusal tells the fault with its evidence, or that memory ran out
abbrev pub IsCause : DeviceName → Fabric → Option Fault → FabricFault → Type 0
IsCause device fabric fault Device = fault ≡ Some Fault.other_device
IsCause device fabric fault (Pll x y) = fault ≡ Some (Fault.pll x y)
IsCause device fabric fault (PinMode x y pio pintype) = fault ≡ Some (Fault.pin_mode x y pio pintype)
IsCause device fabric fault (Cascade x y) = fault ≡ Some (Fault.cascade x y)
IsCause device fabric fault (TwoDrivers net first second) = (fault ≡ Some (Fault.two_drivers net first second)) × AreTwoDrivers fabric net first second
IsCause device fabric fault (Loop net cycle) = (fault ≡ Some (Fault.loop net)) × IsLoopFrom fabric net cycle
IsCause device fabric fault (Clock x y user net) = (fault ≡ Some (Fault.clock x y user net)) × IsUnclocked device fabric x y user net
IsCause device fabric fault (Memory failed) = Unit {0}

-- ---- what is taken

-- the devices are the same, and PLLs, pins, of every kind or not, and RAMs have no fault
pub record AreTaken (all : Bool) (db : Database) (image : Configuration) : Type 0 where
  pub device : db.chip.device ≡ image.layout.device
  pub pins : pins_fault all db image ≡ None
  pub rams : rams_fault db image ≡ None
