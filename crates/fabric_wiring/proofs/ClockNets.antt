-- The clock nets of what values are computed from.
use Rattle.std.proofs.Common.{◌≡◌, ℕ, ◌<◌, true, false, [], refl, sym, ap, ◌∙◌, subst, arith}
use Rattle.std.specs.Prelude.{Contains, map, slice_get, is_some, option_to_list, flat_map, Option, Some, None, IfSome}
use Rattle.std.proofs.lemmas.Bool.{false_from_ne_true, false≢true, or_parts}
use Rattle.std.proofs.lemmas.List.{append-nil}
use Rattle.std.proofs.lemmas.List.Elements.{All-contains}
use Rattle.fabric_model.specs.declared.signal.Signal.{Signal}
use Rattle.fabric_model.specs.declared.signal.Signal.TheVariants as signal
use Rattle.fabric_model.specs.declared.register.Register.{Register}
use Rattle.fabric_model.specs.declared.ram.RamCell.{RamCell}
use Rattle.fabric_model.specs.Fabric.{Fabric}
use Rattle.fabric_model.specs.Within.{IsNetIn, IsRegisterIn, IsRamIn, IsClosed}
use Rattle.fabric_model.specs.Drivers.{Rule, Drive, drives_of, drivers_of}
use Rattle.fabric_model.specs.Drivers.Rule.{pin_bit, constant, input, table_entry, majority_of, register_bit, read_bit, copied}
use Rattle.fabric_model.specs.Clocks.{clock_class}
use Rattle.graph_order.specs.Wiring.{has}
use Rattle.graph_order.specs.Alike.{AreAlike}
use Rattle.fabric_model.specs.Wiring.{register_clock, read_clock, signal_clocks, clocks_of_value, classes_read, classes_clocking, wiring_of, clocked_wiring}
use Rattle.fabric_model.specs.Steps.{is_on_register}
use Rattle.graph_order.proofs.OneOrder.{has-none, has-first}
use Rattle.fabric_model.proofs.Settling.{numbered-item, HasRegister, drive-has}
use Rattle.fabric_wiring.specs.declared.drive.Drive.{Drive as KeptDrive}
use Rattle.fabric_wiring.specs.Drives.{rule_of, drive_of}
use Rattle.fabric_wiring.specs.Clocking.{clock_classes, has_register_clocks}
use Rattle.fabric_wiring.proofs.Members.{any-there, has-alone, has-flat_map, has-option, has-there, slice-there, filter-there}

module _ (fabric : Fabric) where
  -- the clock net of a register, or of the read port of a RAM
  pub data IsClockNet (net : ℕ) : Type 0 where
    of_register : (register : Register) → Contains fabric.registers register → register.clk ≡ Some net → IsClockNet net
    of_ram : (ram : RamCell) → Contains fabric.rams ram → ram.rclk ≡ Some net → IsClockNet net

  by-register : (register : Option Register) (place net : ℕ) → slice_get fabric.registers place ≡ register → has (register_clock register) net ≡ true → IsClockNet net
  by-register None place net is found = absurd (has-none net found)
  by-register (Some register) place net is found =
      of_register register (slice-there fabric.registers place register is) (has-option register.clk net found)

  by-ram : (ram : Option RamCell) (place net : ℕ) → slice_get fabric.rams place ≡ ram → has (read_clock ram) net ≡ true → IsClockNet net
  by-ram None place net is found = absurd (has-none net found)
  by-ram (Some ram) place net is found = of_ram ram (slice-there fabric.rams place ram is) (has-option ram.rclk net found)

  by-signal : (source : Signal) (net : ℕ) → has (signal_clocks fabric source) net ≡ true → IsClockNet net
  by-signal (signal.Net other otherwise) net found = absurd (has-none net found)
  by-signal (signal.Input place) net found = absurd (has-none net found)
  by-signal (signal.Register place) net found = by-register (slice_get fabric.registers place) place net refl found

  by-rule : (rule : Rule) (net : ℕ) → HasRegister fabric rule → has (clocks_of_value fabric rule) net ≡ true → IsClockNet net
  unfolding clocks_of_value
  by-rule (pin_bit place) net there found = absurd (has-none net found)
  by-rule (constant bit) net there found = absurd (has-none net found)
  by-rule (input source) net there found = by-signal source net found
  by-rule (table_entry table) net there found = let source = has-flat_map (signal_clocks fabric) table.ins net found in by-signal source.0 net source.2
  by-rule (majority_of a b c) net there found = absurd (has-none net found)
  by-rule (register_bit place register) net there found =
      of_register register (numbered-item fabric.registers (place, register) there) (has-option register.clk net found)
  by-rule (read_bit ram bit) net there found = by-ram (slice_get fabric.rams ram) ram net refl found
  by-rule (copied other) net there found = absurd (has-none net found)

  -- those of a driver of the fabric
  pub clock-net : IsClosed fabric → (class : ℕ) (drive : Drive) → Contains (drivers_of fabric class) drive
      → (net : ℕ) → has (clocks_of_value fabric drive.rule) net ≡ true → IsClockNet net
  unfolding drivers_of
  clock-net closed class drive there net found =
      by-rule drive.rule net (drive-has fabric closed drive (filter-there _ (drives_of fabric) drive there)) found

  -- the class of a register that is the clock of such a net
  pub clocking-found : IsClosed fabric → (class other : ℕ) → has (classes_clocking fabric class) other ≡ true
      → (net : ℕ) × IsClockNet net × (clock_class fabric (Some net) ≡ Some other)
  clocking-found closed class other found =
      let drive = has-flat_map (λ (d : Drive). flat_map (λ net. option_to_list (clock_class fabric (Some net))) (clocks_of_value fabric d.rule)) (drivers_of fabric class) other found in
      let clocks = clocks_of_value fabric drive.0.rule in
      let net = has-flat_map (λ (n : ℕ). option_to_list (clock_class fabric (Some n))) clocks other drive.2 in
      (net.0, clock-net closed class drive.0 drive.1 net.0 (has-there clocks net.0 net.1), has-option (clock_class fabric (Some net.0)) other net.2)

  -- ---- they are nets of the fabric

  net-in : (option : Option ℕ) (net : ℕ) → IsNetIn fabric.nets option → option ≡ Some net → net < fabric.nets
  net-in option net in' is = subst (IsNetIn fabric.nets) is in'

  pub clock-below : IsClosed fabric → (net : ℕ) → IsClockNet net → net < fabric.nets
  clock-below closed net (of_register register there is) =
      net-in register.clk net (All-contains (IsRegisterIn fabric.nets) fabric.registers register closed.registers there).clk is
  clock-below closed net (of_ram ram there is) = net-in ram.rclk net (All-contains (IsRamIn fabric.nets) fabric.rams ram closed.rams there).rclk is

  -- those of the driver that is kept for a class
  pub clocks-within : IsClosed fabric → (class : ℕ) (drive : Option KeptDrive) → drivers_of fabric class ≡ map drive_of (option_to_list drive)
      → IfSome drive (λ d. (net : ℕ) → has (clocks_of_value fabric (rule_of d.rule)) net ≡ true → net < fabric.nets)
  clocks-within closed class None is = tt
  clocks-within closed class (Some drive) is = λ net found.
      let there : Contains (drivers_of fabric class) (drive_of drive) = subst (λ drives. Contains drives (drive_of drive)) (sym is) (0, omega arith, refl) in
      clock-below closed net (clock-net closed class (drive_of drive) there net found)

  pub option-below : (option : Option ℕ) → ((net : ℕ) → has (option_to_list option) net ≡ true → net < fabric.nets) → IsNetIn fabric.nets option
  option-below None all = tt
  option-below (Some net) all = all net (has-first net [])

  -- the class of the register that is the clock of a net that may be missing
  pub classes-option : (option : Option ℕ) → clock_classes fabric (option_to_list option) ≡ option_to_list (clock_class fabric option)
  unfolding clock_class
  classes-option None = refl
  classes-option (Some net) = append-nil (option_to_list (clock_class fabric (Some net)))

  -- ---- if no register is a clock

  on-register : (option : Option ℕ) (net class : ℕ) → option ≡ Some net → clock_class fabric (Some net) ≡ Some class → is_on_register fabric option ≡ true
  on-register option net class is found = ap (is_on_register fabric) is ∙ ap is_some found

  module _ (none : has_register_clocks fabric ≡ false) where
    no-clock : (net class : ℕ) → IsClockNet net → clock_class fabric (Some net) ≡ Some class → ⊥
    no-clock net class (of_register register there is) found =
        false≢true (sym (or_parts _ _ none).0 ∙ any-there (λ (r : Register). is_on_register fabric r.clk) fabric.registers register there (on-register register.clk net class is found))
    no-clock net class (of_ram ram there is) found =
        false≢true (sym (or_parts _ _ none).1 ∙ any-there (λ (r : RamCell). is_on_register fabric r.rclk) fabric.rams ram there (on-register ram.rclk net class is found))

    no-clocking : IsClosed fabric → (class other : ℕ) → has (classes_clocking fabric class) other ≡ true → ⊥
    no-clocking closed class other found = let clock = clocking-found closed class other found in no-clock clock.0 other clock.1 clock.2

    -- then each class reads the same
    pub clocked-alike : IsClosed fabric → AreAlike (wiring_of fabric) (clocked_wiring fabric)
    unfolding wiring_of clocked_wiring
    clocked-alike closed = record {
      count = refl;
      driven = λ class. refl;
      reads = λ class other.
          sym (has-alone (classes_read fabric class) (classes_clocking fabric class) other
          (false_from_ne_true (has (classes_clocking fabric class) other) (no-clocking closed class other)));
    }
