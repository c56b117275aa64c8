-- The registers that are clocks.
use Rattle.std.specs.Prelude.{ℕ, Bool, ◌||◌, List, [], flat_map, option_to_list, Option, Some, None}
use Rattle.std.specs.List.{list_any}
use Rattle.fabric_model.specs.Fabric.{Fabric}
use Rattle.fabric_model.specs.Clocks.{clock_class}
use Rattle.fabric_model.specs.Wiring.{clocks_of_value}
use Rattle.fabric_model.specs.Steps.{is_on_register}
use Rattle.fabric_wiring.specs.declared.drive.Drive.{Drive as KeptDrive}
use Rattle.fabric_wiring.specs.Drives.{rule_of}

-- the classes of the registers that are the clocks of some nets
abbrev pub clock_classes : Fabric → List ℕ → List ℕ
clock_classes fabric nets = flat_map (λ net. option_to_list (clock_class fabric (Some net))) nets

-- the classes of the registers that are clocks of what the value of a driver is computed from, and none if the driver is missing
abbrev pub clocking_row : Fabric → Option KeptDrive → List ℕ
clocking_row fabric None = []
clocking_row fabric (Some drive) = clock_classes fabric (clocks_of_value fabric (rule_of drive.rule))

-- whether a register is the clock of some register, or of the read port of some RAM
abbrev pub has_register_clocks : Fabric → Bool
has_register_clocks fabric =
    list_any (λ register. is_on_register fabric register.clk) fabric.registers || list_any (λ ram. is_on_register fabric ram.rclk) fabric.rams
