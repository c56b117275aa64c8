-- Drivers as the code keeps them.
use Rattle.fabric_model.specs.Drivers.{Rule, Drive}
use Rattle.fabric_model.specs.Drivers.Rule.{pin_bit, constant, input, table_entry, majority_of, register_bit, read_bit, copied}
use Rattle.fabric_wiring.specs.declared.drive.Rule.{Rule as KeptRule}
use Rattle.fabric_wiring.specs.declared.drive.Rule.TheVariants.{PinBit, Constant, Input, TableEntry, MajorityOf, RegisterBit, ReadBit, Copied}
use Rattle.fabric_wiring.specs.declared.drive.Drive.{Drive as KeptDrive}

-- what a kept rule says
abbrev pub rule_of : KeptRule → Rule
rule_of (PinBit place) = pin_bit place
rule_of (Constant it) = constant it
rule_of (Input source) = input source
rule_of (TableEntry table) = table_entry table
rule_of (MajorityOf a b c) = majority_of a b c
rule_of (RegisterBit place register) = register_bit place register
rule_of (ReadBit ram bit) = read_bit ram bit
rule_of (Copied net) = copied net

-- what a kept driver says
abbrev pub drive_of : KeptDrive → Drive
drive_of drive = record { driver = drive.driver; net = drive.net; rule = rule_of drive.rule }
