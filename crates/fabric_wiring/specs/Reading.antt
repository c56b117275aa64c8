-- The classes of joined nets that drivers read.
use Rattle.std.specs.Prelude.{ℕ, List, [], map, Option, Some, None}
use Rattle.fabric_model.specs.Drivers.{nets_read}
use Rattle.fabric_model.specs.Links.{LinkSet, class_in}
use Rattle.fabric_wiring.specs.declared.drive.Rule.{Rule as KeptRule}
use Rattle.fabric_wiring.specs.declared.drive.Drive.{Drive as KeptDrive}
use Rattle.fabric_wiring.specs.Drives.{rule_of}

-- the classes of joined nets that a driver with a rule reads
abbrev pub classes_read : LinkSet → KeptRule → List ℕ
classes_read links rule = map (class_in links) (nets_read (rule_of rule))

-- the classes of joined nets that a driver reads, and none if the driver is missing
abbrev pub row_in : LinkSet → Option KeptDrive → List ℕ
row_in links None = []
row_in links (Some drive) = classes_read links drive.rule
