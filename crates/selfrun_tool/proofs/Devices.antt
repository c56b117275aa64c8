-- An image is explained by a database for its device, and a design has such a database.
use Rattle.std.proofs.Common.{◌≡◌, Bool, true, false, [], ◌∷◌, refl}
use Rattle.std.specs.Prelude.{None, if◌then◌else◌}
use Rattle.plane_map.specs.declared.device.DeviceName.{DeviceName}
use Rattle.plane_map.specs.Devices.{is_same_device}
use Rattle.plane_map.proofs.Devices.{one-device, same-device}
use Rattle.ice_image.specs.Configuration.{Configuration}
use Rattle.chipdb_reader.specs.Database.{Database}
use Rattle.fabric_model.specs.declared.options.FabricOptions.{FabricOptions}
use Rattle.fabric_model.specs.Faults.{Fault, design_fault, device_faults}
use Rattle.fabric_model.proofs.Taken.{design-taken}
use Rattle.image_explain.specs.Explained.{explain_fault_of}

pub no_fault : (db : Database) (image : Configuration) → db.chip.device ≡ image.layout.device → explain_fault_of db image None ≡ None
unfolding explain_fault_of
no_fault db image same = rw same (rw (same-device image.layout.device) refl)

passes : (test : Bool) → (if test then [] else Fault.other_device ∷ []) ≡ [] → test ≡ true
passes true none = refl
passes false none = absurd cc

no-other : (one other : DeviceName) → (if is_same_device one other then [] else Fault.other_device ∷ []) ≡ [] → one ≡ other
no-other one other none = one-device one other (passes (is_same_device one other) none)

pub taken-device : (options : FabricOptions) (db : Database) (image : Configuration) → design_fault options db image ≡ None → db.chip.device ≡ image.layout.device
unfolding device_faults
taken-device options db image none = no-other db.chip.device image.layout.device (design-taken options db image none).device
