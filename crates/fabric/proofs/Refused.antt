-- A cause of the parts is the cause of the whole, if nothing before it is wrong.
use Rattle.std.proofs.Common.{◌≡◌, [], refl, sym, subst, ◌∙◌}
use Rattle.std.specs.Prelude.{◌↔◌, Option, Some, None, Result, Ok, Err, IfErr, OnOk}
use Rattle.std.specs.Result.{IsErrAnd}
use Rattle.plane_map.proofs.Devices.{same-device, other-device}
use Rattle.ice_image.specs.Configuration.{Configuration}
use Rattle.chipdb_reader.specs.Database.{Database}
use Rattle.index_search.specs.Places.{or_else}
use Rattle.fabric_model.specs.declared.options.FabricOptions.{FabricOptions}
use Rattle.fabric_model.specs.Fabric.{fabric_with}
use Rattle.fabric_model.specs.Tiles.{first_of}
use Rattle.fabric_model.specs.Plls.{pll_tile}
use Rattle.fabric_model.specs.Faults.{Fault, device_faults, pin_faults, pins_fault, rams_fault, fabric_fault, design_fault}
use Rattle.fabric_plls.specs.declared.fault.PllFault.{PllFault}
use Rattle.fabric_plls.specs.declared.fault.PllFault.TheVariants as plls
use Rattle.fabric_plls.specs.Tiles.{IsCause as IsPllCause}
use Rattle.fabric_model.specs.declared.fault.LinkFault.{LinkFault}
use Rattle.fabric_model.specs.declared.fault.LinkFault.TheVariants as links
use Rattle.fabric_parts.specs.declared.io.fault.PinFault.{PinFault}
use Rattle.fabric_parts.specs.declared.io.fault.PinFault.TheVariants as pins
use Rattle.fabric_parts.specs.PinFaults.{IsCause as IsPinCause}
use Rattle.fabric_parts.specs.declared.ram.fault.RamFault.{RamFault}
use Rattle.fabric_parts.specs.declared.ram.fault.RamFault.TheVariants as rams
use Rattle.fabric_parts.specs.RamFaults.{IsCause as IsRamCause}
use Rattle.fabric.specs.declared.fault.FabricFault.{FabricFault}
use Rattle.fabric.specs.Faults.{IsCause, AreTaken}
use Rattle.fabric_model.proofs.PinsFault.{plls-first, pins-left}
use Rattle.fabric.specs.Causes.{of_links, of_plls, of_pins, of_rams}
use Rattle.fabric.proofs.Evidence.{same-cause}

module _ (options : FabricOptions) (db : Database) (image : Configuration) where
  Refuses : Option Fault → Type 0
  Refuses cause = design_fault options db image ≡ cause

  no-device : db.chip.device ≡ image.layout.device → device_faults db image ≡ []
  unfolding device_faults
  no-device same = rw (same, same-device image.layout.device) refl

  with-device : ¬ (db.chip.device ≡ image.layout.device) → design_fault options db image ≡ Some Fault.other_device
  unfolding design_fault device_faults
  with-device other = rw (other-device db.chip.device image.layout.device other) refl

  module _ (same : db.chip.device ≡ image.layout.device) where
    after-device : design_fault options db image
        ≡ or_else (pins_fault options.all_pins db image) (or_else (rams_fault db image) (fabric_fault image.layout.device (fabric_with options db image)))
    unfolding design_fault
    after-device = rw (no-device same) refl

    pins-refuse : (cause : Fault) → pins_fault options.all_pins db image ≡ Some cause → design_fault options db image ≡ Some cause
    pins-refuse cause is = after-device ∙ rw is refl

    module _ (pins-taken : pins_fault options.all_pins db image ≡ None) where
      rams-refuse : (cause : Fault) → rams_fault db image ≡ Some cause → design_fault options db image ≡ Some cause
      rams-refuse cause is = after-device ∙ rw (pins-taken, is) refl

  -- the fault of the whole is that of the fabric, if the parts are taken
  pub fabric-left : AreTaken options.all_pins db image → design_fault options db image ≡ fabric_fault image.layout.device (fabric_with options db image)
  fabric-left taken = after-device taken.device ∙ rw (taken.pins, taken.rams) refl

  -- so nothing is wrong with the whole if nothing is wrong with the fabric
  pub fabric-taken : AreTaken options.all_pins db image → fabric_fault db.chip.device (fabric_with options db image) ≡ None → design_fault options db image ≡ None
  fabric-taken taken none = fabric-left taken ∙ subst (λ d. fabric_fault d (fabric_with options db image) ≡ None) taken.device none

  -- and a cause of the fabric is one of the whole
  pub fabric-refuses : (fault : FabricFault) → AreTaken options.all_pins db image
      → IsCause db.chip.device (fabric_with options db image) (fabric_fault db.chip.device (fabric_with options db image)) fault
      → IsCause image.layout.device (fabric_with options db image) (design_fault options db image) fault
  fabric-refuses fault taken is =
      same-cause image.layout.device (fabric_with options db image) (fabric_fault image.layout.device (fabric_with options db image)) (design_fault options db image)
      (λ cause one. fabric-left taken ∙ one) fault
      (subst (λ d. IsCause d (fabric_with options db image) (fabric_fault d (fabric_with options db image)) fault) taken.device is)

  -- ---- the refusals of the parts

  abbrev IsRefusal : FabricFault → Type 0
  IsRefusal fault = IsCause image.layout.device (fabric_with options db image) (design_fault options db image) fault

  pub links-cause : (fault : LinkFault) → ((fault ≡ links.Device) ↔ (¬ (db.chip.device ≡ image.layout.device))) → IsRefusal (of_links fault)
  links-cause links.Device tells = with-device (tells.0 refl)
  links-cause (links.Memory failed) tells = tt

  pub plls-cause : (same : db.chip.device ≡ image.layout.device) (fault : PllFault) → IsPllCause (pll_tile options.all_pins db image) fault → IsRefusal (of_plls fault)
  plls-cause same (plls.Pll x y) is = pins-refuse same _ (plls-first options.all_pins db image x y is)
  plls-cause same (plls.Memory failed) is = tt

  pub pins-cause : (same : db.chip.device ≡ image.layout.device) → pll_tile options.all_pins db image ≡ None → (fault : PinFault)
      → IsPinCause (first_of (pin_faults options.all_pins db image)) fault → IsRefusal (of_pins fault)
  pins-cause same taken (pins.PinMode x y pio pintype) is = pins-refuse same _ (pins-left options.all_pins db image taken ∙ is)
  pins-cause same taken (pins.Memory failed) is = tt

  pub rams-cause : (same : db.chip.device ≡ image.layout.device) → pins_fault options.all_pins db image ≡ None → (fault : RamFault) → IsRamCause (rams_fault db image) fault → IsRefusal (of_rams fault)
  rams-cause same taken (rams.Cascade x y) is = rams-refuse same taken _ is
  rams-cause same taken (rams.Memory failed) is = tt

-- an answer that tells an error has what holds of it
pub told : {A E : Type 0} (result : Result A E) (error : E) (Holds : E → Type 0) → IsErrAnd result (λ fault. fault ≡ error) → Holds error → IfErr result Holds
told (Ok value) error Holds is holds = tt
told (Err fault) error Holds is holds = subst Holds (sym is) holds

pub on-ok : {A E : Type 0} (result : Result A E) (Holds : Type 0) → Holds → OnOk result Holds
on-ok (Ok value) Holds holds = holds
on-ok (Err fault) Holds holds = tt
