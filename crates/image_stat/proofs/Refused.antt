-- The faults of links, PLLs, pins and RAMs are the faults of counting, if nothing before them is wrong.
use Rattle.std.proofs.Common.{◌≡◌, [], refl, ◌∙◌}
use Rattle.std.specs.Prelude.{◌↔◌, Bool, Some, None}
use Rattle.plane_map.proofs.Devices.{same-device, other-device}
use Rattle.ice_image.specs.Configuration.{Configuration}
use Rattle.chipdb_reader.specs.Database.{Database}
use Rattle.index_search.specs.Places.{or_else}
use Rattle.fabric_model.specs.Tiles.{first_of}
use Rattle.fabric_model.specs.Plls.{pll_tile}
use Rattle.fabric_model.specs.Faults.{Fault, device_faults, pin_faults, pins_fault, rams_fault}
use Rattle.fabric_model.proofs.PinsFault.{plls-first, pins-left}
use Rattle.fabric_model.specs.declared.fault.LinkFault.{LinkFault}
use Rattle.fabric_model.specs.declared.fault.LinkFault.TheVariants as links
use Rattle.fabric_plls.specs.declared.fault.PllFault.{PllFault}
use Rattle.fabric_plls.specs.declared.fault.PllFault.TheVariants as plls
use Rattle.fabric_plls.specs.Tiles.{IsCause as IsPllCause}
use Rattle.fabric_parts.specs.declared.io.fault.PinFault.{PinFault}
use Rattle.fabric_parts.specs.declared.io.fault.PinFault.TheVariants as pins
use Rattle.fabric_parts.specs.PinFaults.{IsCause as IsPinCause}
use Rattle.fabric_parts.specs.declared.ram.fault.RamFault.{RamFault}
use Rattle.fabric_parts.specs.declared.ram.fault.RamFault.TheVariants as rams
use Rattle.fabric_parts.specs.RamFaults.{IsCause as IsRamCause}
use Rattle.image_stat.specs.Causes.{of_links, of_plls, of_pins, of_rams}
use Rattle.image_stat.specs.Faults.{IsCause, stat_fault}

module _ (all : Bool) (db : Database) (image : Configuration) where
  no-device : db.chip.device ≡ image.layout.device → device_faults db image ≡ []
  unfolding device_faults
  no-device same = rw (same, same-device image.layout.device) refl

  with-device : ¬ (db.chip.device ≡ image.layout.device) → stat_fault all db image ≡ Some Fault.other_device
  unfolding stat_fault device_faults
  with-device other = rw (other-device db.chip.device image.layout.device other) refl

  after-device : db.chip.device ≡ image.layout.device → stat_fault all db image ≡ or_else (pins_fault all db image) (rams_fault db image)
  unfolding stat_fault
  after-device same = rw (no-device same) refl

  pub links-cause : (fault : LinkFault) → ((fault ≡ links.Device) ↔ (¬ (db.chip.device ≡ image.layout.device))) → IsCause (stat_fault all db image) (of_links fault)
  links-cause links.Device tells = with-device (tells.0 refl)
  links-cause (links.Memory failed) tells = tt

  module _ (same : db.chip.device ≡ image.layout.device) where
    pins-refuse : (cause : Fault) → pins_fault all db image ≡ Some cause → stat_fault all db image ≡ Some cause
    pins-refuse cause is = after-device same ∙ rw is refl

    pub plls-cause : (fault : PllFault) → IsPllCause (pll_tile all db image) fault → IsCause (stat_fault all db image) (of_plls fault)
    plls-cause (plls.Pll x y) is = pins-refuse _ (plls-first all db image x y is)
    plls-cause (plls.Memory failed) is = tt

    pub pins-cause : pll_tile all db image ≡ None → (fault : PinFault) → IsPinCause (first_of (pin_faults all db image)) fault
        → IsCause (stat_fault all db image) (of_pins fault)
    pins-cause taken (pins.PinMode x y pio pintype) is = pins-refuse _ (pins-left all db image taken ∙ is)
    pins-cause taken (pins.Memory failed) is = tt

    module _ (pins-taken : pins_fault all db image ≡ None) where
      rams-refuse : (cause : Fault) → rams_fault db image ≡ Some cause → stat_fault all db image ≡ Some cause
      rams-refuse cause is = after-device same ∙ rw (pins-taken, is) refl

      pub rams-cause : (fault : RamFault) → IsRamCause (rams_fault db image) fault → IsCause (stat_fault all db image) (of_rams fault)
      rams-cause (rams.Cascade x y) is = rams-refuse _ is
      rams-cause (rams.Memory failed) is = tt

      -- nothing is wrong if the devices agree and no pin and no RAM is refused
      pub all-taken : rams_fault db image ≡ None → stat_fault all db image ≡ None
      all-taken rams-taken = after-device same ∙ rw (pins-taken, rams-taken) refl
