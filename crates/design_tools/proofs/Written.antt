-- What is written for a design, and what is told if there is none.
use Rattle.std.proofs.Common.{◌≡◌, ℕ, List, refl, subst, sym, ap, ap₂, ◌∙◌}
use Rattle.std.specs.Prelude.{Option, None, Some}
use Rattle.plane_map.specs.declared.device.DeviceName.{DeviceName}
use Rattle.ice_image.specs.Configuration.{Configuration}
use Rattle.chipdb_reader.specs.Database.{Database}
use Rattle.asc_text.specs.declared.file.Symbol.{Symbol}
use Rattle.vlog_module.specs.Parts.{Parts}
use Rattle.fabric_model.specs.declared.pin.Pin.{Pin}
use Rattle.fabric_model.specs.declared.options.FabricOptions.{FabricOptions}
use Rattle.fabric_model.specs.Fabric.{Fabric, fabric_with}
use Rattle.fabric_model.specs.Wiring.{clocked_wiring}
use Rattle.fabric_model.specs.Faults.{Fault}
use Rattle.fabric.specs.declared.fault.FabricFault.{FabricFault}
use Rattle.fabric.specs.Kept.{Kept}
use Rattle.fabric.specs.Design.{IsDesignOf}
use Rattle.fabric.specs.Faults.{IsCause}
use Rattle.fabric_module.specs.Written.{module_of}
use Rattle.pin_file.specs.declared.pin_name.PinName.{PinName}
use Rattle.pin_file.specs.declared.fault.PinFileFault.{PinFileFault}
use Rattle.pin_file.specs.declared.fault.PinFileFault.TheVariants.{At, Memory as OutOfMemory}
use Rattle.pin_file.specs.Faults.{Tells, pin_fault_of, ports_of}
use Rattle.pin_file.specs.Packages.{Package}
use Rattle.port_names.specs.Named.{named_module, port_pins}
use Rattle.tool_run.specs.declared.tool.Stop.{Stop}
use Rattle.tool_run.specs.declared.tool.Stop.TheVariants.{Refused, Quiet, UsageError, Memory}
use Rattle.tool_run.specs.Stops.{StopsWith}
use Rattle.tool_run.specs.Tasks.{Answer, Both, Refused as Refuses}
use Rattle.design_answers.specs.Faults.{StopsFor, design_fault_text, told_fault}
use Rattle.design_answers.proofs.Causes.{cause-told}
use Rattle.design_answers.specs.Pins.{StopsForPins}
use Rattle.design_tools.specs.Vlog.{both_texts, module_with_names, named_where, named_with, written, written_module, written_named, written_with}
use Rattle.design_answers.proofs.Order.{order-is}

-- the texts of the module of a design
pub written_done : (name : List ℕ) (symbols : Option (List Symbol)) (db : Database) (image : Configuration) (design : Kept) (m : Parts) (text list : List ℕ) → IsDesignOf db image design
    → m ≡ module_of (fabric_with design.parts.options db image) design.order name → both_texts symbols (fabric_with design.parts.options db image) m ≡ Both text list
    → written design.parts.options name symbols db image ≡ Both text list
unfolding written_module
written_done name symbols db image design m text list is made shown =
    let fabric = fabric_with design.parts.options db image in
    ap (written_with design.parts.options name symbols db image) is.taken
    ∙ ap (both_texts symbols fabric) (sym (made ∙ ap (λ order. module_of fabric order name) (order-is (clocked_wiring fabric) design.order is.kept.order)))
    ∙ shown

-- the texts of the module whose ports have the names of a pin file
pub named_done : (named : List PinName) (name : List ℕ) (symbols : Option (List Symbol)) (db : Database) (image : Configuration) (design : Kept) (own : List ℕ) (m : Parts) (text list : List ℕ) → IsDesignOf db image design
    → own ≡ name → m ≡ named_module named (fabric_with design.parts.options db image) design.order own → both_texts symbols (fabric_with design.parts.options db image) m ≡ Both text list
    → both_texts symbols (fabric_with design.parts.options db image) (module_with_names named design.parts.options name db image) ≡ Both text list
unfolding module_with_names
named_done named name symbols db image design own m text list is same made shown =
    let fabric = fabric_with design.parts.options db image in
    ap (both_texts symbols fabric) (sym (made ∙ ap₂ (named_module named fabric) (order-is (clocked_wiring fabric) design.order is.kept.order) same)) ∙ shown

-- ---- a pin file

module _ (name : List ℕ) (symbols : Option (List Symbol)) (chosen : Package) (pins : List ℕ) (db : Database) (image : Configuration) (design : Kept) (is : IsDesignOf db image design) where
  abbrev options : FabricOptions
  options = design.parts.options

  -- the names that the file gives to the pins of the design
  abbrev given : List PinName
  given = ports_of chosen (port_pins design.parts.pins.items) pins

  fault-is : (fault : Option PinFileFault) → pin_fault_of chosen pins ≡ fault → written_named options name symbols chosen pins db image ≡ named_with options name symbols given db image fault
  fault-is fault told =
      ap (named_where options name symbols chosen pins db image) is.taken
      ∙ ap (λ (list : List Pin). named_with options name symbols (ports_of chosen (port_pins list) pins) db image (pin_fault_of chosen pins)) (sym is.kept.parts.pins)
      ∙ ap (named_with options name symbols given db image) told

  -- the texts of the module whose ports have its names
  pub accepted_done : (named : List PinName) (text list : List ℕ) → pin_fault_of chosen pins ≡ None → named ≡ given
      → both_texts symbols (fabric_with options db image) (module_with_names named options name db image) ≡ Both text list → written_named options name symbols chosen pins db image ≡ Both text list
  accepted_done named text list none are shown =
      fault-is None none ∙ ap (λ (ports : List PinName). both_texts symbols (fabric_with options db image) (module_with_names ports options name db image)) (sym are) ∙ shown

  -- a tool that tells its fault stops as it has to
  pub pins_stop : (fault : PinFileFault) (stop : Stop) → Tells (pin_fault_of chosen pins) fault → StopsForPins fault stop
      → StopsWith (written_named options name symbols chosen pins db image) stop
  pins_stop (At line cause) stop tells stops = subst (λ (answer : Answer). StopsWith answer stop) (sym (fault-is (Some (At line cause)) tells)) stops
  pins_stop (OutOfMemory failed) stop tells stops = rw stops tt

-- ---- a design that isn't taken

module _ (answer : Option Fault → Answer) (refuses : (fault : Fault) → answer (Some fault) ≡ Refuses (design_fault_text fault)) where
  -- a tool that tells the fault stops as it has to
  stops-told : (cause told : Option Fault) (stop : Stop) → ((one : Fault) → told ≡ Some one → cause ≡ Some one) → StopsFor told stop → StopsWith (answer cause) stop
  stops-told cause (Some fault) (Refused refusal) same stops = ap answer (same fault refl) ∙ refuses fault ∙ ap Refuses stops
  stops-told cause None Memory same stops = tt
  stops-told cause (Some fault) Quiet same stops = absurd stops
  stops-told cause (Some fault) (UsageError refusal) same stops = absurd stops
  stops-told cause (Some fault) Memory same stops = tt
  stops-told cause None (Refused refusal) same stops = absurd stops
  stops-told cause None Quiet same stops = absurd stops
  stops-told cause None (UsageError refusal) same stops = absurd stops

  stops-caused : (device : DeviceName) (fabric : Fabric) (cause : Option Fault) (fault : FabricFault) (stop : Stop)
      → IsCause device fabric cause fault → StopsFor (told_fault fault) stop → StopsWith (answer cause) stop
  stops-caused device fabric cause fault stop is stops = stops-told cause (told_fault fault) stop (λ one told. cause-told device fabric cause fault one is told) stops

pub stops_design : (options : FabricOptions) (name : List ℕ) (symbols : Option (List Symbol)) (db : Database) (image : Configuration) (device : DeviceName) (fabric : Fabric) (cause : Option Fault) (fault : FabricFault) (stop : Stop)
    → IsCause device fabric cause fault → StopsFor (told_fault fault) stop → StopsWith (written_with options name symbols db image cause) stop
stops_design options name symbols db image = stops-caused (written_with options name symbols db image) (λ fault. refl)

pub stops_named : (options : FabricOptions) (name : List ℕ) (symbols : Option (List Symbol)) (chosen : Package) (pins : List ℕ) (db : Database) (image : Configuration) (device : DeviceName) (fabric : Fabric) (cause : Option Fault)
    (fault : FabricFault) (stop : Stop) → IsCause device fabric cause fault → StopsFor (told_fault fault) stop → StopsWith (named_where options name symbols chosen pins db image cause) stop
stops_named options name symbols chosen pins db image = stops-caused (named_where options name symbols chosen pins db image) (λ fault. refl)
