-- The parts that are found are those of the fabric, and what is kept of them is a design.
use Rattle.std.specs.Prelude.{All, filter, flat_map, Some, None}
use Rattle.std.proofs.lemmas.List.{length-map}
use Rattle.fabric_model.specs.declared.cell.LogicCell.{LogicCell}
use Rattle.fabric_model.specs.declared.lut_inputs.LutInputs.{LutInputs}
use Rattle.plane_map.specs.Layout.{kind_of}
use Rattle.plane_map.specs.declared.device.DeviceName.{DeviceName}
use Rattle.plane_map.specs.declared.tile.TileKind.TheVariants.{RamB}
use Rattle.std.proofs.Common.{arith, ◌≡◌, ◌++◌, ℕ, ◌≤◌, ◌^◌, List, length, map, sym, ap, ap₂, subst, ◌∙◌}
use Rattle.ice_image.specs.Configuration.{Configuration}
use Rattle.chipdb_reader.specs.Database.{Database}
use Rattle.chipdb_reader.specs.Fit.{IsFit}
use Rattle.fabric_model.specs.Links.{AreLinks}
use Rattle.fabric_model.specs.Cells.{cells_of, sets_of}
use Rattle.fabric_model.specs.Registers.{register_of, registers_of, flips_among, pin_registers_of}
use Rattle.fabric_model.specs.declared.input_port.InputPort.{InputPort}
use Rattle.fabric_model.specs.PllPorts.{pll_ports}
use Rattle.fabric_model.specs.InputPorts.{inputs_with}
use Rattle.fabric_model.specs.Rams.{rams_of}
use Rattle.fabric_model.specs.Pins.{net_count, pins_of, globals_of}
use Rattle.ice_image.specs.Bits.{ram_word_of}
use Rattle.fabric_model.specs.declared.ram.RamCell.{RamCell}
use Rattle.fabric_model.specs.Tiles.{each_below}
use Rattle.fabric_model.specs.Faults.{fabric_fault, design_fault}
use Rattle.fabric_model.specs.declared.options.FabricOptions.{FabricOptions}
use Rattle.fabric_model.specs.Fabric.{fabric_with, buffers_of}
use Rattle.fabric_model.proofs.Within.{fabric-in}
use Rattle.fabric_wiring.specs.declared.parts.Parts.{Parts}
use Rattle.fabric_wiring.specs.Parts.{ArePartsOf, buffer_of}
use Rattle.graph_order.specs.Wiring.{IsWriteOrder}
use Rattle.fabric_model.specs.Wiring.{clocked_wiring}
use Rattle.fabric_wiring.specs.DriverLists.{DriverSet, AreDriversOf}
use Rattle.fabric_wiring.specs.declared.ends.ClockEnd.{ClockEnd}
use Rattle.fabric_wiring.specs.Ends.{AreEndsOf}
use Rattle.fabric_model.specs.Outputs.{outputs_of}
use Rattle.fabric_wiring.specs.declared.output_pins.Output.{Output}
use Rattle.fabric_wiring.specs.Outputs.{output_of}
use Rattle.fabric.specs.Kept.{Kept, AreWordsOf, IsKeptOf}
use Rattle.fabric.specs.Design.{IsDesignOf}
use Rattle.fabric.specs.Faults.{AreTaken}
use Rattle.fabric.proofs.Refused.{fabric-left}
use Rattle.fabric.proofs.StartWords.{rams-lower, words-are}

-- there are as many registers of cells as flip-flops
pub flips-counted : (inputs : LutInputs) (lcs : List LogicCell) → length (registers_of inputs lcs) ≡ flips_among lcs
unfolding registers_of
flips-counted inputs lcs = length-map (filter (λ lc. lc.flip) lcs) (register_of inputs)

module _ (options : FabricOptions) (db : Database) (image : Configuration) where
  pub parts-of : IsFit db → (parts : Parts) → length parts.links.classes ≡ net_count options.all_pins db image → AreLinks db image parts.links
      → map buffer_of parts.buffers.items ≡ buffers_of db image
      → parts.pins.items ≡ pins_of options.all_pins db image → parts.plls.items ≡ pll_ports options.all_pins db image
      → parts.globals.items ≡ globals_of options.all_pins db image
      → parts.options ≡ options → parts.lcs.items ≡ cells_of db image
      → parts.registers.items ≡ registers_of options.lut_inputs parts.lcs.items ++ pin_registers_of (flips_among parts.lcs.items) parts.pins.items
      → parts.sets.items ≡ sets_of db image → parts.rams.items ≡ rams_of db image
      → ArePartsOf (fabric_with options db image) parts
  unfolding fabric_with
  parts-of fit parts nets linked buffers pins plls globals told lcs registers sets rams = record {
    within = fabric-in db image fit options;
    nets = nets;
    classes = linked.classes;
    buffers = buffers;
    pins = pins;
    plls = plls;
    globals = globals;
    lut_inputs = ap (λ (it : FabricOptions). it.lut_inputs) told;
    register_clocks = ap (λ (it : FabricOptions). it.register_clocks) told;
    lcs = lcs;
    registers =
        registers ∙ (ap (λ cells. registers_of options.lut_inputs cells ++ pin_registers_of (flips_among cells) parts.pins.items) lcs
        ∙ ap (λ ports. registers_of options.lut_inputs (cells_of db image) ++ pin_registers_of (flips_among (cells_of db image)) ports) pins);
    sets = sets;
    rams = rams;
  }

  -- what is kept is a design, if nothing is wrong
  pub design-of : IsFit db → (fabric_with options db image).nets ≤ 4294967295 → AreTaken options.all_pins db image
      → fabric_fault image.layout.device (fabric_with options db image) ≡ None
      → (design : Kept) → design.parts.options ≡ options → IsKeptOf (fabric_with options db image) design → IsDesignOf db image design
  design-of fit few taken none design told kept = record {
    fit = fit;
    few = subst (λ own. (fabric_with own db image).nets ≤ 2 ^ 64) (sym told) (omega (arith, few));
    taken = subst (λ own. design_fault own db image ≡ None) (sym told) (fabric-left options db image taken ∙ none);
    kept = subst (λ own. IsKeptOf (fabric_with own db image) design) (sym told) kept;
  }

  module _ (device : DeviceName) (same : image.layout.device ≡ device) (rams : List RamCell) (all : rams ≡ (fabric_with options db image).rams) where
    -- each RAM has a lower tile
    pub rams-kept : All (λ ram. kind_of device ram.x ram.y ≡ Some RamB) rams
    unfolding fabric_with
    rams-kept = subst (λ d. All (λ (ram : RamCell). kind_of d ram.x ram.y ≡ Some RamB) rams) same (subst (All (λ ram. kind_of image.layout.device ram.x ram.y ≡ Some RamB)) (sym all) (rams-lower db image))

    pub words-kept : AreWordsOf (fabric_with options db image) (flat_map (λ ram. each_below 256 (ram_word_of image ram.x ram.y)) rams)
    unfolding fabric_with
    words-kept =
        subst (λ cells. AreWordsOf (fabric_with options db image) (flat_map (λ (ram : RamCell). each_below 256 (ram_word_of image ram.x ram.y)) cells)) (sym all) (words-are db image options)

  -- what is found is a design
  pub designed : IsFit db → (fabric_with options db image).nets ≤ 4294967295 → AreTaken options.all_pins db image → fabric_fault db.chip.device (fabric_with options db image) ≡ None
      → (device : DeviceName) → image.layout.device ≡ device → (parts : Parts) → parts.options ≡ options → ArePartsOf (fabric_with options db image) parts
      → (inputs : List InputPort) → inputs ≡ inputs_with parts.pins.items parts.plls.items
      → (outputs : List Output) → map output_of outputs ≡ outputs_of (fabric_with options db image)
      → (drivers : DriverSet) → AreDriversOf (fabric_with options db image) drivers → (order : List ℕ) → IsWriteOrder (clocked_wiring (fabric_with options db image)) order
      → (ends : List ClockEnd) → AreEndsOf (fabric_with options db image) ends
      → (words : List ℕ) → words ≡ flat_map (λ ram. each_below 256 (ram_word_of image ram.x ram.y)) parts.rams.items
      → IsDesignOf db image (record { parts = parts; inputs = inputs; outputs = outputs; drivers = drivers; order = order; ends = ends; words = words })
  designed fit few taken none device same parts told are inputs inputs-are outputs outputs-are drivers drivers-are order ordered ends ends-are words words-read =
      design-of fit few taken (subst (λ d. fabric_fault d (fabric_with options db image) ≡ None) taken.device none) _ told (record {
        parts = are;
        inputs = inputs-are ∙ ap₂ inputs_with are.pins are.plls;
        outputs = outputs-are;
        drivers = drivers-are;
        order = ordered;
        ends = ends-are;
        words = subst (AreWordsOf (fabric_with options db image)) (sym words-read) (words-kept device same parts.rams.items are.rams);
      })
