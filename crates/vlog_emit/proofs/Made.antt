-- The module of a design is that of each fabric whose design is kept, and it is well-formed and runs as the fabric.
use Rattle.std.proofs.Common.{◌≡◌, ◌++◌, ℕ, List, map, flat_map, sym, ap, ap₂, ◌∙◌, subst}
use Rattle.ice_image.specs.Configuration.{Configuration}
use Rattle.chipdb_reader.specs.Database.{Database}
use Rattle.vlog_module.specs.Names.{IsName}
use Rattle.vlog_module.specs.Parts.{Parts}
use Rattle.vlog_module.specs.WellFormed.{IsModule}
use Rattle.fabric_model.specs.declared.options.FabricOptions.{FabricOptions}
use Rattle.fabric_model.specs.Fabric.{Fabric, fabric_with}
use Rattle.fabric.specs.Kept.{Kept, IsKeptOf}
use Rattle.fabric.specs.Design.{IsDesign, IsDesignOf}
use Rattle.fabric_model.specs.InputPorts.{pll_input}
use Rattle.fabric_module.specs.Written.{input_port, pin_ports, ports_of, items_of, module_of}
use Rattle.fabric_module.proofs.Lists.{map-map}
use Rattle.fabric_module.specs.Law.{ModuleIsFabric}
use Rattle.vlog_emit.specs.Each.{EachFabric, pll_port}
use Rattle.vlog_emit.specs.Runs.{RunsAs}

parts-same : (one two : Parts) → one.name ≡ two.name → one.ports ≡ two.ports → one.items ≡ two.items → one ≡ two
parts-same one two of_name of_ports of_items =
    ap (λ n. record { name = n; ports = one.ports; items = one.items }) of_name
    ∙ (ap (λ p. record { name = two.name; ports = p; items = one.items }) of_ports
    ∙ ap (λ i. record { name = two.name; ports = two.ports; items = i }) of_items)

module _ (law : (options : FabricOptions) (db : Database) (image : Configuration) → ModuleIsFabric options db image) (design : Kept) (name : List ℕ) (is_name : IsName name) (made : Parts)
    (of_name : made.name ≡ name) (of_ports : made.ports ≡ flat_map pin_ports design.parts.pins.items ++ map pll_port design.parts.plls.items)
    (of_items : EachFabric design (λ fabric. made.items ≡ items_of fabric design.order)) where
  -- the module of each fabric whose design is kept
  made-each : (fabric : Fabric) → IsKeptOf fabric design → made ≡ module_of fabric design.order name
  unfolding module_of
  made-each fabric kept =
      parts-same made (record { name = name; ports = ports_of fabric; items = items_of fabric design.order }) of_name
      (of_ports ∙ ap₂ (λ pins plls. flat_map pin_ports pins ++ map pll_port plls) kept.parts.pins kept.parts.plls
      ∙ ap (λ more. flat_map pin_ports fabric.pins ++ more) (sym (map-map pll_input input_port fabric.plls))) (of_items fabric kept)

  pub made-is : (db : Database) (image : Configuration) → IsDesignOf db image design → made ≡ module_of (fabric_with design.parts.options db image) design.order name
  made-is db image of = made-each (fabric_with design.parts.options db image) of.kept

  pub made-well_formed : IsDesign design → IsModule made
  made-well_formed is =
      subst IsModule (sym (made-is is.0 is.1 is.2))
      (law design.parts.options is.0 is.1 is.2.fit is.2.few is.2.taken design.order name is.2.kept.order is_name).0

  pub made-runs : (db : Database) (image : Configuration) → IsDesignOf db image design → RunsAs design.parts.options db image made
  made-runs db image of =
      let runs = (law design.parts.options db image of.fit of.few of.taken design.order name of.kept.order is_name).1 in
      subst (RunsAs design.parts.options db image) (sym (made-is db image of)) (record { one_run = runs.one_run; alike = runs.alike })
