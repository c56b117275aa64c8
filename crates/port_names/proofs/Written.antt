-- The module of a design with given names is that of each fabric whose design is kept, and it runs as the fabric.
use Rattle.std.proofs.Common.{◌≡◌, ℕ, List, refl, sym, ap, ap₂, ◌∙◌, subst}
use Rattle.ice_image.specs.Configuration.{Configuration}
use Rattle.chipdb_reader.specs.Database.{Database}
use Rattle.vlog_module.specs.Names.{IsName}
use Rattle.vlog_module.specs.Parts.{Parts}
use Rattle.fabric_model.specs.declared.options.FabricOptions.{FabricOptions}
use Rattle.fabric_model.specs.Fabric.{fabric_with, reading_all}
use Rattle.fabric.specs.Kept.{Kept}
use Rattle.fabric.specs.Design.{IsDesign, IsDesignOf}
use Rattle.fabric_module.specs.Written.{module_of}
use Rattle.pin_file.specs.declared.pin_name.PinName.{PinName}
use Rattle.port_names.specs.Renamed.{renamed}
use Rattle.port_names.specs.Fresh.{IsFresh}
use Rattle.port_names.specs.Named.{AreAccepted, port_renaming, named_module}
use Rattle.port_names.specs.NamedLaw.{RunsNamed}
use Rattle.port_names.proofs.IsFabric.{names-fresh, named-is-fabric}

same-pins : (options : FabricOptions) (db : Database) (image : Configuration) → (fabric_with options db image).pins ≡ (fabric_with (reading_all options) db image).pins
unfolding fabric_with
same-pins options db image = refl

module _ (design : Kept) (name : List ℕ) (is_name : IsName name) (named : List PinName) (accepted : AreAccepted design.parts.pins.items named)
    (own : Parts) (own_is : (db : Database) (image : Configuration) → IsDesignOf db image design → own ≡ module_of (fabric_with design.parts.options db image) design.order name)
    (renaming : List (List ℕ × List ℕ)) (renaming_is : renaming ≡ port_renaming named design.parts.pins.items) where
  accepted-of : (db : Database) (image : Configuration) → IsDesignOf db image design → AreAccepted (fabric_with (reading_all design.parts.options) db image).pins named
  accepted-of db image of = subst (λ pins. AreAccepted pins named) (of.kept.parts.pins ∙ same-pins design.parts.options db image) accepted

  renaming-of : (db : Database) (image : Configuration) → IsDesignOf db image design → renaming ≡ port_renaming named (fabric_with design.parts.options db image).pins
  renaming-of db image of = renaming_is ∙ ap (port_renaming named) of.kept.parts.pins

  -- the renaming is fresh for the module without it
  pub written-fresh : IsDesign design → IsFresh renaming own
  written-fresh is =
      let of = is.2 in
      let fresh = names-fresh named design.parts.options is.0 is.1 of.fit of.few of.taken (accepted-of is.0 is.1 of) design.order name of.kept.order is_name in
      subst (λ pairs. IsFresh pairs own) (sym (renaming-of is.0 is.1 of))
      (subst (IsFresh (port_renaming named (fabric_with design.parts.options is.0 is.1).pins)) (sym (own_is is.0 is.1 of)) fresh)

  -- the module with the names
  pub named-is : (made : Parts) → made ≡ renamed renaming own → (db : Database) (image : Configuration) → IsDesignOf db image design
      → made ≡ named_module named (fabric_with design.parts.options db image) design.order name
  unfolding named_module
  named-is made made_is db image of = made_is ∙ ap₂ renamed (renaming-of db image of) (own_is db image of)

  pub named-runs : (made : Parts) → made ≡ renamed renaming own → (db : Database) (image : Configuration) → IsDesignOf db image design → RunsNamed named design.parts.options db image made
  named-runs made made_is db image of =
      subst (RunsNamed named design.parts.options db image) (sym (named-is made made_is db image of))
      (named-is-fabric named design.parts.options db image of.fit of.few of.taken (accepted-of db image of) design.order name of.kept.order is_name).1
