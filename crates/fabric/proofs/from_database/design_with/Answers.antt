use Rattle.std.proofs.Common.{◌≡◌, refl, sym, ap₂, ◌∙◌, subst}
use Rattle.std.specs.Prelude.{None}
use Rattle.ice_image.specs.Configuration.{Configuration}
use Rattle.ice_image.specs.Either.{configuration_of, device_of}
use Rattle.chipdb_reader.specs.Database.{Database}
use Rattle.chipdb_reader.specs.Kept.{database_in}
use Rattle.fabric_model.specs.declared.options.FabricOptions.{FabricOptions}
use Rattle.fabric_model.specs.Fabric.{fabric_with}
use Rattle.fabric_model.specs.InputPorts.{inputs_with}
use Rattle.fabric_model.specs.Faults.{design_fault}
use Rattle.fabric_model.proofs.Alike.{design-value, design-run, clock_end-with}
use Rattle.fabric_model.proofs.Once.{first-differ}
use Rattle.fabric_wiring.specs.Parts.{ArePartsOf}
use Rattle.fabric_wiring.specs.declared.parts.Parts.{Parts}
use Rattle.fabric.specs.Faults.{IsCause, AreTaken}
use Rattle.fabric.proofs.Refused.{told, fabric-refuses, fabric-taken}
use Rattle.fabric.specs.Kept.{Kept}
use Rattle.fabric.specs.Design.{IsDesignOf}
use Rattle.fabric.proofs.Composed.{rams-kept, designed}
use Rattle.fabric.proofs.Clocked.{ends-lead, values-have-clocks}
use Rattle.fabric.proofs.from_database.design_with.Goals as goal

-- parts are those of the fabric with their options
own-parts : (options : FabricOptions) (db : Database) (image : Configuration) (parts : Parts) → parts.options ≡ options → ArePartsOf (fabric_with options db image) parts
    → ArePartsOf (fabric_with parts.options db image) parts
own-parts options db image parts told are = subst (λ own. ArePartsOf (fabric_with own db image) parts) (sym told) are

own-taken : (options : FabricOptions) (db : Database) (image : Configuration) (parts : Parts) → parts.options ≡ options → AreTaken options.all_pins db image
    → AreTaken parts.options.all_pins db image
own-taken options db image parts told taken = subst (λ own. AreTaken (own.all_pins) db image) (sym told) taken

none-from : (options : FabricOptions) (db : Database) (image : Configuration) (parts : Parts) → parts.options ≡ options → design_fault parts.options db image ≡ None
    → design_fault options db image ≡ None
none-from options db image parts told none = subst (λ own. design_fault own db image ≡ None) told none

pub wire-requires : goal.wire-requires
wire-requires c =
    let db = database_in c.args.db.now in
    let image = configuration_of c.args.image.now in
    let same : (configuration_of c.args.image.now).layout.device ≡ device_of c.args.image.now = refl in
    let own = own-parts c.args.options db image c.in_ok-parts.parts c.in_ok-parts.ensures.options c.in_ok-parts.ensures.parts in (
      own,
      (
        rams-kept c.in_ok-parts.parts.options db image (device_of c.args.image.now) same c.in_ok-parts.parts.rams.items own.rams,
        first-differ c.in_ok-parts.parts.options db image c.in_ok-parts.ensures.fit,
      ),
    )

pub returns-in_err-wired-clause-refused : goal.returns-in_err-wired-clause-refused
returns-in_err-wired-clause-refused c =
    let db = database_in c.args.db.now in
    let image = configuration_of c.args.image.now in
    let taken = (own-taken c.args.options db image c.in_ok-parts.parts c.in_ok-parts.ensures.options c.in_ok-parts.ensures.taken) in
    told c.from_residual-in_err-wired.result _ _ c.from_residual-in_err-wired.ensures.1
    (subst (λ read. IsCause image.layout.device (fabric_with read db image) (design_fault read db image) c.in_err-wired.field-0.0)
    c.in_ok-parts.ensures.options
    (fabric-refuses c.in_ok-parts.parts.options db image c.in_err-wired.field-0.0 taken c.in_err-wired.ensures.refused))

pub of-requires : goal.of-requires
of-requires c =
    let db = database_in c.args.db.now in
    let image = configuration_of c.args.image.now in (
      db,
      image,
      designed c.in_ok-parts.parts.options db image c.in_ok-parts.ensures.fit c.in_ok-wired.ensures.few (own-taken c.args.options db image c.in_ok-parts.parts c.in_ok-parts.ensures.options c.in_ok-parts.ensures.taken) c.in_ok-wired.ensures.taken
          (device_of c.args.image.now) refl c.in_ok-parts.parts refl (own-parts c.args.options db image c.in_ok-parts.parts c.in_ok-parts.ensures.options c.in_ok-parts.ensures.parts)
          c.in_ok-inputs.inputs.items (c.in_ok-inputs.ensures ∙ ap₂ inputs_with c.deref.ensures.value c.deref-2.ensures.value)
          c.in_ok-wired.wired.outputs.items c.in_ok-wired.ensures.outputs
          c.in_ok-wired.wired.drivers c.in_ok-wired.ensures.drivers c.in_ok-wired.wired.order.items c.in_ok-wired.ensures.order
          c.in_ok-wired.wired.ends.items c.in_ok-wired.ensures.ends c.in_ok-wired.wired.words.items c.in_ok-wired.ensures.words,
    )

pub returns-clause-design : goal.returns-clause-design
returns-clause-design c =
    let db = database_in c.args.db.now in
    let image = configuration_of c.args.image.now in
    subst (IsDesignOf db image) (sym c.of.ensures) (designed c.in_ok-parts.parts.options db image c.in_ok-parts.ensures.fit c.in_ok-wired.ensures.few (own-taken c.args.options db image c.in_ok-parts.parts c.in_ok-parts.ensures.options c.in_ok-parts.ensures.taken) c.in_ok-wired.ensures.taken
    (device_of c.args.image.now) refl c.in_ok-parts.parts refl (own-parts c.args.options db image c.in_ok-parts.parts c.in_ok-parts.ensures.options c.in_ok-parts.ensures.parts)
    c.in_ok-inputs.inputs.items (c.in_ok-inputs.ensures ∙ ap₂ inputs_with c.deref.ensures.value c.deref-2.ensures.value)
    c.in_ok-wired.wired.outputs.items c.in_ok-wired.ensures.outputs
    c.in_ok-wired.wired.drivers c.in_ok-wired.ensures.drivers c.in_ok-wired.wired.order.items c.in_ok-wired.ensures.order
    c.in_ok-wired.wired.ends.items c.in_ok-wired.ensures.ends c.in_ok-wired.wired.words.items c.in_ok-wired.ensures.words)

pub returns-clause-options : goal.returns-clause-options
returns-clause-options c =
    let db = database_in c.args.db.now in
    let image = configuration_of c.args.image.now in
    subst (λ (design : Kept). design.parts.options ≡ c.args.options) (sym c.of.ensures)
    c.in_ok-parts.ensures.options

pub returns-clause-taken : goal.returns-clause-taken
returns-clause-taken c =
    let db = database_in c.args.db.now in
    let image = configuration_of c.args.image.now in
    subst (λ read. design_fault read db image ≡ None) c.in_ok-parts.ensures.options
    (fabric-taken c.in_ok-parts.parts.options db image (own-taken c.args.options db image c.in_ok-parts.parts c.in_ok-parts.ensures.options c.in_ok-parts.ensures.taken) c.in_ok-wired.ensures.taken)

pub returns-clause-one_run : goal.returns-clause-one_run
returns-clause-one_run c = λ events.
    let db = database_in c.args.db.now in
    let image = configuration_of c.args.image.now in
    design-run c.args.options db image c.in_ok-parts.ensures.fit (none-from c.args.options db image c.in_ok-parts.parts c.in_ok-parts.ensures.options (fabric-taken c.in_ok-parts.parts.options db image (own-taken c.args.options db image c.in_ok-parts.parts c.in_ok-parts.ensures.options c.in_ok-parts.ensures.taken) c.in_ok-wired.ensures.taken)) events

pub returns-clause-one_value : goal.returns-clause-one_value
returns-clause-one_value c = λ state pins.
    let db = database_in c.args.db.now in
    let image = configuration_of c.args.image.now in
    design-value c.args.options db image c.in_ok-parts.ensures.fit (none-from c.args.options db image c.in_ok-parts.parts c.in_ok-parts.ensures.options (fabric-taken c.in_ok-parts.parts.options db image (own-taken c.args.options db image c.in_ok-parts.parts c.in_ok-parts.ensures.options c.in_ok-parts.ensures.taken) c.in_ok-wired.ensures.taken)) state pins

pub returns-clause-chains : goal.returns-clause-chains
returns-clause-chains c =
    let db = database_in c.args.db.now in
    let image = configuration_of c.args.image.now in
    ends-lead c.args.options db image c.in_ok-parts.ensures.fit (none-from c.args.options db image c.in_ok-parts.parts c.in_ok-parts.ensures.options (fabric-taken c.in_ok-parts.parts.options db image (own-taken c.args.options db image c.in_ok-parts.parts c.in_ok-parts.ensures.options c.in_ok-parts.ensures.taken) c.in_ok-wired.ensures.taken))

pub returns-clause-origins : goal.returns-clause-origins
returns-clause-origins c = clock_end-with c.args.options (database_in c.args.db.now) (configuration_of c.args.image.now)

pub returns-clause-clocks : goal.returns-clause-clocks
returns-clause-clocks c =
    let db = database_in c.args.db.now in
    let image = configuration_of c.args.image.now in
    values-have-clocks c.args.options db image c.in_ok-parts.ensures.fit (none-from c.args.options db image c.in_ok-parts.parts c.in_ok-parts.ensures.options (fabric-taken c.in_ok-parts.parts.options db image (own-taken c.args.options db image c.in_ok-parts.parts c.in_ok-parts.ensures.options c.in_ok-parts.ensures.taken) c.in_ok-wired.ensures.taken))
