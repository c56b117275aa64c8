use Rattle.std.proofs.Common.{◌≡◌, List, map, rules, ap, sym, ◌∙◌, subst}
use Rattle.std.specs.Prelude.{All}
use Rattle.fabric_model.specs.Tiles.{first_of}
use Rattle.fabric_model.specs.Faults.{driver_faults}
use Rattle.fabric_wiring.specs.declared.drive.Drive.{Drive as KeptDrive}
use Rattle.fabric_wiring.specs.Drives.{drive_of}
use Rattle.fabric_wiring.specs.Passed.{IsDriveIn, faults_in}
use Rattle.fabric_wiring.proofs.Same.{class-least, drives-in, drivers-same, faults-same}
use Rattle.fabric_wiring.proofs.gather.drivers.Goals as goal

pub places-requires-clause-classes : goal.places-requires-clause-classes
places-requires-clause-classes g c = class-least g.fabric c.args.parts.now c.requires

pub places-requires-clause-within : goal.places-requires-clause-within
places-requires-clause-within g c =
    let Within : List KeptDrive → Type 0 = All (IsDriveIn c.args.parts.now.links) in
    subst Within (sym c.deref.ensures.value)
    (drives-in g.fabric c.args.parts.now c.in_ok-drives.drives.items c.requires (c.in_ok-drives.ensures g.fabric c.requires))

pub returns-in_err-places-clause-refused : goal.returns-in_err-places-clause-refused
returns-in_err-places-clause-refused g c =
    let drives = c.in_ok-drives.drives.items in
    let same : driver_faults g.fabric ≡ faults_in c.args.parts.now.links c.deref.result.now =
    faults-same g.fabric c.args.parts.now drives c.requires (c.in_ok-drives.ensures g.fabric c.requires) ∙ ap (faults_in c.args.parts.now.links) (sym c.deref.ensures.value) in
    rw same (search rules)

pub returns-clause-drivers : goal.returns-clause-drivers
returns-clause-drivers g c = record {
  classes = c.in_ok-places.ensures.length ∙ c.requires.nets;
  each = λ class inside.
      let drives = c.in_ok-drives.drives.items in
      let each = c.in_ok-places.ensures.each class (rw c.requires.nets inside) in
      drivers-same g.fabric c.args.parts.now drives c.requires (c.in_ok-drives.ensures g.fabric c.requires) class
      ∙ ap (map drive_of) (rw c.deref.ensures.value at each);
}

pub returns-clause-taken : goal.returns-clause-taken
returns-clause-taken g c =
    let drives = c.in_ok-drives.drives.items in
    ap first_of (faults-same g.fabric c.args.parts.now drives c.requires (c.in_ok-drives.ensures g.fabric c.requires) ∙ ap (faults_in c.args.parts.now.links) (sym c.deref.ensures.value))
    ∙ c.in_ok-places.ensures.taken
