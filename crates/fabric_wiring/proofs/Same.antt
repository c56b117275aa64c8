-- The drivers of a fabric from those that are kept.
use Rattle.std.proofs.Common.{◌≡◌, ℕ, ◌<◌, ◌≤◌, Bool, List, [], ◌∷◌, ◌++◌, length, map, refl, sym, ap, ◌∙◌, cond, true, false, subst, arith}
use Rattle.std.specs.Prelude.{All, filter, ◌==◌, Contains}
use Rattle.std.proofs.lemmas.List.Elements.{All-contains_itself, All-weaker, All-nil, All-cons, All-head, All-tail}
use Rattle.index_search.specs.Places.{gathered_below}
use Rattle.index_search.proofs.Places.{gathered_below-same}
use Rattle.fabric_model.specs.Links.{class_in}
use Rattle.fabric_model.specs.Fabric.{Fabric}
use Rattle.fabric_model.specs.Drivers.{Drive, drives_of, drivers_of, is_driver_of}
use Rattle.fabric_model.specs.Faults.{drivers_fault, driver_faults}
use Rattle.fabric_model.proofs.Joins.{class_of-le}
use Rattle.fabric_model.proofs.Within.{within-parts}
use Rattle.fabric_wiring.specs.declared.drive.Drive.{Drive as KeptDrive}
use Rattle.fabric_wiring.specs.declared.parts.Parts.{Parts}
use Rattle.fabric_wiring.specs.Drives.{drive_of}
use Rattle.fabric_wiring.specs.Parts.{ArePartsOf}
use Rattle.fabric_wiring.specs.Passed.{IsDriveIn, drivers_in, fault_in, faults_in}

-- ---- lists one after the other

-- what a list gets, from an equal list
pub gets : {D X : Type 0} (now later : List D) {a b : X} (part : X → List D) → later ≡ now ++ part a → a ≡ b → later ≡ now ++ part b
gets now later part is same = is ∙ ap (λ x. now ++ part x) same

-- ---- classes

-- the class of a net isn't greater than it
pub class-least : (fabric : Fabric) (parts : Parts) → ArePartsOf fabric parts → (net : ℕ) → class_in parts.links net ≤ net
class-least fabric parts is net = omega (arith, is.classes net, class_of-le fabric.joins net)

All-mapped : {A B : Type 0} (P : B → Type 0) (change : A → B) (list : List A) → All P (map change list) → All (λ item. P (change item)) list
All-mapped P change [] all = All-nil (λ item. P (change item))
All-mapped P change (item ∷ list) all =
    All-cons (λ item. P (change item)) item list (All-head P (change item) (map change list) all)
    (All-mapped P change list (All-tail P (change item) (map change list) all))

-- the nets of drivers have classes
pub drives-in : (fabric : Fabric) (parts : Parts) (drives : List KeptDrive) → ArePartsOf fabric parts → map drive_of drives ≡ drives_of fabric
    → All (IsDriveIn parts.links) drives
drives-in fabric parts drives is all =
    let Below : Drive → Type 0 = λ drive. drive.net < length parts.links.classes in
    let within = within-parts fabric is.within in
    let below = All-weaker (Contains (drives_of fabric)) Below (λ drive there. omega (arith, within.drives drive there, is.nets)) (drives_of fabric) (All-contains_itself (drives_of fabric)) in
    All-mapped Below drive_of drives (subst (All Below) (sym all) below)

changed : {A B : Type 0} (passes : Bool) (change : A → B) (item : A) (list : List A)
    → cond passes (change item ∷ map change list) (map change list) ≡ map change (cond passes (item ∷ list) list)
changed true change item list = refl
changed false change item list = refl

-- what a filter passes of a list that is changed
filter-map : {A B : Type 0} (change : A → B) (p : B → Bool) (q : A → Bool) (list : List A) → ((item : A) → p (change item) ≡ q item)
    → filter p (map change list) ≡ map change (filter q list)
filter-map change p q [] same = refl
filter-map change p q (item ∷ list) same =
    let rest = filter-map change p q list same in
    rw (same item, rest) (changed (q item) change item (filter q list))

-- the drivers of a class are those that are kept
pub drivers-same : (fabric : Fabric) (parts : Parts) (drives : List KeptDrive) → ArePartsOf fabric parts → map drive_of drives ≡ drives_of fabric
    → (class : ℕ) → drivers_of fabric class ≡ map drive_of (drivers_in parts.links drives class)
unfolding drivers_of
drivers-same fabric parts drives is all class =
    ap (filter (is_driver_of fabric class)) (sym all)
    ∙ filter-map drive_of (is_driver_of fabric class) (λ drive. class_in parts.links drive.net == class) drives (λ drive. ap (λ net. net == class) (sym (is.classes drive.net)))

-- the faults are those of what is kept
pub faults-same : (fabric : Fabric) (parts : Parts) (drives : List KeptDrive) → ArePartsOf fabric parts → map drive_of drives ≡ drives_of fabric
    → driver_faults fabric ≡ faults_in parts.links drives
unfolding driver_faults faults_in
faults-same fabric parts drives is all =
    let given = fault_in (drivers_in parts.links drives) in
    gathered_below-same fabric.nets (λ class. drivers_fault class (drivers_of fabric class)) given (λ class below. ap (drivers_fault class) (drivers-same fabric parts drives is all class))
    ∙ ap (λ n. gathered_below n given) (sym is.nets)
