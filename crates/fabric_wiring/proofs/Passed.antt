-- One driver more that is entered, and what is told at the end.
use Rattle.std.proofs.Common.{◌≡◌, ℕ, ◌+◌, ◌<◌, ◌≤◌, Bool, true, false, List, [], ◌∷◌, ◌++◌, append-nil, length, map, get_or, take, replicate, refl, sym, ap, ◌∙◌, subst, inl, inr, arith}
use Rattle.std.specs.Prelude.{All, Option, Some, None, slice_get, option_and_then, option_to_list, filter, nat_lt, ◌==◌, if◌then◌else◌}
use Rattle.std.proofs.lemmas.Bool.{cases_Bool, cases_eq, eq-eqb, eqb-true, ltb-true, ltb-false}
use Rattle.std.proofs.lemmas.List.{take_more, take_all, get_or-replicate, length-replicate}
use Rattle.std.proofs.lemmas.List.Elements.{filter-append, All-get_or}
use Rattle.std.proofs.lemmas.Option.{slice_get-get_or}
use Rattle.fabric_model.proofs.Firsts.{first_of-append, first_of-alone}
use Rattle.index_search.proofs.Places.{gathered_below-none}
use Rattle.fabric_model.specs.Links.{LinkSet, class_in}
use Rattle.fabric_model.specs.Tiles.{first_of}
use Rattle.fabric_model.specs.Faults.{drivers_fault}
use Rattle.fabric_model.specs.Faults.Fault.{two_drivers}
use Rattle.fabric_wiring.specs.declared.drive.Drive.{Drive as KeptDrive}
use Rattle.fabric_wiring.specs.declared.twice.Twice.{Twice}
use Rattle.fabric_wiring.specs.Drives.{drive_of}
use Rattle.fabric_wiring.specs.Passed.{IsDriveIn, drivers_in, fault_in, faults_in, lesser, IsFirstFault, ArePassed, and_driver}

-- ---- one driver more

-- the class of the driver is given it
added-here : (given : ℕ → List KeptDrive) (drives : List KeptDrive) (place class : ℕ) (drive : KeptDrive) → slice_get drives place ≡ Some drive
    → and_driver given drives place class class ≡ given class ++ drive ∷ []
added-here given drives place class drive is = rw (eq-eqb class class refl, is) refl

-- any other class isn't
added-away : (given : ℕ → List KeptDrive) (drives : List KeptDrive) (place class other : ℕ) → (class == other) ≡ false
    → and_driver given drives place class other ≡ given other
added-away given drives place class other away = rw away (append-nil (given other))

first_of-rest : {A : Type 0} (list : List A) (first : A) → first_of list ≡ Some first → (rest : List A) × (list ≡ first ∷ rest)
first_of-rest [] first is = absurd cc
first_of-rest (head ∷ list) first is = let same : head ≡ first = cc in (list, ap (λ item. item ∷ list) same)

-- the faults after that, when classes of joined nets are given more drivers
record IsMore (class : ℕ) (drive : KeptDrive) (given more : ℕ → List KeptDrive) : Type 0 where
  here : more class ≡ given class ++ drive ∷ []
  away : (other : ℕ) → (class ≡ other → ⊥) → more other ≡ given other

more-is : (given : ℕ → List KeptDrive) (drives : List KeptDrive) (place class : ℕ) (drive : KeptDrive) → slice_get drives place ≡ Some drive
    → IsMore class drive given (and_driver given drives place class)
more-is given drives place class drive is = record {
  here = added-here given drives place class drive is;
  away = λ other apart. elim (cases_Bool (class == other)) [
    | inl same ↦ absurd (apart (eqb-true class other same))
    | inr away ↦ added-away given drives place class other away
  ];
}

-- a class gets its second driver
second-told : (count class : ℕ) (drive first : KeptDrive) (given more : ℕ → List KeptDrive) (twice : Option Twice) → IsMore class drive given more
    → class < count → given class ≡ first ∷ [] → IsFirstFault count (fault_in given) twice
    → IsFirstFault count (fault_in more) (lesser twice (record { net = class; first = first.driver; second = drive.driver }))
second-told count class drive first given more None is within one least = record {
  within = within;
  here = ap (λ drives. drivers_fault class (map drive_of drives)) (is.here ∙ ap (λ drives. drives ++ drive ∷ []) one);
  before = λ other below. ap (λ drives. drivers_fault other (map drive_of drives)) (is.away other (λ same. omega (arith, same, below))) ∙ least other (omega (arith, below, within));
}
second-told count class drive first given more (Some kept) is within one least =
    elim (cases_Bool (nat_lt class kept.net)) [
      | inl less ↦ rw less (
          let below : class < kept.net = ltb-true class kept.net less in
          record {
            within = within;
            here = ap (λ drives. drivers_fault class (map drive_of drives)) (is.here ∙ ap (λ drives. drives ++ drive ∷ []) one);
            before = λ other before. ap (λ drives. drivers_fault other (map drive_of drives)) (is.away other (λ same. omega (arith, same, before))) ∙ least.before other (omega (arith, before, below));
          })
      | inr no_less ↦ rw no_less (
          let after : kept.net ≤ class = ltb-false class kept.net no_less in
          let clear : fault_in given class ≡ [] = ap (λ drives. drivers_fault class (map drive_of drives)) one in
          let apart : class ≡ kept.net → ⊥ = λ same. let both : fault_in given kept.net ≡ [] = subst (λ net. fault_in given net ≡ []) same clear in absurd (cc (both, least.here)) in
          record {
            within = least.within;
            here = ap (λ drives. drivers_fault kept.net (map drive_of drives)) (is.away kept.net apart) ∙ least.here;
            before = λ other before. ap (λ drives. drivers_fault other (map drive_of drives)) (is.away other (λ same. omega (arith, same, before, after))) ∙ least.before other before;
          })
    ]

-- a class that has two drivers gets another
others-told : (count class : ℕ) (drive first second : KeptDrive) (others : List KeptDrive) (given more : ℕ → List KeptDrive) (twice : Option Twice) → IsMore class drive given more
    → class < count → given class ≡ first ∷ second ∷ others → IsFirstFault count (fault_in given) twice
    → IsFirstFault count (fault_in more) (lesser twice (record { net = class; first = first.driver; second = drive.driver }))
others-told count class drive first second others given more None is within two least =
    let none = least class within in
    let some : fault_in given class ≡ two_drivers class first.driver second.driver ∷ [] = ap (λ drives. drivers_fault class (map drive_of drives)) two in
    absurd (cc (none, some))
others-told count class drive first second others given more (Some kept) is within two least =
    let some : fault_in given class ≡ two_drivers class first.driver second.driver ∷ [] = ap (λ drives. drivers_fault class (map drive_of drives)) two in
    let same_here : fault_in more class ≡ fault_in given class =
    ap (λ drives. drivers_fault class (map drive_of drives)) (is.here ∙ ap (λ drives. drives ++ drive ∷ []) two) ∙ sym some in
    let same : (other : ℕ) → fault_in more other ≡ fault_in given other = λ other. elim (cases_eq class other) [
      | inl here ↦ subst (λ net. fault_in more net ≡ fault_in given net) here same_here
      | inr away ↦ ap (λ drives. drivers_fault other (map drive_of drives)) (is.away other away)
    ] in
    elim (cases_Bool (nat_lt class kept.net)) [
      | inl less ↦ let none = least.before class (ltb-true class kept.net less) in absurd (cc (none, some))
      | inr no_less ↦ rw no_less (record {
        within = least.within;
        here = same kept.net ∙ least.here;
        before = λ other before. same other ∙ least.before other before;
      })
    ]

-- a class that has a driver gets another
more-told : (count class : ℕ) (drive first : KeptDrive) (rest : List KeptDrive) (given more : ℕ → List KeptDrive) (twice : Option Twice) → IsMore class drive given more
    → class < count → given class ≡ first ∷ rest → IsFirstFault count (fault_in given) twice
    → IsFirstFault count (fault_in more) (lesser twice (record { net = class; first = first.driver; second = drive.driver }))
more-told count class drive first [] given more twice is within one least = second-told count class drive first given more twice is within one least
more-told count class drive first (second ∷ others) given more twice is within two least =
    others-told count class drive first second others given more twice is within two least

-- what is kept if a class of joined nets has a driver and gets another
pub entered : (drives : List KeptDrive) (place class : ℕ) (drive first : KeptDrive) (places : List (Option ℕ)) (twice later : Option Twice) (given : ℕ → List KeptDrive)
    → slice_get drives place ≡ Some drive → class < length places → option_and_then (slice_get drives) (get_or places class None) ≡ Some first
    → later ≡ lesser twice (record { net = class; first = first.driver; second = drive.driver })
    → ArePassed drives given places twice → ArePassed drives (and_driver given drives place class) places later
entered drives place class drive first places twice later given is within before told passed =
    let more = and_driver given drives place class in
    let grown = more-is given drives place class drive is in
    let has_first : first_of (given class) ≡ Some first = sym (passed.firsts class within) ∙ before in
    let parts = first_of-rest (given class) first has_first in
    record {
      firsts = λ other inside. elim (cases_eq class other) [
        | inl here ↦ subst (λ net. option_and_then (slice_get drives) (get_or places net None) ≡ first_of (more net)) here
            (before ∙ sym (ap first_of grown.here ∙ first_of-append (given class) (drive ∷ []) first has_first))
        | inr away ↦ passed.firsts other inside ∙ ap first_of (sym (grown.away other away))
      ];
      least = rw told (more-told (length places) class drive first parts.0 given more twice grown within parts.1 passed.least);
    }

-- ---- all drivers

-- the class of a driver is one of the table
pub class-within : (links : LinkSet) (drives : List KeptDrive) (k : ℕ) (d : KeptDrive) (class : ℕ) → k < length drives → ((net : ℕ) → class_in links net ≤ net)
    → All (IsDriveIn links) drives → class ≡ class_in links (get_or drives k d).net → class < length links.classes
class-within links drives k d class inside least within is =
    omega (arith, least (get_or drives k d).net, All-get_or (IsDriveIn links) drives k d inside within, is)

-- nothing is entered
pub none-entered : (links : LinkSet) (drives : List KeptDrive) (count : ℕ) → ArePassed drives (drivers_in links (take 0 drives)) (replicate count None) None
none-entered links drives count = record {
  firsts = λ class inside. ap (option_and_then (slice_get drives)) (get_or-replicate count class None None (omega (arith, inside, length-replicate {A = Option ℕ} count None)));
  least = λ class inside. refl;
}

-- the same drivers of each class
passed-same : (drives : List KeptDrive) (given other : ℕ → List KeptDrive) (places : List (Option ℕ)) (twice : Option Twice) → ((class : ℕ) → other class ≡ given class)
    → ArePassed drives given places twice → ArePassed drives other places twice
passed-same drives given other places None same passed = record {
  firsts = λ class inside. passed.firsts class inside ∙ ap first_of (sym (same class));
  least = λ class inside. ap (λ list. drivers_fault class (map drive_of list)) (same class) ∙ passed.least class inside;
}
passed-same drives given other places (Some twice) same passed = record {
  firsts = λ class inside. passed.firsts class inside ∙ ap first_of (sym (same class));
  least = record {
    within = passed.least.within;
    here = ap (λ list. drivers_fault twice.net (map drive_of list)) (same twice.net) ∙ passed.least.here;
    before = λ class below. ap (λ list. drivers_fault class (map drive_of list)) (same class) ∙ passed.least.before class below;
  };
}

one-passes : (b : Bool) (drive : KeptDrive) → filter (λ d. b) (drive ∷ []) ≡ (if b then drive ∷ [] else [])
one-passes true drive = refl
one-passes false drive = refl

-- one driver more
drivers_in-more : (links : LinkSet) (drives : List KeptDrive) (k : ℕ) (d : KeptDrive) (class : ℕ) → k < length drives
    → drivers_in links (take (k + 1) drives) class ≡ and_driver (drivers_in links (take k drives)) drives k (class_in links (get_or drives k d).net) class
drivers_in-more links drives k d class inside =
    let drive = get_or drives k d in
    let passes = λ (drive : KeptDrive). class_in links drive.net == class in
    ap (filter passes) (take_more drives k d inside) ∙ filter-append passes (take k drives) (drive ∷ [])
    ∙ ap (λ list. drivers_in links (take k drives) class ++ list) (rw (slice_get-get_or drives k d inside) (one-passes (passes drive) drive))

pub more-entered : (links : LinkSet) (drives : List KeptDrive) (k : ℕ) (d : KeptDrive) (class : ℕ) (places : List (Option ℕ)) (twice : Option Twice) → k < length drives
    → class ≡ class_in links (get_or drives k d).net
    → ArePassed drives (and_driver (drivers_in links (take k drives)) drives k class) places twice → ArePassed drives (drivers_in links (take (k + 1) drives)) places twice
more-entered links drives k d class places twice inside is passed =
    passed-same drives (and_driver (drivers_in links (take k drives)) drives k class) (drivers_in links (take (k + 1) drives)) places twice
    (λ other. drivers_in-more links drives k d other inside ∙ ap (λ net. and_driver (drivers_in links (take k drives)) drives k net other) (sym is)) passed

-- all are entered
pub all-entered : (links : LinkSet) (drives : List KeptDrive) (k : ℕ) (places : List (Option ℕ)) (twice : Option Twice) → length drives ≤ k
    → ArePassed drives (drivers_in links (take k drives)) places twice → ArePassed drives (drivers_in links drives) places twice
all-entered links drives k places twice past passed =
    passed-same drives (drivers_in links (take k drives)) (drivers_in links drives) places twice (λ class. sym (ap (λ list. drivers_in links list class) (take_all k drives past))) passed

-- ---- what is told

single : (class : ℕ) (list : List KeptDrive) → drivers_fault class (map drive_of list) ≡ [] → list ≡ option_to_list (first_of list)
single class [] none = refl
single class (drive ∷ []) none = refl
single class (drive ∷ second ∷ list) none = absurd cc

-- if no class of joined nets has two drivers, each has the one that is kept
pub each-kept : (links : LinkSet) (drives : List KeptDrive) (places : List (Option ℕ)) (class : ℕ) → ArePassed drives (drivers_in links drives) places None
    → class < length places → drivers_in links drives class ≡ option_to_list (option_and_then (slice_get drives) (get_or places class None))
each-kept links drives places class passed inside =
    single class (drivers_in links drives class) (passed.least class inside) ∙ ap option_to_list (sym (passed.firsts class inside))

pub none-told : (links : LinkSet) (drives : List KeptDrive) (places : List (Option ℕ)) → ArePassed drives (drivers_in links drives) places None
    → length places ≡ length links.classes → first_of (faults_in links drives) ≡ None
unfolding faults_in
none-told links drives places passed same =
    ap first_of (gathered_below-none (length links.classes) (fault_in (drivers_in links drives)) (λ class below. passed.least class (omega (arith, below, same))))

pub least-told : (links : LinkSet) (drives : List KeptDrive) (places : List (Option ℕ)) (twice : Twice) → ArePassed drives (drivers_in links drives) places (Some twice)
    → length places ≡ length links.classes → first_of (faults_in links drives) ≡ Some (two_drivers twice.net twice.first twice.second)
unfolding faults_in
least-told links drives places twice passed same =
    first_of-alone (length links.classes) twice.net (fault_in (drivers_in links drives)) (two_drivers twice.net twice.first twice.second)
    (omega (arith, passed.least.within, same)) passed.least.here passed.least.before
