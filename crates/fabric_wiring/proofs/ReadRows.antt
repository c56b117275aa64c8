-- Rows and marks of the classes of a fabric.
use Rattle.std.proofs.Common.{◌≡◌, ℕ, ◌+◌, ◌<◌, ◌≤◌, true, false, List, [], ◌∷◌, ◌++◌, length, take, map, get_or, refl, sym, ◌∙◌, ap, ap₂, subst, inl, inr, arith}
use Rattle.std.proofs.Math.Seq.{get_or-append_seam}
use Rattle.std.specs.Prelude.{flat_map, option_to_list, Option, Some, None, is_some, IfSome}
use Rattle.std.specs.declared.vec.Vec.{Vec}
use Rattle.std.proofs.Math.ListN.{get_or-append}
use Rattle.std.proofs.lemmas.Bool.{cases_lt, cases_Bool}
use Rattle.std.proofs.lemmas.List.{map-append, append-nil, get_or_past}
use Rattle.shared_lemmas.proofs.Lists.{map-every, flat_map-more}
use Rattle.fabric_model.specs.declared.signal.Signal.{Signal}
use Rattle.fabric_model.specs.Signals.{signal_nets}
use Rattle.fabric_model.specs.Joins.{class_of}
use Rattle.fabric_model.specs.Fabric.{Fabric}
use Rattle.fabric_model.specs.Drivers.{Drive, drives_of, drivers_of, is_driven, nets_read}
use Rattle.fabric_model.specs.Drivers.Rule.{input, majority_of}
use Rattle.graph_order.specs.Wiring.{Wiring, depends, has}
use Rattle.fabric_model.specs.Wiring.{wiring_of as wiring_of_fabric, classes_read, classes_clocking, clocks_of_value, clocked_wiring}
use Rattle.fabric_model.proofs.Facts.{has-either}
use Rattle.fabric_model.proofs.Joins.{class_of-le}
use Rattle.graph_order.proofs.OneOrder.{has-none}
use Rattle.fabric_model.proofs.OneValue.{IsWithin, driven-below, none-driven}
use Rattle.graph_order.specs.Rows.{lists_of, row_at, is_marked, wiring_of}
use Rattle.graph_order.proofs.Rows.{lists-length}
use Rattle.fabric_model.specs.Links.{LinkSet, class_in}
use Rattle.fabric_wiring.specs.declared.drive.Drive.{Drive as KeptDrive}
use Rattle.fabric_wiring.specs.declared.parts.Parts.{Parts}
use Rattle.fabric_wiring.specs.Drives.{drive_of}
use Rattle.fabric_wiring.specs.Parts.{ArePartsOf}
use Rattle.fabric_wiring.specs.DriverLists.{DriverSet, driver_in, AreDriversOf}
use Rattle.fabric_wiring.specs.declared.wires_type.Wires.{Wires}
use Rattle.fabric_wiring.specs.Reading.{row_in}
use Rattle.fabric_wiring.specs.Clocking.{clock_classes, clocking_row}
use Rattle.graph_order.specs.Alike.{AreAlike}
use Rattle.fabric_wiring.specs.Wires.{AreWiresOf}
use Rattle.fabric_wiring.proofs.Drives.{driven-some, driven-none, kept-within}
use Rattle.fabric_wiring.proofs.Members.{has-flat_map, has-changed, filter-there}
use Rattle.fabric_wiring.proofs.RegisterEnds.{clock-driven}
use Rattle.fabric_wiring.proofs.ClockNets.{clocking-found}

-- what is known of a list's items, with one more
pub known-more : {A : Type 0} (d : A) (list : List A) (item : A) (given : ℕ → A) → ((k : ℕ) → k < length list → get_or list k d ≡ given k)
    → item ≡ given (length list) → (k : ℕ) → k < length list + 1 → get_or (list ++ item ∷ []) k d ≡ given k
known-more d list item given known is k less =
    elim (cases_lt k (length list)) [
      | inl before ↦ get_or-append list (item ∷ []) d k before ∙ known k before
      | inr more ↦
          let same : length list ≡ k = omega arith in
          subst (λ n. get_or (list ++ item ∷ []) n d ≡ given n) same (get_or-append_seam list item [] d ∙ is)
    ]

-- the same for rows
pub rows-more : {Z : Type 0} (rows : List (Vec ℕ Z)) (row : Vec ℕ Z) (given : ℕ → List ℕ) (n : ℕ) → length rows ≡ n → ((k : ℕ) → k < n → row_at rows k ≡ given k)
    → row.items ≡ given n → (k : ℕ) → k < n + 1 → row_at (rows ++ row ∷ []) k ≡ given k
rows-more {Z} rows row given n long known is k less =
    let lists = lists_of rows in
    let same : length lists ≡ n = lists-length rows ∙ long in
    ap (λ l. get_or l k []) (map-append (λ (r : Vec ℕ Z). r.items) rows (row ∷ []))
    ∙ known-more [] lists row.items given (λ j before. known j (omega (arith, before, same))) (is ∙ ap given (sym same)) k (omega (arith, less, same))

-- the classes of the nets that are there, with one more
pub reads-more : (change : ℕ → ℕ) (nets : List (Option ℕ)) (i : ℕ) (d : Option ℕ) → i < length nets
    → map change (flat_map option_to_list (take (i + 1) nets)) ≡ map change (flat_map option_to_list (take i nets)) ++ map change (option_to_list (get_or nets i d))
reads-more change nets i d there =
    ap (map change) (flat_map-more option_to_list nets i d there)
    ∙ map-append change (flat_map option_to_list (take i nets)) (option_to_list (get_or nets i d))

-- the nets that a rule reads, from a list of what its inputs read
pub read-input : (source : Signal) → signal_nets source ++ [] ≡ nets_read (input source)
unfolding nets_read
read-input source = append-nil (signal_nets source)

pub read-majority : (a b c : Option ℕ) → option_to_list a ++ (option_to_list b ++ (option_to_list c ++ [])) ≡ nets_read (majority_of a b c)
unfolding nets_read
read-majority a b c = ap (λ l. option_to_list a ++ (option_to_list b ++ l)) (append-nil (option_to_list c))

-- ---- wirings

-- a wiring of the classes of a fabric: those with a driver are driven, and only these read any, each of which is one of them
pub record IsOfClasses (fabric : Fabric) (wiring : Wiring) : Type 0 where
  pub count : wiring.count ≡ fabric.nets
  pub driven : (class : ℕ) → wiring.driven class ≡ is_driven fabric class
  pub none : (class : ℕ) → is_driven fabric class ≡ false → wiring.reads class ≡ []
  pub below : (class other : ℕ) → depends wiring class other ≡ true → other < fabric.nets

module _ (fabric : Fabric) where
  -- what a class reads without a clock, by its drivers
  reads-drivers : (class : ℕ) (drives : List Drive) → drivers_of fabric class ≡ drives
      → classes_read fabric class ≡ flat_map (λ drive. map (class_of fabric.joins) (nets_read drive.rule)) drives
  reads-drivers class drives is = ap (flat_map (λ drive. map (class_of fabric.joins) (nets_read drive.rule))) is

  -- by its kept driver
  row-kept : (links : LinkSet) → ((net : ℕ) → class_in links net ≡ class_of fabric.joins net) → (class : ℕ) (drive : Option KeptDrive)
      → drivers_of fabric class ≡ map drive_of (option_to_list drive) → row_in links drive ≡ classes_read fabric class
  row-kept links same class None is = sym (reads-drivers class [] is)
  row-kept links same class (Some drive) is =
      map-every (class_in links) (class_of fabric.joins) same (nets_read (drive_of drive).rule)
      ∙ sym (append-nil (map (class_of fabric.joins) (nets_read (drive_of drive).rule)))
      ∙ sym (reads-drivers class (drive_of drive ∷ []) is)

  -- the registers that are clocks of what it is computed from, by its kept driver
  clocking-kept : (class : ℕ) (drive : Option KeptDrive) → drivers_of fabric class ≡ map drive_of (option_to_list drive)
      → clocking_row fabric drive ≡ classes_clocking fabric class
  clocking-kept class None is = ap (flat_map (λ (d : Drive). clock_classes fabric (clocks_of_value fabric d.rule))) (sym is)
  clocking-kept class (Some drive) is =
      sym (append-nil (clock_classes fabric (clocks_of_value fabric (drive_of drive).rule)))
      ∙ ap (flat_map (λ (d : Drive). clock_classes fabric (clocks_of_value fabric d.rule))) (sym is)

  mark-kept : (class : ℕ) (drive : Option KeptDrive) → drivers_of fabric class ≡ map drive_of (option_to_list drive) → is_some drive ≡ is_driven fabric class
  mark-kept class None is = sym (driven-none fabric class is)
  mark-kept class (Some drive) is = sym (driven-some fabric class (drive_of drive) [] is)

  -- the nets that the kept drivers read are those of the links
  pub reads-links : (within : IsWithin fabric) (parts : Parts) → ArePartsOf fabric parts → (drivers : DriverSet) → AreDriversOf fabric drivers → (class : ℕ) → class < length drivers.places
      → IfSome (driver_in drivers class) (λ drive. (net : ℕ) → has (nets_read (drive_of drive).rule) net ≡ true → net < length parts.links.classes)
  reads-links within parts of_parts drivers of_drivers class less =
      let below : class < fabric.nets = omega (arith, less, of_drivers.classes) in
      subst (λ n. IfSome (driver_in drivers class) (λ drive. (net : ℕ) → has (nets_read (drive_of drive).rule) net ≡ true → net < n)) (sym of_parts.nets)
      (kept-within fabric class within (driver_in drivers class) (of_drivers.each class below))

  -- ---- the two wirings

  -- a class reads classes of the fabric
  reads-below : IsWithin fabric → (class other : ℕ) → has (classes_read fabric class) other ≡ true → other < fabric.nets
  unfolding drivers_of
  reads-below within class other reads =
      let drive = has-flat_map (λ (d : Drive). map (class_of fabric.joins) (nets_read d.rule)) (drivers_of fabric class) other reads in
      let net = has-changed (class_of fabric.joins) (nets_read drive.0.rule) other drive.2 in
      let less = within.reads drive.0 (filter-there _ (drives_of fabric) drive.0 drive.1) net.0 net.1 in
      omega (arith, less, class_of-le fabric.joins net.0, net.2)

  -- and so do the registers that are clocks
  clocking-below : IsWithin fabric → (class other : ℕ) → has (classes_clocking fabric class) other ≡ true → other < fabric.nets
  clocking-below within class other reads =
      let clock = clocking-found fabric within.closed class other reads in
      driven-below fabric within other (clock-driven fabric within clock.0 other clock.2)

  pub logic-classes : IsWithin fabric → IsOfClasses fabric (wiring_of_fabric fabric)
  unfolding wiring_of_fabric
  logic-classes within = record {
    count = refl;
    driven = λ class. refl;
    none = λ class away. reads-drivers class [] (none-driven fabric class away);
    below = λ class other reads. reads-below within class other reads;
  }

  pub clocked-classes : IsWithin fabric → IsOfClasses fabric (clocked_wiring fabric)
  unfolding clocked_wiring
  clocked-classes within = record {
    count = refl;
    driven = λ class. refl;
    none = λ class away.
        let none = none-driven fabric class away in
        ap₂ (λ one two. one ++ two) (reads-drivers class [] none) (sym (clocking-kept class None none));
    below = λ class other reads.
        elim (has-either (classes_read fabric class) (classes_clocking fabric class) other reads) [
          | inl logic ↦ reads-below within class other logic
          | inr clocks ↦ clocking-below within class other clocks
        ];
  }

  -- what the kept driver of a class reads is what the class reads in each
  pub logic-row : (links : LinkSet) → ((net : ℕ) → class_in links net ≡ class_of fabric.joins net) → (class : ℕ) (drive : Option KeptDrive)
      → drivers_of fabric class ≡ map drive_of (option_to_list drive) → row_in links drive ≡ (wiring_of_fabric fabric).reads class
  unfolding wiring_of_fabric
  logic-row links same class drive is = row-kept links same class drive is

  pub clocked-row : (links : LinkSet) → ((net : ℕ) → class_in links net ≡ class_of fabric.joins net) → (class : ℕ) (drive : Option KeptDrive)
      → drivers_of fabric class ≡ map drive_of (option_to_list drive) → row_in links drive ++ clocking_row fabric drive ≡ (clocked_wiring fabric).reads class
  unfolding clocked_wiring
  clocked-row links same class drive is = ap₂ (λ one two. one ++ two) (row-kept links same class drive is) (clocking-kept class drive is)

  -- ---- marks and rows

  module _ (within : IsWithin fabric) (wiring : Wiring) (of_classes : IsOfClasses fabric wiring) (drivers : DriverSet) (of_drivers : AreDriversOf fabric drivers)
      (wires : Wires) (marks : length wires.driven.items ≡ fabric.nets) (rows : length wires.reads.items ≡ fabric.nets)
      (marked : (class : ℕ) → class < fabric.nets → is_marked wires.driven.items class ≡ is_some (driver_in drivers class))
      (read : (class : ℕ) → class < fabric.nets → row_at wires.reads.items class ≡ wiring.reads class) where
    away-past : (class : ℕ) → fabric.nets ≤ class → is_driven fabric class ≡ false
    away-past class past =
        elim (cases_Bool (is_driven fabric class)) [
          | inl driven ↦ absurd (omega (arith, driven-below fabric within class driven, past))
          | inr away ↦ away
        ]

    mark-same : (class : ℕ) → is_marked wires.driven.items class ≡ is_driven fabric class
    mark-same class = elim (cases_lt class fabric.nets) [
      | inl less ↦ marked class less ∙ mark-kept class (driver_in drivers class) (of_drivers.each class less)
      | inr more ↦ get_or_past wires.driven.items class false (omega (arith, more, marks)) ∙ sym (away-past class more)
    ]

    row-same : (class : ℕ) → row_at wires.reads.items class ≡ wiring.reads class
    row-same class = elim (cases_lt class fabric.nets) [
      | inl less ↦ read class less
      | inr more ↦
          get_or_past (lists_of wires.reads.items) class [] (omega (arith, more, rows, lists-length wires.reads.items))
          ∙ sym (of_classes.none class (away-past class more))
    ]

    alike : AreAlike (wiring_of wires.driven.items wires.reads.items) wiring
    alike = record {
      count = marks ∙ sym of_classes.count;
      driven = λ class. mark-same class ∙ sym (of_classes.driven class);
      reads = λ class other. ap (λ l. has l other) (row-same class);
    }

    -- a class that reads another has a driver
    reader-driven : (class other : ℕ) → depends wiring class other ≡ true → is_driven fabric class ≡ true
    reader-driven class other reads =
        elim (cases_Bool (is_driven fabric class)) [
          | inl driven ↦ driven
          | inr away ↦ absurd (has-none other (ap (λ l. has l other) (sym (of_classes.none class away)) ∙ reads))
        ]

    -- marks and rows of the kept drivers are those of the wiring
    pub wires-kept : AreWiresOf wiring wires
    wires-kept = record {
      rows = rows ∙ sym marks;
      alike = alike;
      within = λ class other reads. let less = of_classes.below class other (sym (alike.reads class other) ∙ reads) in omega (arith, less, marks);
      by_driven = λ class other reads. mark-same class ∙ reader-driven class other (sym (alike.reads class other) ∙ reads);
    }
