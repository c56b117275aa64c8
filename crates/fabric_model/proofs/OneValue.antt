-- A fabric without two drivers of a class and without a cycle has, for each state and all values of its input pins, exactly one
-- list of net values that is consistent.
use Rattle.std.proofs.Common.{◌≡◌, ℕ, zero, suc, ◌<◌, ◌≤◌, Bool, true, false, cond, List, [], ◌∷◌, ◌++◌, map, length, get_or, refl, sym, ap, ◌∙◌, subst, arith, eq-eqb, inl, inr}
use Rattle.std.specs.Prelude.{Contains, filter, flat_map}
use Rattle.std.specs.List.{list_any}
use Rattle.std.proofs.lemmas.Bool.{cases_lt, cases_Bool, eqb-true}
use Rattle.std.proofs.lemmas.List.{ext_get_or, get_or_past, get_or_append_left, length-append}
use Rattle.std.proofs.Math.Seq.{get_or-append_seam}
use Rattle.index_search.specs.Places.{gathered_below}
use Rattle.fabric_model.specs.Tiles.{each_below}
use Rattle.fabric_model.specs.Joins.{AreJoined, class_of}
use Rattle.fabric_model.specs.Joins.AreJoined.{itself, further}
use Rattle.fabric_model.specs.Fabric.{Fabric}
use Rattle.fabric_model.specs.Drivers.{Drive, is_driver_of, drives_of, drivers_of, is_driven, nets_read}
use Rattle.fabric_model.specs.Values.{State, value_of, bit_in, is_connected, IsConsistent}
use Rattle.graph_order.specs.Wiring.{has, depends, IsWriteOrder}
use Rattle.fabric_model.specs.Wiring.{wiring_of}
use Rattle.fabric_model.specs.Within.{IsClosed}
use Rattle.fabric_model.proofs.Joins.{class_of-is, class_of-joined, class_of-le}
use Rattle.graph_order.proofs.Cycles.{IsBounded}
use Rattle.graph_order.proofs.OneOrder.{has-none}
use Rattle.fabric_model.proofs.Facts.{has-left, has-map, value-same}
use Rattle.graph_order.proofs.Settled.{Rules, ReadsNoOther, IsSettled, settled-one, settled-there}

-- ---- lists

pub each_below-length : {A : Type 0} (n : ℕ) (given : ℕ → A) → length (each_below n given) ≡ n
unfolding gathered_below
each_below-length zero given = refl
each_below-length (suc n) given = omega (arith, each_below-length n given, length-append (each_below n given) (given n ∷ []))

pub each_below-at : {A : Type 0} (n k : ℕ) (given : ℕ → A) (d : A) → k < n → get_or (each_below n given) k d ≡ given k
unfolding gathered_below
each_below-at zero k given d within = absurd (omega arith)
each_below-at (suc n) k given d within =
    let size = each_below-length n given in
    elim (cases_lt k n) [
      | inl less ↦ get_or_append_left (each_below n given) (given n ∷ []) d k (omega arith) ∙ each_below-at n k given d less
      | inr more ↦
          let same : length (each_below n given) ≡ k = omega arith in
          let here : n ≡ k = omega arith in
          subst (λ place. get_or (each_below n given ++ given n ∷ []) place d ≡ given n) same (get_or-append_seam (each_below n given) (given n) [] d) ∙ ap given here
    ]

-- the first of those that pass
pub record IsFirst {A : Type 0} (test : A → Bool) (list : List A) (first : A) (rest : List A) : Type 0 where
  pub is : filter test list ≡ first ∷ rest
  pub passes : test first ≡ true
  pub there : Contains list first

first-after : {A : Type 0} (test : A → Bool) (head : A) (list : List A) → test head ≡ false
    → (first : A) × (rest : List A) × IsFirst test list first rest → (first : A) × (rest : List A) × IsFirst test (head ∷ list) first rest
first-after test head list away found = (
  found.0,
  found.1,
  record {
    is = rw away found.2.is;
    passes = found.2.passes;
    there = (suc found.2.there.0, omega (arith, found.2.there.1), found.2.there.2);
  },
)

any-first : {A : Type 0} (test : A → Bool) (list : List A) → list_any test list ≡ true → (first : A) × (rest : List A) × IsFirst test list first rest
any-first test [] some = absurd cc
any-first test (head ∷ list) some =
    elim (cases_Bool (test head)) [
      | inl here ↦ (head, filter test list, record { is = rw here refl; passes = here; there = (0, omega arith, refl) })
      | inr away ↦ first-after test head list away (any-first test list (rw away at some))
    ]

pub filter-has : {A : Type 0} (test : A → Bool) (list : List A) (item : A) → Contains list item → test item ≡ true → Contains (filter test list) item
filter-has test [] item (k, within, here) passes = absurd (omega (arith, within))
filter-has test (head ∷ list) item (zero, within, here) passes =
    let found : test head ≡ true = ap test here ∙ passes in rw found (0, omega arith, here)
filter-has test (head ∷ list) item (suc k, within, here) passes =
    let rest = filter-has test list item (k, omega (arith, within), here) passes in
    elim (cases_Bool (test head)) [
      | inl found ↦ rw found (suc rest.0, omega (arith, rest.1), rest.2)
      | inr away ↦ rw away rest
    ]

any-has : {A : Type 0} (test : A → Bool) (list : List A) (item : A) → Contains list item → test item ≡ true → list_any test list ≡ true
any-has test [] item (k, within, here) passes = absurd (omega (arith, within))
any-has test (head ∷ list) item (zero, within, here) passes = let found : test head ≡ true = ap test here ∙ passes in rw found refl
any-has test (head ∷ list) item (suc k, within, here) passes =
    let rest = any-has test list item (k, omega (arith, within), here) passes in
    elim (cases_Bool (test head)) [ inl found ↦ rw found refl | inr away ↦ rw away rest ]

only-one : {A : Type 0} (first : A) (rest : List A) (item : A) → length (first ∷ rest) ≤ 1 → Contains (first ∷ rest) item → first ≡ item
only-one first [] item few (zero, within, here) = here
only-one first [] item few (suc k, within, here) = absurd (omega (arith, within))
only-one first (second ∷ rest) item few found = absurd (omega arith)

any-none : {A : Type 0} (test : A → Bool) (list : List A) (first : A) (rest : List A) → list_any test list ≡ false → filter test list ≡ first ∷ rest → ⊥
any-none test [] first rest none some = cc
any-none test (head ∷ list) first rest none some =
    elim (cases_Bool (test head)) [
      | inl here ↦ let never : true ≡ false = rw here at none in cc
      | inr away ↦ any-none test list first rest (rw away at none) (rw away at some)
    ]

none-passes : {A : Type 0} (test : A → Bool) (list : List A) → list_any test list ≡ false → filter test list ≡ []
none-passes test [] none = refl
none-passes test (head ∷ list) none =
    elim (cases_Bool (test head)) [
      | inl here ↦ let never : true ≡ false = rw here at none in absurd cc
      | inr away ↦ rw away (none-passes test list (rw away at none))
    ]

-- ---- a fabric whose nets are all below their number

pub record IsWithin (fabric : Fabric) : Type 0 where
  pub joins : (a b : ℕ) → Contains fabric.joins (a, b) → (a < fabric.nets) × (b < fabric.nets)
  pub drives : (drive : Drive) → Contains (drives_of fabric) drive → drive.net < fabric.nets
  pub reads : (drive : Drive) → Contains (drives_of fabric) drive → (net : ℕ) → has (nets_read drive.rule) net ≡ true → net < fabric.nets
  pub closed : IsClosed fabric

-- each class of joined nets has one driver at most
abbrev pub HasSingleDrivers : Fabric → Type 0
HasSingleDrivers fabric = (class : ℕ) → class < fabric.nets → length (drivers_of fabric class) ≤ 1

-- the value of the first of some drivers
first_value : (ℕ → Bool) → State → List Bool → (ℕ → Bool) → List Drive → Bool
first_value connected state pins bit [] = false
first_value connected state pins bit (drive ∷ drives) = value_of connected state pins bit drive.rule

-- the rule of each class of joined nets: the value of its driver
pub rules_of : Fabric → State → List Bool → Rules
rules_of fabric state pins class value =
    first_value (is_connected fabric) state pins (λ net. value (class_of fabric.joins net)) (drivers_of fabric class)

module _ (fabric : Fabric) where
  -- ---- drivers of a class

  -- a class with a driver has a first one
  pub first-driver : (class : ℕ) → is_driven fabric class ≡ true
      → (first : Drive) × (rest : List Drive) × IsFirst (is_driver_of fabric class) (drives_of fabric) first rest
  unfolding is_driven
  first-driver class driven = any-first (is_driver_of fabric class) (drives_of fabric) driven

  pub first-is : (class : ℕ) (first : Drive) (rest : List Drive) → IsFirst (is_driver_of fabric class) (drives_of fabric) first rest
      → drivers_of fabric class ≡ first ∷ rest
  unfolding drivers_of
  first-is class first rest is = is.is

  -- a class without a driver has none
  pub none-driven : (class : ℕ) → is_driven fabric class ≡ false → drivers_of fabric class ≡ []
  unfolding is_driven drivers_of
  none-driven class away = none-passes (is_driver_of fabric class) (drives_of fabric) away

  -- its net is of the class
  pub first-class : (class : ℕ) (first : Drive) (rest : List Drive) → IsFirst (is_driver_of fabric class) (drives_of fabric) first rest
      → class_of fabric.joins first.net ≡ class
  first-class class first rest is = eqb-true _ _ is.passes

  -- the class of a net that is driven
  drive-driven : (drive : Drive) → Contains (drives_of fabric) drive → is_driven fabric (class_of fabric.joins drive.net) ≡ true
  unfolding is_driven
  drive-driven drive there = any-has (is_driver_of fabric (class_of fabric.joins drive.net)) (drives_of fabric) drive there (eq-eqb _ _ refl)

  drive-among : (drive : Drive) → Contains (drives_of fabric) drive → Contains (drivers_of fabric (class_of fabric.joins drive.net)) drive
  unfolding drivers_of
  drive-among drive there = filter-has (is_driver_of fabric (class_of fabric.joins drive.net)) (drives_of fabric) drive there (eq-eqb _ _ refl)

  -- ---- the wiring

  -- a class that reads another has a driver
  pub depends-driven : (class other : ℕ) (drives : List Drive) → drivers_of fabric class ≡ drives → depends (wiring_of fabric) class other ≡ true → is_driven fabric class ≡ true
  unfolding wiring_of is_driven drivers_of
  depends-driven class other [] none reads = absurd (has-none other (rw none at reads))
  depends-driven class other (drive ∷ drives) some reads =
      elim (cases_Bool (list_any (is_driver_of fabric class) (drives_of fabric))) [
        | inl driven ↦ driven
        | inr away ↦ absurd (any-none (is_driver_of fabric class) (drives_of fabric) drive drives away some)
      ]

  -- what the first driver of a class reads is what the class depends on
  pub first-reads : (class : ℕ) (first : Drive) (rest : List Drive) → drivers_of fabric class ≡ first ∷ rest
      → (net : ℕ) → has (nets_read first.rule) net ≡ true → depends (wiring_of fabric) class (class_of fabric.joins net) ≡ true
  unfolding wiring_of
  first-reads class first rest is net reads =
      let among = has-left (map (class_of fabric.joins) (nets_read first.rule)) (flat_map (λ drive. map (class_of fabric.joins) (nets_read drive.rule)) rest)
      (class_of fabric.joins net) (has-map (class_of fabric.joins) (nets_read first.rule) net reads) in
      subst (λ drives. has (flat_map (λ drive. map (class_of fabric.joins) (nets_read drive.rule)) drives) (class_of fabric.joins net) ≡ true) (sym is) among

  pub driven-is : (class : ℕ) → (wiring_of fabric).driven class ≡ is_driven fabric class
  unfolding wiring_of
  driven-is class = refl

  pub count-is : (wiring_of fabric).count ≡ fabric.nets
  unfolding wiring_of
  count-is = refl

  module _ (within : IsWithin fabric) where
    pub driven-below : (class : ℕ) → is_driven fabric class ≡ true → class < fabric.nets
    driven-below class driven =
        let found = first-driver class driven in
        let low = within.drives found.0 found.2.there in
        let same = first-class class found.0 found.1 found.2 in
        omega (arith, class_of-le fabric.joins found.0.net)

    pub wiring-bounded : IsBounded (wiring_of fabric)
    wiring-bounded = record {
      driven = λ class driven. subst (λ n. class < n) (sym count-is) (driven-below class (sym (driven-is class) ∙ driven));
      depending = λ class other reads. subst (λ n. class < n) (sym count-is) (driven-below class (depends-driven class other _ refl reads));
    }

    module _ (state : State) (pins : List Bool) where
      -- the value that the rule of a class gives, by its first driver
      rule-value : (class : ℕ) (value : ℕ → Bool) (first : Drive) (rest : List Drive) → drivers_of fabric class ≡ first ∷ rest
          → rules_of fabric state pins class value
          ≡ value_of (is_connected fabric) state pins (λ net. value (class_of fabric.joins net)) first.rule
      unfolding rules_of first_value
      rule-value class value first rest is = rw is refl

      pub reads-no-other : ReadsNoOther (wiring_of fabric) (rules_of fabric state pins)
      reads-no-other class one two driven same =
          let found = first-driver class (sym (driven-is class) ∙ driven) in
          let is = first-is class found.0 found.1 found.2 in
          rule-value class one found.0 found.1 is
          ∙ (value-same (is_connected fabric) (λ net. one (class_of fabric.joins net)) (λ net. two (class_of fabric.joins net)) state pins found.0.rule
          (λ net reads. same (class_of fabric.joins net) (first-reads class found.0 found.1 is net reads))
          ∙ sym (rule-value class two found.0 found.1 is))

      -- ---- from values of nets to values of classes

      -- joined nets have one bit
      joined-bit : (v : List Bool) → ((a b : ℕ) → Contains fabric.joins (a, b) → bit_in v a ≡ bit_in v b)
          → {a b : ℕ} → AreJoined fabric.joins a b → bit_in v a ≡ bit_in v b
      joined-bit v same itself = refl
      joined-bit v same (further {a} {b} (inl forth) rest) = same a b forth ∙ joined-bit v same rest
      joined-bit v same (further {a} {b} (inr back) rest) = sym (same b a back) ∙ joined-bit v same rest

      -- the bit of a class of joined nets; 0 if it has no driver
      pub class_bit : List Bool → ℕ → Bool
      class_bit v class = cond (is_driven fabric class) (bit_in v class) false

      pub class-still : (v : List Bool) (class : ℕ) → is_driven fabric class ≡ false → class_bit v class ≡ false
      unfolding class_bit
      class-still v class still = rw still refl

      module _ (v : List Bool) (is : IsConsistent fabric state pins v) where
        pub net-bit : (net : ℕ) → bit_in v net ≡ class_bit v (class_of fabric.joins net)
        unfolding class_bit
        net-bit net =
            elim (cases_Bool (is_driven fabric (class_of fabric.joins net))) [
              | inl driven ↦ rw driven (joined-bit v is.joined (class_of-is fabric.joins net).joined)
              | inr still ↦ rw still (elim (cases_lt net fabric.nets) [
                | inl below ↦ is.not_driven net below still
                | inr past ↦ get_or_past v net false (omega (arith, is.each_net))
              ])
            ]

        class-settled : IsSettled (wiring_of fabric) (rules_of fabric state pins) (class_bit v)
        class-settled = record {
          driven = λ class driven.
              let found = first-driver class (sym (driven-is class) ∙ driven) in
              let first = found.0 in
              let of_class = first-class class first found.1 found.2 in
              let here : class_bit v class ≡ bit_in v first.net = ap (class_bit v) (sym of_class) ∙ sym (net-bit first.net) in
              let drives : bit_in v first.net ≡ value_of (is_connected fabric) state pins (bit_in v) first.rule = is.driven first found.2.there in
              let moved : value_of (is_connected fabric) state pins (bit_in v) first.rule
              ≡ value_of (is_connected fabric) state pins (λ net. class_bit v (class_of fabric.joins net)) first.rule
              = value-same (is_connected fabric) (bit_in v) (λ net. class_bit v (class_of fabric.joins net)) state pins first.rule (λ net reads. net-bit net) in
              here ∙ (drives ∙ (moved ∙ sym (rule-value class (class_bit v) first found.1 (first-is class first found.1 found.2))));
          not_driven = λ class still. class-still v class (sym (driven-is class) ∙ still);
        }

      -- ---- no two lists

      pub consistent-one : (order : List ℕ) → IsWriteOrder (wiring_of fabric) order
          → (v w : List Bool) → IsConsistent fabric state pins v → IsConsistent fabric state pins w → v ≡ w
      consistent-one order is v w of_v of_w =
          ext_get_or false v w (of_v.each_net ∙ sym of_w.each_net) (λ net below.
          let same = settled-one (wiring_of fabric) wiring-bounded (rules_of fabric state pins) reads-no-other (class_bit v) (class_bit w)
          (class-settled v of_v) (class-settled w of_w) order is (class_of fabric.joins net) in
          net-bit v of_v net ∙ (same ∙ sym (net-bit w of_w net)))

      -- ---- a list

      module _ (single : HasSingleDrivers fabric) (value : ℕ → Bool) (is : IsSettled (wiring_of fabric) (rules_of fabric state pins) value) where
        net_bits : List Bool
        net_bits = each_below fabric.nets (λ net. value (class_of fabric.joins net))

        net_bits-at : (net : ℕ) → net < fabric.nets → bit_in net_bits net ≡ value (class_of fabric.joins net)
        unfolding net_bits
        net_bits-at net below = each_below-at fabric.nets net (λ k. value (class_of fabric.joins k)) false below

        net_bits-length : length net_bits ≡ fabric.nets
        unfolding net_bits
        net_bits-length = each_below-length fabric.nets (λ net. value (class_of fabric.joins net))

        -- each driver's net has the driver's value
        net_bits-driven : (drive : Drive) → Contains (drives_of fabric) drive
            → bit_in net_bits drive.net ≡ value_of (is_connected fabric) state pins (bit_in net_bits) drive.rule
        net_bits-driven drive there =
            let class = class_of fabric.joins drive.net in
            let driven : is_driven fabric class ≡ true = drive-driven drive there in
            let found = first-driver class driven in
            let drivers = first-is class found.0 found.1 found.2 in
            let few : length (found.0 ∷ found.1) ≤ 1 = subst (λ list. length list ≤ 1) drivers (single class (driven-below class driven)) in
            let among : Contains (found.0 ∷ found.1) drive = subst (λ list. Contains list drive) drivers (drive-among drive there) in
            let same : found.0 ≡ drive = only-one found.0 found.1 drive few among in
            let here : bit_in net_bits drive.net ≡ value class = net_bits-at drive.net (within.drives drive there) in
            let by_rule : value class ≡ value_of (is_connected fabric) state pins (λ net. value (class_of fabric.joins net)) found.0.rule
            = is.driven class (driven-is class ∙ driven) ∙ rule-value class value found.0 found.1 drivers in
            let by_drive : value class ≡ value_of (is_connected fabric) state pins (λ net. value (class_of fabric.joins net)) drive.rule
            = subst (λ (d : Drive). value class ≡ value_of (is_connected fabric) state pins (λ net. value (class_of fabric.joins net)) d.rule) same by_rule in
            here ∙ (by_drive ∙ value-same (is_connected fabric) (λ net. value (class_of fabric.joins net)) (bit_in net_bits) state pins drive.rule
            (λ net reads. sym (net_bits-at net (within.reads drive there net reads))))

        net_bits-consistent : IsConsistent fabric state pins net_bits
        net_bits-consistent = record {
          each_net = net_bits-length;
          joined = λ a b there.
              let low = within.joins a b there in
              net_bits-at a low.0 ∙ (ap value (class_of-joined fabric.joins a b (further (inl there) itself)) ∙ sym (net_bits-at b low.1));
          driven = net_bits-driven;
          not_driven = λ net below still. net_bits-at net below ∙ is.not_driven (class_of fabric.joins net) (driven-is (class_of fabric.joins net) ∙ still);
        }

      pub consistent-there : HasSingleDrivers fabric → (order : List ℕ) → IsWriteOrder (wiring_of fabric) order
          → (v : List Bool) × IsConsistent fabric state pins v
      consistent-there single order is =
          let found = settled-there (wiring_of fabric) wiring-bounded (rules_of fabric state pins) reads-no-other order is in
          (net_bits single found.0 found.1, net_bits-consistent single found.0 found.1)
