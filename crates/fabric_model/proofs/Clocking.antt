-- Wirings in which each class of joined nets reads at least what it reads without a clock. The wiring that counts registers that are clocks
-- is one.
use Rattle.std.proofs.Common.{◌≡◌, ℕ, ◌<◌, Bool, true, List, [], ◌∷◌, refl, sym, ◌∙◌, subst, inl, inr}
use Rattle.std.specs.Prelude.{flat_map, option_to_list, Some}
use Rattle.std.proofs.lemmas.Bool.{cases_Bool}
use Rattle.fabric_model.specs.Fabric.{Fabric}
use Rattle.fabric_model.specs.Drivers.{Drive, drivers_of, is_driven}
use Rattle.graph_order.specs.Wiring.{Wiring, has, depends, IsReady}
use Rattle.fabric_model.specs.Wiring.{classes_read, classes_clocking, wiring_of, clocks_of_value, clocked_wiring}
use Rattle.fabric_model.specs.Clocks.{clock_class}
use Rattle.graph_order.proofs.Cycles.{IsBounded}
use Rattle.graph_order.proofs.OneOrder.{has-none, has-cases}
use Rattle.fabric_model.proofs.Facts.{has-left, has-right, has-some}
use Rattle.fabric_model.proofs.OneValue.{IsWithin, none-driven, driven-is, count-is, driven-below}

-- ---- wirings that read more

-- a wiring of the classes of a fabric, in which each reads at least what it reads without a clock
pub record IsOver (fabric : Fabric) (wiring : Wiring) : Type 0 where
  pub count : wiring.count ≡ fabric.nets
  pub driven : (class : ℕ) → wiring.driven class ≡ is_driven fabric class
  pub reads : (class other : ℕ) → depends (wiring_of fabric) class other ≡ true → depends wiring class other ≡ true

pub over-itself : (fabric : Fabric) → IsOver fabric (wiring_of fabric)
over-itself fabric = record { count = count-is fabric; driven = driven-is fabric; reads = λ class other reads. reads }

pub over-clocked : (fabric : Fabric) → IsOver fabric (clocked_wiring fabric)
unfolding wiring_of clocked_wiring
over-clocked fabric = record {
  count = refl;
  driven = λ class. refl;
  reads = λ class other reads. has-left (classes_read fabric class) (classes_clocking fabric class) other reads;
}

-- a class that can be written next there can be written next in the wiring that leaves clocks out
pub ready-over : (fabric : Fabric) (wiring : Wiring) → IsOver fabric wiring → (listed : ℕ → Bool) (class : ℕ) → IsReady wiring listed class
    → IsReady (wiring_of fabric) listed class
ready-over fabric wiring over listed class ready = record {
  within = subst (λ n. class < n) (over.count ∙ sym (count-is fabric)) ready.within;
  driven = driven-is fabric class ∙ (sym (over.driven class) ∙ ready.driven);
  unlisted = ready.unlisted;
  inputs = λ other reads drives. ready.inputs other (over.reads class other reads) (over.driven other ∙ (sym (driven-is fabric other) ∙ drives));
}

module _ (fabric : Fabric) where
  pub clocked-count : (clocked_wiring fabric).count ≡ fabric.nets
  clocked-count = (over-clocked fabric).count

  pub clocked-driven : (class : ℕ) → (clocked_wiring fabric).driven class ≡ is_driven fabric class
  clocked-driven = (over-clocked fabric).driven

  pub clocked-ready : (listed : ℕ → Bool) (class : ℕ) → IsReady (clocked_wiring fabric) listed class → IsReady (wiring_of fabric) listed class
  clocked-ready = ready-over fabric (clocked_wiring fabric) (over-clocked fabric)

  -- ---- classes that are clocks

  -- the class of the register that is the clock of a net
  abbrev clocking : ℕ → List ℕ
  clocking net = option_to_list (clock_class fabric (Some net))

  -- the classes that are clocks of what a driver's value is computed from
  abbrev drive_clocks : Drive → List ℕ
  drive_clocks drive = flat_map (λ net. option_to_list (clock_class fabric (Some net))) (clocks_of_value fabric drive.rule)

  -- what is given for a number of a list is in the joined list
  has-given : (given : ℕ → List ℕ) (list : List ℕ) (n k : ℕ) → has list n ≡ true → has (given n) k ≡ true → has (flat_map given list) k ≡ true
  has-given given [] n k listed found = absurd (has-none n listed)
  has-given given (first ∷ rest) n k listed found =
      elim (has-cases first rest n listed) [
        | inl here ↦ has-left (given first) (flat_map given rest) k (subst (λ m. has (given m) k ≡ true) (sym here) found)
        | inr after ↦ has-right (given first) (flat_map given rest) k (has-given given rest n k after found)
      ]

  -- a class reads the registers that are clocks of what its first driver's value is computed from
  pub first-clocks : (class : ℕ) (first : Drive) (rest : List Drive) → drivers_of fabric class ≡ first ∷ rest
      → (net k : ℕ) → has (clocks_of_value fabric first.rule) net ≡ true → clock_class fabric (Some net) ≡ Some k
      → depends (clocked_wiring fabric) class k ≡ true
  unfolding clocked_wiring
  first-clocks class first rest is net k clocks at =
      let of_first = has-given clocking (clocks_of_value fabric first.rule) net k clocks (has-some (clock_class fabric (Some net)) k at) in
      has-right (classes_read fabric class) (classes_clocking fabric class) k
      (subst (λ drives. has (flat_map drive_clocks drives) k ≡ true) (sym is)
      (has-left (drive_clocks first) (flat_map drive_clocks rest) k of_first))

  -- a class that reads another has a driver
  clocked-depends : (class other : ℕ) → depends (clocked_wiring fabric) class other ≡ true → is_driven fabric class ≡ true
  unfolding clocked_wiring
  clocked-depends class other reads =
      elim (cases_Bool (is_driven fabric class)) [
        | inl driven ↦ driven
        | inr away ↦ let none = none-driven fabric class away in absurd (has-none other (rw none at reads))
      ]

  pub clocked-bounded : IsWithin fabric → IsBounded (clocked_wiring fabric)
  clocked-bounded within = record {
    driven = λ class driven. subst (λ n. class < n) (sym clocked-count) (driven-below fabric within class (sym (clocked-driven class) ∙ driven));
    depending = λ class other reads. subst (λ n. class < n) (sym clocked-count) (driven-below fabric within class (clocked-depends class other reads));
  }
