-- The ends of chains, found along the write order.
use Rattle.std.proofs.Common.{◌≡◌, ℕ, ◌+◌, ◌<◌, true, false, ◌⊎◌, inl, inr, List, [], length, take, set, get_or, refl, sym, ◌∙◌, ap, subst, arith, get_or-set_same, get_or-set_other}
use Rattle.std.proofs.lemmas.Bool.{cases_Bool, cases_eq}
use Rattle.std.proofs.lemmas.List.{take_more}
use Rattle.fabric_model.specs.Joins.{class_of}
use Rattle.fabric_model.specs.Fabric.{Fabric}
use Rattle.fabric_model.specs.Drivers.{is_driven}
use Rattle.graph_order.specs.Wiring.{has, IsReady, IsWriteOrder}
use Rattle.fabric_model.specs.Wiring.{wiring_of}
use Rattle.fabric_model.specs.Clocks.{ClockEnd, Turn, LeadsTo, turned_end, turn_at, end_by}
use Rattle.fabric_model.specs.Clocks.ClockEnd.{still}
use Rattle.fabric_model.specs.Clocks.Turn.{ends, goes_to}
use Rattle.fabric_model.specs.Clocks.LeadsTo.{ends_here, goes_on}
use Rattle.fabric_model.proofs.Joins.{class_of-le}
use Rattle.graph_order.proofs.OneOrder.{has-none}
use Rattle.fabric_model.proofs.OneValue.{IsWithin, driven-is, count-is}
use Rattle.fabric_model.proofs.Chains.{leads-one, clock_end-leads, goes-reads, turn-still}
use Rattle.graph_order.proofs.Lists.{has-split}
use Rattle.fabric_wiring.specs.declared.ends.ClockEnd.{ClockEnd as KeptEnd}
use Rattle.fabric_wiring.specs.declared.ends.ClockEnd.TheVariants.{Still}
use Rattle.fabric_wiring.specs.Ends.{end_of, end_in, AreEndsOf}

-- the ends of the chains from listed classes, and from classes without a driver, are found
abbrev pub AreFound : Fabric → List ℕ → List KeptEnd → Type 0
AreFound fabric listed kept =
    (class : ℕ) → (has listed class ≡ true) ⊎ (is_driven fabric class ≡ false) → LeadsTo fabric class (end_in kept class)

module _ (fabric : Fabric) where
  -- at first those from classes without a driver are
  pub still-found : (kept : List KeptEnd) → ((class : ℕ) → end_in kept class ≡ still false) → AreFound fabric [] kept
  still-found kept all class (inl listed) = absurd (has-none class listed)
  still-found kept all class (inr away) = subst (λ end. LeadsTo fabric class end) (sym (all class)) (ends_here (turn-still fabric class away))

  module _ (order : List ℕ) (is : IsWriteOrder (wiring_of fabric) order) where
    module _ (place : ℕ) (there : place < length order) where
      next-ready : IsReady (wiring_of fabric) (has (take place order)) (get_or order place 0)
      next-ready = (is.each place there).ready

      -- the class at a place of the order is one of the fabric
      pub next-below : get_or order place 0 < fabric.nets
      next-below = subst (λ n. get_or order place 0 < n) (count-is fabric) next-ready.within

      module _ (later : ℕ → ClockEnd) (kept : List KeptEnd) (end : KeptEnd) (classes : length kept ≡ fabric.nets) (found : AreFound fabric (take place order) kept)
          (same : (net : ℕ) → later net ≡ end_in kept (class_of fabric.joins net)) where
        next-leads : (turn : Turn) → turn_at fabric (get_or order place 0) ≡ turn → end_of end ≡ end_by later turn → LeadsTo fabric (get_or order place 0) (end_of end)
        next-leads (ends last) at here = ends_here (at ∙ ap ends (sym here))
        next-leads (goes_to turned net) at here =
            let class = class_of fabric.joins net in
            let driven : is_driven fabric (get_or order place 0) ≡ true = sym (driven-is fabric (get_or order place 0)) ∙ next-ready.driven in
            let rest : LeadsTo fabric class (end_in kept class) = elim (cases_Bool (is_driven fabric class)) [
              | inl drives ↦ found class (inl (next-ready.inputs class (goes-reads fabric (get_or order place 0) turned net driven at) (driven-is fabric class ∙ drives)))
              | inr away ↦ found class (inr away)
            ] in
            goes_on turned net (end_in kept class) at (here ∙ ap (turned_end turned) (same net)) rest

        -- the end from the next class
        pub next-found : end_of end ≡ end_by later (turn_at fabric (get_or order place 0))
            → AreFound fabric (take (place + 1) order) (set kept (get_or order place 0) end)
        next-found here k listed = elim (cases_eq k (get_or order place 0)) [
          | inl at ↦
              let within : get_or order place 0 < length kept = omega (arith, next-below, classes) in
              let now : end_in (set kept (get_or order place 0) end) (get_or order place 0) ≡ end_of end =
              ap end_of (get_or-set_same kept (get_or order place 0) end (Still false) within) in
              let leads = next-leads (turn_at fabric (get_or order place 0)) refl here in
              subst (λ c. LeadsTo fabric c (end_in (set kept (get_or order place 0) end) c)) (sym at)
              (subst (λ e. LeadsTo fabric (get_or order place 0) e) (sym now) leads)
          | inr apart ↦
              let same_end : end_in (set kept (get_or order place 0) end) k ≡ end_in kept k =
              ap end_of (get_or-set_other kept (get_or order place 0) k end (Still false) apart) in
              let before : (has (take place order) k ≡ true) ⊎ (is_driven fabric k ≡ false) = elim listed [
                | inl has_it ↦ elim (has-split (take place order) (get_or order place 0) k (ap (λ l. has l k) (sym (take_more order place 0 there)) ∙ has_it)) [
                  | inl first ↦ inl first
                  | inr last ↦ absurd (apart (sym last))
                ]
                | inr away ↦ inr away
              ] in
              subst (λ e. LeadsTo fabric k e) (sym same_end) (found k before)
        ]

    -- with all classes of the order the ends are those of the fabric
    pub found-ends : IsWithin fabric → (kept : List KeptEnd) → length kept ≡ fabric.nets → AreFound fabric order kept → AreEndsOf fabric kept
    found-ends within kept classes found = record {
      classes = classes;
      each = λ net less.
          let class = class_of fabric.joins net in
          let listed : (has order class ≡ true) ⊎ (is_driven fabric class ≡ false) = elim (cases_Bool (is_driven fabric class)) [
            | inl drives ↦ inl (is.whole class (omega (arith, class_of-le fabric.joins net, less, count-is fabric)) (driven-is fabric class ∙ drives))
            | inr away ↦ inr away
          ] in
          leads-one (found class listed) (clock_end-leads fabric within order is net);
    }
