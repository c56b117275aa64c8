-- No wave is cut. In the write order that counts registers that are clocks, each class comes to rest one wave after the clocks before it at
-- the latest; so the clocks rest after as many waves as there are users of them.
use Rattle.std.proofs.Common.{◌≡◌, ℕ, zero, suc, ◌+◌, ◌<◌, ◌≤◌, Bool, true, false, List, [], ◌∷◌, length, take, get_or, refl, sym, ap, ◌∙◌, subst, arith, inl, inr}
use Rattle.std.specs.Prelude.{Contains, filter, is_some, Option, Some, None}
use Rattle.std.proofs.lemmas.Bool.{cases_Bool}
use Rattle.std.proofs.lemmas.List.{take_all}
use Rattle.std.proofs.lemmas.List.Folds.{list_any_none}
use Rattle.std.proofs.lemmas.List.Elements.{All-weaker, All-contains_itself}
use Rattle.ice_image.specs.Configuration.{Configuration}
use Rattle.chipdb_reader.specs.Database.{Database}
use Rattle.chipdb_reader.specs.Fit.{IsFit}
use Rattle.fabric_model.specs.declared.options.FabricOptions.{FabricOptions}
use Rattle.fabric_model.specs.Joins.{class_of}
use Rattle.fabric_model.specs.Fabric.{Fabric, fabric_with, reading_all}
use Rattle.fabric_model.specs.Drivers.{Rule, is_driven, nets_read}
use Rattle.fabric_model.specs.Values.{value_of, bit_in, is_connected, IsConsistent}
use Rattle.fabric_model.specs.ClockLuts.{turned_bit}
use Rattle.fabric_model.specs.Clocks.{ClockEnd, LeadsTo, clock_end, register_class, clock_class}
use Rattle.fabric_model.specs.Clocks.ClockEnd.{at_pin, at_register, still, logic}
use Rattle.fabric_model.specs.Steps.{is_on_register, wave_edges, state_after, settled_state, Event, Entry, IsEntry, IsWave, clocked_users, has_wave, wave_bound, EndsAt, Follows, IsUncut}
use Rattle.fabric_model.specs.Steps.EndsAt.{bound, rests, goes_on}
use Rattle.fabric_model.specs.Faults.{design_fault}
use Rattle.graph_order.specs.Wiring.{has, IsReady, IsWriteOrder}
use Rattle.fabric_model.specs.Wiring.{clocks_of_value, clocked_wiring}
use Rattle.graph_order.proofs.OneOrder.{has-none, has-first, has-after, has-cases}
use Rattle.fabric_model.proofs.Facts.{value-same}
use Rattle.fabric_model.proofs.OneValue.{IsWithin, first-driver, first-is, first-reads, driven-below, class_bit, class-still, net-bit}
use Rattle.fabric_model.proofs.Clocking.{over-clocked, clocked-count, clocked-driven, first-clocks}
use Rattle.fabric_model.proofs.Chains.{clock_end-leads_clocked, leads-register, first-value, clock-class}
use Rattle.fabric_model.proofs.Settling.{drive-has, value-settled}
use Rattle.fabric_model.proofs.Taken.{design-taken, clocked-order}
use Rattle.fabric_model.proofs.Within.{fabric-within}
use Rattle.fabric_model.proofs.Edges.{edge-still}
use Rattle.fabric_model.proofs.Events.{and-false}
use Rattle.fabric_model.proofs.Counted.{filter-le, filter-lt}
use Rattle.fabric_model.proofs.Kept.{IsQuiet, value-kept, clocks-used}
use Rattle.fabric_model.proofs.Alike.{entry-moved, has_wave-moved, waves-moved, from-all}

-- ---- places in an order

-- what is listed in the first part of a list stands at a place of that part
take-place : (n : ℕ) (list : List ℕ) (k : ℕ) → has (take n list) k ≡ true → (place : ℕ) × (place < n) × (place < length list) × (get_or list place 0 ≡ k)
take-place zero list k listed = absurd (has-none k listed)
take-place (suc n) [] k listed = absurd (has-none k listed)
take-place (suc n) (first ∷ list) k listed =
    elim (has-cases first (take n list) k listed) [
      | inl here ↦ (0, omega arith, omega arith, here)
      | inr after ↦
          let rest = take-place n list k after in
          (suc rest.0, omega (arith, rest.1), omega (arith, rest.2), rest.3)
    ]

-- and the other way round
place-take : (n : ℕ) (list : List ℕ) (place : ℕ) → place < n → place < length list → has (take n list) (get_or list place 0) ≡ true
place-take zero list place before within = absurd (omega (arith, before))
place-take (suc n) [] place before within = absurd (omega (arith, within))
place-take (suc n) (first ∷ list) zero before within = has-first first (take n list)
place-take (suc n) (first ∷ list) (suc place) before within =
    has-after first (take n list) (get_or list place 0) (place-take n list place (omega (arith, before)) (omega (arith, within)))

-- a longer part lists more
take-more : (few many : ℕ) (list : List ℕ) (k : ℕ) → few ≤ many → has (take few list) k ≡ true → has (take many list) k ≡ true
take-more few many list k more listed =
    let found = take-place few list k listed in
    subst (λ n. has (take many list) n ≡ true) found.3 (place-take many list found.0 (omega (arith, found.1)) found.2)

-- ---- clocks of users that are listed

-- whether a class that may be missing is listed
abbrev is_listed : List ℕ → Option ℕ → Bool
is_listed listed None = false
is_listed listed (Some class) = has listed class

listed-some : (listed : List ℕ) (class : Option ℕ) → is_listed listed class ≡ true → is_some class ≡ true
listed-some listed None is = absurd cc
listed-some listed (Some class) is = refl

listed-more : (few many : List ℕ) → ((k : ℕ) → has few k ≡ true → has many k ≡ true) → (class : Option ℕ) → is_listed few class ≡ true → is_listed many class ≡ true
listed-more few many more None is = absurd cc
listed-more few many more (Some class) is = more class is

-- the end of a chain at a register of a class
class-end : (end : ClockEnd) (class : ℕ) → register_class end ≡ Some class → (place : ℕ) × (turned : Bool) × (end ≡ at_register class place turned)
class-end (at_pin place turned) class is = absurd cc
class-end (at_register from place turned) class is = let same : from ≡ class = cc in (place, turned, ap (λ k. at_register k place turned) same)
class-end (still bit) class is = absurd cc
class-end logic class is = absurd cc

module _ (fabric : Fabric) (within : IsWithin fabric) (order : List ℕ) (ordered : IsWriteOrder (clocked_wiring fabric) order) where
  -- whether the clock of a user is a register whose class is listed
  abbrev is_clocked_by : List ℕ → Bool × Option ℕ → Bool
  is_clocked_by listed user = is_listed listed (clock_class fabric user.1)

  -- how many users have such a clock
  abbrev rank : List ℕ → ℕ
  rank listed = length (filter (is_clocked_by listed) (clocked_users fabric))

  rank-le : (few many : ℕ) → few ≤ many → rank (take few order) ≤ rank (take many order)
  rank-le few many more =
      filter-le (is_clocked_by (take few order)) (is_clocked_by (take many order))
      (λ user is. listed-more (take few order) (take many order) (λ k. take-more few many order k more) (clock_class fabric user.1) is) (clocked_users fabric)

  -- the class at a place of the order isn't listed before
  ready-at : (place : ℕ) → place < length order → IsReady (clocked_wiring fabric) (has (take place order)) (get_or order place 0)
  ready-at place inside = (ordered.each place inside).ready

  module _ (place : ℕ) (inside : place < length order) (user : Bool × Option ℕ) (there : Contains (clocked_users fabric) user)
      (clocks : clock_class fabric user.1 ≡ Some (get_or order place 0)) where
    unlisted : is_clocked_by (take place order) user ≡ false
    unlisted = rw clocks (ready-at place inside).unlisted

    -- the users of a clock count after it
    rank-lt : (many : ℕ) → place < many → rank (take place order) < rank (take many order)
    rank-lt many before =
        filter-lt (is_clocked_by (take place order)) (is_clocked_by (take many order))
        (λ other is. listed-more (take place order) (take many order) (λ k. take-more place many order k (omega (arith, before))) (clock_class fabric other.1) is)
        (clocked_users fabric) user there unlisted (rw clocks (place-take many order place before inside))

    rank-bound : rank (take place order) < wave_bound fabric
    rank-bound =
        filter-lt (is_clocked_by (take place order)) (λ (other : Bool × Option ℕ). is_on_register fabric other.1)
        (λ other is. listed-some (take place order) (clock_class fabric other.1) is) (clocked_users fabric) user there unlisted (rw clocks refl)

  -- ---- classes that rest

  -- the bit of a class in an entry
  abbrev bit_of : Entry → ℕ → Bool
  bit_of entry class = class_bit fabric within entry.state entry.pins entry.v class

  abbrev AreValues : Entry → Type 0
  AreValues entry = IsConsistent fabric entry.state entry.pins entry.v

  -- two entries have the same bit at each class that rests after a number of entries
  abbrev Rest : ℕ → Entry → Entry → Type 0
  Rest count earlier before = (place : ℕ) → place < length order → rank (take place order) + 2 ≤ count
      → bit_of earlier (get_or order place 0) ≡ bit_of before (get_or order place 0)

  -- a class at which a chain ends is driven
  clock-driven : (net class : ℕ) → clock_class fabric (Some net) ≡ Some class → is_driven fabric class ≡ true
  unfolding clock_class
  clock-driven net class clocks =
      let end = class-end (clock_end fabric net) class clocks in
      (leads-register fabric within (subst (LeadsTo fabric (class_of fabric.joins net)) end.2 (clock_end-leads_clocked fabric within order ordered net))).driven

  -- a net whose clock rests rests
  net-rests : (earlier before : Entry) → AreValues earlier → AreValues before → (net class : ℕ) → clock_class fabric (Some net) ≡ Some class
      → bit_of earlier class ≡ bit_of before class → bit_in earlier.v net ≡ bit_in before.v net
  unfolding clock_class
  net-rests earlier before of_earlier of_before net class clocks same =
      let end = class-end (clock_end fabric net) class clocks in
      let leads = subst (LeadsTo fabric (class_of fabric.joins net)) end.2 (clock_end-leads_clocked fabric within order ordered net) in
      clock-class fabric within earlier.state earlier.pins earlier.v of_earlier net class end.0 end.1 leads
      ∙ (ap (turned_bit end.1) same
      ∙ sym (clock-class fabric within before.state before.pins before.v of_before net class end.0 end.1 leads))

  module _ (count : ℕ) (earlier before : Entry) (of_earlier : AreValues earlier) (of_before : AreValues before) (resting : Rest count earlier before) where
    -- a user whose clock rests has no edge
    clock-rests : (inverted : Bool) (net place : ℕ) → place < length order → clock_class fabric (Some net) ≡ Some (get_or order place 0)
        → rank (take place order) + 2 ≤ count → wave_edges fabric (bit_in earlier.v) (bit_in before.v) inverted (Some net) ≡ false
    clock-rests inverted net place inside clocks low =
        let same = net-rests earlier before of_earlier of_before net (get_or order place 0) clocks (resting place inside low) in
        rw (edge-still inverted (Some net) (bit_in earlier.v) (bit_in before.v) (λ n is. let here : net ≡ n = cc in subst (λ k. bit_in earlier.v k ≡ bit_in before.v k) here same))
        (and-false (is_on_register fabric (Some net)))

    -- ---- at the last wave

    user-rests : wave_bound fabric < count → (user : Bool × Option ℕ) → Contains (clocked_users fabric) user → (net : Option ℕ) → user.1 ≡ net
        → (class : Option ℕ) → clock_class fabric net ≡ class → wave_edges fabric (bit_in earlier.v) (bit_in before.v) user.0 net ≡ false
    user-rests many user there None is class clocks = and-false (is_on_register fabric None)
    user-rests many user there (Some net) is None clocks = rw clocks refl
    user-rests many user there (Some net) is (Some class) clocks =
        let driven = clock-driven net class clocks in
        let below : class < (clocked_wiring fabric).count = subst (λ n. class < n) (sym (clocked-count fabric)) (driven-below fabric within class driven) in
        let listed : has order class ≡ true = ordered.whole class below (clocked-driven fabric class ∙ driven) in
        let found = take-place (length order) order class (subst (λ list. has list class ≡ true) (sym (take_all (length order) order (omega arith))) listed) in
        let here : clock_class fabric (Some net) ≡ Some (get_or order found.0 0) = clocks ∙ ap (λ k. Some k) (sym found.3) in
        let few = rank-bound found.0 found.2 user there (ap (clock_class fabric) is ∙ here) in
        clock-rests user.0 net found.0 found.2 here (omega (arith, few, many))

    -- no wave comes after more entries than there are users of such clocks
    none-comes : wave_bound fabric < count → has_wave fabric earlier before ≡ false
    none-comes many =
        list_any_none (λ user. wave_edges fabric (bit_in earlier.v) (bit_in before.v) user.0 user.1) (clocked_users fabric)
        (All-weaker (Contains (clocked_users fabric)) (λ (user : Bool × Option ℕ). wave_edges fabric (bit_in earlier.v) (bit_in before.v) user.0 user.1 ≡ false)
        (λ user there. user-rests many user there user.1 refl (clock_class fabric user.1) refl) (clocked_users fabric) (All-contains_itself (clocked_users fabric)))

    -- ---- one wave

    module _ (after : Entry) (wave : IsWave fabric earlier before after) where
      -- the class at a place, if those before it rest
      module _ (place : ℕ) (inside : place < length order) (low : rank (take place order) < count)
          (lesser : (other : ℕ) → other < place → bit_of before (get_or order other 0) ≡ bit_of after (get_or order other 0)) where
        abbrev class : ℕ
        class = get_or order place 0

        driven : is_driven fabric class ≡ true
        driven = sym (clocked-driven fabric class) ∙ (ready-at place inside).driven

        abbrev rule : Rule
        rule = (first-driver fabric class driven).0.rule

        -- what it reads stands before it
        read-rests : (net : ℕ) → has (nets_read rule) net ≡ true → bit_of before (class_of fabric.joins net) ≡ bit_of after (class_of fabric.joins net)
        read-rests net reads =
            let other = class_of fabric.joins net in
            let found = first-driver fabric class driven in
            elim (cases_Bool (is_driven fabric other)) [
              | inl drives ↦
                  let from = (over-clocked fabric).reads class other (first-reads fabric class found.0 found.1 (first-is fabric class found.0 found.1 found.2) net reads) in
                  let at = take-place place order other ((ready-at place inside).inputs other from (clocked-driven fabric other ∙ drives)) in
                  subst (λ k. bit_of before k ≡ bit_of after k) at.3 (lesser at.0 at.1)
              | inr away ↦
                  class-still fabric within before.state before.pins before.v other away
                  ∙ sym (class-still fabric within after.state after.pins after.v other away)
            ]

        same-nets : (net : ℕ) → has (nets_read rule) net ≡ true → bit_in after.v net ≡ bit_in before.v net
        same-nets net reads =
            net-bit fabric within after.state after.pins after.v wave.entry.consistent net
            ∙ (sym (read-rests net reads) ∙ sym (net-bit fabric within before.state before.pins before.v of_before net))

        -- so do the clocks of what its value is computed from
        clock-quiet : (inverted : Bool) (net : ℕ) → has (clocks_of_value fabric rule) net ≡ true → (of_net : Option ℕ) → clock_class fabric (Some net) ≡ of_net
            → wave_edges fabric (bit_in earlier.v) (bit_in before.v) inverted (Some net) ≡ false
        clock-quiet inverted net among None clocks = rw clocks refl
        clock-quiet inverted net among (Some k) clocks =
            let found = first-driver fabric class driven in
            let from = first-clocks fabric class found.0 found.1 (first-is fabric class found.0 found.1 found.2) net k among clocks in
            let at = take-place place order k ((ready-at place inside).inputs k from (clocked-driven fabric k ∙ clock-driven net k clocks)) in
            let here : clock_class fabric (Some net) ≡ Some (get_or order at.0 0) = clocks ∙ ap (λ n. Some n) (sym at.3) in
            let user = clocks-used fabric rule (drive-has fabric within.closed found.0 found.2.there) net among in
            let fewer = rank-lt at.0 at.2 (user.0, Some net) user.1 here place at.1 in
            clock-rests inverted net at.0 at.2 here (omega (arith, fewer, low))

        quiet : IsQuiet (wave_edges fabric (bit_in earlier.v) (bit_in before.v)) (clocks_of_value fabric rule)
        quiet inverted None among = and-false (is_on_register fabric None)
        quiet inverted (Some net) among = clock-quiet inverted net (among net refl) (clock_class fabric (Some net)) refl

        class-rests : bit_of before class ≡ bit_of after class
        class-rests =
            let connected = is_connected fabric in
            let found = first-driver fabric class driven in
            let there = drive-has fabric within.closed found.0 found.2.there in
            let edges = wave_edges fabric (bit_in earlier.v) (bit_in before.v) in
            let raw = state_after fabric before.pins before.state (bit_in before.v) edges in
            first-value fabric within before.state before.pins before.v of_before class driven
            ∙ (sym (value-kept fabric edges before.pins before.state (bit_in before.v) before.pins (bit_in before.v) rule there quiet)
            ∙ (sym (value-same connected (bit_in after.v) (bit_in before.v) raw before.pins rule same-nets)
            ∙ (sym (value-settled fabric within.closed (bit_in after.v) raw before.pins rule there)
            ∙ (ap (λ pins. value_of connected (settled_state fabric (bit_in after.v) raw) pins (bit_in after.v) rule) (sym wave.pins)
            ∙ (ap (λ state. value_of connected state after.pins (bit_in after.v) rule) (sym wave.state)
            ∙ sym (first-value fabric within after.state after.pins after.v wave.entry.consistent class driven))))))

      below-rest : (n place : ℕ) → place < n → place < length order → rank (take place order) < count
          → bit_of before (get_or order place 0) ≡ bit_of after (get_or order place 0)
      below-rest zero place less inside low = absurd (omega (arith, less))
      below-rest (suc n) place less inside low =
          class-rests place inside low (λ other fewer. below-rest n other (omega (arith, less, fewer)) (omega (arith, inside, fewer))
          (omega (arith, low, rank-le other place (omega (arith, fewer)))))

      -- what rests after a number of entries rests after one more
      wave-rests : Rest (suc count) before after
      wave-rests place inside low = below-rest (suc place) place (omega arith) inside (omega (arith, low))

  -- ---- all waves

  ends-rest : {more : ℕ} {earlier before prior last : Entry} → EndsAt fabric more earlier before prior last → (count : ℕ) → count + more ≡ suc (wave_bound fabric)
      → AreValues earlier → AreValues before → Rest count earlier before → has_wave fabric prior last ≡ false
  ends-rest {earlier} {before} bound count whole of_earlier of_before resting = none-comes count earlier before of_earlier of_before resting (omega (arith, whole))
  ends-rest (rests none) count whole of_earlier of_before resting = none
  ends-rest {earlier} {before} (goes_on next comes wave more) count whole of_earlier of_before resting =
      ends-rest more (suc count) (omega (arith, whole)) of_before wave.entry.consistent (wave-rests count earlier before of_earlier of_before resting next wave)

  -- the bound cuts no wave
  pub waves-uncut : (before first prior after : Entry) → IsEntry fabric before → IsEntry fabric first → EndsAt fabric (wave_bound fabric) before first prior after
      → has_wave fabric prior after ≡ false
  waves-uncut before first prior after of_before of_first waves =
      ends-rest waves 1 (omega arith) of_before.consistent of_first.consistent (λ place inside low. absurd (omega (arith, low)))

-- ---- the fabric of a database and an image

-- Where a database and an image aren't refused, the bound on the waves of an event cuts none, whichever inputs LUTs read.
pub design-uncut : (options : FabricOptions) (db : Database) (image : Configuration) → IsFit db → design_fault options db image ≡ None
    → (before after : Entry) (event : Event) (follows : Follows (fabric_with (reading_all options) db image) before event after)
    → IsEntry (fabric_with (reading_all options) db image) before → IsUncut (fabric_with (reading_all options) db image) before event after follows
design-uncut options db image fit none before after event follows is =
    let fabric = fabric_with options db image in
    let all = fabric_with (reading_all options) db image in
    let within = fabric-within db image fit options in
    let order = clocked-order image.layout.device fabric (design-taken options db image none).fabric within in
    let moved = from-all options db image in
    has_wave-moved all fabric moved follows.prior after
    ∙ waves-uncut fabric within order.it order.is before follows.first follows.prior after (entry-moved all fabric moved before is)
    (entry-moved all fabric moved follows.first follows.first_step.entry) (waves-moved all fabric moved follows.waves)
