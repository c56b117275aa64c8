-- What a LUT does to a clock: its value, the net that it reads, and that it is the same whichever inputs the LUT reads.
use Rattle.std.proofs.Common.{◌≡◌, ℕ, zero, suc, ◌/◌, ◌%◌, ◌^◌, ◌<◌, ◌==◌, Bool, true, false, ◌&&◌, ◌||◌, ◌⊎◌, List, [], ◌∷◌, ◌++◌, get_or, refl, sym, ap, subst, ◌∙◌, arith, inl, inr}
use Rattle.std.specs.Prelude.{not, flat_map, Option, Some, None, if◌then◌else◌}
use Rattle.std.specs.Bool.{beq}
use Rattle.std.proofs.lemmas.Bool.{cases_Bool, cases_lt, and_parts, and_from, or_right, false_from_ne_true}
use Rattle.bit_plane.specs.BitList.{bit_value}
use Rattle.index_search.specs.Places.{any_below}
use Rattle.index_search.proofs.Places.{any_below-none}
use Rattle.index_search.proofs.Found.{any_below-clear}
use Rattle.fabric_model.specs.declared.cell.LogicCell.{LogicCell}
use Rattle.fabric_model.specs.declared.lut_inputs.LutInputs.{LutInputs}
use Rattle.fabric_model.specs.declared.lut_inputs.LutInputs.TheVariants as read
use Rattle.fabric_model.specs.declared.signal.Signal.{Signal}
use Rattle.fabric_model.specs.declared.signal.Signal.TheVariants as signal
use Rattle.fabric_model.specs.declared.register.LutTable.{LutTable}
use Rattle.fabric_model.specs.Luts.{entry_of, uses_input, used_input}
use Rattle.fabric_model.specs.Registers.{table_of}
use Rattle.fabric_model.specs.Signals.{net_or_0, signal_nets}
use Rattle.fabric_model.specs.Values.{State, signal_value, table_input, entry_number, lut_value}
use Rattle.fabric_model.specs.ClockLuts.{LutPass, turned_bit, can_be_1, input_at, is_input_open, is_open, is_open_otherwise, is_at_open, is_held, is_following, pass_along, pass_by, pass_of}
use Rattle.fabric_model.specs.ClockLuts.LutPass.{holds, follows, mixes}
use Rattle.fabric_model.specs.Clocks.{turn_through}
use Rattle.fabric_model.specs.Clocks.ClockEnd.{at_pin}
use Rattle.fabric_model.specs.Clocks.Turn.{ends}
use Rattle.graph_order.specs.Wiring.{has}
use Rattle.graph_order.proofs.OneOrder.{has-first}
use Rattle.fabric_model.proofs.Facts.{has-right}
use Rattle.fabric_model.proofs.UsedInputs.{same-bits, value-small, number_of, read_bit, clear-0, clear-1, clear-2, clear-3, entry-read, net-input}

-- ---- numbers of entries

-- the inputs of an entry with that number
number-bits : (a b c d : Bool)
    → (input_at 0 (number_of a b c d) ≡ a) × (input_at 1 (number_of a b c d) ≡ b) × (input_at 2 (number_of a b c d) ≡ c) × (input_at 3 (number_of a b c d) ≡ d)
number-bits true true true true = (refl, refl, refl, refl)
number-bits true true true false = (refl, refl, refl, refl)
number-bits true true false true = (refl, refl, refl, refl)
number-bits true true false false = (refl, refl, refl, refl)
number-bits true false true true = (refl, refl, refl, refl)
number-bits true false true false = (refl, refl, refl, refl)
number-bits true false false true = (refl, refl, refl, refl)
number-bits true false false false = (refl, refl, refl, refl)
number-bits false true true true = (refl, refl, refl, refl)
number-bits false true true false = (refl, refl, refl, refl)
number-bits false true false true = (refl, refl, refl, refl)
number-bits false true false false = (refl, refl, refl, refl)
number-bits false false true true = (refl, refl, refl, refl)
number-bits false false true false = (refl, refl, refl, refl)
number-bits false false false true = (refl, refl, refl, refl)
number-bits false false false false = (refl, refl, refl, refl)

number-few : (a b c d : Bool) → number_of a b c d < 16
number-few a b c d =
    let of_a = value-small a in
    let of_b = value-small b in
    let of_c = value-small c in
    let of_d = value-small d in
    omega arith

odd-value : (n : ℕ) → bit_value (n % 2 == 1) ≡ n % 2
odd-value n =
    elim (cases_lt (n % 2) 1) [
      | inl less ↦ let even : n % 2 ≡ 0 = omega (arith, less) in rw even refl
      | inr more ↦ let odd : n % 2 ≡ 1 = omega (arith, more) in rw odd refl
    ]

-- a number below 16 is that of its bits
number-is : (n : ℕ) → n < 16 → number_of (input_at 0 n) (input_at 1 n) (input_at 2 n) (input_at 3 n) ≡ n
number-is n few =
    let one = odd-value (n / 2 ^ 0) in
    let two = odd-value (n / 2 ^ 1) in
    let four = odd-value (n / 2 ^ 2) in
    let eight = odd-value (n / 2 ^ 3) in
    omega arith

-- ---- entries that can occur

same-beq : (one two : Bool) → one ≡ two → beq one two ≡ true
same-beq true true is = refl
same-beq false false is = refl
same-beq true false is = absurd cc
same-beq false true is = absurd cc

same-none : (can one two : Bool) → (can ≡ true → one ≡ two) → (can && not (beq one two)) ≡ false
same-none true one two same = rw (same-beq one two (same refl)) refl
same-none false one two same = refl

both-true : (one two : Bool) → (one ≡ true → two ≡ true) → (two ≡ true → one ≡ true) → one ≡ two
both-true true two to back = sym (to refl)
both-true false true to back = back refl
both-true false false to back = refl

module _ (connected : ℕ → Bool) (table : LutTable) (value : ℕ → Bool) where
  -- an entry that can occur has the value
  at-open : is_at_open connected table value ≡ true → (n : ℕ) → n < 16 → is_open connected table n ≡ true → entry_of table.word n ≡ value n
  unfolding is_at_open
  at-open all n few can =
      elim (cases_Bool (any_below 16 (is_open_otherwise connected table value))) [
        | inl some ↦ absurd cc
        | inr none ↦ same-bits (is_open connected table n) (entry_of table.word n) (value n) can (any_below-clear 16 n (is_open_otherwise connected table value) none few)
      ]

  to-open : ((n : ℕ) → n < 16 → is_open connected table n ≡ true → entry_of table.word n ≡ value n) → is_at_open connected table value ≡ true
  unfolding is_at_open
  to-open each =
      ap not (any_below-none 16 (is_open_otherwise connected table value)
      (λ n few. same-none (is_open connected table n) (entry_of table.word n) (value n) (each n few)))

-- ---- the value of a LUT

-- what a LUT's value is, by what the LUT does
abbrev pub HasPassValue : (ℕ → Bool) → LutPass → Bool → Type 0
HasPassValue bit (holds it) value = value ≡ it
HasPassValue bit (follows turned net) value = value ≡ turned_bit turned (bit net)
HasPassValue bit mixes value = Unit {0}

module _ (connected : ℕ → Bool) (state : State) (pins : List Bool) (bit : ℕ → Bool) (table : LutTable) where
  abbrev input : ℕ → Bool
  input k = table_input connected state pins bit table k

  abbrev taken : ℕ
  taken = entry_number connected state pins bit table

  taken-few : taken < 16
  taken-few = number-few (input 0) (input 1) (input 2) (input 3)

  taken-bits : (input_at 0 taken ≡ input 0) × (input_at 1 taken ≡ input 1) × (input_at 2 taken ≡ input 2) × (input_at 3 taken ≡ input 3)
  taken-bits = number-bits (input 0) (input 1) (input 2) (input 3)

  source-open : (source : Signal) → (not (signal_value connected state pins bit source) || can_be_1 connected source) ≡ true
  source-open (signal.Net None true) = refl
  source-open (signal.Net None false) = refl
  source-open (signal.Net (Some net) true) = or_right _ true refl
  source-open (signal.Net (Some net) false) =
      elim (cases_Bool (connected net)) [
        | inl is ↦ or_right _ (connected net) is
        | inr away ↦ rw away refl
      ]
  source-open (signal.Input place) = or_right _ true refl
  source-open (signal.Register place) = or_right _ true refl

  input-open : (k : ℕ) → input_at k taken ≡ input k → is_input_open connected table k taken ≡ true
  input-open k is = ap (λ b. not b || can_be_1 connected (get_or table.ins k (net_or_0 None))) is ∙ source-open (get_or table.ins k (net_or_0 None))

  -- the entry that is taken can occur
  taken-open : is_open connected table taken ≡ true
  taken-open =
      and_from _ _ (input-open 0 taken-bits.0)
      (and_from _ _ (input-open 1 taken-bits.1) (and_from _ _ (input-open 2 taken-bits.2) (input-open 3 taken-bits.3)))

  value-open : (value : ℕ → Bool) → is_at_open connected table value ≡ true → lut_value connected state pins bit table ≡ value taken
  unfolding lut_value
  value-open value all = at-open connected table value all taken taken-few taken-open

  held-value : (it : Bool) → is_held connected table it ≡ true → lut_value connected state pins bit table ≡ it
  held-value it held = value-open (λ n. it) held

  follow-value : (turned : Bool) (k : ℕ) → input_at k taken ≡ input k → is_following connected table turned k ≡ true
      → lut_value connected state pins bit table ≡ turned_bit turned (input k)
  follow-value turned k is following = value-open (λ n. turned_bit turned (input_at k n)) following ∙ ap (turned_bit turned) is

  -- the pass through in_k, or another one with its value
  along-value : (k : ℕ) → input_at k taken ≡ input k → (otherwise : LutPass) → HasPassValue bit otherwise (lut_value connected state pins bit table)
      → (source : Signal) → get_or table.ins k (net_or_0 None) ≡ source → HasPassValue bit (pass_along connected table k otherwise source) (lut_value connected state pins bit table)
  along-value k is otherwise other (signal.Net None stated) at = other
  along-value k is otherwise other (signal.Net (Some net) true) at = other
  along-value k is otherwise other (signal.Input place) at = other
  along-value k is otherwise other (signal.Register place) at = other
  along-value k is otherwise other (signal.Net (Some net) false) at =
      elim (cases_Bool (connected net && is_following connected table false k)) [
        | inl upright ↦
            let parts = and_parts (connected net) (is_following connected table false k) upright in
            rw upright (follow-value false k is parts.1 ∙ read-net parts.0)
        | inr not_upright ↦
            elim (cases_Bool (connected net && is_following connected table true k)) [
              | inl turned ↦
                  let parts = and_parts (connected net) (is_following connected table true k) turned in
                  rw (not_upright, turned) (follow-value true k is parts.1 ∙ ap not (read-net parts.0))
              | inr neither ↦ rw (not_upright, neither) other
            ]
      ]
    where
      read-net : connected net ≡ true → input k ≡ bit net
      read-net joined = ap (signal_value connected state pins bit) at ∙ rw joined refl

  by-value : (k : ℕ) → input_at k taken ≡ input k → (otherwise : LutPass) → HasPassValue bit otherwise (lut_value connected state pins bit table)
      → HasPassValue bit (pass_by connected table k otherwise) (lut_value connected state pins bit table)
  by-value k is otherwise other = along-value k is otherwise other (get_or table.ins k (net_or_0 None)) refl

  -- a LUT has the value of what it does
  pub pass-value : HasPassValue bit (pass_of connected table) (lut_value connected state pins bit table)
  unfolding pass_of
  pass-value =
      elim (cases_Bool (is_held connected table false)) [
        | inl zero_held ↦ rw zero_held (held-value false zero_held)
        | inr not_upright ↦
            elim (cases_Bool (is_held connected table true)) [
              | inl one_held ↦ rw (not_upright, one_held) (held-value true one_held)
              | inr neither ↦
                  rw (not_upright, neither)
                  (by-value 0 taken-bits.0 _ (by-value 1 taken-bits.1 _ (by-value 2 taken-bits.2 _ (by-value 3 taken-bits.3 mixes tt))))
            ]
      ]

-- ---- the net that a LUT follows

module _ (connected : ℕ → Bool) (table : LutTable) where
  -- a LUT follows a net that one of its inputs reads
  along-reads : (k : ℕ) (otherwise : LutPass) (source : Signal) → get_or table.ins k (net_or_0 None) ≡ source → (turned : Bool) (net : ℕ)
      → pass_along connected table k otherwise source ≡ follows turned net → (otherwise ≡ follows turned net) ⊎ (get_or table.ins k (net_or_0 None) ≡ net_or_0 (Some net))
  along-reads k otherwise (signal.Net None stated) at turned net is = inl is
  along-reads k otherwise (signal.Net (Some source) true) at turned net is = inl is
  along-reads k otherwise (signal.Input place) at turned net is = inl is
  along-reads k otherwise (signal.Register place) at turned net is = inl is
  along-reads k otherwise (signal.Net (Some source) false) at turned net is =
      elim (cases_Bool (connected source && is_following connected table false k)) [
        | inl upright ↦ let same : follows false source ≡ follows turned net = sym (rw upright refl) ∙ is in inr (at ∙ cc)
        | inr not_upright ↦
            elim (cases_Bool (connected source && is_following connected table true k)) [
              | inl over ↦ let same : follows true source ≡ follows turned net = sym (rw (not_upright, over) refl) ∙ is in inr (at ∙ cc)
              | inr neither ↦ inl (sym (rw (not_upright, neither) refl) ∙ is)
            ]
      ]

  HasSource : ℕ → Type 0
  HasSource net = (k : ℕ) × (get_or table.ins k (net_or_0 None) ≡ net_or_0 (Some net))

  by-reads : (k : ℕ) (otherwise : LutPass) (turned : Bool) (net : ℕ) → (otherwise ≡ follows turned net → HasSource net)
      → pass_by connected table k otherwise ≡ follows turned net → HasSource net
  unfolding HasSource
  by-reads k otherwise turned net later is =
      elim (along-reads k otherwise (get_or table.ins k (net_or_0 None)) refl turned net is) [
        | inl other ↦ later other
        | inr here ↦ (k, here)
      ]

  pass-source : (turned : Bool) (net : ℕ) → pass_of connected table ≡ follows turned net → HasSource net
  unfolding pass_of
  pass-source turned net is =
      elim (cases_Bool (is_held connected table false)) [
        | inl zero_held ↦ let never : holds false ≡ follows turned net = sym (rw zero_held refl) ∙ is in absurd cc
        | inr not_upright ↦
            elim (cases_Bool (is_held connected table true)) [
              | inl one_held ↦ let never : holds true ≡ follows turned net = sym (rw (not_upright, one_held) refl) ∙ is in absurd cc
              | inr neither ↦
                  by-reads 0 _ turned net (by-reads 1 _ turned net (by-reads 2 _ turned net (by-reads 3 mixes turned net (λ never. absurd cc))))
                  (sym (rw (not_upright, neither) refl) ∙ is)
            ]
      ]

  source-read : (ins : List Signal) (k net : ℕ) → get_or ins k (net_or_0 None) ≡ net_or_0 (Some net) → has (flat_map signal_nets ins) net ≡ true
  source-read [] k net is = absurd cc
  source-read (source ∷ ins) zero net is = subst (λ s. has (signal_nets s ++ flat_map signal_nets ins) net ≡ true) (sym is) (has-first net (flat_map signal_nets ins))
  source-read (source ∷ ins) (suc k) net is = has-right (signal_nets source) (flat_map signal_nets ins) net (source-read ins k net is)

  -- the LUT reads the net that it follows
  pub pass-reads : (turned : Bool) (net : ℕ) → pass_of connected table ≡ follows turned net → has (flat_map signal_nets table.ins) net ≡ true
  unfolding HasSource
  pass-reads turned net is = let found = pass-source turned net is in source-read table.ins found.0 net found.1

-- a LUT doesn't end a chain at a pin
pub pass-no_pin : (place : ℕ) (turned : Bool) (pass : LutPass) → turn_through pass ≡ ends (at_pin place turned) → ⊥
pass-no_pin place turned (holds it) is = absurd cc
pass-no_pin place turned (follows other net) is = absurd cc
pass-no_pin place turned mixes is = absurd cc

-- ---- whichever inputs the LUT reads

module _ (connected : ℕ → Bool) (lc : LogicCell) where
  abbrev word : ℕ
  word = lc.lut

  abbrev whole : LutTable
  whole = table_of read.All lc

  abbrev part : LutTable
  part = table_of read.Used lc

  abbrev net_of : ℕ → Option ℕ
  net_of k = get_or lc.ins k None

  -- an entry's number with a 0 for each input that isn't used
  abbrev lower : ℕ → ℕ
  lower n = number_of (read_bit word 0 (input_at 0 n)) (read_bit word 1 (input_at 1 n)) (read_bit word 2 (input_at 2 n)) (read_bit word 3 (input_at 3 n))

  -- what is known of an input: where it reads, its bit in numbers, and the entries that differ in its bit alone
  record IsInput (k : ℕ) : Type 0 where
    source : get_or part.ins k (net_or_0 None) ≡ net_or_0 (used_input word lc.ins k)
    bit : (n : ℕ) → input_at k (lower n) ≡ read_bit word k (input_at k n)
    low : input_at k 0 ≡ false
    high : input_at k (2 ^ k) ≡ true
    few : 2 ^ k < 16
    alone : is_input_open connected whole k (2 ^ k) ≡ true → is_open connected whole (2 ^ k) ≡ true
    unused : uses_input word k ≡ false → entry_of word (2 ^ k) ≡ entry_of word 0

  abbrev lower-bits : (n : ℕ) → (input_at 0 (lower n) ≡ read_bit word 0 (input_at 0 n)) × (input_at 1 (lower n) ≡ read_bit word 1 (input_at 1 n))
      × (input_at 2 (lower n) ≡ read_bit word 2 (input_at 2 n)) × (input_at 3 (lower n) ≡ read_bit word 3 (input_at 3 n))
  lower-bits n = number-bits (read_bit word 0 (input_at 0 n)) (read_bit word 1 (input_at 1 n)) (read_bit word 2 (input_at 2 n)) (read_bit word 3 (input_at 3 n))

  input-0 : IsInput 0
  input-0 = record {
    source = refl;
    bit = λ n. (lower-bits n).0;
    low = refl;
    high = refl;
    few = omega arith;
    alone = λ can. rw can refl;
    unused = clear-0 word false false false;
  }

  input-1 : IsInput 1
  input-1 = record {
    source = refl;
    bit = λ n. (lower-bits n).1;
    low = refl;
    high = refl;
    few = omega arith;
    alone = λ can. rw can refl;
    unused = clear-1 word false false false;
  }

  input-2 : IsInput 2
  input-2 = record {
    source = refl;
    bit = λ n. (lower-bits n).2;
    low = refl;
    high = refl;
    few = omega arith;
    alone = λ can. rw can refl;
    unused = clear-2 word false false false;
  }

  input-3 : IsInput 3
  input-3 = record {
    source = refl;
    bit = λ n. (lower-bits n).3;
    low = refl;
    high = refl;
    few = omega arith;
    alone = λ can. rw can refl;
    unused = clear-3 word false false false;
  }

  -- ---- entries that can occur in one and in the other

  lower-part : (used x : Bool) (net : Option ℕ) → (not x || can_be_1 connected (net_or_0 net)) ≡ true
      → (not (if used then x else false) || can_be_1 connected (net_or_0 (if used then net else None))) ≡ true
  lower-part true x net is = is
  lower-part false x net is = refl

  upper-part : (used x : Bool) (net : Option ℕ) → (not x || can_be_1 connected (net_or_0 (if used then net else None))) ≡ true
      → (not x || can_be_1 connected (net_or_0 net)) ≡ true
  upper-part true x net is = is
  upper-part false true net is = absurd cc
  upper-part false false net is = refl

  input-lower : (k : ℕ) → IsInput k → (n : ℕ) → is_input_open connected whole k n ≡ true → is_input_open connected part k (lower n) ≡ true
  input-lower k is n can =
      ap (λ source. not (input_at k (lower n)) || can_be_1 connected source) is.source
      ∙ (ap (λ b. not b || can_be_1 connected (net_or_0 (used_input word lc.ins k))) (is.bit n)
      ∙ lower-part (uses_input word k) (input_at k n) (net_of k)
      (ap (λ source. not (input_at k n) || can_be_1 connected source) (sym (net-input lc.ins k)) ∙ can))

  input-upper : (k : ℕ) → IsInput k → (n : ℕ) → is_input_open connected part k n ≡ true → is_input_open connected whole k n ≡ true
  input-upper k is n can =
      ap (λ source. not (input_at k n) || can_be_1 connected source) (net-input lc.ins k)
      ∙ upper-part (uses_input word k) (input_at k n) (net_of k)
      (ap (λ source. not (input_at k n) || can_be_1 connected source) (sym is.source) ∙ can)

  open-lower : (n : ℕ) → is_open connected whole n ≡ true → is_open connected part (lower n) ≡ true
  open-lower n can =
      let first = and_parts _ _ can in
      let second = and_parts _ _ first.1 in
      let third = and_parts _ _ second.1 in
      and_from _ _ (input-lower 0 input-0 n first.0)
      (and_from _ _ (input-lower 1 input-1 n second.0) (and_from _ _ (input-lower 2 input-2 n third.0) (input-lower 3 input-3 n third.1)))

  open-upper : (n : ℕ) → is_open connected part n ≡ true → is_open connected whole n ≡ true
  open-upper n can =
      let first = and_parts _ _ can in
      let second = and_parts _ _ first.1 in
      let third = and_parts _ _ second.1 in
      and_from _ _ (input-upper 0 input-0 n first.0)
      (and_from _ _ (input-upper 1 input-1 n second.0) (and_from _ _ (input-upper 2 input-2 n third.0) (input-upper 3 input-3 n third.1)))

  lower-entry : (n : ℕ) → n < 16 → entry_of word n ≡ entry_of word (lower n)
  lower-entry n few = ap (entry_of word) (sym (number-is n few)) ∙ entry-read word (input_at 0 n) (input_at 1 n) (input_at 2 n) (input_at 3 n)

  lower-few : (n : ℕ) → lower n < 16
  lower-few n = number-few (read_bit word 0 (input_at 0 n)) (read_bit word 1 (input_at 1 n)) (read_bit word 2 (input_at 2 n)) (read_bit word 3 (input_at 3 n))

  -- a value that the inputs which aren't used don't change is at all entries of both or of neither
  at-same : (value : ℕ → Bool) → ((n : ℕ) → value (lower n) ≡ value n) → is_at_open connected part value ≡ is_at_open connected whole value
  at-same value same =
      both-true (is_at_open connected part value) (is_at_open connected whole value)
      (λ all. to-open connected whole value (λ n few can.
      lower-entry n few ∙ (at-open connected part value all (lower n) (lower-few n) (open-lower n can) ∙ same n)))
      (λ all. to-open connected part value (λ n few can. at-open connected whole value all n few (open-upper n can)))

  held-same : (it : Bool) → is_held connected part it ≡ is_held connected whole it
  held-same it = at-same (λ n. it) (λ n. refl)

  following-same : (k : ℕ) → IsInput k → uses_input word k ≡ true → (turned : Bool) → is_following connected part turned k ≡ is_following connected whole turned k
  following-same k is used turned =
      at-same (λ n. turned_bit turned (input_at k n)) (λ n. ap (turned_bit turned) (is.bit n ∙ rw used refl))

  -- a LUT doesn't follow an input that it doesn't use
  never-same : (turned : Bool) → turned_bit turned true ≡ turned_bit turned false → ⊥
  never-same true is = absurd cc
  never-same false is = absurd cc

  can-open : (k : ℕ) (net : ℕ) → net_of k ≡ Some net → connected net ≡ true → is_input_open connected whole k (2 ^ k) ≡ true
  can-open k net at joined =
      ap (λ source. not (input_at k (2 ^ k)) || can_be_1 connected source) (net-input lc.ins k ∙ ap net_or_0 at) ∙ or_right _ (connected net) joined

  after-none : (k : ℕ) → IsInput k → (net : ℕ) → net_of k ≡ Some net → connected net ≡ true → uses_input word k ≡ false
      → (turned : Bool) → is_following connected whole turned k ≡ false
  after-none k is net at joined unused turned =
      false_from_ne_true (is_following connected whole turned k) (λ all.
      let value : ℕ → Bool = λ n. turned_bit turned (input_at k n) in
      let high : entry_of word (2 ^ k) ≡ turned_bit turned true =
      at-open connected whole value all (2 ^ k) is.few (is.alone (can-open k net at joined)) ∙ ap (turned_bit turned) is.high in
      let low : entry_of word 0 ≡ turned_bit turned false = at-open connected whole value all 0 (omega arith) refl ∙ ap (turned_bit turned) is.low in
      never-same turned (sym high ∙ (is.unused unused ∙ low)))

  -- ---- what the LUT does in one and in the other

  along-used : (k : ℕ) → IsInput k → uses_input word k ≡ true → (otherwise : LutPass) (net : Option ℕ)
      → pass_along connected part k otherwise (net_or_0 net) ≡ pass_along connected whole k otherwise (net_or_0 net)
  along-used k is used otherwise None = refl
  along-used k is used otherwise (Some net) = rw (following-same k is used false, following-same k is used true) refl

  along-unused : (k : ℕ) → IsInput k → uses_input word k ≡ false → (otherwise : LutPass) (net : Option ℕ) → net_of k ≡ net
      → otherwise ≡ pass_along connected whole k otherwise (net_or_0 net)
  along-unused k is unused otherwise None at = refl
  along-unused k is unused otherwise (Some net) at =
      elim (cases_Bool (connected net)) [
        | inl joined ↦ rw (joined, after-none k is net at joined unused false, after-none k is net at joined unused true) refl
        | inr away ↦ rw away refl
      ]

  along-same : (k : ℕ) → IsInput k → (otherwise : LutPass)
      → pass_along connected part k otherwise (net_or_0 (used_input word lc.ins k)) ≡ pass_along connected whole k otherwise (net_or_0 (net_of k))
  along-same k is otherwise =
      elim (cases_Bool (uses_input word k)) [
        | inl used ↦ rw used (along-used k is used otherwise (net_of k))
        | inr unused ↦ rw unused (along-unused k is unused otherwise (net_of k) refl)
      ]

  by-same : (k : ℕ) → IsInput k → (one two : LutPass) → one ≡ two → pass_by connected part k one ≡ pass_by connected whole k two
  by-same k is one two same =
      ap (pass_along connected part k one) is.source
      ∙ (ap (λ otherwise. pass_along connected part k otherwise (net_or_0 (used_input word lc.ins k))) same
      ∙ (along-same k is two ∙ ap (pass_along connected whole k two) (sym (net-input lc.ins k))))

  used-pass : pass_of connected part ≡ pass_of connected whole
  unfolding pass_of
  used-pass =
      let passes = by-same 0 input-0 _ _ (by-same 1 input-1 _ _ (by-same 2 input-2 _ _ (by-same 3 input-3 mixes mixes refl))) in
      rw (held-same false, held-same true) (ap (λ pass. if is_held connected whole false then holds false else if is_held connected whole true then holds true else pass) passes)

  -- what a LUT does to a clock is the same, whichever inputs it reads
  pub read-pass : (inputs : LutInputs) → pass_of connected (table_of inputs lc) ≡ pass_of connected whole
  read-pass read.All = refl
  read-pass read.Used = used-pass
