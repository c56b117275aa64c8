-- The value of each driver looks at no other nets than those that it reads.
use Rattle.std.proofs.Common.{◌≡◌, ℕ, zero, suc, Bool, true, false, List, [], ◌∷◌, ◌++◌, map, get_or, refl, subst, ◌⊎◌, inl, inr}
use Rattle.std.specs.Prelude.{flat_map, option_to_list, Option, Some, None}
use Rattle.std.proofs.lemmas.Bool.{cases_Bool}
use Rattle.fabric_model.specs.declared.signal.Signal.{Signal}
use Rattle.fabric_model.specs.declared.signal.Signal.TheVariants as signal
use Rattle.fabric_model.specs.declared.register.LutTable.{LutTable}
use Rattle.fabric_model.specs.declared.register.Register.{Register}
use Rattle.fabric_model.specs.Signals.{net_or_0, signal_nets}
use Rattle.fabric_model.specs.Drivers.{Rule, nets_read}
use Rattle.fabric_model.specs.Drivers.Rule.{pin_bit, constant, input, table_entry, majority_of, register_bit, read_bit, copied}
use Rattle.fabric_model.specs.Values.{State, input_value, signal_value, table_input, lut_value, settled_bit, value_of}
use Rattle.graph_order.specs.Wiring.{has}
use Rattle.graph_order.proofs.OneOrder.{has-first, has-after, has-cases, has-none}

-- ---- lists of nets

pub has-left : (first second : List ℕ) (n : ℕ) → has first n ≡ true → has (first ++ second) n ≡ true
has-left [] second n found = absurd (has-none n found)
has-left (head ∷ first) second n found =
    elim (has-cases head first n found) [
      | inl here ↦ subst (λ k. has (head ∷ first ++ second) k ≡ true) here (has-first head (first ++ second))
      | inr after ↦ has-after head (first ++ second) n (has-left first second n after)
    ]

pub has-right : (first second : List ℕ) (n : ℕ) → has second n ≡ true → has (first ++ second) n ≡ true
has-right [] second n found = found
has-right (head ∷ first) second n found = has-after head (first ++ second) n (has-right first second n found)

-- what is in a joined list is in one of the two
pub has-either : (first second : List ℕ) (n : ℕ) → has (first ++ second) n ≡ true → (has first n ≡ true) ⊎ (has second n ≡ true)
has-either [] second n found = inr found
has-either (head ∷ first) second n found =
    elim (has-cases head (first ++ second) n found) [
      | inl here ↦ inl (subst (λ k. has (head ∷ first) k ≡ true) here (has-first head first))
      | inr after ↦ elim (has-either first second n after) [ inl of_first ↦ inl (has-after head first n of_first) | inr of_second ↦ inr of_second ]
    ]

pub has-map : (change : ℕ → ℕ) (list : List ℕ) (n : ℕ) → has list n ≡ true → has (map change list) (change n) ≡ true
has-map change [] n found = absurd (has-none n found)
has-map change (head ∷ rest) n found =
    elim (has-cases head rest n found) [
      | inl here ↦ subst (λ k. has (change head ∷ map change rest) (change k) ≡ true) here (has-first (change head) (map change rest))
      | inr after ↦ has-after (change head) (map change rest) (change n) (has-map change rest n after)
    ]

-- a net that is there
pub has-some : (net : Option ℕ) (n : ℕ) → net ≡ Some n → has (option_to_list net) n ≡ true
has-some None n is = absurd cc
has-some (Some m) n is = let same : m ≡ n = cc in subst (λ k. has (m ∷ []) k ≡ true) same (has-first m [])

pub has-input : (ins : List (Option ℕ)) (k n : ℕ) → get_or ins k None ≡ Some n → has (flat_map option_to_list ins) n ≡ true
has-input [] k n is = absurd cc
has-input (net ∷ ins) zero n is = has-left (option_to_list net) (flat_map option_to_list ins) n (has-some net n is)
has-input (net ∷ ins) (suc k) n is = has-right (option_to_list net) (flat_map option_to_list ins) n (has-input ins k n is)

-- a net that an input of a table reads
pub has-source : (ins : List Signal) (k n : ℕ) → has (signal_nets (get_or ins k (net_or_0 None))) n ≡ true → has (flat_map signal_nets ins) n ≡ true
has-source [] k n is = absurd (has-none n is)
has-source (source ∷ ins) zero n is = has-left (signal_nets source) (flat_map signal_nets ins) n is
has-source (source ∷ ins) (suc k) n is = has-right (signal_nets source) (flat_map signal_nets ins) n (has-source ins k n is)

-- ---- inputs

module _ (connected bit other : ℕ → Bool) where
  input-same : (stated : Bool) (net : Option ℕ) → ((n : ℕ) → net ≡ Some n → bit n ≡ other n)
      → input_value connected bit stated net ≡ input_value connected other stated net
  input-same stated None same = refl
  input-same stated (Some n) same = rw (same n refl) refl

  signal-same : (state : State) (pins : List Bool) (source : Signal) → ((n : ℕ) → has (signal_nets source) n ≡ true → bit n ≡ other n)
      → signal_value connected state pins bit source ≡ signal_value connected state pins other source
  signal-same state pins (signal.Net net otherwise) same = input-same otherwise net (λ n is. same n (has-some net n is))
  signal-same state pins (signal.Input place) same = refl
  signal-same state pins (signal.Register place) same = refl

  table_input-same : (state : State) (pins : List Bool) (table : LutTable) (k : ℕ) → ((n : ℕ) → has (flat_map signal_nets table.ins) n ≡ true → bit n ≡ other n)
      → table_input connected state pins bit table k ≡ table_input connected state pins other table k
  table_input-same state pins table k same = signal-same state pins (get_or table.ins k (net_or_0 None)) (λ n is. same n (has-source table.ins k n is))

  lut_value-same : (state : State) (pins : List Bool) (table : LutTable) → ((n : ℕ) → has (flat_map signal_nets table.ins) n ≡ true → bit n ≡ other n)
      → lut_value connected state pins bit table ≡ lut_value connected state pins other table
  unfolding lut_value
  lut_value-same state pins table same =
      rw (
        table_input-same state pins table 0 same,
        table_input-same state pins table 1 same,
        table_input-same state pins table 2 same,
        table_input-same state pins table 3 same,
      ) refl

  majority-same : (state : State) (pins : List Bool) (a b c : Option ℕ) → ((n : ℕ) → has (nets_read (majority_of a b c)) n ≡ true → bit n ≡ other n)
      → value_of connected state pins bit (majority_of a b c) ≡ value_of connected state pins other (majority_of a b c)
  unfolding value_of nets_read
  majority-same state pins a b c same =
      let first = option_to_list a in
      let second = option_to_list b in
      let third = option_to_list c in
      let of_a = input-same false a (λ n is. same n (has-left first (second ++ third) n (has-some a n is))) in
      let of_b = input-same false b (λ n is. same n (has-right first (second ++ third) n (has-left second third n (has-some b n is)))) in
      let of_c = input-same false c (λ n is. same n (has-right first (second ++ third) n (has-right second third n (has-some c n is)))) in
      rw (of_a, of_b, of_c) refl

  -- a register reads its set or reset if that is asynchronous, and else no net
  settled_bit-same : (place : ℕ) (register : Register) (old : Bool) → ((n : ℕ) → has (nets_read (register_bit place register)) n ≡ true → bit n ≡ other n)
      → settled_bit connected bit register old ≡ settled_bit connected other register old
  unfolding settled_bit nets_read
  settled_bit-same place register old same =
      elim (cases_Bool register.is_async) [
        | inl is_async ↦ rw (is_async, input-same false register.sr (λ n is. same n (rw is_async (has-some register.sr n is)))) refl
        | inr waits ↦ rw waits refl
      ]

  -- a driver's value is the same if the nets that it reads have the same values
  pub value-same : (state : State) (pins : List Bool) (rule : Rule) → ((n : ℕ) → has (nets_read rule) n ≡ true → bit n ≡ other n)
      → value_of connected state pins bit rule ≡ value_of connected state pins other rule
  unfolding value_of nets_read
  value-same state pins (pin_bit place) same = refl
  value-same state pins (constant it) same = refl
  value-same state pins (input source) same = signal-same state pins source same
  value-same state pins (table_entry table) same = lut_value-same state pins table same
  value-same state pins (majority_of a b c) same = majority-same state pins a b c same
  value-same state pins (register_bit place register) same = settled_bit-same place register (get_or state.bits place false) same
  value-same state pins (read_bit ram place) same = refl
  value-same state pins (copied net) same = same net (has-first net [])
