-- Values of drivers are kept where no clock of what they are computed from has an edge.
use Rattle.std.proofs.Common.{◌≡◌, ℕ, zero, suc, Bool, true, false, List, [], ◌∷◌, get_or, refl, sym, ap, ◌∙◌, subst, arith, inl, inr}
use Rattle.std.specs.Prelude.{All, Contains, flat_map, map, option_to_list, Option, Some, None}
use Rattle.std.proofs.lemmas.List.Elements.{All-head, All-tail, Contains-append_left, Contains-append_right}
use Rattle.fabric_model.specs.declared.signal.Signal.{Signal}
use Rattle.fabric_model.specs.declared.signal.Signal.TheVariants as signal
use Rattle.fabric_model.specs.declared.register.LutTable.{LutTable}
use Rattle.fabric_model.specs.declared.register.Register.{Register}
use Rattle.fabric_model.specs.declared.ram.RamCell.{RamCell}
use Rattle.fabric_model.specs.Signals.{net_or_0}
use Rattle.fabric_model.specs.Fabric.{Fabric, numbered}
use Rattle.fabric_model.specs.Drivers.{Rule}
use Rattle.fabric_model.specs.Drivers.Rule.{pin_bit, constant, input, table_entry, majority_of, register_bit, read_bit, copied}
use Rattle.fabric_model.specs.Values.{State, signal_value, table_input, lut_value, settled_bit, value_of, is_connected}
use Rattle.fabric_model.specs.Steps.{Edges, bit_after, read_after, state_after, clocked_users}
use Rattle.graph_order.specs.Wiring.{has}
use Rattle.fabric_model.specs.Wiring.{register_clock, read_clock, signal_clocks, clocks_of_value}
use Rattle.graph_order.proofs.OneOrder.{has-none, has-cases}
use Rattle.fabric_model.proofs.Contained.{contains-map, contains-flat_map}
use Rattle.fabric_model.proofs.Facts.{has-left, has-right, has-either, has-some}
use Rattle.fabric_model.proofs.Signals.{IsSignalThere, signal-there, item-at}
use Rattle.fabric_model.proofs.Settling.{numbered-read, numbered-slice, numbered-item, HasRegister}

-- no user has an edge whose clock net, if it has one, is among some
abbrev pub IsQuiet : Edges → List ℕ → Type 0
IsQuiet edges nets = (inverted : Bool) (clock : Option ℕ) → ((net : ℕ) → clock ≡ Some net → has nets net ≡ true) → edges inverted clock ≡ false

module _ (fabric : Fabric) where
  -- the clock of what an input of a table reads is among those of the table
  clock-source : (ins : List Signal) (k net : ℕ) → has (signal_clocks fabric (get_or ins k (net_or_0 None))) net ≡ true → has (flat_map (signal_clocks fabric) ins) net ≡ true
  clock-source [] k net found = absurd (has-none net found)
  clock-source (source ∷ ins) zero net found = has-left (signal_clocks fabric source) (flat_map (signal_clocks fabric) ins) net found
  clock-source (source ∷ ins) (suc k) net found = has-right (signal_clocks fabric source) (flat_map (signal_clocks fabric) ins) net (clock-source ins k net found)

  -- ---- what is kept

  module _ (edges : Edges) (given : List Bool) (state : State) (nets : ℕ → Bool) where
    abbrev next : State
    next = state_after fabric given state nets edges

    register-kept : (place : ℕ) (register : Register) → Contains (numbered fabric.registers) (place, register) → edges register.neg register.clk ≡ false
        → get_or next.bits place false ≡ get_or state.bits place false
    unfolding state_after
    register-kept place register there still =
        numbered-read (bit_after (is_connected fabric) given nets edges state) false fabric.registers (place, register) there ∙ (rw still refl)

    read-kept : (place : ℕ) (ram : RamCell) → Contains (numbered fabric.rams) (place, ram) → edges ram.rneg ram.rclk ≡ false
        → get_or next.reads place [] ≡ get_or state.reads place []
    unfolding state_after
    read-kept place ram there still =
        numbered-read (read_after (is_connected fabric) nets edges state) [] fabric.rams (place, ram) there ∙ (rw still refl)

    module _ (pins : List Bool) (bit : ℕ → Bool) where
      signal-kept : (source : Signal) → IsSignalThere fabric source → IsQuiet edges (signal_clocks fabric source)
          → signal_value (is_connected fabric) next pins bit source ≡ signal_value (is_connected fabric) state pins bit source
      signal-kept (signal.Net net otherwise) there quiet = refl
      signal-kept (signal.Input place) there quiet = refl
      signal-kept (signal.Register place) there quiet =
          let at = item-at fabric.registers place there.0 in
          let stands = numbered-slice fabric.registers (place, at.0) at.1.numbered in
          register-kept place at.0 at.1.numbered
          (quiet at.0.neg at.0.clk (λ net is. subst (λ o. has (register_clock o) net ≡ true) (sym stands) (has-some at.0.clk net is)))

      input-kept : (table : LutTable) (k : ℕ) → All (IsSignalThere fabric) table.ins → IsQuiet edges (flat_map (signal_clocks fabric) table.ins)
          → table_input (is_connected fabric) next pins bit table k ≡ table_input (is_connected fabric) state pins bit table k
      input-kept table k there quiet =
          signal-kept (get_or table.ins k (net_or_0 None)) (signal-there fabric table.ins k there)
          (λ inverted clock among. quiet inverted clock (λ net is. clock-source table.ins k net (among net is)))

      -- the value of a driver
      pub value-kept : (rule : Rule) → HasRegister fabric rule → IsQuiet edges (clocks_of_value fabric rule)
          → value_of (is_connected fabric) next pins bit rule ≡ value_of (is_connected fabric) state pins bit rule
      unfolding value_of lut_value clocks_of_value
      value-kept (pin_bit place) there quiet = refl
      value-kept (constant it) there quiet = refl
      value-kept (input source) there quiet = signal-kept source there quiet
      value-kept (table_entry table) there quiet =
          rw (input-kept table 0 there quiet, input-kept table 1 there quiet, input-kept table 2 there quiet, input-kept table 3 there quiet) refl
      value-kept (majority_of a b c) there quiet = refl
      value-kept (register_bit place register) there quiet =
          ap (settled_bit (is_connected fabric) bit register) (register-kept place register there (quiet register.neg register.clk (λ net is. has-some register.clk net is)))
      value-kept (read_bit place b) there quiet =
          let stands = numbered-slice fabric.rams (place, there.0) there.1 in
          ap (λ word. get_or word b false)
          (read-kept place there.0 there.1
          (quiet there.0.rneg there.0.rclk (λ net is. subst (λ o. has (read_clock o) net ≡ true) (sym stands) (has-some there.0.rclk net is))))
      value-kept (copied net) there quiet = refl

  -- ---- clocks and their users

  -- a net that may be missing is the one that is listed
  some-listed : (net : Option ℕ) (n : ℕ) → has (option_to_list net) n ≡ true → net ≡ Some n
  some-listed None n found = absurd (has-none n found)
  some-listed (Some m) n found = elim (has-cases m [] n found) [ inl here ↦ ap (λ k. Some k) here | inr after ↦ absurd (has-none n after) ]

  -- a user that has a clock net
  abbrev HasUser : ℕ → Type 0
  HasUser net = (inverted : Bool) × Contains (clocked_users fabric) (inverted, Some net)

  register-user : (register : Register) → Contains fabric.registers register → (net : ℕ) → has (option_to_list register.clk) net ≡ true → HasUser net
  register-user register there net found = (
    register.neg,
    subst (λ clock. Contains (clocked_users fabric) (register.neg, clock)) (some-listed register.clk net found)
        (Contains-append_left (map (λ (r : Register). (r.neg, r.clk)) fabric.registers) _ (register.neg, register.clk)
        (contains-map (λ (r : Register). (r.neg, r.clk)) fabric.registers register there)),
  )

  read-user : (ram : RamCell) → Contains fabric.rams ram → (net : ℕ) → has (option_to_list ram.rclk) net ≡ true → HasUser net
  read-user ram there net found = (
    ram.rneg,
    subst (λ clock. Contains (clocked_users fabric) (ram.rneg, clock)) (some-listed ram.rclk net found)
        (Contains-append_right (map (λ (r : Register). (r.neg, r.clk)) fabric.registers) _ (ram.rneg, ram.rclk)
        (contains-flat_map (λ (r : RamCell). (r.rneg, r.rclk) ∷ (r.wneg, r.wclk) ∷ []) fabric.rams ram (ram.rneg, ram.rclk) there (0, omega arith, refl))),
  )

  signal-user : (source : Signal) → IsSignalThere fabric source → (net : ℕ) → has (signal_clocks fabric source) net ≡ true → HasUser net
  signal-user (signal.Net of otherwise) there net found = absurd (has-none net found)
  signal-user (signal.Input place) there net found = absurd (has-none net found)
  signal-user (signal.Register place) there net found =
      let at = item-at fabric.registers place there.0 in
      register-user at.0 at.1.there net
      (subst (λ o. has (register_clock o) net ≡ true) (numbered-slice fabric.registers (place, at.0) at.1.numbered) found)

  sources-user : (ins : List Signal) → All (IsSignalThere fabric) ins → (net : ℕ) → has (flat_map (signal_clocks fabric) ins) net ≡ true → HasUser net
  sources-user [] there net found = absurd (has-none net found)
  sources-user (source ∷ ins) there net found =
      elim (has-either (signal_clocks fabric source) (flat_map (signal_clocks fabric) ins) net found) [
        | inl here ↦ signal-user source (All-head (IsSignalThere fabric) source ins there) net here
        | inr after ↦ sources-user ins (All-tail (IsSignalThere fabric) source ins there) net after
      ]

  -- the clock of what a value is computed from is that of a user
  pub clocks-used : (rule : Rule) → HasRegister fabric rule → (net : ℕ) → has (clocks_of_value fabric rule) net ≡ true → HasUser net
  unfolding clocks_of_value
  clocks-used (pin_bit place) there net found = absurd (has-none net found)
  clocks-used (constant it) there net found = absurd (has-none net found)
  clocks-used (input source) there net found = signal-user source there net found
  clocks-used (table_entry table) there net found = sources-user table.ins there net found
  clocks-used (majority_of a b c) there net found = absurd (has-none net found)
  clocks-used (register_bit place register) there net found =
      register-user register (numbered-item fabric.registers (place, register) there) net found
  clocks-used (read_bit place b) there net found =
      read-user there.0 (numbered-item fabric.rams (place, there.0) there.1) net
      (subst (λ o. has (read_clock o) net ≡ true) (numbered-slice fabric.rams (place, there.0) there.1) found)
  clocks-used (copied from) there net found = absurd (has-none net found)
