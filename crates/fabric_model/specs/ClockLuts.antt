-- What a LUT (`SB_LUT4`) does to a clock that passes through it. Only entries that can occur count: an unconnected input has its stated value.
use Rattle.std.specs.Prelude.{ℕ, ◌/◌, ◌%◌, ◌^◌, Bool, true, false, not, ◌&&◌, ◌||◌, ◌==◌, get_or, if◌then◌else◌, Some, None}
use Rattle.std.specs.Bool.{beq}
use Rattle.index_search.specs.Places.{any_below}
use Rattle.fabric_model.specs.declared.signal.Signal.{Signal}
use Rattle.fabric_model.specs.declared.signal.Signal.TheVariants as signal
use Rattle.fabric_model.specs.declared.register.LutTable.{LutTable}
use Rattle.fabric_model.specs.Signals.{net_or_0}
use Rattle.fabric_model.specs.Luts.{entry_of}

-- a bit, or its inverse if it is turned
abbrev pub turned_bit : Bool → Bool → Bool
turned_bit true bit = not bit
turned_bit false bit = bit

-- ---- entries that can occur

-- whether an input can be 1: one that is 0 if it is unconnected can't, while it is
abbrev pub can_be_1 : (ℕ → Bool) → Signal → Bool
can_be_1 connected (signal.Net None otherwise) = otherwise
can_be_1 connected (signal.Net (Some net) false) = connected net
can_be_1 connected (signal.Net (Some net) true) = true
can_be_1 connected (signal.Input place) = true
can_be_1 connected (signal.Register place) = true

-- the value of in_k at entry n: bit k of n
abbrev pub input_at : ℕ → ℕ → Bool
input_at k n = n / 2 ^ k % 2 == 1

-- whether in_k can have its value at entry n
abbrev pub is_input_open : (ℕ → Bool) → LutTable → ℕ → ℕ → Bool
is_input_open connected table k n = not (input_at k n) || can_be_1 connected (get_or table.ins k (net_or_0 None))

-- Whether entry n can occur: bit k of n is 0 for each in_k that can't be 1.
abbrev pub is_open : (ℕ → Bool) → LutTable → ℕ → Bool
is_open connected table n =
    is_input_open connected table 0 n
    && (is_input_open connected table 1 n && (is_input_open connected table 2 n && is_input_open connected table 3 n))

-- whether an entry can occur and hasn't the value
abbrev pub is_open_otherwise : (ℕ → Bool) → LutTable → (ℕ → Bool) → ℕ → Bool
is_open_otherwise connected table value n = is_open connected table n && not (beq (entry_of table.word n) (value n))

-- whether each entry that can occur has the value
unfoldable pub is_at_open : (ℕ → Bool) → LutTable → (ℕ → Bool) → Bool
is_at_open connected table value = not (any_below 16 (is_open_otherwise connected table value))

-- ---- what a LUT does

-- a LUT holds a bit, or follows a net, upright or turned (inverted), or does neither
pub data LutPass : Type 0 where
  holds : Bool → LutPass
  follows : (turned : Bool) (net : ℕ) → LutPass
  mixes : LutPass

-- whether a LUT holds a bit: each entry that can occur is that bit
abbrev pub is_held : (ℕ → Bool) → LutTable → Bool → Bool
is_held connected table bit = is_at_open connected table (λ n. bit)

-- whether a LUT follows in_k: each entry that can occur is the value of in_k, or the inverse of it
abbrev pub is_following : (ℕ → Bool) → LutTable → Bool → ℕ → Bool
is_following connected table turned k = is_at_open connected table (λ n. turned_bit turned (input_at k n))

-- What a LUT does if it follows in_k, which reads a connected net, and what it does if it doesn't. An unconnected in_k is 0 at all entries
-- that can occur, so a LUT that followed it would hold a bit.
abbrev pub pass_along : (ℕ → Bool) → LutTable → ℕ → LutPass → Signal → LutPass
pass_along connected table k otherwise (signal.Net (Some net) false) =
    if connected net && is_following connected table false k then follows false net
    else if connected net && is_following connected table true k then follows true net
    else otherwise
pass_along connected table k otherwise source = otherwise

abbrev pub pass_by : (ℕ → Bool) → LutTable → ℕ → LutPass → LutPass
pass_by connected table k otherwise = pass_along connected table k otherwise (get_or table.ins k (net_or_0 None))

-- What a LUT does. It can follow one input alone and in one way alone: if it follows in_k, then entries 0 and 2^k differ.
unfoldable pub pass_of : (ℕ → Bool) → LutTable → LutPass
pass_of connected table =
    if is_held connected table false then holds false
    else if is_held connected table true then holds true
    else pass_by connected table 0 (pass_by connected table 1 (pass_by connected table 2 (pass_by connected table 3 mixes)))
