-- What an event changes in a step and in waves, how registers settle, and runs.
use Rattle.std.specs.Prelude.{◌≡◌, ℕ, zero, suc, Bool, true, false, not, ◌&&◌, List, [], ◌∷◌, ◌++◌, ◌==◌, length, map, flat_map, filter, take, drop, get_or, set, replicate, is_some, Option, Some, None, if◌then◌else◌}
use Rattle.std.specs.List.{list_any}
use Rattle.fabric_model.specs.Clocks.{clock_class}
use Rattle.bit_plane.specs.BitList.{word_of}
use Rattle.bit_plane.specs.Rows.{row_from}
use Rattle.fabric_model.specs.declared.register.Register.{Register}
use Rattle.fabric_model.specs.declared.ram.RamCell.{RamCell}
use Rattle.narrow_words.specs.Narrow.{put_bit, got_bit}
use Rattle.fabric_model.specs.Rams.{data_bit}
use Rattle.fabric_model.specs.Fabric.{Fabric, numbered, inputs_of}
use Rattle.fabric_model.specs.Outputs.{outputs_of}
use Rattle.fabric_model.specs.Values.{State, IsConsistent, input_or_0, input_or_1, signal_value, lut_value, settled_bit, bit_in, is_connected}

-- ---- edges

-- a clock has an edge if its net goes from 0 to 1, or from 1 to 0 if the clock is inverted; without a net it has none
abbrev pub has_edge : Bool → Option ℕ → (ℕ → Bool) → (ℕ → Bool) → Bool
has_edge inverted None before after = false
has_edge inverted (Some net) before after =
    if inverted then before net && not (after net) else not (before net) && after net

-- Which users of clocks have an edge: given whether its clock is inverted, and the net of its clock, whether a user has one.
abbrev pub Edges : Type 0
Edges = Bool → Option ℕ → Bool

-- whether a register is the clock of a net
abbrev pub is_on_register : Fabric → Option ℕ → Bool
is_on_register fabric net = is_some (clock_class fabric net)

-- The edges of an event: those of users whose clock is no register. In a fabric that is taken these are the users whose clock is an input
-- port, since a bit that is always the same has no edge.
abbrev pub event_edges : Fabric → (ℕ → Bool) → (ℕ → Bool) → Edges
event_edges fabric before after inverted net = not (is_on_register fabric net) && has_edge inverted net before after

-- The edges of a wave: those of users whose clock is a register.
abbrev pub wave_edges : Fabric → (ℕ → Bool) → (ℕ → Bool) → Edges
wave_edges fabric before after inverted net = is_on_register fabric net && has_edge inverted net before after

-- ---- registers

-- the next value of a register with a synchronous set or reset, at an edge: if its enable is 0 it stays; else if its reset is 1 it becomes
-- the set bit; else it becomes the LUT's value (`SB_DFFESR` and `SB_DFFESS`)
abbrev pub next_synchronous : Register → Bool → Bool → Bool → Bool → Bool
next_synchronous register enabled reset made old = if not enabled then old else if reset then register.«set» else made

-- the next value of a register with an asynchronous set or reset, at an edge: if its reset is 1 it becomes the set bit; else if its enable
-- is 0 it stays; else it becomes the LUT's value (`SB_DFFER` and `SB_DFFES`)
abbrev pub next_asynchronous : Register → Bool → Bool → Bool → Bool → Bool
next_asynchronous register enabled reset made old = if reset then register.«set» else if not enabled then old else made

-- The next value of a register at an edge.
unfoldable pub next_bit : (ℕ → Bool) → State → List Bool → (ℕ → Bool) → Register → Bool → Bool
next_bit connected state pins bit register old =
    let enabled = signal_value connected state pins bit register.enable in
    let reset = input_or_0 connected bit register.sr in
    let made = lut_value connected state pins bit register.table in
    if register.is_async then next_asynchronous register enabled reset made old else next_synchronous register enabled reset made old

-- ---- RAMs

-- the number that address ports form, the lowest first
abbrev pub address_of : (ℕ → Bool) → (ℕ → Bool) → List (Option ℕ) → ℕ
address_of connected bit ports = word_of (map (input_or_0 connected bit) ports)

-- the number of the word that a port addresses: its eight lowest address bits
abbrev pub word_address : (ℕ → Bool) → (ℕ → Bool) → List (Option ℕ) → ℕ
word_address connected bit ports = address_of connected bit (take 8 ports)

-- which narrow word of a word a port addresses: the number that its address bits after those eight form, one, two or three of them in
-- modes 1, 2 and 3
abbrev pub high_part : (ℕ → Bool) → (ℕ → Bool) → ℕ → List (Option ℕ) → ℕ
high_part connected bit mode ports = address_of connected bit (take mode (drop 8 ports))

-- a word; no bits past the last word
abbrev pub word_at : List (List Bool) → ℕ → List Bool
word_at words address = get_or words address []

-- a bit of a word; 0 past the last bit
abbrev pub bit_of_word : List Bool → ℕ → Bool
bit_of_word word b = get_or word b false

-- bit b of a word that is written whole: `WDATA_b` if `MASK_b` is 0, and as it was if `MASK_b` is 1
abbrev pub masked_bit : (ℕ → Bool) → (ℕ → Bool) → RamCell → List Bool → ℕ → Bool
masked_bit connected bit ram word b =
    if input_or_0 connected bit (get_or ram.mask b None) then bit_of_word word b
    else input_or_0 connected bit (get_or ram.wdata b None)

-- bit d of the narrow word that is written
abbrev pub written_data : (ℕ → Bool) → (ℕ → Bool) → RamCell → ℕ → Bool
written_data connected bit ram d = input_or_0 connected bit (get_or ram.wdata (data_bit ram.write d) None)

-- The next value of the word that is written in a RAM (`SB_RAM40_4K`). In mode 0 the mask says which bits stay. In another mode the high
-- part of the address says which narrow word of the word is replaced, and the mask isn't read.
unfoldable pub written : (ℕ → Bool) → (ℕ → Bool) → RamCell → List Bool → List Bool
written connected bit ram word =
    if ram.write == 0 then row_from 16 (masked_bit connected bit ram word)
    else row_from 16 (put_bit ram.write (bit_of_word word) (high_part connected bit ram.write ram.waddr) (written_data connected bit ram))

-- The next read register of a RAM that is read (`SB_RAM40_4K`), from the addressed word: in mode 0 that word; in another mode the narrow
-- word of it that the high part of the address selects, as `got_bit` places it.
unfoldable pub shown : (ℕ → Bool) → (ℕ → Bool) → RamCell → List Bool → List Bool
shown connected bit ram word =
    if ram.read == 0 then word
    else row_from 16 (got_bit ram.read (bit_of_word word) (high_part connected bit ram.read ram.raddr))

-- what the words of a RAM become at a write edge: nothing changes unless both enables are 1
unfoldable pub next_words : (ℕ → Bool) → (ℕ → Bool) → RamCell → List (List Bool) → List (List Bool)
next_words connected bit ram words =
    let address = word_address connected bit ram.waddr in
    if input_or_1 connected bit ram.wclke && input_or_0 connected bit ram.we
    then set words address (written connected bit ram (word_at words address))
    else words

-- what the read register becomes at a read edge: nothing changes unless both enables are 1
unfoldable pub next_register : (ℕ → Bool) → (ℕ → Bool) → RamCell → List (List Bool) → List Bool → List Bool
next_register connected bit ram words register =
    if input_or_1 connected bit ram.rclke && input_or_0 connected bit ram.re
    then shown connected bit ram (word_at words (word_address connected bit ram.raddr))
    else register

-- ---- the next state

-- A register with an edge takes its next value from the state, the pins and the bits of nets, one without an edge keeps its value.
abbrev pub bit_after : (ℕ → Bool) → List Bool → (ℕ → Bool) → Edges → State → ℕ × Register → Bool
bit_after connected pins bit edges state place =
    let old = get_or state.bits place.0 false in
    if edges place.1.neg place.1.clk then next_bit connected state pins bit place.1 old else old

abbrev pub words_after : (ℕ → Bool) → (ℕ → Bool) → Edges → State → ℕ × RamCell → List (List Bool)
words_after connected bit edges state place =
    let old = get_or state.words place.0 [] in
    if edges place.1.wneg place.1.wclk then next_words connected bit place.1 old else old

abbrev pub read_after : (ℕ → Bool) → (ℕ → Bool) → Edges → State → ℕ × RamCell → List Bool
read_after connected bit edges state place =
    let old = get_or state.reads place.0 [] in
    if edges place.1.rneg place.1.rclk
    then next_register connected bit place.1 (get_or state.words place.0 []) old
    else old

-- the next state, from the pins, the state and the bits of nets, and the edges: all users with an edge change at once
unfoldable pub state_after : Fabric → List Bool → State → (ℕ → Bool) → Edges → State
state_after fabric pins state bit edges =
    let connected = is_connected fabric in
    record {
      bits = map (bit_after connected pins bit edges state) (numbered fabric.registers);
      reads = map (read_after connected bit edges state) (numbered fabric.rams);
      words = map (words_after connected bit edges state) (numbered fabric.rams);
    }

-- ---- settling

-- the bits of registers, after those with an asynchronous set or reset have settled
abbrev pub settled_bits : Fabric → (ℕ → Bool) → List Bool → List Bool
settled_bits fabric bit bits = map (λ place. settled_bit (is_connected fabric) bit place.1 (get_or bits place.0 false)) (numbered fabric.registers)

-- How a state settles, from the bits of nets: each register whose asynchronous set or reset is 1 has its set bit, and all else stays.
unfoldable pub settled_state : Fabric → (ℕ → Bool) → State → State
settled_state fabric bit state = record { bits = settled_bits fabric bit state.bits; reads = state.reads; words = state.words }

-- ---- runs

-- an event: the input port with that index gets this bit
pub record Event : Type 0 where
  pub pin : ℕ
  pub bit : Bool

-- what holds between two events
pub record Entry : Type 0 where
  pub pins : List Bool
  pub state : State
  pub v : List Bool
  pub outputs : List Bool

-- the values of the outputs, from the state, the bits of the input ports and the bits of nets
unfoldable pub output_values : Fabric → State → List Bool → List Bool → List Bool
output_values fabric state pins v = map (λ output. signal_value (is_connected fabric) state pins (bit_in v) output.source) (outputs_of fabric)

pub record IsEntry (fabric : Fabric) (entry : Entry) : Type 0 where
  pub consistent : IsConsistent fabric entry.state entry.pins entry.v
  pub outputs : entry.outputs ≡ output_values fabric entry.state entry.pins entry.v

-- The first step of an event: its input port gets its bit, and users whose clock is no register take their next values at their edges, computed
-- from the entry before.
pub record IsFirstStep (fabric : Fabric) (before : Entry) (event : Event) (after : Entry) : Type 0 where
  pub entry : IsEntry fabric after
  pub pins : after.pins ≡ set before.pins event.pin event.bit
  pub state : after.state
      ≡ settled_state fabric (bit_in after.v)
      (state_after fabric before.pins before.state (bit_in before.v) (event_edges fabric (bit_in before.v) (bit_in after.v)))

-- A wave, from two entries to the one after it: users whose clock is a register take their next values at their edges between the two,
-- computed from the second one.
pub record IsWave (fabric : Fabric) (earlier before after : Entry) : Type 0 where
  pub entry : IsEntry fabric after
  pub pins : after.pins ≡ before.pins
  pub state : after.state
      ≡ settled_state fabric (bit_in after.v)
      (state_after fabric before.pins before.state (bit_in before.v) (wave_edges fabric (bit_in earlier.v) (bit_in before.v)))

-- the users of clocks, each by whether its clock is inverted and by the net of its clock
abbrev pub clocked_users : Fabric → List (Bool × Option ℕ)
clocked_users fabric =
    map (λ register. (register.neg, register.clk)) fabric.registers
    ++ flat_map (λ ram. (ram.rneg, ram.rclk) ∷ (ram.wneg, ram.wclk) ∷ []) fabric.rams

-- whether a wave comes after two entries: a user whose clock is a register has an edge between them
abbrev pub has_wave : Fabric → Entry → Entry → Bool
has_wave fabric earlier before = list_any (λ user. wave_edges fabric (bit_in earlier.v) (bit_in before.v) user.0 user.1) (clocked_users fabric)

-- how many waves an event has at most: one for each user whose clock is a register
abbrev pub wave_bound : Fabric → ℕ
wave_bound fabric = length (filter (λ user. is_on_register fabric user.1) (clocked_users fabric))

-- Waves come after two entries, at most this many, until none comes any more: from these two entries to the last two.
pub data EndsAt (fabric : Fabric) : ℕ → (earlier before : Entry) → (prior last : Entry) → Type 0 where
  bound : {earlier before : Entry} → EndsAt fabric zero earlier before earlier before
  rests : {more : ℕ} {earlier before : Entry} → has_wave fabric earlier before ≡ false → EndsAt fabric (suc more) earlier before earlier before
  goes_on : {more : ℕ} {earlier before prior last : Entry} (next : Entry) → has_wave fabric earlier before ≡ true
      → IsWave fabric earlier before next → EndsAt fabric more before next prior last → EndsAt fabric (suc more) earlier before prior last

-- an entry follows another by an event: the first step, and the waves after it
pub record Follows (fabric : Fabric) (before : Entry) (event : Event) (after : Entry) : Type 0 where
  pub first : Entry
  pub prior : Entry
  pub first_step : IsFirstStep fabric before event first
  pub waves : EndsAt fabric (wave_bound fabric) before first prior after

-- no wave is cut: none would come after the last one of an event
abbrev pub IsUncut : (fabric : Fabric) (before : Entry) (event : Event) (after : Entry) → Follows fabric before event after → Type 0
IsUncut fabric before event after follows = has_wave fabric follows.prior after ≡ false

-- the state at the start, before it settles: all registers and read registers are 0, and the words are those of the image
abbrev pub start_state : Fabric → State
start_state fabric = record {
  bits = replicate (length fabric.registers) false;
  reads = replicate (length fabric.rams) (replicate 16 false);
  words = fabric.start;
}

-- the first entry: all input ports are 0
pub record IsFirst (fabric : Fabric) (entry : Entry) : Type 0 where
  pub entry_is : IsEntry fabric entry
  pub pins : entry.pins ≡ replicate (length (inputs_of fabric)) false
  pub state : entry.state ≡ settled_state fabric (bit_in entry.v) (start_state fabric)

-- entries of which each follows the one before, the first one a given entry
abbrev pub FollowEach : Fabric → Entry → List Event → List Entry → Type 0
FollowEach fabric entry [] [] = Unit {0}
FollowEach fabric entry (event ∷ events) (next ∷ entries) = Follows fabric entry event next × FollowEach fabric next events entries
FollowEach fabric entry events entries = ⊥

-- a run: an entry at the start, and one after each event
abbrev pub IsRun : Fabric → List Event → List Entry → Type 0
IsRun fabric events [] = ⊥
IsRun fabric events (first ∷ entries) = IsFirst fabric first × FollowEach fabric first events entries
