-- The value of each driver, and the values of nets that are consistent with a state and the pins.
use Rattle.std.specs.Prelude.{◌≡◌, ℕ, ◌+◌, ◌*◌, ◌<◌, Bool, true, false, ◌&&◌, ◌||◌, List, [], length, get_or, Contains, Option, Some, None, if◌then◌else◌}
use Rattle.bit_plane.specs.BitList.{bit_value}
use Rattle.fabric_model.specs.declared.signal.Signal.{Signal}
use Rattle.fabric_model.specs.declared.signal.Signal.TheVariants as signal
use Rattle.fabric_model.specs.declared.register.LutTable.{LutTable}
use Rattle.fabric_model.specs.declared.register.Register.{Register}
use Rattle.fabric_model.specs.Signals.{net_or_0}
use Rattle.fabric_model.specs.Luts.{entry_of}
use Rattle.fabric_model.specs.Joins.{class_of}
use Rattle.fabric_model.specs.Fabric.{Fabric}
use Rattle.fabric_model.specs.Drivers.{Rule, Drive, drives_of, is_driven}
use Rattle.fabric_model.specs.Drivers.Rule.{pin_bit, constant, input, table_entry, majority_of, register_bit, read_bit, copied}

-- A state: a bit for each register, and for each used RAM its read register of 16 bits and its 256 words, each with its
-- lowest bit first.
pub record State : Type 0 where
  pub bits : List Bool
  pub reads : List (List Bool)
  pub words : List (List (List Bool))

-- ---- inputs

-- An input is unconnected if it has no net, or a net whose class of joined nets has no driver. It then has a stated value.
abbrev pub input_value : (ℕ → Bool) → (ℕ → Bool) → Bool → Option ℕ → Bool
input_value connected bit stated None = stated
input_value connected bit stated (Some net) = if connected net then bit net else stated

-- an input that is 0 if it is unconnected, as all inputs are but clock enables and output enables
abbrev pub input_or_0 : (ℕ → Bool) → (ℕ → Bool) → Option ℕ → Bool
input_or_0 connected bit net = input_value connected bit false net

-- an input that is 1 if it is unconnected: a clock enable
abbrev pub input_or_1 : (ℕ → Bool) → (ℕ → Bool) → Option ℕ → Bool
input_or_1 connected bit net = input_value connected bit true net

-- the value of what an input reads: of a net, of an input port, or of a register
abbrev pub signal_value : (ℕ → Bool) → State → List Bool → (ℕ → Bool) → Signal → Bool
signal_value connected state pins bit (signal.Net net otherwise) = input_value connected bit otherwise net
signal_value connected state pins bit (signal.Input place) = get_or pins place false
signal_value connected state pins bit (signal.Register place) = get_or state.bits place false

-- input k of a table
abbrev pub table_input : (ℕ → Bool) → State → List Bool → (ℕ → Bool) → LutTable → ℕ → Bool
table_input connected state pins bit table k = signal_value connected state pins bit (get_or table.ins k (net_or_0 None))

-- ---- values of drivers

-- the number of the LUT's entry: in_0 is worth 1, in_1 2, in_2 4 and in_3 8
abbrev pub entry_number : (ℕ → Bool) → State → List Bool → (ℕ → Bool) → LutTable → ℕ
entry_number connected state pins bit table =
    bit_value (table_input connected state pins bit table 0) + 2 * bit_value (table_input connected state pins bit table 1)
    + 4 * bit_value (table_input connected state pins bit table 2) + 8 * bit_value (table_input connected state pins bit table 3)

-- the value of a LUT: the entry with that number (`SB_LUT4`)
unfoldable pub lut_value : (ℕ → Bool) → State → List Bool → (ℕ → Bool) → LutTable → Bool
lut_value connected state pins bit table = entry_of table.word (entry_number connected state pins bit table)

-- the majority of three bits: 1 if at least two of them are 1
abbrev pub majority : Bool → Bool → Bool → Bool
majority a b c = (a && b) || ((a && c) || (b && c))

-- The value to which a register settles: its set bit if it has an asynchronous set or reset that is 1, else the value that it has
-- (`SB_DFFER` and `SB_DFFES`).
unfoldable pub settled_bit : (ℕ → Bool) → (ℕ → Bool) → Register → Bool → Bool
settled_bit connected bit register old = if register.is_async && input_or_0 connected bit register.sr then register.«set» else old

-- The value of a driver, from the state, the bits of the input ports and the bits of nets.
unfoldable pub value_of : (ℕ → Bool) → State → List Bool → (ℕ → Bool) → Rule → Bool
value_of connected state pins bit (pin_bit place) = get_or pins place false
value_of connected state pins bit (constant it) = it
value_of connected state pins bit (input source) = signal_value connected state pins bit source
value_of connected state pins bit (table_entry table) = lut_value connected state pins bit table
value_of connected state pins bit (majority_of a b c) =
    majority (input_or_0 connected bit a) (input_or_0 connected bit b) (input_or_0 connected bit c)
value_of connected state pins bit (register_bit place register) = settled_bit connected bit register (get_or state.bits place false)
value_of connected state pins bit (read_bit ram place) = get_or (get_or state.reads ram []) place false
value_of connected state pins bit (copied net) = bit net

-- ---- values of nets

-- the bit of a net
abbrev pub bit_in : List Bool → ℕ → Bool
bit_in v net = get_or v net false

-- whether a net's class of joined nets has a driver
abbrev pub is_connected : Fabric → ℕ → Bool
is_connected fabric net = is_driven fabric (class_of fabric.joins net)

-- A list with one bit for each net is consistent with a state and the bits of the input ports if both ends of every routing have the same
-- bit, each net that is driven has its driver's value, and each net whose class of joined nets has no driver is 0.
pub record IsConsistent (fabric : Fabric) (state : State) (pins v : List Bool) : Type 0 where
  pub each_net : length v ≡ fabric.nets
  pub joined : (a b : ℕ) → Contains fabric.joins (a, b) → bit_in v a ≡ bit_in v b
  pub driven : (drive : Drive) → Contains (drives_of fabric) drive
      → bit_in v drive.net ≡ value_of (is_connected fabric) state pins (bit_in v) drive.rule
  pub not_driven : (net : ℕ) → net < fabric.nets → is_connected fabric net ≡ false → bit_in v net ≡ false
