-- A RAM (`SB_RAM40_4K`) in a narrow mode works as a memory of narrow words, in each step of each run of a fabric.
use Rattle.std.specs.Prelude.{◌≡◌, ℕ, ◌+◌, ◌*◌, ◌/◌, ◌<◌, Bool, true, false, ◌&&◌, ◌==◌, List, [], ◌∷◌, take, get_or, length, All, Option, None, if◌then◌else◌}
use Rattle.ice_image.specs.Configuration.{Configuration}
use Rattle.chipdb_reader.specs.Database.{Database}
use Rattle.narrow_words.specs.Narrow.{share, narrow_bit}
use Rattle.fabric_model.specs.declared.ram.RamCell.{RamCell}
use Rattle.fabric_model.specs.declared.options.FabricOptions.{FabricOptions}
use Rattle.fabric_model.specs.Fabric.{Fabric, fabric_with, numbered}
use Rattle.fabric_model.specs.Values.{State, input_or_0, input_or_1, bit_in, is_connected}
use Rattle.fabric_model.specs.Steps.{Edges, event_edges, wave_edges, Event, Entry, EndsAt, FollowEach, IsRun, address_of, bit_of_word, word_at}
use Rattle.fabric_model.specs.Steps.EndsAt.{bound, rests, goes_on}

-- ---- narrow words

-- bit d of the narrow word at an address in a RAM's words
abbrev pub narrow_in : ℕ → List (List Bool) → ℕ → ℕ → Bool
narrow_in mode words address d = narrow_bit mode (λ a. bit_of_word (word_at words a)) address d

-- the address that a port has in a mode: the number of its first 8 + mode address bits
abbrev pub narrow_address : (ℕ → Bool) → (ℕ → Bool) → ℕ → List (Option ℕ) → ℕ
narrow_address connected bit mode ports = address_of connected bit (take (8 + mode) ports)

-- the port bit that has bit d of a narrow word, in modes 1, 2 and 3
abbrev pub port_place : ℕ → ℕ → ℕ
port_place mode d = if mode == 1 then 2 * d else if mode == 2 then 4 * d + 1 else 8 * d + 3

-- bit d of the narrow word that a port writes
abbrev pub given_bit : (ℕ → Bool) → (ℕ → Bool) → RamCell → ℕ → Bool
given_bit connected bit ram d = input_or_0 connected bit (get_or ram.wdata (port_place ram.write d) None)

-- ---- states

-- 256 words of 16 bits
abbrev pub AreWords : List (List Bool) → Type 0
AreWords words = (length words ≡ 256) × All (λ word. length word ≡ 16) words

-- each used RAM has 256 words of 16 bits
pub record HasWords (fabric : Fabric) (state : State) : Type 0 where
  pub each : All AreWords state.words
  pub count : length state.words ≡ length fabric.rams

-- the words and the read register of the used RAM with an index
abbrev pub words_in : State → ℕ → List (List Bool)
words_in state place = get_or state.words place []

abbrev pub read_in : State → ℕ → List Bool
read_in state place = get_or state.reads place []

-- ---- what a step of an event does to a RAM, from the entry before the step to the one after it, by which users of clocks have an edge

-- whether a RAM is written: it has a write edge with both enables
abbrev pub is_written : Fabric → Edges → Entry → RamCell → Bool
is_written fabric edges before ram =
    let connected = is_connected fabric in
    let bit = bit_in before.v in
    edges ram.wneg ram.wclk && (input_or_1 connected bit ram.wclke && input_or_0 connected bit ram.we)

-- whether a RAM is read: it has a read edge with both enables
abbrev pub is_read : Fabric → Edges → Entry → RamCell → Bool
is_read fabric edges before ram =
    let connected = is_connected fabric in
    let bit = bit_in before.v in
    edges ram.rneg ram.rclk && (input_or_1 connected bit ram.rclke && input_or_0 connected bit ram.re)

-- In a RAM that is written in a narrow mode, the narrow word at the write address becomes the write data, and every other narrow word stays as
-- it is.
abbrev pub WritesNarrow : Fabric → Edges → Entry → Entry → ℕ × RamCell → Type 0
WritesNarrow fabric edges before after place =
    let connected = is_connected fabric in
    let bit = bit_in before.v in
    let ram = place.1 in
    0 < ram.write → is_written fabric edges before ram ≡ true
    → (address d : ℕ) → address < 256 * share ram.write → d < 16 / share ram.write
    → narrow_in ram.write (words_in after.state place.0) address d
    ≡ (if address == narrow_address connected bit ram.write ram.waddr then given_bit connected bit ram d
    else narrow_in ram.write (words_in before.state place.0) address d)

-- In a RAM that is read in a narrow mode, bit `share * d` of the read register becomes bit d of the narrow word at the read address, as it was
-- before the step.
abbrev pub ReadsNarrow : Fabric → Edges → Entry → Entry → ℕ × RamCell → Type 0
ReadsNarrow fabric edges before after place =
    let connected = is_connected fabric in
    let bit = bit_in before.v in
    let ram = place.1 in
    0 < ram.read → is_read fabric edges before ram ≡ true
    → (d : ℕ) → d < 16 / share ram.read
    → get_or (read_in after.state place.0) (share ram.read * d) false
    ≡ narrow_in ram.read (words_in before.state place.0) (narrow_address connected bit ram.read ram.raddr) d

pub record IsNarrowMemory (fabric : Fabric) (edges : Edges) (before after : Entry) (place : ℕ × RamCell) : Type 0 where
  pub writes : WritesNarrow fabric edges before after place
  pub reads : ReadsNarrow fabric edges before after place
  pub keeps_words : is_written fabric edges before place.1 ≡ false → words_in after.state place.0 ≡ words_in before.state place.0
  pub keeps_read : is_read fabric edges before place.1 ≡ false → read_in after.state place.0 ≡ read_in before.state place.0

-- ---- the steps of runs: the first step of each event, and its waves

-- what holds of a step, by its edges and the entries before and after it
abbrev pub OfStep : Type 1
OfStep = Edges → Entry → Entry → Type 0

abbrev pub EachWave : {fabric : Fabric} → OfStep → {most : ℕ} {earlier before prior last : Entry} → EndsAt fabric most earlier before prior last → Type 0
EachWave Holds bound = Unit {0}
EachWave Holds (rests still) = Unit {0}
EachWave {fabric} Holds {earlier = earlier} {before = before} (goes_on next comes wave more) =
    Holds (wave_edges fabric (bit_in earlier.v) (bit_in before.v)) before next × EachWave Holds more

abbrev pub EachStep : (fabric : Fabric) → OfStep → (entry : Entry) (events : List Event) (entries : List Entry) → FollowEach fabric entry events entries → Type 0
EachStep fabric Holds entry (event ∷ events) (next ∷ entries) follow =
    Holds (event_edges fabric (bit_in entry.v) (bit_in follow.0.first.v)) entry follow.0.first × EachWave Holds follow.0.waves
    × EachStep fabric Holds next events entries follow.1
EachStep fabric Holds entry events entries follow = Unit {0}

-- In each run of the fabric of a database and an image, with any options, each used RAM has 256 words of 16 bits at the start and after each
-- step of each event, and in each step it works as a memory of narrow words at each port in a narrow mode.
abbrev pub RamsAreMemories : FabricOptions → Database → Configuration → Type 0
RamsAreMemories options db image =
    let fabric = fabric_with options db image in
    (events : List Event) (first : Entry) (entries : List Entry) (run : IsRun fabric events (first ∷ entries))
    → HasWords fabric first.state
    × EachStep fabric (λ edges before after. HasWords fabric after.state × All (IsNarrowMemory fabric edges before after) (numbered fabric.rams))
    first events entries run.1
