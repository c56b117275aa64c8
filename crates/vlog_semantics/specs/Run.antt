-- The run of a module over a list of events: its state after the start, and after each event. The rules are those of IEEE Std 1364-2005
-- for the subset: 6.1 continuous assignments, 9.2.2 nonblocking assignments, 9.7 event control, clause 11 scheduling semantics. That
-- inputs and words without a start value are 0, and not x, is this project's choice; so is the order in which items on a register take effect
-- after an event: in waves, each computed from settled values.
use Rattle.std.specs.Prelude.{ℕ, zero, suc, ◌-◌, ◌*◌, ◌/◌, ◌%◌, ◌^◌, Bool, true, false, not, ◌&&◌, ◌||◌, ◌==◌, List, [], ◌∷◌, ◌++◌, Option, Some, None, fold, map, flat_map, get_or, replicate, slice_set, unwrap_or, filter, is_some, length, bit_and, bit_or, if◌then◌else◌}
use Rattle.std.specs.List.{list_any}
use Rattle.std.specs.Option.{option_map}
use Rattle.vlog_module.specs.declared.item.Item.{Item}
use Rattle.vlog_module.specs.declared.item.Item.TheVariants.{Register, Word, Memory, Wire, Assign, FlipFlop, AsyncFlipFlop, AsyncReset, Read, ReadNarrow, Write, WriteNarrow, Start}
use Rattle.vlog_module.specs.declared.atoms.Atom.{Atom}
use Rattle.vlog_module.specs.declared.atoms.Atom.TheVariants.{Whole}
use Rattle.vlog_module.specs.declared.modules.Port.{Port}
use Rattle.vlog_module.specs.Maps.{value_in}
use Rattle.vlog_module.specs.Parts.{Parts}
use Rattle.vlog_semantics.specs.declared.event.Event.{Event}
use Rattle.vlog_semantics.specs.Entries.{Entry, put}
use Rattle.vlog_semantics.specs.Named.{names_of}
use Rattle.vlog_semantics.specs.Numbered.{numbered}
use Rattle.vlog_semantics.specs.Values.{Readable, atom_value, atoms_value, lut_value, right_value}

-- ---- names

-- an input, which is 0 at the start
abbrev pub input_start : Port → List (List ℕ × Bool)
input_start port = if port.output then [] else (port.name, false) ∷ []

-- an output that isn't assigned yet
abbrev pub output_start : Port → List (List ℕ × Bool)
output_start port = if port.output then (port.name, false) ∷ [] else []

-- the inputs, in the order of the ports
abbrev pub input_names : List Port → List (List ℕ)
input_names ports = names_of (flat_map input_start ports)

-- the index of a name among the inputs
abbrev pub pin_of : List Port → List ℕ → Option ℕ
pin_of ports name = value_in (numbered 0 (input_names ports)) name

-- ---- wires, registers and outputs, by the other values

-- a wire has the value of its right side, which reads no later wire: the order of the text is a topological order
abbrev pub wire_step : List (List ℕ × Bool) → List (List ℕ × ℕ) → List (List ℕ × Bool) → Item → List (List ℕ × Bool)
wire_step known words wires (Wire name right) =
    wires ++ (name, right_value (record { bits = known ++ wires; words = words }) right) ∷ []
wire_step known words wires _ = wires

-- whether an item is the asynchronous set or reset of a register
abbrev pub is_at_once : Item → Bool
is_at_once (AsyncFlipFlop falling clock reset set target enable lut) = true
is_at_once (AsyncReset reset set target) = true
is_at_once _ = false

-- asynchronous set or reset: the register becomes the bit `set` if the wire `reset` is 1
abbrev pub settle_step : Readable → List (List ℕ × Bool) → Item → List (List ℕ × Bool)
settle_step from registers (AsyncFlipFlop falling clock reset set target enable lut) =
    if atom_value from (Whole reset) then put registers target set else registers
settle_step from registers (AsyncReset reset set target) = if atom_value from (Whole reset) then put registers target set else registers
settle_step from registers _ = registers

-- an output has the value of its atom
abbrev pub output_step : Readable → List (List ℕ × Bool) → Item → List (List ℕ × Bool)
output_step from outputs (Assign name value) = put outputs name (atom_value from value)
output_step from outputs _ = outputs

-- the values that atoms read in an entry
abbrev pub readable : Entry → Readable
readable entry = record { bits = entry.inputs ++ entry.registers ++ entry.wires; words = entry.words }

-- the entry with these inputs, registers and memories, in three steps: first the wires in the order of the text, which read the registers
-- as they are given; then the asynchronous sets and resets of registers; then the outputs, which read the registers after that
unfoldable pub settled : Parts → List (List ℕ × Bool) → List (List ℕ × Bool) → List (List ℕ × ℕ) → List (List ℕ × List ℕ) → Entry
settled m inputs registers words memories =
    let wires = fold (wire_step (inputs ++ registers) words) [] m.items in
    let rested = fold (settle_step (record { bits = inputs ++ registers ++ wires; words = words })) registers m.items in
    record {
      inputs = inputs;
      registers = rested;
      words = words;
      memories = memories;
      wires = wires;
      outputs = fold (output_step (record { bits = inputs ++ rested ++ wires; words = words }))
          (flat_map output_start m.ports) m.items;
    }

-- ---- the start

abbrev pub register_start : Item → List (List ℕ × Bool)
register_start (Register name start) = (name, start) ∷ []
register_start _ = []

abbrev pub word_start : Item → List (List ℕ × ℕ)
word_start (Word name start) = (name, start) ∷ []
word_start _ = []

-- a memory has 256 words, each 0
abbrev pub memory_start : Item → List (List ℕ × List ℕ)
memory_start (Memory name) = (name, replicate 256 0) ∷ []
memory_start _ = []

-- the words of a memory; none if there is no such memory
abbrev pub words_of : List (List ℕ × List ℕ) → List ℕ → List ℕ
words_of memories name = unwrap_or (value_in memories name) []

-- a word of a memory is set
abbrev pub put_word : List (List ℕ × List ℕ) → List ℕ → ℕ → ℕ → List (List ℕ × List ℕ)
put_word memories name address word = put memories name (slice_set (words_of memories name) address word)

-- a word of a memory gets its start value
abbrev pub start_step : List (List ℕ × List ℕ) → Item → List (List ℕ × List ℕ)
start_step memories (Start memory k word) = put_word memories memory k word
start_step memories _ = memories

-- the start: inputs, and words without a start value, are 0
unfoldable pub start : Parts → Entry
start m =
    settled m (flat_map input_start m.ports) (flat_map register_start m.items)
    (flat_map word_start m.items) (fold start_step (flat_map memory_start m.items) m.items)

-- ---- an event

-- whether a name is the input with this index
abbrev pub is_pin : ℕ → Option ℕ → Bool
is_pin pin (Some place) = place == pin
is_pin pin None = false

-- whether an input that changes to this bit has the edge: `negedge` is 1 to 0, `posedge` is 0 to 1 (IEEE Std 1364-2005, 9.7)
abbrev pub is_edge : Bool → Bool → Bool
is_edge falling bit = if falling then not bit else bit

-- Which clocked items have their edge: given whether it is `negedge`, and the clock of an item, whether the item has it.
abbrev pub Edges : Type 0
Edges = Bool → List ℕ → Bool

-- the edges of an event: those of the items whose clock is the input that changes
abbrev pub edges_by : Parts → Event → Edges
edges_by m event falling clock = is_pin event.pin (pin_of m.ports clock) && is_edge falling event.bit

-- whether a bit has an edge between two moments
abbrev pub has_edge : Bool → Bool → Bool → Bool
has_edge falling before after = if falling then before && not after else not before && after

-- the bit of a register in an entry; 0 if no register has the name
abbrev pub register_bit : Entry → List ℕ → Bool
register_bit entry name = unwrap_or (value_in entry.registers name) false

-- the edges between two entries: those of the items whose clock is a register. The name of an input gives 0 in both, so it has none.
abbrev pub edges_between : Entry → Entry → Edges
edges_between before after falling clock = has_edge falling (register_bit before clock) (register_bit after clock)

-- a word that is written under a mask, where a bit that is 1 keeps the old bit: `(word & mask) | (bits & ~mask)`, as `SB_RAM40_4K` has it
abbrev pub masked : ℕ → ℕ → ℕ → ℕ
masked word mask bits = bit_or (bit_and word mask) (bit_and bits (65535 - mask))

-- a word that is shifted down and masked by a pattern: `(word >> shift) & pattern`
abbrev pub moved_down : ℕ → ℕ → ℕ → ℕ
moved_down word shift pattern = bit_and (word / 2 ^ shift) pattern

-- a pattern that is shifted up and cut to 16 bits: `pattern << shift` (IEEE Std 1364-2005, 5.4 expression bit lengths)
abbrev pub moved_up : ℕ → ℕ → ℕ
moved_up pattern shift = pattern * 2 ^ shift % 65536

-- What clocked items assign at their edges is computed from the entry before, and takes effect all together (IEEE Std 1364-2005, 9.2.2
-- nonblocking assignments).

-- the register of one bit that an item assigns, and its next value
abbrev pub next_bit : Edges → Entry → Item → Option (List ℕ × Bool)
next_bit edges before (FlipFlop falling clock enable reset set target lut) =
    if edges falling clock && atom_value (readable before) enable
    then Some (target, if atom_value (readable before) reset then set else lut_value (readable before) lut)
    else None
next_bit edges before (AsyncFlipFlop falling clock reset set target enable lut) =
    if edges falling clock && (atom_value (readable before) (Whole reset) || atom_value (readable before) enable)
    then Some (target, if atom_value (readable before) (Whole reset) then set else lut_value (readable before) lut)
    else None
next_bit edges before _ = None

-- whether a memory's port has its edge, and both enables of the port are 1
abbrev pub is_enabled : Edges → Entry → Bool → List ℕ → Atom → Atom → Bool
is_enabled edges before falling clock clock_enable enable =
    edges falling clock && atom_value (readable before) clock_enable && atom_value (readable before) enable

-- a register, and what it gets from the word at an address of a memory; none if there is no such memory
abbrev pub taken_from : Entry → List ℕ → List ℕ → List Atom → (ℕ → ℕ) → Option (List ℕ × ℕ)
taken_from before target memory address taken =
    option_map (λ words. (target, taken (get_or words (atoms_value (readable before) address) 0))) (value_in before.memories memory)

-- the register of 16 bits that an item assigns, and its next value
abbrev pub next_word : Edges → Entry → Item → Option (List ℕ × ℕ)
next_word edges before (Read falling clock clock_enable enable target memory address) =
    if is_enabled edges before falling clock clock_enable enable then taken_from before target memory address (λ word. word) else None
next_word edges before (ReadNarrow falling clock clock_enable enable target memory address shift pattern) =
    if is_enabled edges before falling clock clock_enable enable
    then taken_from before target memory address (λ word. moved_down word (atoms_value (readable before) shift) pattern)
    else None
next_word edges before _ = None

-- a word that is written to a memory
pub record Put : Type 0 where
  pub memory : List ℕ
  pub address : ℕ
  pub word : ℕ

-- data that is written to the word at an address of a memory; the bits of the word under the mask stay
abbrev pub put_at : Entry → List ℕ → List Atom → ℕ → List Atom → Put
put_at before memory address mask bits =
    let at = atoms_value (readable before) address in
    record {
      memory = memory;
      address = at;
      word = masked (get_or (words_of before.memories memory) at 0) mask (atoms_value (readable before) bits);
    }

-- the word that an item writes to a memory
abbrev pub next_put : Edges → Entry → Item → Option Put
next_put edges before (Write falling clock clock_enable enable memory address mask bits) =
    if is_enabled edges before falling clock clock_enable enable
    then Some (put_at before memory address (atoms_value (readable before) mask) bits)
    else None
next_put edges before (WriteNarrow falling clock clock_enable enable memory address pattern shift bits) =
    if is_enabled edges before falling clock clock_enable enable
    then Some (put_at before memory address (65535 - moved_up pattern (atoms_value (readable before) shift)) bits)
    else None
next_put edges before _ = None

-- a name gets the value that is assigned, if any is
abbrev pub put_given : {A : Type 0} → List (List ℕ × A) → Option (List ℕ × A) → List (List ℕ × A)
put_given entries (Some given) = put entries given.0 given.1
put_given entries None = entries

abbrev pub put_given_word : List (List ℕ × List ℕ) → Option Put → List (List ℕ × List ℕ)
put_given_word memories (Some given) = put_word memories given.memory given.address given.word
put_given_word memories None = memories

abbrev pub register_step : Edges → Entry → List (List ℕ × Bool) → Item → List (List ℕ × Bool)
register_step edges before registers item = put_given registers (next_bit edges before item)

abbrev pub word_step : Edges → Entry → List (List ℕ × ℕ) → Item → List (List ℕ × ℕ)
word_step edges before words item = put_given words (next_word edges before item)

abbrev pub memory_step : Edges → Entry → List (List ℕ × List ℕ) → Item → List (List ℕ × List ℕ)
memory_step edges before memories item = put_given_word memories (next_put edges before item)

-- an input gets a bit
abbrev pub with_input : List (List ℕ × Bool) → ℕ → Bool → List (List ℕ × Bool)
with_input [] pin bit = []
with_input (input ∷ inputs) zero bit = (input.0, bit) ∷ inputs
with_input (input ∷ inputs) (suc pin) bit = input ∷ with_input inputs pin bit

-- the entry with these inputs in which all items with an edge have taken effect
unfoldable pub acted : Parts → Edges → List (List ℕ × Bool) → Entry → Entry
acted m edges inputs before =
    settled m inputs (fold (register_step edges before) before.registers m.items) (fold (word_step edges before) before.words m.items)
    (fold (memory_step edges before) before.memories m.items)

-- ---- waves

-- Registers that change may be the clocks of other items. Those have their edges after the event, from one entry to the next: a wave. Each
-- wave may be followed by another one, at most as many as there are items whose clock is a register.

-- the clock of an item, and whether its edge is `negedge`
abbrev pub clock_of : Item → Option (Bool × List ℕ)
clock_of (FlipFlop falling clock enable reset set target lut) = Some (falling, clock)
clock_of (AsyncFlipFlop falling clock reset set target enable lut) = Some (falling, clock)
clock_of (Read falling clock clock_enable enable target memory address) = Some (falling, clock)
clock_of (ReadNarrow falling clock clock_enable enable target memory address shift pattern) = Some (falling, clock)
clock_of (Write falling clock clock_enable enable memory address mask bits) = Some (falling, clock)
clock_of (WriteNarrow falling clock clock_enable enable memory address pattern shift bits) = Some (falling, clock)
clock_of _ = None

-- whether a clock has its edge; an item without a clock has none
abbrev pub is_at_edge : Edges → Option (Bool × List ℕ) → Bool
is_at_edge edges (Some clock) = edges clock.0 clock.1
is_at_edge edges None = false

-- whether an item has its edge
abbrev pub has_its_edge : Edges → Item → Bool
has_its_edge edges item = is_at_edge edges (clock_of item)

-- whether a clock is a register
abbrev pub is_register_of : Parts → Option (Bool × List ℕ) → Bool
is_register_of m (Some clock) = is_some (value_in (flat_map register_start m.items) clock.1)
is_register_of m None = false

-- whether the clock of an item is a register
abbrev pub is_on_register : Parts → Item → Bool
is_on_register m item = is_register_of m (clock_of item)

-- how many waves an event has at most
abbrev pub wave_bound : Parts → ℕ
wave_bound m = length (filter (is_on_register m) m.items)

-- The last entry of an event, from two entries that follow each other, after at most this many waves: if an item whose clock is a register
-- has its edge between the two, all such items take effect, computed from the second one, and so on.
unfoldable pub waved : Parts → ℕ → Entry → Entry → Entry
waved m zero before after = after
waved m (suc more) before after =
    let edges = edges_between before after in
    if list_any (has_its_edge edges) m.items then waved m more after (acted m edges after.inputs after) else after

-- ---- an event as a whole

-- the entry after an event that changes its input: the items on the input take effect, computed from the entry before; then come the waves
unfoldable pub changed : Parts → Entry → Event → Entry
changed m before event =
    waved m (wave_bound m) before (acted m (edges_by m event) (with_input before.inputs event.pin event.bit) before)

abbrev pub is_same_bit : Bool → Bool → Bool
is_same_bit true bit = bit
is_same_bit false bit = not bit

-- the bit of the input with this index
abbrev pub input_bit : Entry → ℕ → Bool
input_bit entry pin = get_or (map (λ input. input.1) entry.inputs) pin false

-- the entry after an event; if the input has the bit already, nothing changes
unfoldable pub followed : Parts → Entry → Event → Entry
followed m before event = if is_same_bit event.bit (input_bit before event.pin) then before else changed m before event

-- ---- a run

-- an entry, and the entry after each event
unfoldable pub run_from : Parts → Entry → List Event → List Entry
run_from m entry [] = entry ∷ []
run_from m entry (event ∷ events) = entry ∷ run_from m (followed m entry event) events

-- the entry after the start, and after each event
unfoldable pub module_run : Parts → List Event → List Entry
module_run m events = run_from m (start m) events

-- the last of some entries, or this entry if there are none
unfoldable pub last_of : Entry → List Entry → Entry
last_of entry [] = entry
last_of entry (next ∷ entries) = last_of next entries
