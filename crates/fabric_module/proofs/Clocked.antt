-- What registers and RAM ports become in the module, before registers settle, is what they become in the fabric, if items and users have
-- their edges together.
use Rattle.std.proofs.Common.{◌≡◌, ℕ, zero, suc, ◌+◌, ◌-◌, ◌/◌, ◌≤◌, ◌<◌, Bool, true, false, List, [], length, map, take, drop, get_or, set, refl, sym, ap, ◌∙◌, subst, arith, inl, inr}
use Rattle.std.specs.Prelude.{Option, Some, None, not, nat_lt, ◌&&◌, ◌||◌, ◌==◌, unwrap_or, if◌then◌else◌}
use Rattle.std.specs.Option.{option_map}
use Rattle.std.proofs.lemmas.Bool.{cases_Bool}
use Rattle.std.proofs.lemmas.List.{length-map, map-set}
use Rattle.std.proofs.Math.ListN.{get_or-map}
use Rattle.shared_lemmas.proofs.Lists.{map-every}
use Rattle.shared_lemmas.proofs.Bytes.{bytes_eq-same}
use Rattle.bit_plane.specs.BitList.{word_of}
use Rattle.narrow_words.specs.Narrow.{share}
use Rattle.vlog_module.specs.declared.atoms.Atom.{Atom}
use Rattle.vlog_module.specs.declared.atoms.Atom.TheVariants.{Bit, Whole}
use Rattle.vlog_module.specs.declared.item.Item.{Item}
use Rattle.vlog_module.specs.declared.item.Item.TheVariants.{Register as RegisterItem, Word, Memory, Wire, Assign, FlipFlop, AsyncFlipFlop, AsyncReset, Read, ReadNarrow, Write, WriteNarrow, Start}
use Rattle.vlog_module.specs.Maps.{value_in}
use Rattle.vlog_semantics.specs.Entries.{Entry as ModuleEntry}
use Rattle.vlog_semantics.specs.Values.{number_of, atom_value, atoms_value, lut_value}
use Rattle.vlog_semantics.specs.Run.{Edges as ItemEdges}
use Rattle.vlog_semantics.specs.Run.{Put, readable, is_enabled, taken_from, put_at, put_given, put_given_word, masked, moved_down, moved_up}
use Rattle.vlog_semantics.specs.Run.{next_bit as next_of_flip, next_word, next_put}
use Rattle.fabric_model.specs.declared.register.Register.{Register}
use Rattle.fabric_model.specs.declared.ram.RamCell.{RamCell}
use Rattle.fabric_model.specs.Fabric.{Fabric}
use Rattle.fabric_model.specs.Drivers.{is_driven}
use Rattle.fabric_model.specs.Drivers.Rule.{table_entry}
use Rattle.fabric_model.specs.Values.{State, input_value, input_or_0, input_or_1, bit_in, is_connected, IsConsistent}
use Rattle.fabric_model.specs.Values.{lut_value as table_value, signal_value as fabric_signal}
use Rattle.fabric_model.specs.declared.register.LutTable.{LutTable}
use Rattle.fabric_model.specs.Rams.{data_bit}
use Rattle.fabric_model.specs.Steps.{Edges, next_bit, word_address, high_part, word_at, masked_bit, written_data, written, shown, next_words, next_register, bit_after, words_after, read_after}
use Rattle.fabric_model.specs.declared.signal.Signal.{Signal}
use Rattle.fabric_model.proofs.Signals.{IsSignalThere, HasSignals}
use Rattle.fabric_model.proofs.OneValue.{IsWithin, each_below-length, each_below-at}
use Rattle.fabric_module.specs.Names.{register_name, read_name, memory_name}
use Rattle.fabric_module.specs.Rights.{input_atom, right_of, atom_or_0, atom_or_1, signal_atom, port_atoms, lut_of, setting_wire, pattern_of, shift_atom, shift_atoms, data_atoms}
use Rattle.fabric_module.specs.Written.{clocked, clock_name, is_falling, items_by, read_item, write_item}
use Rattle.fabric_module.proofs.Lists.{map-map}
use Rattle.fabric_module.proofs.Bits.{number_of-word_of, masked-same}
use Rattle.fabric_module.proofs.Narrow.{moved_down-is, put-is, high_bit, high-number, high-small}
use Rattle.fabric_module.proofs.Sections.{is_in}
use Rattle.fabric_module.proofs.Computed.{Puts, IsFew, IsOwn, assigned_in, done, own-if, after-if, after-enabled}
use Rattle.fabric_module.proofs.Rights.{IsPlaceIn, Gives, atom-value, signal-value, table-written, setting}
use Rattle.fabric_module.proofs.Settled.{word-pick}
use Rattle.fabric_module.proofs.Beginning.{IsPorted}
use Rattle.fabric_module.proofs.Ticks.{clock_test}

-- ---- sections

pub bit-none : (edges : ItemEdges) (before : ModuleEntry) (item : Item) → is_in 7 item ≡ false → next_of_flip edges before item ≡ None
bit-none edges before (RegisterItem name start) away = refl
bit-none edges before (Word name start) away = refl
bit-none edges before (Memory name) away = refl
bit-none edges before (Wire name right) away = refl
bit-none edges before (Assign name value) away = refl
bit-none edges before (FlipFlop falling clock enable reset set target lut) away = absurd cc
bit-none edges before (AsyncFlipFlop falling clock reset set target enable lut) away = absurd cc
bit-none edges before (AsyncReset reset set target) away = absurd cc
bit-none edges before (Read falling clock clock_enable enable target memory address) away = refl
bit-none edges before (ReadNarrow falling clock clock_enable enable target memory address shift pattern) away = refl
bit-none edges before (Write falling clock clock_enable enable memory address mask bits) away = refl
bit-none edges before (WriteNarrow falling clock clock_enable enable memory address pattern shift bits) away = refl
bit-none edges before (Start memory k word) away = refl

pub word-none : (edges : ItemEdges) (before : ModuleEntry) (item : Item) → is_in 8 item ≡ false → next_word edges before item ≡ None
word-none edges before (RegisterItem name start) away = refl
word-none edges before (Word name start) away = refl
word-none edges before (Memory name) away = refl
word-none edges before (Wire name right) away = refl
word-none edges before (Assign name value) away = refl
word-none edges before (FlipFlop falling clock enable reset set target lut) away = refl
word-none edges before (AsyncFlipFlop falling clock reset set target enable lut) away = refl
word-none edges before (AsyncReset reset set target) away = refl
word-none edges before (Read falling clock clock_enable enable target memory address) away = absurd cc
word-none edges before (ReadNarrow falling clock clock_enable enable target memory address shift pattern) away = absurd cc
word-none edges before (Write falling clock clock_enable enable memory address mask bits) away = refl
word-none edges before (WriteNarrow falling clock clock_enable enable memory address pattern shift bits) away = refl
word-none edges before (Start memory k word) away = refl

pub put-none : (edges : ItemEdges) (before : ModuleEntry) (item : Item) → is_in 9 item ≡ false → next_put edges before item ≡ None
put-none edges before (RegisterItem name start) away = refl
put-none edges before (Word name start) away = refl
put-none edges before (Memory name) away = refl
put-none edges before (Wire name right) away = refl
put-none edges before (Assign name value) away = refl
put-none edges before (FlipFlop falling clock enable reset set target lut) away = refl
put-none edges before (AsyncFlipFlop falling clock reset set target enable lut) away = refl
put-none edges before (AsyncReset reset set target) away = refl
put-none edges before (Read falling clock clock_enable enable target memory address) away = refl
put-none edges before (ReadNarrow falling clock clock_enable enable target memory address shift pattern) away = refl
put-none edges before (Write falling clock clock_enable enable memory address mask bits) away = absurd cc
put-none edges before (WriteNarrow falling clock clock_enable enable memory address pattern shift bits) away = absurd cc
put-none edges before (Start memory k word) away = refl

-- ---- what is assigned

abbrev pub given_name : {A : Type 0} → List ℕ × A → List ℕ
given_name given = given.0

abbrev pub given_value : {A : Type 0} → List ℕ × A → A → A
given_value given old = given.1

-- a value takes the place of the old one
pub puts-given : {A : Type 0} → Puts {A = A} {P = List ℕ × A} put_given given_name given_value
puts-given = record {
  none = λ entries. refl;
  own = λ given old rest. rw (bytes_eq-same given.0 given.0 refl) refl;
  past = λ given entry rest away. rw away refl;
}

abbrev pub put_memory : Put → List ℕ
put_memory given = given.memory

abbrev pub put_value : Put → List ℕ → List ℕ
put_value given old = set old given.address given.word

-- a word is put in its place among the old ones
pub puts-word : Puts put_given_word put_memory put_value
puts-word = record {
  none = λ entries. refl;
  own = λ given old rest. rw (bytes_eq-same given.memory given.memory refl) refl;
  past = λ given entry rest away. rw away refl;
}

-- ---- items, one for each register, read port and write port at most

pub few-register : (fabric : Fabric) (register : Register) (wire clock : Option (List ℕ)) → IsFew (items_by fabric register wire clock)
few-register fabric register (Some wire) (Some clock) = tt
few-register fabric register (Some wire) None = tt
few-register fabric register None (Some clock) = tt
few-register fabric register None None = tt

pub few-clocked : (clock : Option (List ℕ)) (item : List ℕ → Item) → IsFew (clocked clock item)
few-clocked None item = tt
few-clocked (Some name) item = tt

own-taken : (label : List ℕ) (taken : List ℕ → ℕ) (found : Option (List ℕ)) → IsOwn given_name label (option_map (λ words. (label, taken words)) found)
own-taken label taken (Some words) = refl
own-taken label taken None = tt

module _ (fabric : Fabric) (before : ModuleEntry) (edges : ItemEdges) where
  -- when a register is assigned and what, by the wire that sets it at once and its clock
  abbrev flips_at : Register → Option (List ℕ) → Option (List ℕ) → Bool
  flips_at register (Some wire) clock =
      clock_test edges (is_falling fabric register.neg register.clk) clock && (atom_value (readable before) (Whole wire) || atom_value (readable before) (signal_atom fabric register.enable))
  flips_at register None clock = clock_test edges (is_falling fabric register.neg register.clk) clock && atom_value (readable before) (signal_atom fabric register.enable)

  abbrev flips_to : Register → Option (List ℕ) → Bool
  flips_to register (Some wire) = if atom_value (readable before) (Whole wire) then register.«set» else lut_value (readable before) (lut_of fabric register.table)
  flips_to register None =
      if atom_value (readable before) (atom_or_0 fabric register.sr) then register.«set» else lut_value (readable before) (lut_of fabric register.table)

  abbrev register_by : Register → Option (List ℕ) → Option (List ℕ) → Bool → Bool
  register_by register wire clock old = if flips_at register wire clock then flips_to register wire else old

  register-after : (register : Register) (wire clock : Option (List ℕ)) (old : Bool)
      → done given_value (assigned_in (next_of_flip edges before) (items_by fabric register wire clock)) old ≡ register_by register wire clock old
  register-after register (Some wire) (Some clock) old =
      after-if given_value (flips_at register (Some wire) (Some clock)) (register_name register, flips_to register (Some wire)) old
  register-after register (Some wire) None old = refl
  register-after register None (Some clock) old = after-if given_value (flips_at register None (Some clock)) (register_name register, flips_to register None) old
  register-after register None None old = refl

  pub own-register : (register : Register) (wire clock : Option (List ℕ)) → IsOwn given_name (register_name register) (assigned_in (next_of_flip edges before) (items_by fabric register wire clock))
  own-register register (Some wire) (Some clock) =
      own-if given_name (register_name register) (flips_at register (Some wire) (Some clock)) (Some (register_name register, flips_to register (Some wire))) refl
  own-register register (Some wire) None = tt
  own-register register None (Some clock) =
      own-if given_name (register_name register) (flips_at register None (Some clock)) (Some (register_name register, flips_to register None)) refl
  own-register register None None = tt

  -- what a read port takes of a word
  abbrev taken_by : RamCell → ℕ → ℕ
  taken_by ram word =
      if ram.read == 0 then word else moved_down word (atoms_value (readable before) (shift_atoms fabric ram.read ram.raddr)) (pattern_of ram.read)

  abbrev read_by : RamCell → Option (List ℕ × ℕ)
  read_by ram = taken_from before (read_name ram) (memory_name ram) (port_atoms fabric (take 8 ram.raddr)) (taken_by ram)

  read-given : (ram : RamCell) (clock : List ℕ) → next_word edges before (read_item fabric ram clock)
      ≡ (if is_enabled edges before (is_falling fabric ram.rneg ram.rclk) clock (atom_or_1 fabric ram.rclke) (atom_or_0 fabric ram.re) then read_by ram else None)
  read-given ram clock = elim (cases_Bool (ram.read == 0)) [ inl here ↦ rw here refl | inr away ↦ rw away refl ]

  pub own-read : (ram : RamCell) (clock : Option (List ℕ)) → IsOwn given_name (read_name ram) (assigned_in (next_word edges before) (clocked clock (read_item fabric ram)))
  own-read ram None = tt
  own-read ram (Some clock) =
      subst (IsOwn given_name (read_name ram)) (sym (read-given ram clock))
      (own-if given_name (read_name ram) _ (read_by ram)
      (own-taken (read_name ram) (λ words. taken_by ram (get_or words (atoms_value (readable before) (port_atoms fabric (take 8 ram.raddr))) 0)) (value_in before.memories (memory_name ram))))

  -- the mask and the bits of a write port
  abbrev mask_by : RamCell → ℕ
  mask_by ram =
      if ram.write == 0 then atoms_value (readable before) (port_atoms fabric ram.mask)
      else 65535 - moved_up (pattern_of ram.write) (atoms_value (readable before) (shift_atoms fabric ram.write ram.waddr))

  abbrev bits_by : RamCell → List Atom
  bits_by ram = if ram.write == 0 then port_atoms fabric ram.wdata else data_atoms fabric ram.write ram.wdata

  abbrev write_by : RamCell → Put
  write_by ram = put_at before (memory_name ram) (port_atoms fabric (take 8 ram.waddr)) (mask_by ram) (bits_by ram)

  write-given : (ram : RamCell) (clock : List ℕ) → next_put edges before (write_item fabric ram clock)
      ≡ (if is_enabled edges before (is_falling fabric ram.wneg ram.wclk) clock (atom_or_1 fabric ram.wclke) (atom_or_0 fabric ram.we) then Some (write_by ram) else None)
  write-given ram clock = elim (cases_Bool (ram.write == 0)) [ inl here ↦ rw here refl | inr away ↦ rw away refl ]

  pub own-write : (ram : RamCell) (clock : Option (List ℕ)) → IsOwn put_memory (memory_name ram) (assigned_in (next_put edges before) (clocked clock (write_item fabric ram)))
  own-write ram None = tt
  own-write ram (Some clock) =
      subst (IsOwn put_memory (memory_name ram)) (sym (write-given ram clock)) (own-if put_memory (memory_name ram) _ (Some (write_by ram)) refl)

-- ---- choices

-- a register whose reset doesn't act at once, or is 0
waits-choice : (is_async reset edge enable new made old : Bool) → (is_async && reset) ≡ false
    → (if edge && enable then (if reset then new else made) else old)
    ≡ (if edge then (if is_async then (if reset then new else if not enable then old else made) else (if not enable then old else if reset then new else made)) else old)
waits-choice true true edge enable new made old away = absurd cc
waits-choice true false true true new made old away = refl
waits-choice true false true false new made old away = refl
waits-choice true false false true new made old away = refl
waits-choice true false false false new made old away = refl
waits-choice false reset true true new made old away = refl
waits-choice false reset true false new made old away = refl
waits-choice false reset false true new made old away = refl
waits-choice false reset false false new made old away = refl

-- one whose reset acts at once
acts-choice : (reset edge enable new made old : Bool)
    → (if edge && (reset || enable) then (if reset then new else made) else old) ≡ (if edge then (if reset then new else if not enable then old else made) else old)
acts-choice true true enable new made old = refl
acts-choice true false enable new made old = refl
acts-choice false true true new made old = refl
acts-choice false true false new made old = refl
acts-choice false false enable new made old = refl

-- ---- the same in the fabric

module _ (fabric : Fabric) (within : IsWithin fabric) (state : State) (pins v : List Bool) (is : IsConsistent fabric state pins v)
    (before : ModuleEntry) (edges : ItemEdges) (gives : Gives fabric state pins v (is_driven fabric) (readable before)) (user_edges : Edges) where
  input-value : (stated : Bool) (net : Option ℕ) → atom_value (readable before) (input_atom fabric stated net) ≡ input_value (is_connected fabric) (bit_in v) stated net
  input-value stated net = atom-value fabric within state pins v is (is_driven fabric) (readable before) gives stated net (λ n found connected. connected)

  enable-value : (source : Signal) → IsSignalThere fabric source
      → atom_value (readable before) (signal_atom fabric source) ≡ fabric_signal (is_connected fabric) state pins (bit_in v) source
  enable-value source there = signal-value fabric within state pins v is (is_driven fabric) (readable before) gives source there (λ n found connected. connected)

  table-same : (table : LutTable) → IsPlaceIn fabric (table_entry table) → lut_value (readable before) (lut_of fabric table) ≡ table_value (is_connected fabric) state pins (bit_in v) table
  unfolding right_of
  table-same table there = table-written fabric within state pins v is (is_driven fabric) (readable before) gives table there (λ n reads connected. connected)

  ports-value : (ports : List (Option ℕ)) → atoms_value (readable before) (port_atoms fabric ports) ≡ word_of (map (input_or_0 (is_connected fabric) (bit_in v)) ports)
  ports-value ports =
      number_of-word_of (map (atom_value (readable before)) (port_atoms fabric ports))
      ∙ ap word_of (map-map (atom_or_0 fabric) (atom_value (readable before)) ports
      ∙ map-every (λ net. atom_value (readable before) (atom_or_0 fabric net)) (input_or_0 (is_connected fabric) (bit_in v)) (λ net. input-value false net) ports)

  -- a register
  pub register-same : (place : ℕ × Register) → HasSignals fabric place.1
      → clock_test edges (is_falling fabric place.1.neg place.1.clk) (clock_name fabric place.1.clk) ≡ user_edges place.1.neg place.1.clk
      → done given_value (assigned_in (next_of_flip edges before) (items_by fabric place.1 (setting_wire fabric place.1) (clock_name fabric place.1.clk))) (get_or state.bits place.0 false)
      ≡ bit_after (is_connected fabric) pins (bit_in v) user_edges state place
  unfolding next_bit
  register-same place there ticks =
      let register = place.1 in
      let clock = clock_name fabric register.clk in
      let old = get_or state.bits place.0 false in
      let edge = user_edges register.neg register.clk in
      let enable = fabric_signal (is_connected fabric) state pins (bit_in v) register.enable in
      let reset = input_or_0 (is_connected fabric) (bit_in v) register.sr in
      let made = table_value (is_connected fabric) state pins (bit_in v) register.table in
      register-after fabric before edges register (setting_wire fabric register) clock old
      ∙ elim (setting fabric within state pins v is (is_driven fabric) (readable before) gives place.0 register (λ n reads connected. connected)) [
        | inl unset ↦
            ap (λ wire. register_by fabric before edges register wire clock old) unset.none
            ∙ (rw (ticks, enable-value register.enable there.enable, input-value false register.sr, table-same register.table there.ins)
            (waits-choice register.is_async reset edge enable register.«set» made old unset.idle))
        | inr by ↦
            let is_set = by.1 in
            ap (λ wire. register_by fabric before edges register wire clock old) is_set.found
            ∙ (rw (ticks, enable-value register.enable there.enable, is_set.value, is_set.acts, table-same register.table there.ins) (acts-choice reset edge enable register.«set» made old))
      ]

  -- ---- narrow words

  shift-bit : (mode : ℕ) (ports : List (Option ℕ)) (k : ℕ)
      → atom_value (readable before) (shift_atom fabric mode ports k) ≡ high_bit (input_or_0 (is_connected fabric) (bit_in v)) ports None mode k
  shift-bit mode ports k =
      elim (cases_Bool (nat_lt k mode)) [
        | inl here ↦ rw here (input-value false (get_or ports (8 + k) None))
        | inr away ↦ rw away refl
      ]

  -- three atoms write the high part of an address
  shift-value : (mode : ℕ) (ports : List (Option ℕ)) → mode ≤ 3 → length ports ≡ 11
      → atoms_value (readable before) (shift_atoms fabric mode ports) ≡ high_part (is_connected fabric) (bit_in v) mode ports
  shift-value mode ports few eleven =
      (rw (shift-bit mode ports 0, shift-bit mode ports 1, shift-bit mode ports 2) refl)
      ∙ high-number (input_or_0 (is_connected fabric) (bit_in v)) None mode ports few eleven

  -- sixteen atoms write the data of a narrow word at each high part
  data-value : (mode : ℕ) (ports : List (Option ℕ)) (k : ℕ) → k < 16
      → get_or (map (atom_value (readable before)) (data_atoms fabric mode ports)) k false ≡ input_or_0 (is_connected fabric) (bit_in v) (get_or ports (data_bit mode (k / share mode)) None)
  data-value mode ports k within =
      get_or-map (atom_value (readable before)) (data_atoms fabric mode ports) k (Bit false)
      ∙ (ap (atom_value (readable before)) (each_below-at 16 k (λ j. atom_or_0 fabric (get_or ports (data_bit mode (j / share mode)) None)) (Bit false) within)
      ∙ input-value false (get_or ports (data_bit mode (k / share mode)) None))

  data-count : (mode : ℕ) (ports : List (Option ℕ)) → length (map (atom_value (readable before)) (data_atoms fabric mode ports)) ≡ 16
  data-count mode ports =
      length-map (data_atoms fabric mode ports) (atom_value (readable before)) ∙ each_below-length 16 (λ j. atom_or_0 fabric (get_or ports (data_bit mode (j / share mode)) None))

  -- ---- a read port

  some-mode : (mode : ℕ) → (mode == 0) ≡ false → 0 < mode
  some-mode zero away = absurd cc
  some-mode (suc mode) away = omega arith

  taken-shown : (ram : RamCell) (word : List Bool) → IsPorted ram → taken_by fabric before edges ram (word_of word) ≡ word_of (shown (is_connected fabric) (bit_in v) ram word)
  unfolding shown
  taken-shown ram word ported =
      elim (cases_Bool (ram.read == 0)) [
        | inl here ↦ rw here refl
        | inr away ↦
            rw away
            (ap (λ n. moved_down (word_of word) n (pattern_of ram.read)) (shift-value ram.read ram.raddr ported.read_mode ported.read_address)
            ∙ moved_down-is ram.read ported.read_mode word (high_part (is_connected fabric) (bit_in v) ram.read ram.raddr))
      ]

  enabled-same : (falling : Bool) (clock : List ℕ) (first second : Option ℕ) (edge : Bool) → clock_test edges falling (Some clock) ≡ edge
      → is_enabled edges before falling clock (atom_or_1 fabric first) (atom_or_0 fabric second)
      ≡ (edge && input_or_1 (is_connected fabric) (bit_in v) first && input_or_0 (is_connected fabric) (bit_in v) second)
  enabled-same falling clock first second edge ticks =
      ap (λ e. e && atom_value (readable before) (atom_or_1 fabric first) && atom_value (readable before) (atom_or_0 fabric second)) ticks
      ∙ (ap (λ e. edge && e && atom_value (readable before) (atom_or_0 fabric second)) (input-value true first)
      ∙ ap (λ e. edge && input_or_1 (is_connected fabric) (bit_in v) first && e) (input-value false second))

  -- the word that is taken, if the memory has the words of the RAM
  taken-word : (ram : RamCell) (words : List (List Bool)) (old : ℕ) → IsPorted ram → value_in before.memories (memory_name ram) ≡ Some (map word_of words)
      → done given_value (read_by fabric before edges ram) old
      ≡ word_of (shown (is_connected fabric) (bit_in v) ram (word_at words (word_address (is_connected fabric) (bit_in v) ram.raddr)))
  taken-word ram words old ported has =
      let address = word_address (is_connected fabric) (bit_in v) ram.raddr in
      let taken = taken_by fabric before edges ram in
      ap (λ found. done given_value (option_map (λ list. (read_name ram, taken (get_or list (atoms_value (readable before) (port_atoms fabric (take 8 ram.raddr))) 0))) found) old) has
      ∙ (ap (λ n. taken (get_or (map word_of words) n 0)) (ports-value (take 8 ram.raddr))
      ∙ (ap taken (word-pick words address) ∙ taken-shown ram (word_at words address) ported))

  read-value : (from : State) (place : ℕ × RamCell) (clock : Option (List ℕ)) → IsPorted place.1
      → clock_test edges (is_falling fabric place.1.rneg place.1.rclk) clock ≡ user_edges place.1.rneg place.1.rclk
      → value_in before.memories (memory_name place.1) ≡ Some (map word_of (get_or from.words place.0 []))
      → done given_value (assigned_in (next_word edges before) (clocked clock (read_item fabric place.1))) (word_of (get_or from.reads place.0 []))
      ≡ word_of (read_after (is_connected fabric) (bit_in v) user_edges from place)
  unfolding next_register
  read-value from place None ported ticks has =
      ap (λ (edge : Bool). word_of (if edge then next_register (is_connected fabric) (bit_in v) place.1 (get_or from.words place.0 []) (get_or from.reads place.0 []) else get_or from.reads place.0 [])) ticks
  read-value from place (Some clock) ported ticks has =
      let edge = user_edges place.1.rneg place.1.rclk in
      let words = get_or from.words place.0 [] in
      let old = get_or from.reads place.0 [] in
      let first = input_or_1 (is_connected fabric) (bit_in v) place.1.rclke in
      let second = input_or_0 (is_connected fabric) (bit_in v) place.1.re in
      ap (λ found. done given_value found (word_of old))
      (read-given fabric before edges place.1 clock
      ∙ ap (λ passes. if passes then read_by fabric before edges place.1 else None) (enabled-same (is_falling fabric place.1.rneg place.1.rclk) clock place.1.rclke place.1.re edge ticks))
      ∙ after-enabled word_of given_value edge first second (read_by fabric before edges place.1)
      (shown (is_connected fabric) (bit_in v) place.1 (word_at words (word_address (is_connected fabric) (bit_in v) place.1.raddr))) old
      (taken-word place.1 words (word_of old) ported has)

  pub read-same : (from : State) (place : ℕ × RamCell) → IsPorted place.1
      → clock_test edges (is_falling fabric place.1.rneg place.1.rclk) (clock_name fabric place.1.rclk) ≡ user_edges place.1.rneg place.1.rclk
      → value_in before.memories (memory_name place.1) ≡ Some (map word_of (get_or from.words place.0 []))
      → done given_value (assigned_in (next_word edges before) (clocked (clock_name fabric place.1.rclk) (read_item fabric place.1))) (word_of (get_or from.reads place.0 []))
      ≡ word_of (read_after (is_connected fabric) (bit_in v) user_edges from place)
  read-same from place = read-value from place (clock_name fabric place.1.rclk)

  -- ---- a write port

  mask-bit : (word : List Bool) (ram : RamCell) (k : ℕ)
      → masked_bit (is_connected fabric) (bit_in v) ram word k
      ≡ (if get_or (map (input_or_0 (is_connected fabric) (bit_in v)) ram.mask) k false then get_or word k false else get_or (map (input_or_0 (is_connected fabric) (bit_in v)) ram.wdata) k false)
  mask-bit word ram k =
      let first : get_or (map (input_or_0 (is_connected fabric) (bit_in v)) ram.mask) k false ≡ input_or_0 (is_connected fabric) (bit_in v) (get_or ram.mask k None) =
      get_or-map (input_or_0 (is_connected fabric) (bit_in v)) ram.mask k None in
      let second : get_or (map (input_or_0 (is_connected fabric) (bit_in v)) ram.wdata) k false ≡ input_or_0 (is_connected fabric) (bit_in v) (get_or ram.wdata k None) =
      get_or-map (input_or_0 (is_connected fabric) (bit_in v)) ram.wdata k None in
      rw (first, second) refl

  -- the word that is written
  word-written : (ram : RamCell) (word : List Bool) → IsPorted ram
      → masked (word_of word) (mask_by fabric before edges ram) (atoms_value (readable before) (bits_by fabric before edges ram))
      ≡ word_of (written (is_connected fabric) (bit_in v) ram word)
  unfolding written
  word-written ram word ported =
      let inputs = input_or_0 (is_connected fabric) (bit_in v) in
      elim (cases_Bool (ram.write == 0)) [
        | inl here ↦
            rw here
            (ap (λ mask. masked (word_of word) mask (atoms_value (readable before) (port_atoms fabric ram.wdata))) (ports-value ram.mask)
            ∙ (ap (masked (word_of word) (word_of (map inputs ram.mask))) (ports-value ram.wdata)
            ∙ masked-same word (map inputs ram.mask) (map inputs ram.wdata) (length-map ram.mask inputs ∙ ported.mask) (length-map ram.wdata inputs ∙ ported.written)
            (masked_bit (is_connected fabric) (bit_in v) ram word) (λ k below. mask-bit word ram k)))
        | inr away ↦
            let high = high_part (is_connected fabric) (bit_in v) ram.write ram.waddr in
            let bits = map (atom_value (readable before)) (data_atoms fabric ram.write ram.wdata) in
            rw away
            (ap (λ n. masked (word_of word) (65535 - moved_up (pattern_of ram.write) n) (number_of bits)) (shift-value ram.write ram.waddr ported.write_mode ported.write_address)
            ∙ (ap (masked (word_of word) (65535 - moved_up (pattern_of ram.write) high)) (number_of-word_of bits)
            ∙ put-is ram.write high word bits (written_data (is_connected fabric) (bit_in v) ram) (some-mode ram.write away) ported.write_mode
            (high-small inputs ram.write (drop 8 ram.waddr)) (data-count ram.write ram.wdata) (λ k within. data-value ram.write ram.wdata k within)))
      ]

  put-word : (ram : RamCell) (words : List (List Bool)) → IsPorted ram → value_in before.memories (memory_name ram) ≡ Some (map word_of words)
      → put_value (write_by fabric before edges ram) (map word_of words)
      ≡ map word_of (set words (word_address (is_connected fabric) (bit_in v) ram.waddr) (written (is_connected fabric) (bit_in v) ram (word_at words (word_address (is_connected fabric) (bit_in v) ram.waddr))))
  put-word ram words ported has =
      let address = word_address (is_connected fabric) (bit_in v) ram.waddr in
      let mask = mask_by fabric before edges ram in
      let bits = atoms_value (readable before) (bits_by fabric before edges ram) in
      ap (λ list. set (map word_of words) (atoms_value (readable before) (port_atoms fabric (take 8 ram.waddr)))
      (masked (get_or (unwrap_or list []) (atoms_value (readable before) (port_atoms fabric (take 8 ram.waddr))) 0) mask bits)) has
      ∙ (ap (λ n. set (map word_of words) n (masked (get_or (map word_of words) n 0) mask bits)) (ports-value (take 8 ram.waddr))
      ∙ (ap (λ n. set (map word_of words) address (masked n mask bits)) (word-pick words address)
      ∙ (ap (set (map word_of words) address) (word-written ram (word_at words address) ported)
      ∙ sym (map-set word_of words address (written (is_connected fabric) (bit_in v) ram (word_at words address))))))

  write-value : (from : State) (place : ℕ × RamCell) (clock : Option (List ℕ)) → IsPorted place.1
      → clock_test edges (is_falling fabric place.1.wneg place.1.wclk) clock ≡ user_edges place.1.wneg place.1.wclk
      → value_in before.memories (memory_name place.1) ≡ Some (map word_of (get_or from.words place.0 []))
      → done put_value (assigned_in (next_put edges before) (clocked clock (write_item fabric place.1))) (map word_of (get_or from.words place.0 []))
      ≡ map word_of (words_after (is_connected fabric) (bit_in v) user_edges from place)
  unfolding next_words
  write-value from place None ported ticks has =
      ap (λ (edge : Bool). map word_of (if edge then next_words (is_connected fabric) (bit_in v) place.1 (get_or from.words place.0 []) else get_or from.words place.0 [])) ticks
  write-value from place (Some clock) ported ticks has =
      let edge = user_edges place.1.wneg place.1.wclk in
      let words = get_or from.words place.0 [] in
      let first = input_or_1 (is_connected fabric) (bit_in v) place.1.wclke in
      let second = input_or_0 (is_connected fabric) (bit_in v) place.1.we in
      let address = word_address (is_connected fabric) (bit_in v) place.1.waddr in
      ap (λ found. done put_value found (map word_of words))
      (write-given fabric before edges place.1 clock
      ∙ ap (λ passes. if passes then Some (write_by fabric before edges place.1) else None) (enabled-same (is_falling fabric place.1.wneg place.1.wclk) clock place.1.wclke place.1.we edge ticks))
      ∙ after-enabled (map word_of) put_value edge first second (Some (write_by fabric before edges place.1))
      (set words address (written (is_connected fabric) (bit_in v) place.1 (word_at words address))) words (put-word place.1 words ported has)

  pub write-same : (from : State) (place : ℕ × RamCell) → IsPorted place.1
      → clock_test edges (is_falling fabric place.1.wneg place.1.wclk) (clock_name fabric place.1.wclk) ≡ user_edges place.1.wneg place.1.wclk
      → value_in before.memories (memory_name place.1) ≡ Some (map word_of (get_or from.words place.0 []))
      → done put_value (assigned_in (next_put edges before) (clocked (clock_name fabric place.1.wclk) (write_item fabric place.1))) (map word_of (get_or from.words place.0 []))
      ≡ map word_of (words_after (is_connected fabric) (bit_in v) user_edges from place)
  write-same from place = write-value from place (clock_name fabric place.1.wclk)
