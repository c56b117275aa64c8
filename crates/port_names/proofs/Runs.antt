-- Runs under other names.
use Rattle.std.proofs.Common.{◌≡◌, ℕ, zero, suc, ◌-◌, Bool, true, false, cond, ◌&&◌, ◌||◌, List, [], ◌∷◌, ◌++◌, Option, Some, None, flat_map, refl, sym, ap, ap₂, ◌∙◌, get_or}
use Rattle.std.specs.Prelude.{map, fold, is_some, unwrap_or, slice_set}
use Rattle.std.specs.List.{list_any}
use Rattle.std.specs.Option.{option_map, option_map_or}
use Rattle.vlog_module.specs.declared.atoms.Atom.{Atom}
use Rattle.vlog_module.specs.declared.atoms.Atom.TheVariants.{Bit, Whole, Part}
use Rattle.vlog_module.specs.declared.item.Lut.{Lut}
use Rattle.vlog_module.specs.declared.item.Right.{Right}
use Rattle.vlog_module.specs.declared.item.Right.TheVariants.{Bit as RightBit, Whole as RightWhole, Part as RightPart, Lut as RightLut, Majority, Choose}
use Rattle.vlog_module.specs.declared.item.Item.{Item}
use Rattle.vlog_module.specs.declared.item.Item.TheVariants.{Register, Word, Memory, Wire, Assign, FlipFlop, AsyncFlipFlop, AsyncReset, Read, ReadNarrow, Write, WriteNarrow, Start}
use Rattle.vlog_module.specs.declared.modules.Port.{Port}
use Rattle.vlog_module.specs.Maps.{value_in}
use Rattle.vlog_module.specs.Parts.{Parts}
use Rattle.vlog_semantics.specs.declared.event.Event.{Event}
use Rattle.vlog_semantics.specs.Entries.{Entry, put}
use Rattle.vlog_semantics.specs.Named.{names_of}
use Rattle.vlog_semantics.specs.Numbered.{numbered}
use Rattle.vlog_semantics.specs.Values.{Readable, atom_value, atoms_value, lut_value, right_value, number_of, bit_of}
use Rattle.vlog_semantics.specs.Run.{Edges, Put, acted, changed, clock_of, edges_between, edges_by, followed, has_edge, has_its_edge, input_bit, input_names, input_start, is_at_edge, is_edge, is_enabled, is_on_register, is_pin, is_register_of, is_same_bit, masked, memory_start, memory_step, module_run, moved_down, moved_up, next_bit, next_put, next_word, output_start, output_step, pin_of, put_at, put_given, put_given_word, put_word, readable, register_bit, register_start, register_step, run_from, settle_step, settled, start, start_step, taken_from, wave_bound, waved, wire_step, with_input, word_start, word_step, words_of}
use Rattle.port_names.specs.Renamed.{renamed_atom, renamed_atoms, renamed_lut, renamed_right, renamed_item, renamed_port, renamed_parts, renamed_values, renamed_entry}
use Rattle.port_names.proofs.Apart.{KeepsApart, value_in-renamed, put-renamed, values-renamed, names-renamed, numbered-renamed, with_input-renamed, count-renamed, flat_map-renamed, fold-renamed}

-- ---- what is read

-- values that are read, under the new names
abbrev pub renamed_readable : (List ℕ → List ℕ) → Readable → Readable
renamed_readable to from = record { bits = renamed_values to from.bits; words = renamed_values to from.words }

pub values-append : {A : Type 0} (to : List ℕ → List ℕ) (first second : List (List ℕ × A)) → renamed_values to (first ++ second) ≡ renamed_values to first ++ renamed_values to second
values-append to [] second = refl
values-append to (entry ∷ first) second = ap (λ rest. (to entry.0, entry.1) ∷ rest) (values-append to first second)

pub atom-renamed : (to : List ℕ → List ℕ) → KeepsApart to → (from : Readable) (atom : Atom) → atom_value (renamed_readable to from) (renamed_atom to atom) ≡ atom_value from atom
atom-renamed to apart from (Bit bit) = refl
atom-renamed to apart from (Whole name) = ap (λ found. unwrap_or found false) (value_in-renamed to apart from.bits name)
atom-renamed to apart from (Part name k) = ap (λ found. option_map_or (λ word. bit_of word k) found false) (value_in-renamed to apart from.words name)

each-atom : (to : List ℕ → List ℕ) → KeepsApart to → (from : Readable) (atoms : List Atom) → map (atom_value (renamed_readable to from)) (renamed_atoms to atoms) ≡ map (atom_value from) atoms
each-atom to apart from [] = refl
each-atom to apart from (atom ∷ atoms) = ap₂ (λ first rest. first ∷ rest) (atom-renamed to apart from atom) (each-atom to apart from atoms)

pub atoms-renamed : (to : List ℕ → List ℕ) → KeepsApart to → (from : Readable) (atoms : List Atom) → atoms_value (renamed_readable to from) (renamed_atoms to atoms) ≡ atoms_value from atoms
atoms-renamed to apart from atoms = ap number_of (each-atom to apart from atoms)

pub lut-renamed : (to : List ℕ → List ℕ) → KeepsApart to → (from : Readable) (lut : Lut) → lut_value (renamed_readable to from) (renamed_lut to lut) ≡ lut_value from lut
lut-renamed to apart from lut = ap (bit_of lut.word) (atoms-renamed to apart from lut.ins)

pub right-renamed : (to : List ℕ → List ℕ) → KeepsApart to → (from : Readable) (right : Right) → right_value (renamed_readable to from) (renamed_right to right) ≡ right_value from right
right-renamed to apart from (RightBit bit) = refl
right-renamed to apart from (RightWhole name) = atom-renamed to apart from (Whole name)
right-renamed to apart from (RightPart name k) = atom-renamed to apart from (Part name k)
right-renamed to apart from (RightLut lut) = lut-renamed to apart from lut
right-renamed to apart from (Majority a b c) = rw (atom-renamed to apart from a, atom-renamed to apart from b, atom-renamed to apart from c) refl
right-renamed to apart from (Choose reset set target) = rw (atom-renamed to apart from (Whole reset), atom-renamed to apart from (Whole target)) refl

-- ---- wires, registers and outputs

bits-and-words : (to : List ℕ → List ℕ) (known wires : List (List ℕ × Bool)) (words : List (List ℕ × ℕ))
    → (let from : Readable = record { bits = renamed_values to known ++ renamed_values to wires; words = renamed_values to words } in from)
    ≡ renamed_readable to (record { bits = known ++ wires; words = words })
bits-and-words to known wires words =
    ap (λ bits. let from : Readable = record { bits = bits; words = renamed_values to words } in from) (sym (values-append to known wires))

wire-step-renamed : (to : List ℕ → List ℕ) → KeepsApart to → (known : List (List ℕ × Bool)) (words : List (List ℕ × ℕ)) (wires : List (List ℕ × Bool)) (item : Item)
    → wire_step (renamed_values to known) (renamed_values to words) (renamed_values to wires) (renamed_item to item) ≡ renamed_values to (wire_step known words wires item)
wire-step-renamed to apart known words wires (Wire name right) =
    ap (λ from. renamed_values to wires ++ (to name, right_value from (renamed_right to right)) ∷ []) (bits-and-words to known wires words)
    ∙ ap (λ value. renamed_values to wires ++ (to name, value) ∷ []) (right-renamed to apart (record { bits = known ++ wires; words = words }) right)
    ∙ sym (values-append to wires ((name, right_value (record { bits = known ++ wires; words = words }) right) ∷ []))
wire-step-renamed to apart known words wires other = refl

-- a choice is made by the same test
chosen-renamed : {A : Type 0} (to : List ℕ → List ℕ) (one two : Bool) (then_one then_two other : List (List ℕ × A)) → one ≡ two → then_one ≡ renamed_values to then_two
    → cond one then_one (renamed_values to other) ≡ renamed_values to (cond two then_two other)
chosen-renamed to one two then_one then_two other same then_same =
    rw (same, then_same) (elim two as (λ b. cond b (renamed_values to then_two) (renamed_values to other) ≡ renamed_values to (cond b then_two other)) [ true ↦ refl | false ↦ refl ])

settle-step-renamed : (to : List ℕ → List ℕ) → KeepsApart to → (from : Readable) (registers : List (List ℕ × Bool)) (item : Item)
    → settle_step (renamed_readable to from) (renamed_values to registers) (renamed_item to item) ≡ renamed_values to (settle_step from registers item)
settle-step-renamed to apart from registers (AsyncFlipFlop falling clock reset set target enable lut) =
    chosen-renamed to _ _ _ _ registers (atom-renamed to apart from (Whole reset)) (put-renamed to apart registers target set)
settle-step-renamed to apart from registers (AsyncReset reset set target) =
    chosen-renamed to _ _ _ _ registers (atom-renamed to apart from (Whole reset)) (put-renamed to apart registers target set)
settle-step-renamed to apart from registers other = refl

output-step-renamed : (to : List ℕ → List ℕ) → KeepsApart to → (from : Readable) (outputs : List (List ℕ × Bool)) (item : Item)
    → output_step (renamed_readable to from) (renamed_values to outputs) (renamed_item to item) ≡ renamed_values to (output_step from outputs item)
output-step-renamed to apart from outputs (Assign name value) =
    ap (put (renamed_values to outputs) (to name)) (atom-renamed to apart from value) ∙ put-renamed to apart outputs name (atom_value from value)
output-step-renamed to apart from outputs other = refl

-- the bits that are read, in three parts
three-parts : (to : List ℕ → List ℕ) (inputs registers wires : List (List ℕ × Bool)) (words : List (List ℕ × ℕ))
    → (let from : Readable = record { bits = renamed_values to inputs ++ renamed_values to registers ++ renamed_values to wires; words = renamed_values to words } in from)
    ≡ renamed_readable to (record { bits = inputs ++ registers ++ wires; words = words })
three-parts to inputs registers wires words =
    ap (λ bits. let from : Readable = record { bits = bits ++ renamed_values to wires; words = renamed_values to words } in from) (sym (values-append to inputs registers))
    ∙ bits-and-words to (inputs ++ registers) wires words

pub readable-renamed : (to : List ℕ → List ℕ) (entry : Entry) → readable (renamed_entry to entry) ≡ renamed_readable to (readable entry)
readable-renamed to entry = three-parts to entry.inputs entry.registers entry.wires entry.words

output-start-renamed : (to : List ℕ → List ℕ) (port : Port) → output_start (renamed_port to port) ≡ renamed_values to (output_start port)
output-start-renamed to port = elim port.output as (λ b. cond b ((to port.name, false) ∷ []) [] ≡ renamed_values to (cond b ((port.name, false) ∷ []) [])) [ true ↦ refl | false ↦ refl ]

input-start-renamed : (to : List ℕ → List ℕ) (port : Port) → input_start (renamed_port to port) ≡ renamed_values to (input_start port)
input-start-renamed to port = elim port.output as (λ b. cond b [] ((to port.name, false) ∷ []) ≡ renamed_values to (cond b [] ((port.name, false) ∷ []))) [ true ↦ refl | false ↦ refl ]

-- the wires of an entry
wires-renamed : (to : List ℕ → List ℕ) → KeepsApart to → (known : List (List ℕ × Bool)) (words : List (List ℕ × ℕ)) (items : List Item)
    → fold (wire_step (renamed_values to known) (renamed_values to words)) [] (map (renamed_item to) items) ≡ renamed_values to (fold (wire_step known words) [] items)
wires-renamed to apart known words items =
    fold-renamed (renamed_values to) (renamed_item to) (wire_step (renamed_values to known) (renamed_values to words)) (wire_step known words)
    (wire-step-renamed to apart known words) [] items

-- entries that hold the same
pub same-entry : (a b : Entry) → a.inputs ≡ b.inputs → a.registers ≡ b.registers → a.words ≡ b.words → a.memories ≡ b.memories → a.wires ≡ b.wires → a.outputs ≡ b.outputs → a ≡ b
same-entry a b inputs registers words memories wires outputs =
    λ i. record { inputs = inputs i; registers = registers i; words = words i; memories = memories i; wires = wires i; outputs = outputs i }

pub settled-renamed : (to : List ℕ → List ℕ) → KeepsApart to → (m : Parts) (inputs registers : List (List ℕ × Bool)) (words : List (List ℕ × ℕ)) (memories : List (List ℕ × List ℕ))
    → settled (renamed_parts to m) (renamed_values to inputs) (renamed_values to registers) (renamed_values to words) (renamed_values to memories)
    ≡ renamed_entry to (settled m inputs registers words memories)
unfolding settled
settled-renamed to apart m inputs registers words memories =
    let wires : List (List ℕ × Bool) = fold (wire_step (inputs ++ registers) words) [] m.items in
    let rested : List (List ℕ × Bool) = fold (settle_step (record { bits = inputs ++ registers ++ wires; words = words })) registers m.items in
    let changed_items : List Item = map (renamed_item to) m.items in
    let wires_are : fold (wire_step (renamed_values to inputs ++ renamed_values to registers) (renamed_values to words)) [] changed_items ≡ renamed_values to wires =
    ap (λ known. fold (wire_step known (renamed_values to words)) [] changed_items) (sym (values-append to inputs registers)) ∙ wires-renamed to apart (inputs ++ registers) words m.items in
    let from : Readable = record { bits = inputs ++ registers ++ wires; words = words } in
    let from_is : (let read : Readable = record { bits = renamed_values to inputs ++ renamed_values to registers ++ fold (wire_step (renamed_values to inputs ++ renamed_values to registers) (renamed_values to words)) [] changed_items; words = renamed_values to words } in read) ≡ renamed_readable to from =
    ap (λ list. let read : Readable = record { bits = renamed_values to inputs ++ renamed_values to registers ++ list; words = renamed_values to words } in read) wires_are ∙ three-parts to inputs registers wires words in
    let rested_are : fold (settle_step (record { bits = renamed_values to inputs ++ renamed_values to registers ++ fold (wire_step (renamed_values to inputs ++ renamed_values to registers) (renamed_values to words)) [] changed_items; words = renamed_values to words })) (renamed_values to registers) changed_items ≡ renamed_values to rested =
    ap (λ read. fold (settle_step read) (renamed_values to registers) changed_items) from_is
    ∙ fold-renamed (renamed_values to) (renamed_item to) (settle_step (renamed_readable to from)) (settle_step from) (settle-step-renamed to apart from) registers m.items in
    same-entry (settled (renamed_parts to m) (renamed_values to inputs) (renamed_values to registers) (renamed_values to words) (renamed_values to memories)) (renamed_entry to (settled m inputs registers words memories))
    refl rested_are refl refl wires_are
    (ap₂ (λ r w. fold (output_step (record { bits = renamed_values to inputs ++ r ++ w; words = renamed_values to words })) (flat_map output_start (map (renamed_port to) m.ports)) changed_items) rested_are wires_are
    ∙ ap₂ (λ read outputs. fold (output_step read) outputs changed_items) (three-parts to inputs rested wires words) (flat_map-renamed to (renamed_port to) output_start (output-start-renamed to) m.ports)
    ∙ fold-renamed (renamed_values to) (renamed_item to) (output_step (renamed_readable to (record { bits = inputs ++ rested ++ wires; words = words }))) (output_step (record { bits = inputs ++ rested ++ wires; words = words }))
    (output-step-renamed to apart (record { bits = inputs ++ rested ++ wires; words = words })) (flat_map output_start m.ports) m.items)

-- ---- the start

register-start-renamed : (to : List ℕ → List ℕ) (item : Item) → register_start (renamed_item to item) ≡ renamed_values to (register_start item)
register-start-renamed to (Register name start) = refl
register-start-renamed to other = refl

word-start-renamed : (to : List ℕ → List ℕ) (item : Item) → word_start (renamed_item to item) ≡ renamed_values to (word_start item)
word-start-renamed to (Word name start) = refl
word-start-renamed to other = refl

memory-start-renamed : (to : List ℕ → List ℕ) (item : Item) → memory_start (renamed_item to item) ≡ renamed_values to (memory_start item)
memory-start-renamed to (Memory name) = refl
memory-start-renamed to other = refl

put_word-renamed : (to : List ℕ → List ℕ) → KeepsApart to → (memories : List (List ℕ × List ℕ)) (name : List ℕ) (address word : ℕ)
    → put_word (renamed_values to memories) (to name) address word ≡ renamed_values to (put_word memories name address word)
put_word-renamed to apart memories name address word =
    ap (λ found. put (renamed_values to memories) (to name) (slice_set (unwrap_or found []) address word)) (value_in-renamed to apart memories name)
    ∙ put-renamed to apart memories name (slice_set (words_of memories name) address word)

start-step-renamed : (to : List ℕ → List ℕ) → KeepsApart to → (memories : List (List ℕ × List ℕ)) (item : Item)
    → start_step (renamed_values to memories) (renamed_item to item) ≡ renamed_values to (start_step memories item)
start-step-renamed to apart memories (Start memory k word) = put_word-renamed to apart memories memory k word
start-step-renamed to apart memories other = refl

-- at the start
pub start-renamed : (to : List ℕ → List ℕ) → KeepsApart to → (m : Parts) → start (renamed_parts to m) ≡ renamed_entry to (start m)
unfolding start
start-renamed to apart m =
    let items : List Item = map (renamed_item to) m.items in
    let memories : fold start_step (flat_map memory_start items) items ≡ renamed_values to (fold start_step (flat_map memory_start m.items) m.items) =
    ap (λ list. fold start_step list items) (flat_map-renamed to (renamed_item to) memory_start (memory-start-renamed to) m.items)
    ∙ fold-renamed (renamed_values to) (renamed_item to) start_step start_step (start-step-renamed to apart) (flat_map memory_start m.items) m.items in
    ap₂ (λ inputs registers. settled (renamed_parts to m) inputs registers (flat_map word_start items) (fold start_step (flat_map memory_start items) items))
    (flat_map-renamed to (renamed_port to) input_start (input-start-renamed to) m.ports)
    (flat_map-renamed to (renamed_item to) register_start (register-start-renamed to) m.items)
    ∙ ap₂ (λ words held. settled (renamed_parts to m) (renamed_values to (flat_map input_start m.ports)) (renamed_values to (flat_map register_start m.items)) words held)
    (flat_map-renamed to (renamed_item to) word_start (word-start-renamed to) m.items) memories
    ∙ settled-renamed to apart m (flat_map input_start m.ports) (flat_map register_start m.items) (flat_map word_start m.items) (fold start_step (flat_map memory_start m.items) m.items)

-- ---- an event

pub input_names-renamed : (to : List ℕ → List ℕ) (ports : List Port) → input_names (map (renamed_port to) ports) ≡ map to (input_names ports)
input_names-renamed to ports =
    ap names_of (flat_map-renamed to (renamed_port to) input_start (input-start-renamed to) ports) ∙ names-renamed to (flat_map input_start ports)

pub pin_of-renamed : (to : List ℕ → List ℕ) → KeepsApart to → (ports : List Port) (name : List ℕ) → pin_of (map (renamed_port to) ports) (to name) ≡ pin_of ports name
pin_of-renamed to apart ports name =
    ap (λ names. value_in (numbered 0 names) (to name)) (input_names-renamed to ports)
    ∙ ap (λ entries. value_in entries (to name)) (numbered-renamed to 0 (input_names ports))
    ∙ value_in-renamed to apart (numbered 0 (input_names ports)) name

-- clocks have their edges alike under the new names
abbrev pub EdgesRenamed : (List ℕ → List ℕ) → Edges → Edges → Type 0
EdgesRenamed to others edges = (falling : Bool) (clock : List ℕ) → others falling (to clock) ≡ edges falling clock

-- the edges of an event
event-renamed : (to : List ℕ → List ℕ) → KeepsApart to → (m : Parts) (event : Event) → EdgesRenamed to (edges_by (renamed_parts to m) event) (edges_by m event)
event-renamed to apart m event falling clock = ap (λ place. is_pin event.pin place && is_edge falling event.bit) (pin_of-renamed to apart m.ports clock)

-- and those of a wave
bit-renamed : (to : List ℕ → List ℕ) → KeepsApart to → (entry : Entry) (name : List ℕ) → register_bit (renamed_entry to entry) (to name) ≡ register_bit entry name
bit-renamed to apart entry name = ap (λ found. unwrap_or found false) (value_in-renamed to apart entry.registers name)

wave-renamed : (to : List ℕ → List ℕ) → KeepsApart to → (before after : Entry) → EdgesRenamed to (edges_between (renamed_entry to before) (renamed_entry to after)) (edges_between before after)
wave-renamed to apart before after falling clock = ap₂ (has_edge falling) (bit-renamed to apart before clock) (bit-renamed to apart after clock)

-- what is read of an entry
entry-atom : (to : List ℕ → List ℕ) → KeepsApart to → (entry : Entry) (atom : Atom) → atom_value (readable (renamed_entry to entry)) (renamed_atom to atom) ≡ atom_value (readable entry) atom
entry-atom to apart entry atom = ap (λ from. atom_value from (renamed_atom to atom)) (readable-renamed to entry) ∙ atom-renamed to apart (readable entry) atom

entry-atoms : (to : List ℕ → List ℕ) → KeepsApart to → (entry : Entry) (atoms : List Atom) → atoms_value (readable (renamed_entry to entry)) (renamed_atoms to atoms) ≡ atoms_value (readable entry) atoms
entry-atoms to apart entry atoms = ap (λ from. atoms_value from (renamed_atoms to atoms)) (readable-renamed to entry) ∙ atoms-renamed to apart (readable entry) atoms

entry-lut : (to : List ℕ → List ℕ) → KeepsApart to → (entry : Entry) (lut : Lut) → lut_value (readable (renamed_entry to entry)) (renamed_lut to lut) ≡ lut_value (readable entry) lut
entry-lut to apart entry lut = ap (λ from. lut_value from (renamed_lut to lut)) (readable-renamed to entry) ∙ lut-renamed to apart (readable entry) lut

-- a register or a memory that is assigned has its new name
abbrev named_so : {A : Type 0} → (List ℕ → List ℕ) → List ℕ × A → List ℕ × A
named_so to given = (to given.0, given.1)

abbrev put_so : (List ℕ → List ℕ) → Put → Put
put_so to given = record { memory = to given.memory; address = given.address; word = given.word }

given-renamed : {A : Type 0} (one two : Bool) (to : A → A) (name other : A) → one ≡ two → name ≡ to other → cond one (Some name) None ≡ option_map to (cond two (Some other) None)
given-renamed {A = A} one two to name other same is =
    ap₂ (λ b (x : A). cond b (Some x) None) same is
    ∙ (elim two as (λ b. cond b (Some (to other)) None ≡ option_map to (cond b (Some other) None)) [ true ↦ refl | false ↦ refl ])

-- if something is given, it is what is given under the old names
where-renamed : {A : Type 0} (one two : Bool) (to : A → A) (first second : Option A) → one ≡ two → first ≡ option_map to second → cond one first None ≡ option_map to (cond two second None)
where-renamed one two to first second same is =
    ap₂ (λ b x. cond b x None) same is ∙ (elim two as (λ b. cond b (option_map to second) None ≡ option_map to (cond b second None)) [ true ↦ refl | false ↦ refl ])

taken-renamed : (to : List ℕ → List ℕ) → KeepsApart to → (entry : Entry) (target memory : List ℕ) (address : List Atom) (taken : ℕ → ℕ)
    → taken_from (renamed_entry to entry) (to target) (to memory) (renamed_atoms to address) taken ≡ option_map (named_so to) (taken_from entry target memory address taken)
taken-renamed to apart entry target memory address taken =
    ap₂ (λ at found. option_map (λ (words : List ℕ). let one : List ℕ × ℕ = (to target, taken (get_or words at 0)) in one) found) (entry-atoms to apart entry address) (value_in-renamed to apart entry.memories memory)
    ∙ (elim (value_in entry.memories memory) as (λ found. option_map (λ (words : List ℕ). let one : List ℕ × ℕ = (to target, taken (get_or words (atoms_value (readable entry) address) 0)) in one) found
    ≡ option_map (named_so to) (option_map (λ (words : List ℕ). let one : List ℕ × ℕ = (target, taken (get_or words (atoms_value (readable entry) address) 0)) in one) found)) [ Some words ↦ refl | None ↦ refl ])

-- the word that is put
put_at-renamed : (to : List ℕ → List ℕ) → KeepsApart to → (entry : Entry) (memory : List ℕ) (address : List Atom) (one mask : ℕ) (bits : List Atom) → one ≡ mask
    → put_at (renamed_entry to entry) (to memory) (renamed_atoms to address) one (renamed_atoms to bits) ≡ put_so to (put_at entry memory address mask bits)
put_at-renamed to apart entry memory address one mask bits same =
    let words : words_of (renamed_values to entry.memories) (to memory) ≡ words_of entry.memories memory = ap (λ found. unwrap_or found []) (value_in-renamed to apart entry.memories memory) in
    let at : atoms_value (readable (renamed_entry to entry)) (renamed_atoms to address) ≡ atoms_value (readable entry) address = entry-atoms to apart entry address in
    let number : atoms_value (readable (renamed_entry to entry)) (renamed_atoms to bits) ≡ atoms_value (readable entry) bits = entry-atoms to apart entry bits in
    λ i. record { memory = to memory; address = at i; word = masked (get_or (words i) (at i) 0) (same i) (number i) }

-- what is given is put under the new names
put_given-renamed : {A : Type 0} (to : List ℕ → List ℕ) → KeepsApart to → (entries : List (List ℕ × A)) (given : Option (List ℕ × A))
    → put_given (renamed_values to entries) (option_map (named_so to) given) ≡ renamed_values to (put_given entries given)
put_given-renamed to apart entries (Some given) = put-renamed to apart entries given.0 given.1
put_given-renamed to apart entries None = refl

put_given_word-renamed : (to : List ℕ → List ℕ) → KeepsApart to → (memories : List (List ℕ × List ℕ)) (given : Option Put)
    → put_given_word (renamed_values to memories) (option_map (put_so to) given) ≡ renamed_values to (put_given_word memories given)
put_given_word-renamed to apart memories (Some given) = put_word-renamed to apart memories given.memory given.address given.word
put_given_word-renamed to apart memories None = refl

-- what items assign at their edges
module _ (to : List ℕ → List ℕ) (apart : KeepsApart to) (others edges : Edges) (alike : EdgesRenamed to others edges) (entry : Entry) where
  enabled-renamed : (falling : Bool) (clock : List ℕ) (clock_enable enable : Atom)
      → is_enabled others (renamed_entry to entry) falling (to clock) (renamed_atom to clock_enable) (renamed_atom to enable) ≡ is_enabled edges entry falling clock clock_enable enable
  enabled-renamed falling clock clock_enable enable =
      ap₂ (λ a b. a && atom_value (readable (renamed_entry to entry)) (renamed_atom to clock_enable) && b) (alike falling clock) (entry-atom to apart entry enable)
      ∙ ap (λ b. edges falling clock && b && atom_value (readable entry) enable) (entry-atom to apart entry clock_enable)

  next_bit-renamed : (item : Item) → next_bit others (renamed_entry to entry) (renamed_item to item) ≡ option_map (named_so to) (next_bit edges entry item)
  next_bit-renamed (FlipFlop falling clock enable reset set target lut) =
      given-renamed _ _ (named_so to) _ (target, cond (atom_value (readable entry) reset) set (lut_value (readable entry) lut))
      (ap₂ (λ a b. a && b) (alike falling clock) (entry-atom to apart entry enable))
      (ap₂ (λ a b. let one : List ℕ × Bool = (to target, cond a set b) in one) (entry-atom to apart entry reset) (entry-lut to apart entry lut))
  next_bit-renamed (AsyncFlipFlop falling clock reset set target enable lut) =
      given-renamed _ _ (named_so to) _ (target, cond (atom_value (readable entry) (Whole reset)) set (lut_value (readable entry) lut))
      (ap₂ (λ a b. a && b) (alike falling clock) (ap₂ (λ a b. a || b) (entry-atom to apart entry (Whole reset)) (entry-atom to apart entry enable)))
      (ap₂ (λ a b. let one : List ℕ × Bool = (to target, cond a set b) in one) (entry-atom to apart entry (Whole reset)) (entry-lut to apart entry lut))
  next_bit-renamed other = refl

  next_word-renamed : (item : Item) → next_word others (renamed_entry to entry) (renamed_item to item) ≡ option_map (named_so to) (next_word edges entry item)
  next_word-renamed (Read falling clock clock_enable enable target memory address) =
      where-renamed _ _ (named_so to) _ (taken_from entry target memory address (λ word. word)) (enabled-renamed falling clock clock_enable enable)
      (taken-renamed to apart entry target memory address (λ word. word))
  next_word-renamed (ReadNarrow falling clock clock_enable enable target memory address shift pattern) =
      where-renamed _ _ (named_so to) _ (taken_from entry target memory address (λ word. moved_down word (atoms_value (readable entry) shift) pattern))
      (enabled-renamed falling clock clock_enable enable)
      (ap (λ s. taken_from (renamed_entry to entry) (to target) (to memory) (renamed_atoms to address) (λ word. moved_down word s pattern)) (entry-atoms to apart entry shift)
      ∙ taken-renamed to apart entry target memory address (λ word. moved_down word (atoms_value (readable entry) shift) pattern))
  next_word-renamed other = refl

  next_put-renamed : (item : Item) → next_put others (renamed_entry to entry) (renamed_item to item) ≡ option_map (put_so to) (next_put edges entry item)
  next_put-renamed (Write falling clock clock_enable enable memory address mask bits) =
      given-renamed _ _ (put_so to) _ (put_at entry memory address (atoms_value (readable entry) mask) bits) (enabled-renamed falling clock clock_enable enable)
      (put_at-renamed to apart entry memory address (atoms_value (readable (renamed_entry to entry)) (renamed_atoms to mask)) (atoms_value (readable entry) mask) bits (entry-atoms to apart entry mask))
  next_put-renamed (WriteNarrow falling clock clock_enable enable memory address pattern shift bits) =
      given-renamed _ _ (put_so to) _ (put_at entry memory address (65535 - moved_up pattern (atoms_value (readable entry) shift)) bits)
      (enabled-renamed falling clock clock_enable enable)
      (put_at-renamed to apart entry memory address (65535 - moved_up pattern (atoms_value (readable (renamed_entry to entry)) (renamed_atoms to shift))) (65535 - moved_up pattern (atoms_value (readable entry) shift)) bits
      (ap (λ s. 65535 - moved_up pattern s) (entry-atoms to apart entry shift)))
  next_put-renamed other = refl

  register-step-renamed : (registers : List (List ℕ × Bool)) (item : Item)
      → register_step others (renamed_entry to entry) (renamed_values to registers) (renamed_item to item) ≡ renamed_values to (register_step edges entry registers item)
  register-step-renamed registers item =
      ap (put_given (renamed_values to registers)) (next_bit-renamed item) ∙ put_given-renamed to apart registers (next_bit edges entry item)

  word-step-renamed : (words : List (List ℕ × ℕ)) (item : Item)
      → word_step others (renamed_entry to entry) (renamed_values to words) (renamed_item to item) ≡ renamed_values to (word_step edges entry words item)
  word-step-renamed words item =
      ap (put_given (renamed_values to words)) (next_word-renamed item) ∙ put_given-renamed to apart words (next_word edges entry item)

  memory-step-renamed : (memories : List (List ℕ × List ℕ)) (item : Item)
      → memory_step others (renamed_entry to entry) (renamed_values to memories) (renamed_item to item) ≡ renamed_values to (memory_step edges entry memories item)
  memory-step-renamed memories item =
      ap (put_given_word (renamed_values to memories)) (next_put-renamed item) ∙ put_given_word-renamed to apart memories (next_put edges entry item)

  -- after all items with an edge have taken effect
  acted-renamed : (m : Parts) (inputs : List (List ℕ × Bool)) → acted (renamed_parts to m) others (renamed_values to inputs) (renamed_entry to entry) ≡ renamed_entry to (acted m edges inputs entry)
  unfolding acted
  acted-renamed m inputs =
      let registers : List (List ℕ × Bool) = fold (register_step edges entry) entry.registers m.items in
      let words : List (List ℕ × ℕ) = fold (word_step edges entry) entry.words m.items in
      let memories : List (List ℕ × List ℕ) = fold (memory_step edges entry) entry.memories m.items in
      let other : Parts = renamed_parts to m in
      let before : Entry = renamed_entry to entry in
      ap (λ r. settled other (renamed_values to inputs) r (fold (word_step others before) before.words other.items) (fold (memory_step others before) before.memories other.items))
      (fold-renamed (renamed_values to) (renamed_item to) (register_step others before) (register_step edges entry) register-step-renamed entry.registers m.items)
      ∙ ap₂ (λ w k. settled other (renamed_values to inputs) (renamed_values to registers) w k)
      (fold-renamed (renamed_values to) (renamed_item to) (word_step others before) (word_step edges entry) word-step-renamed entry.words m.items)
      (fold-renamed (renamed_values to) (renamed_item to) (memory_step others before) (memory_step edges entry) memory-step-renamed entry.memories m.items)
      ∙ settled-renamed to apart m inputs registers words memories

-- ---- waves

-- a clock has its new name
abbrev clock_so : (List ℕ → List ℕ) → Bool × List ℕ → Bool × List ℕ
clock_so to clock = (clock.0, to clock.1)

clock-renamed : (to : List ℕ → List ℕ) (item : Item) → clock_of (renamed_item to item) ≡ option_map (clock_so to) (clock_of item)
clock-renamed to (Start memory k word) = refl
clock-renamed to other = refl

-- whether an item has its edge
module _ (to : List ℕ → List ℕ) (others edges : Edges) (alike : EdgesRenamed to others edges) where
  at-edge : (clock : Option (Bool × List ℕ)) → is_at_edge others (option_map (clock_so to) clock) ≡ is_at_edge edges clock
  at-edge (Some clock) = alike clock.0 clock.1
  at-edge None = refl

  any-edge : (items : List Item) → list_any (has_its_edge others) (map (renamed_item to) items) ≡ list_any (has_its_edge edges) items
  any-edge [] = refl
  any-edge (item ∷ items) = ap₂ (λ a b. a || b) (ap (is_at_edge others) (clock-renamed to item) ∙ at-edge (clock_of item)) (any-edge items)

-- whether its clock is a register
register-clock : (to : List ℕ → List ℕ) → KeepsApart to → (m : Parts) (clock : Option (Bool × List ℕ)) → is_register_of (renamed_parts to m) (option_map (clock_so to) clock) ≡ is_register_of m clock
register-clock to apart m (Some clock) =
    ap (λ entries. is_some (value_in entries (to clock.1))) (flat_map-renamed to (renamed_item to) register_start (register-start-renamed to) m.items)
    ∙ ap is_some (value_in-renamed to apart (flat_map register_start m.items) clock.1)
register-clock to apart m None = refl

on-register : (to : List ℕ → List ℕ) → KeepsApart to → (m : Parts) (item : Item) → is_on_register (renamed_parts to m) (renamed_item to item) ≡ is_on_register m item
on-register to apart m item = ap (is_register_of (renamed_parts to m)) (clock-renamed to item) ∙ register-clock to apart m (clock_of item)

-- an event has as many waves at most
bound-renamed : (to : List ℕ → List ℕ) → KeepsApart to → (m : Parts) → wave_bound (renamed_parts to m) ≡ wave_bound m
bound-renamed to apart m = count-renamed (renamed_item to) (is_on_register (renamed_parts to m)) (is_on_register m) (on-register to apart m) m.items

-- after the waves
waved-renamed : (to : List ℕ → List ℕ) → KeepsApart to → (m : Parts) (most : ℕ) (before after : Entry)
    → waved (renamed_parts to m) most (renamed_entry to before) (renamed_entry to after) ≡ renamed_entry to (waved m most before after)
unfolding waved
waved-renamed to apart m zero before after = refl
waved-renamed to apart m (suc most) before after =
    let edges : Edges = edges_between before after in
    let others : Edges = edges_between (renamed_entry to before) (renamed_entry to after) in
    let alike : EdgesRenamed to others edges = wave-renamed to apart before after in
    let next : Entry = acted m edges after.inputs after in
    ap₂ (λ b last. cond b last (renamed_entry to after)) (any-edge to others edges alike m.items)
    (ap (waved (renamed_parts to m) most (renamed_entry to after)) (acted-renamed to apart others edges alike after m after.inputs) ∙ waved-renamed to apart m most after next)
    ∙ (elim (list_any (has_its_edge edges) m.items) as (λ b. cond b (renamed_entry to (waved m most after next)) (renamed_entry to after) ≡ renamed_entry to (cond b (waved m most after next) after)) [ true ↦ refl | false ↦ refl ])

-- ---- an event as a whole

-- after an event that changes its input
pub changed-renamed : (to : List ℕ → List ℕ) → KeepsApart to → (m : Parts) (entry : Entry) (event : Event) → changed (renamed_parts to m) (renamed_entry to entry) event ≡ renamed_entry to (changed m entry event)
unfolding changed
changed-renamed to apart m entry event =
    let inputs : List (List ℕ × Bool) = with_input entry.inputs event.pin event.bit in
    let edges : Edges = edges_by m event in
    let other : Parts = renamed_parts to m in
    let before : Entry = renamed_entry to entry in
    ap₂ (λ most after. waved other most before after) (bound-renamed to apart m)
    (ap (λ list. acted other (edges_by other event) list before) (with_input-renamed to entry.inputs event.pin event.bit)
    ∙ acted-renamed to apart (edges_by other event) edges (event-renamed to apart m event) entry m inputs)
    ∙ waved-renamed to apart m (wave_bound m) entry (acted m edges inputs entry)

-- after an event
pub followed-renamed : (to : List ℕ → List ℕ) → KeepsApart to → (m : Parts) (entry : Entry) (event : Event) → followed (renamed_parts to m) (renamed_entry to entry) event ≡ renamed_entry to (followed m entry event)
unfolding followed
followed-renamed to apart m entry event =
    ap₂ (λ bit after. cond (is_same_bit event.bit bit) (renamed_entry to entry) after) (ap (λ values. get_or values event.pin false) (values-renamed to entry.inputs)) (changed-renamed to apart m entry event)
    ∙ (elim (is_same_bit event.bit (input_bit entry event.pin)) as (λ b. cond b (renamed_entry to entry) (renamed_entry to (changed m entry event)) ≡ renamed_entry to (cond b entry (changed m entry event))) [ true ↦ refl | false ↦ refl ])

-- ---- a run

pub run_from-renamed : (to : List ℕ → List ℕ) → KeepsApart to → (m : Parts) (entry : Entry) (events : List Event) → run_from (renamed_parts to m) (renamed_entry to entry) events ≡ map (renamed_entry to) (run_from m entry events)
unfolding run_from
run_from-renamed to apart m entry [] = refl
run_from-renamed to apart m entry (event ∷ events) =
    ap (λ rest. renamed_entry to entry ∷ rest)
    (ap (λ next. run_from (renamed_parts to m) next events) (followed-renamed to apart m entry event) ∙ run_from-renamed to apart m (followed m entry event) events)

-- the run over any events
pub run-renamed : (to : List ℕ → List ℕ) → KeepsApart to → (m : Parts) (events : List Event) → module_run (renamed_parts to m) events ≡ map (renamed_entry to) (module_run m events)
unfolding module_run
run-renamed to apart m events =
    ap (λ entry. run_from (renamed_parts to m) entry events) (start-renamed to apart m) ∙ run_from-renamed to apart m (start m) events
