-- The names of outputs and registers, which no event changes.
use Rattle.std.proofs.Common.{◌≡◌, ◌∙◌, ℕ, zero, suc, Bool, true, false, List, [], ◌∷◌, ◌++◌, fold, length, refl, sym, arith}
use Rattle.std.specs.Prelude.{flat_map}
use Rattle.std.specs.List.{list_any}
use Rattle.std.proofs.lemmas.Bool.{cond_both}
use Rattle.vlog_module.specs.declared.item.Item.{Item}
use Rattle.vlog_module.specs.declared.item.Item.TheVariants.{Register, Word, Memory, Wire, Assign, FlipFlop, AsyncFlipFlop, AsyncReset, Read, ReadNarrow, Write, WriteNarrow, Start}
use Rattle.vlog_module.specs.Parts.{Parts}
use Rattle.vlog_semantics.specs.declared.event.Event.{Event}
use Rattle.vlog_semantics.specs.Entries.{Entry}
use Rattle.vlog_semantics.specs.Named.{names_of, values_of}
use Rattle.vlog_semantics.specs.Run.{Edges, acted, changed, edges_between, edges_by, followed, has_its_edge, input_bit, is_same_bit, next_bit, next_word, output_start, output_step, register_start, register_step, settled, start, wave_bound, waved, wire_step, with_input, word_start, word_step}
use Rattle.vlog_semantics.specs.Values.{Readable, atom_value}
use Rattle.vlog_semantics.specs.ModuleSlots.{register_names, word_names}
use Rattle.vlog_semantics.proofs.Lookups.{names-put}
use Rattle.vlog_semantics.proofs.Settling.{names-rests}
use Rattle.vlog_semantics.proofs.Stepping.{names-given}
use Rattle.vlog_run.specs.Text.{entry_line}
use Rattle.vlog_run.proofs.Reading.{values-named}
use Rattle.vlog_run.proofs.Texts.{length-line, length-registers}
use Rattle.long_runs.specs.inside.Values.{HasNames}

-- ---- a step

names-output : (from : Readable) (outputs : List (List ℕ × Bool)) (item : Item) → names_of (output_step from outputs item) ≡ names_of outputs
names-output from outputs (Assign name value) = names-put outputs name (atom_value from value)
names-output from outputs (Register name start) = refl
names-output from outputs (Word name start) = refl
names-output from outputs (Memory name) = refl
names-output from outputs (Wire name right) = refl
names-output from outputs (FlipFlop falling clock enable reset set target lut) = refl
names-output from outputs (AsyncFlipFlop falling clock reset set target enable lut) = refl
names-output from outputs (AsyncReset reset set target) = refl
names-output from outputs (Read falling clock clock_enable enable target memory address) = refl
names-output from outputs (ReadNarrow falling clock clock_enable enable target memory address shift pattern) = refl
names-output from outputs (Write falling clock clock_enable enable memory address mask bits) = refl
names-output from outputs (WriteNarrow falling clock clock_enable enable memory address pattern shift bits) = refl
names-output from outputs (Start memory k word) = refl

names-outputs : (from : Readable) (outputs : List (List ℕ × Bool)) (items : List Item) → names_of (fold (output_step from) outputs items) ≡ names_of outputs
names-outputs from outputs [] = refl
names-outputs from outputs (item ∷ items) = names-outputs from (output_step from outputs item) items ∙ names-output from outputs item

names-bits : (edges : Edges) (before : Entry) (registers : List (List ℕ × Bool)) (items : List Item) → names_of (fold (register_step edges before) registers items) ≡ names_of registers
names-bits edges before registers [] = refl
names-bits edges before registers (item ∷ items) =
    names-bits edges before (register_step edges before registers item) items ∙ names-given registers (next_bit edges before item)

names-words : (edges : Edges) (before : Entry) (words : List (List ℕ × ℕ)) (items : List Item) → names_of (fold (word_step edges before) words items) ≡ names_of words
names-words edges before words [] = refl
names-words edges before words (item ∷ items) =
    names-words edges before (word_step edges before words item) items ∙ names-given words (next_word edges before item)

-- ---- entries

settled-names : (m : Parts) (inputs registers : List (List ℕ × Bool)) (words : List (List ℕ × ℕ)) (memories : List (List ℕ × List ℕ))
    → names_of registers ≡ register_names m.items → names_of words ≡ word_names m.items → HasNames m (settled m inputs registers words memories)
unfolding settled
settled-names m inputs registers words memories bits sixteen =
    let wires : List (List ℕ × Bool) = fold (wire_step (inputs ++ registers) words) [] m.items in
    let from : Readable = record { bits = inputs ++ registers ++ wires; words = words } in
    record { outputs = names-outputs _ (flat_map output_start m.ports) m.items; bits = names-rests from registers m.items ∙ bits; words = sixteen }

acted-names : (m : Parts) (edges : Edges) (inputs : List (List ℕ × Bool)) (before : Entry) → HasNames m before → HasNames m (acted m edges inputs before)
unfolding acted
acted-names m edges inputs before names =
    settled-names m inputs (fold (register_step edges before) before.registers m.items) (fold (word_step edges before) before.words m.items) _
    (names-bits edges before before.registers m.items ∙ names.bits) (names-words edges before before.words m.items ∙ names.words)

waved-names : (m : Parts) (most : ℕ) (before after : Entry) → HasNames m after → HasNames m (waved m most before after)
unfolding waved
waved-names m zero before after names = names
waved-names m (suc more) before after names =
    let next = acted m (edges_between before after) after.inputs after in
    cond_both (list_any (has_its_edge (edges_between before after)) m.items) (waved m more after next) after (HasNames m)
    (λ some. waved-names m more after next (acted-names m (edges_between before after) after.inputs after names)) (λ none. names)

changed-names : (m : Parts) (before : Entry) (event : Event) → HasNames m before → HasNames m (changed m before event)
unfolding changed
changed-names m before event names =
    waved-names m (wave_bound m) before (acted m (edges_by m event) (with_input before.inputs event.pin event.bit) before)
    (acted-names m (edges_by m event) (with_input before.inputs event.pin event.bit) before names)

pub followed-names : (m : Parts) (before : Entry) (event : Event) → HasNames m before → HasNames m (followed m before event)
unfolding followed
followed-names m before event names =
    cond_both (is_same_bit event.bit (input_bit before event.pin)) before (changed m before event) (HasNames m) (λ same. names) (λ other. changed-names m before event names)

pub start-names : (m : Parts) → HasNames m (start m)
unfolding start
start-names m = settled-names m _ (flat_map register_start m.items) (flat_map word_start m.items) _ refl refl

-- as many outputs
pub same-outputs : (m : Parts) (one other : Entry) → HasNames m one → HasNames m other → length (values_of one.outputs) ≡ length (values_of other.outputs)
same-outputs m one other first second =
    values-named one.outputs (names_of (flat_map output_start m.ports)) first.outputs ∙ sym (values-named other.outputs (names_of (flat_map output_start m.ports)) second.outputs)

pub same-registers : (m : Parts) (one other : Entry) → HasNames m one → HasNames m other → length (values_of one.registers) ≡ length (values_of other.registers)
same-registers m one other first second = values-named one.registers _ first.bits ∙ sym (values-named other.registers _ second.bits)

pub same-words : (m : Parts) (one other : Entry) → HasNames m one → HasNames m other → length (values_of one.words) ≡ length (values_of other.words)
same-words m one other first second = values-named one.words _ first.words ∙ sym (values-named other.words _ second.words)

-- the lines of entries of a module are of one length
pub same-length : (m : Parts) (registers : Bool) (one other : Entry) → HasNames m one → HasNames m other → length (entry_line registers one) ≡ length (entry_line registers other)
same-length m registers one other first second =
    let bits = same-outputs m one other first second in
    by_flag registers bits
  where
    by_flag : (registers : Bool) → length (values_of one.outputs) ≡ length (values_of other.outputs) → length (entry_line registers one) ≡ length (entry_line registers other)
    by_flag true bits =
        omega (arith, bits, length-line true one, length-line true other, length-registers one, length-registers other, same-registers m one other first second, same-words m one other first second)
    by_flag false bits = omega (arith, bits, length-line false one, length-line false other)
