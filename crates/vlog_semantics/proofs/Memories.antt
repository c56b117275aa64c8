-- Reads and writes of memories over slots do what the items of the module do.
use Rattle.std.proofs.Common.{◌≡◌, ℕ, ◌-◌, Bool, true, false, cond, List, [], Option, Some, None, ap, ap₂, fold, get_or, refl, set, sym, ◌∙◌}
use Rattle.std.specs.Prelude.{map, unwrap_or, ◌&&◌}
use Rattle.std.specs.List.{filter_map}
use Rattle.std.specs.Option.{option_map, option_map_or, option_to_list}
use Rattle.std.proofs.lemmas.List.Folds.{fold-map}
use Rattle.vlog_module.specs.declared.atoms.Atom.{Atom}
use Rattle.vlog_module.specs.declared.item.Item.{Item}
use Rattle.vlog_module.specs.declared.item.Item.TheVariants.{Read as ReadItem, ReadNarrow as ReadNarrowItem, Write as WriteItem, WriteNarrow as WriteNarrowItem}
use Rattle.vlog_module.specs.Maps.{value_in}
use Rattle.vlog_semantics.specs.declared.plan.Operand.{Operand}
use Rattle.vlog_semantics.specs.declared.plan.Taken.{Taken}
use Rattle.vlog_semantics.specs.declared.plan.Taken.TheVariants.{Word, Narrow}
use Rattle.vlog_semantics.specs.declared.plan.Kept.{Kept}
use Rattle.vlog_semantics.specs.declared.plan.Kept.TheVariants.{Masked, Outside}
use Rattle.vlog_semantics.specs.declared.plan.Write.{Write}
use Rattle.vlog_semantics.specs.declared.plan.Written.{Written}
use Rattle.vlog_semantics.specs.Entries.{Entry}
use Rattle.vlog_semantics.specs.Named.{names_of, values_of}
use Rattle.vlog_semantics.specs.Numbered.{numbered}
use Rattle.vlog_semantics.specs.Plans.{Places, clock_slot, field_of, of_two, operand_of, operands_of, port_of, read_of, read_over, write_of, write_over}
use Rattle.vlog_semantics.specs.Run.{Edges, Put, is_enabled, masked, memory_step, moved_down, moved_up, next_put, next_word, put_at, put_given, put_given_word, put_word, readable, word_step, words_of}
use Rattle.vlog_semantics.specs.Steps.{SlotEdges, kept_mask, operand_value, operands_value, put_written, read_slot, set_word, taken_word, word_in, written_by}
use Rattle.vlog_semantics.specs.Values.{Readable, atom_value, atoms_value}
use Rattle.vlog_semantics.proofs.Atoms.{number-at, operand-at, slots_of}
use Rattle.vlog_semantics.proofs.Clocked.{EdgesAgree, at_slot, entry_places}
use Rattle.vlog_semantics.proofs.Lookups.{names-put, put-slots, value_in-slots}
use Rattle.vlog_semantics.proofs.Stepping.{cond-same, fold-keeps, fold-same, names-given}

-- ---- reads

-- what is taken of a word of a memory, put in the slot of a register
abbrev read_into : List ℕ → List (List ℕ) → Option ℕ → Option ℕ → ℕ → (ℕ → ℕ) → List ℕ
read_into next memories target memory address take_it =
    option_map_or (λ place. option_map_or (λ slot. set next slot (take_it (word_in memories place address))) target next) memory next

read-slots : (slots : SlotEdges) (bits : List Bool) (words : List ℕ) (memories : List (List ℕ)) (next : List ℕ) (falling : Bool) (pin target memory : Option ℕ) (clock_enable enable : Operand) (address : List Operand) (taken : Taken)
    → fold (read_slot slots bits words memories) next (option_to_list (read_over (of_two pin memory (λ p place. record {
      edge = record { clock = p; falling = falling };
      clock_enable = clock_enable;
      enable = enable;
      memory = place;
      address = address;
    })) target taken))
    ≡ cond (at_slot slots falling pin && operand_value bits words clock_enable && operand_value bits words enable)
    (read_into next memories target memory (operands_value bits words address) (taken_word bits words taken)) next
read-slots slots bits words memories next falling None target memory clock_enable enable address taken = refl
read-slots slots bits words memories next falling (Some pin) None None clock_enable enable address taken = cond-same _ next
read-slots slots bits words memories next falling (Some pin) None (Some place) clock_enable enable address taken = cond-same _ next
read-slots slots bits words memories next falling (Some pin) (Some slot) None clock_enable enable address taken = cond-same _ next
read-slots slots bits words memories next falling (Some pin) (Some slot) (Some place) clock_enable enable address taken = refl

-- what a read assigns, if it acts and there is a memory
abbrev given_read : Bool → List ℕ → Option (List ℕ) → ℕ → (ℕ → ℕ) → Option (List ℕ × ℕ)
given_read acts target memory address take_it = cond acts (option_map (λ words. (target, take_it (get_or words address 0))) memory) None

-- what is read, by slots
read-placed : (memories : List (List ℕ × List ℕ)) (words : List (List ℕ × ℕ)) (target memory : List ℕ) (address : ℕ) (take_it : ℕ → ℕ)
    → read_into (values_of words) (values_of memories) (slots_of words target) (slots_of memories memory) address take_it
    ≡ values_of (put_given words (given_read true target (value_in memories memory) address take_it))
read-placed memories words target memory address take_it =
    let by_slot : (found : Option ℕ) → read_into (values_of words) (values_of memories) (slots_of words target) found address take_it
    ≡ values_of (put_given words (given_read true target (option_map (λ slot. get_or (values_of memories) slot []) found) address take_it)) =
    λ found. elim found as (λ f. read_into (values_of words) (values_of memories) (slots_of words target) f address take_it
    ≡ values_of (put_given words (given_read true target (option_map (λ slot. get_or (values_of memories) slot []) f) address take_it))) [
      | Some place ↦ sym (put-slots words target (take_it (word_in (values_of memories) place address)))
      | None ↦ refl
    ] in
    by_slot (slots_of memories memory) ∙ ap (λ found. values_of (put_given words (given_read true target found address take_it))) (sym (value_in-slots memories memory []))

read-out : (acts : Bool) (words : List (List ℕ × ℕ)) (target : List ℕ) (memory : Option (List ℕ)) (address : ℕ) (take_it : ℕ → ℕ)
    → cond acts (values_of (put_given words (given_read true target memory address take_it))) (values_of words) ≡ values_of (put_given words (given_read acts target memory address take_it))
read-out true words target memory address take_it = refl
read-out false words target memory address take_it = refl

-- a read that takes this of a word
read-acts : (entry : Entry) (edges : Edges) (slots : SlotEdges) (words : List (List ℕ × ℕ)) (falling : Bool) (clock : List ℕ) (clock_enable enable : Atom) (target memory : List ℕ) (address : List Atom) (taken : Taken) (take_it : ℕ → ℕ)
    → EdgesAgree entry edges slots → names_of words ≡ names_of entry.words
    → taken_word (values_of (readable entry).bits) (values_of entry.words) taken ≡ take_it
    → fold (read_slot slots (values_of (readable entry).bits) (values_of entry.words) (values_of entry.memories)) (values_of words)
    (option_to_list (read_over (port_of (entry_places entry) falling clock clock_enable enable memory address) ((entry_places entry).words target) taken))
    ≡ values_of (put_given words (given_read (is_enabled edges entry falling clock clock_enable enable) target (value_in entry.memories memory) (atoms_value (readable entry) address) take_it))
read-acts entry edges slots words falling clock clock_enable enable target memory address taken take_it agree named takes =
    let from : Readable = readable entry in
    let bits : List Bool = values_of from.bits in
    let at : Places = entry_places entry in
    let next : List ℕ = values_of words in
    let before : List (List ℕ) = values_of entry.memories in
    let acts : Bool = is_enabled edges entry falling clock clock_enable enable in
    let clocked : at_slot slots falling (clock_slot at clock) ≡ edges falling clock = agree falling clock in
    let number : ℕ = operands_value bits (values_of entry.words) (operands_of at.bits at.words address) in
    let taking : ℕ → ℕ = taken_word bits (values_of entry.words) taken in
    let placed : read_into next before (at.words target) (at.memories memory) (atoms_value from address) take_it
    ≡ values_of (put_given words (given_read true target (value_in entry.memories memory) (atoms_value from address) take_it)) =
    ap (λ names. read_into next before (value_in (numbered 0 names) target) (at.memories memory) (atoms_value from address) take_it) (sym named)
    ∙ read-placed entry.memories words target memory (atoms_value from address) take_it in
    read-slots slots bits (values_of entry.words) before next falling (clock_slot at clock) (at.words target) (at.memories memory) (operand_of at.bits at.words clock_enable) (operand_of at.bits at.words enable) (operands_of at.bits at.words address) taken
    ∙ ap₂ (λ c e. cond (c && e && operand_value bits (values_of entry.words) (operand_of at.bits at.words enable)) (read_into next before (at.words target) (at.memories memory) number taking) next) clocked (operand-at from clock_enable)
    ∙ ap₂ (λ e n. cond (edges falling clock && atom_value from clock_enable && e) (read_into next before (at.words target) (at.memories memory) n taking) next) (operand-at from enable) (number-at from address)
    ∙ ap (λ t. cond acts (read_into next before (at.words target) (at.memories memory) (atoms_value from address) t) next) takes
    ∙ ap (λ list. cond acts list next) placed
    ∙ read-out acts words target (value_in entry.memories memory) (atoms_value from address) take_it

read-step : (entry : Entry) (edges : Edges) (slots : SlotEdges) (words : List (List ℕ × ℕ)) (item : Item)
    → EdgesAgree entry edges slots → names_of words ≡ names_of entry.words
    → fold (read_slot slots (values_of (readable entry).bits) (values_of entry.words) (values_of entry.memories)) (values_of words) (option_to_list (read_of (entry_places entry) item))
    ≡ values_of (word_step edges entry words item)
read-step entry edges slots words (ReadItem falling clock clock_enable enable target memory address) agree named =
    read-acts entry edges slots words falling clock clock_enable enable target memory address Word (λ word. word) agree named refl
read-step entry edges slots words (ReadNarrowItem falling clock clock_enable enable target memory address shift pattern) agree named =
    let at : Places = entry_places entry in
    read-acts entry edges slots words falling clock clock_enable enable target memory address (Narrow (field_of at shift pattern)) (λ word. moved_down word (atoms_value (readable entry) shift) pattern)
    agree named (ap (λ n. λ (word : ℕ). moved_down word n pattern) (number-at (readable entry) shift))
read-step entry edges slots words other agree named = refl

-- the registers of 16 bits after a step
pub reads-same : (entry : Entry) (edges : Edges) (slots : SlotEdges) (words : List (List ℕ × ℕ)) (items : List Item)
    → EdgesAgree entry edges slots → names_of words ≡ names_of entry.words
    → fold (read_slot slots (values_of (readable entry).bits) (values_of entry.words) (values_of entry.memories)) (values_of words) (filter_map (read_of (entry_places entry)) items)
    ≡ values_of (fold (word_step edges entry) words items)
reads-same entry edges slots words items agree named =
    fold-same (read_slot slots (values_of (readable entry).bits) (values_of entry.words) (values_of entry.memories)) (read_of (entry_places entry)) (λ (next : List (List ℕ × ℕ)). values_of next) (word_step edges entry)
    (λ next. names_of next ≡ names_of entry.words)
    (λ next item kept. names-given next (next_word edges entry item) ∙ kept)
    (λ next item kept. read-step entry edges slots next item agree kept)
    words items named

pub names-reads : (entry : Entry) (edges : Edges) (words : List (List ℕ × ℕ)) (items : List Item) → names_of (fold (word_step edges entry) words items) ≡ names_of words
names-reads entry edges words items =
    fold-keeps (word_step edges entry) (λ next. names_of next ≡ names_of words)
    (λ next item kept. names-given next (next_word edges entry item) ∙ kept) words items refl

-- ---- writes

names-given_word : (memories : List (List ℕ × List ℕ)) (given : Option Put) → names_of (put_given_word memories given) ≡ names_of memories
names-given_word memories (Some given) = names-put memories given.memory (set (words_of memories given.memory) given.address given.word)
names-given_word memories None = refl

given_word-out : (acts : Bool) (memories : List (List ℕ × List ℕ)) (given : Put)
    → cond acts (values_of (put_word memories given.memory given.address given.word)) (values_of memories) ≡ values_of (put_given_word memories (cond acts (Some given) None))
given_word-out true memories given = refl
given_word-out false memories given = refl

-- what a write does over slots
abbrev pub write_slot : SlotEdges → List Bool → List ℕ → List (List ℕ) → List (List ℕ) → Write → List (List ℕ)
write_slot slots bits words before next write = put_written next (written_by slots bits words before write)

put-out : (acts : Bool) (next : List (List ℕ)) (written : Written) → put_written next (cond acts (Some written) None) ≡ cond acts (put_written next (Some written)) next
put-out true next written = refl
put-out false next written = refl

-- a word of 16 bits, put in the slot of a memory
abbrev write_into : List (List ℕ) → List (List ℕ) → Option ℕ → ℕ → ℕ → ℕ → List (List ℕ)
write_into next before memory address mask bits =
    option_map_or (λ place. set_word next place address (masked (word_in before place address) mask bits)) memory next

write-slots : (slots : SlotEdges) (bits : List Bool) (words : List ℕ) (before next : List (List ℕ)) (falling : Bool) (pin memory : Option ℕ) (clock_enable enable : Operand) (address : List Operand) (kept : Kept) (at : Places) (data_bits : List Atom)
    → fold (write_slot slots bits words before) next (option_to_list (write_over at (of_two pin memory (λ p place. record {
      edge = record { clock = p; falling = falling };
      clock_enable = clock_enable;
      enable = enable;
      memory = place;
      address = address;
    })) kept data_bits))
    ≡ cond (at_slot slots falling pin && operand_value bits words clock_enable && operand_value bits words enable)
    (write_into next before memory (operands_value bits words address) (kept_mask bits words kept) (operands_value bits words (operands_of at.bits at.words data_bits))) next
write-slots slots bits words before next falling None memory clock_enable enable address kept at data_bits = refl
write-slots slots bits words before next falling (Some pin) None clock_enable enable address kept at data_bits = cond-same _ next
write-slots slots bits words before next falling (Some pin) (Some place) clock_enable enable address kept at data_bits = put-out _ next _

-- the word that is written, by slots
write-placed : (before memories : List (List ℕ × List ℕ)) (memory : List ℕ) (address mask bits : ℕ) → names_of memories ≡ names_of before
    → write_into (values_of memories) (values_of before) (slots_of before memory) address mask bits
    ≡ values_of (put_word memories memory address (masked (get_or (words_of before memory) address 0) mask bits))
write-placed before memories memory address mask bits named =
    let old : value_in before memory ≡ option_map (λ slot. get_or (values_of before) slot []) (slots_of before memory) = value_in-slots before memory [] in
    let here : value_in memories memory ≡ option_map (λ slot. get_or (values_of memories) slot []) (slots_of before memory) =
    value_in-slots memories memory [] ∙ ap (λ names. option_map (λ slot. get_or (values_of memories) slot []) (value_in (numbered 0 names) memory)) named in
    let by_slot : (found : Option ℕ) → write_into (values_of memories) (values_of before) found address mask bits
    ≡ option_map_or (λ slot. set (values_of memories) slot (set (unwrap_or (option_map (λ s. get_or (values_of memories) s []) found) []) address
    (masked (get_or (unwrap_or (option_map (λ s. get_or (values_of before) s []) found) []) address 0) mask bits))) found (values_of memories) =
    λ found. elim found as (λ f. write_into (values_of memories) (values_of before) f address mask bits
    ≡ option_map_or (λ slot. set (values_of memories) slot (set (unwrap_or (option_map (λ s. get_or (values_of memories) s []) f) []) address
    (masked (get_or (unwrap_or (option_map (λ s. get_or (values_of before) s []) f) []) address 0) mask bits))) f (values_of memories)) [
      | Some place ↦ refl
      | None ↦ refl
    ] in
    by_slot (slots_of before memory)
    ∙ ap₂ (λ now was. option_map_or (λ slot. set (values_of memories) slot (set (unwrap_or now []) address (masked (get_or (unwrap_or was []) address 0) mask bits))) (slots_of before memory) (values_of memories)) (sym here) (sym old)
    ∙ ap (λ names. option_map_or (λ slot. set (values_of memories) slot (set (words_of memories memory) address (masked (get_or (words_of before memory) address 0) mask bits))) (value_in (numbered 0 names) memory) (values_of memories)) (sym named)
    ∙ sym (put-slots memories memory (set (words_of memories memory) address (masked (get_or (words_of before memory) address 0) mask bits)))

-- a write that keeps the bits of this mask
write-acts : (entry : Entry) (edges : Edges) (slots : SlotEdges) (memories : List (List ℕ × List ℕ)) (falling : Bool) (clock : List ℕ) (clock_enable enable : Atom) (memory : List ℕ) (address : List Atom) (kept : Kept) (data_bits : List Atom) (mask : ℕ)
    → EdgesAgree entry edges slots → names_of memories ≡ names_of entry.memories
    → kept_mask (values_of (readable entry).bits) (values_of entry.words) kept ≡ mask
    → fold (write_slot slots (values_of (readable entry).bits) (values_of entry.words) (values_of entry.memories)) (values_of memories)
    (option_to_list (write_over (entry_places entry) (port_of (entry_places entry) falling clock clock_enable enable memory address) kept data_bits))
    ≡ values_of (put_given_word memories (cond (is_enabled edges entry falling clock clock_enable enable) (Some (put_at entry memory address mask data_bits)) None))
write-acts entry edges slots memories falling clock clock_enable enable memory address kept data_bits mask agree named keeps =
    let from : Readable = readable entry in
    let bits : List Bool = values_of from.bits in
    let words : List ℕ = values_of entry.words in
    let at : Places = entry_places entry in
    let next : List (List ℕ) = values_of memories in
    let before : List (List ℕ) = values_of entry.memories in
    let acts : Bool = is_enabled edges entry falling clock clock_enable enable in
    let clocked : at_slot slots falling (clock_slot at clock) ≡ edges falling clock = agree falling clock in
    let a : ℕ = operands_value bits words (operands_of at.bits at.words address) in
    let k : ℕ = kept_mask bits words kept in
    let d : ℕ = operands_value bits words (operands_of at.bits at.words data_bits) in
    write-slots slots bits words before next falling (clock_slot at clock) (at.memories memory) (operand_of at.bits at.words clock_enable) (operand_of at.bits at.words enable) (operands_of at.bits at.words address) kept at data_bits
    ∙ ap₂ (λ c e. cond (c && e && operand_value bits words (operand_of at.bits at.words enable)) (write_into next before (at.memories memory) a k d) next) clocked (operand-at from clock_enable)
    ∙ ap₂ (λ e n. cond (edges falling clock && atom_value from clock_enable && e) (write_into next before (at.memories memory) n k d) next) (operand-at from enable) (number-at from address)
    ∙ ap₂ (λ n v. cond acts (write_into next before (at.memories memory) (atoms_value from address) n v) next) keeps (number-at from data_bits)
    ∙ ap (λ list. cond acts list next) (write-placed entry.memories memories memory (atoms_value from address) mask (atoms_value from data_bits) named)
    ∙ given_word-out acts memories (put_at entry memory address mask data_bits)

write-step : (entry : Entry) (edges : Edges) (slots : SlotEdges) (memories : List (List ℕ × List ℕ)) (item : Item)
    → EdgesAgree entry edges slots → names_of memories ≡ names_of entry.memories
    → fold (write_slot slots (values_of (readable entry).bits) (values_of entry.words) (values_of entry.memories)) (values_of memories) (option_to_list (write_of (entry_places entry) item))
    ≡ values_of (memory_step edges entry memories item)
write-step entry edges slots memories (WriteItem falling clock clock_enable enable memory address mask data_bits) agree named =
    let at : Places = entry_places entry in
    write-acts entry edges slots memories falling clock clock_enable enable memory address (Masked (operands_of at.bits at.words mask)) data_bits (atoms_value (readable entry) mask)
    agree named (number-at (readable entry) mask)
write-step entry edges slots memories (WriteNarrowItem falling clock clock_enable enable memory address pattern shift data_bits) agree named =
    let at : Places = entry_places entry in
    write-acts entry edges slots memories falling clock clock_enable enable memory address (Outside (field_of at shift pattern)) data_bits (65535 - moved_up pattern (atoms_value (readable entry) shift))
    agree named (ap (λ n. 65535 - moved_up pattern n) (number-at (readable entry) shift))
write-step entry edges slots memories other agree named = refl

-- the memories after a step
pub writes-same : (entry : Entry) (edges : Edges) (slots : SlotEdges) (memories : List (List ℕ × List ℕ)) (items : List Item)
    → EdgesAgree entry edges slots → names_of memories ≡ names_of entry.memories
    → fold put_written (values_of memories) (map (written_by slots (values_of (readable entry).bits) (values_of entry.words) (values_of entry.memories)) (filter_map (write_of (entry_places entry)) items))
    ≡ values_of (fold (memory_step edges entry) memories items)
writes-same entry edges slots memories items agree named =
    let written : Write → Option Written = written_by slots (values_of (readable entry).bits) (values_of entry.words) (values_of entry.memories) in
    fold-map put_written written (values_of memories) (filter_map (write_of (entry_places entry)) items)
    ∙ fold-same (write_slot slots (values_of (readable entry).bits) (values_of entry.words) (values_of entry.memories)) (write_of (entry_places entry)) (λ (next : List (List ℕ × List ℕ)). values_of next) (memory_step edges entry)
    (λ next. names_of next ≡ names_of entry.memories)
    (λ next item kept. names-given_word next (next_put edges entry item) ∙ kept)
    (λ next item kept. write-step entry edges slots next item agree kept)
    memories items named

pub names-writes : (entry : Entry) (edges : Edges) (memories : List (List ℕ × List ℕ)) (items : List Item) → names_of (fold (memory_step edges entry) memories items) ≡ names_of memories
names-writes entry edges memories items =
    fold-keeps (memory_step edges entry) (λ next. names_of next ≡ names_of memories)
    (λ next item kept. names-given_word next (next_put edges entry item) ∙ kept) memories items refl
