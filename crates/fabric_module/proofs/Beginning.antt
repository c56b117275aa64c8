-- The start of a written module: registers are 0, and memories have the words of the image.
use Rattle.std.proofs.Common.{◌≡◌, ◌≢◌, ℕ, zero, suc, ◌<◌, ◌≤◌, Bool, false, List, [], ◌∷◌, ◌++◌, length, map, get_or, set, fold, replicate, refl, sym, ap, ◌∙◌, subst, arith, inl, inr, append_assoc, length-set, get_or-set_same, get_or-set_other, ext_get_or}
use Rattle.std.specs.Prelude.{All, flat_map, bytes_eq}
use Rattle.std.proofs.lemmas.Bool.{cases_eq}
use Rattle.std.proofs.lemmas.List.{length_push, length-map, length-replicate}
use Rattle.std.proofs.lemmas.List.Sums.{fold-append}
use Rattle.std.proofs.lemmas.List.Elements.{All-head, All-tail}
use Rattle.std.proofs.Math.Seq.{get_or-append_seam}
use Rattle.shared_lemmas.proofs.Bytes.{bytes_eq-same}
use Rattle.index_search.specs.Places.{gathered_below}
use Rattle.bit_plane.specs.BitList.{word_of}
use Rattle.vlog_module.specs.declared.item.Item.{Item}
use Rattle.vlog_module.specs.declared.item.Item.TheVariants.{Register as RegisterItem, Word, Memory, Wire, Assign, FlipFlop, AsyncFlipFlop, AsyncReset, Read, ReadNarrow, Write, WriteNarrow, Start}
use Rattle.vlog_semantics.specs.Run.{input_start, register_start, word_start, memory_start, start_step, start}
use Rattle.fabric_model.specs.declared.register.Register.{Register}
use Rattle.fabric_model.specs.declared.ram.RamCell.{RamCell}
use Rattle.fabric_model.specs.Tiles.{each_below}
use Rattle.fabric_model.specs.Fabric.{Fabric, numbered_from, numbered, inputs_of}
use Rattle.fabric_model.proofs.Apart.{apart-numbered}
use Rattle.fabric_model.specs.Steps.{Entry, start_state, IsFirst}
use Rattle.graph_order.specs.Wiring.{IsWriteOrder}
use Rattle.fabric_model.specs.Wiring.{clocked_wiring}
use Rattle.fabric_model.proofs.OneValue.{IsWithin}
use Rattle.fabric_module.specs.Names.{input_port_name, register_name, read_name, memory_name}
use Rattle.fabric_module.specs.Written.{register_item, read_register, ram_memory, start_item, start_items, items_of, module_of}
use Rattle.fabric_module.specs.Matching.{HasValues, Matches}
use Rattle.fabric_module.proofs.Lists.{NamesDiffer, map-map, map-numbered, made-names, made-values}
use Rattle.fabric_module.proofs.Sections.{is_in, Skips, fold-section, flat_map-section, registers-section, words-section, memories-section, starts-section}
use Rattle.fabric_module.proofs.Fills.{FillsOwn, filled}
use Rattle.fabric_module.proofs.Ports.{ports_of, inputs-start}
use Rattle.fabric_module.proofs.Settled.{IsWritable, Holding, settled-matches, word-pick}

-- ---- values by places

values-from : {X A B : Type 0} (change : A → B) (d : A) (front : List A) (from : ℕ) (xs : List X) (values : List A) → length front ≡ from → length values ≡ length xs
    → map (λ (place : ℕ × X). change (get_or (front ++ values) place.0 d)) (numbered_from from xs) ≡ map change values
unfolding numbered_from
values-from change d front from [] [] size same = refl
values-from change d front from [] (value ∷ values) size same = absurd (omega arith)
values-from change d front from (x ∷ xs) [] size same = absurd (omega arith)
values-from {X} {A} {B} change d front from (x ∷ xs) (value ∷ values) size same =
    let here : get_or (front ++ value ∷ values) from d ≡ value =
    subst (λ n. get_or (front ++ value ∷ values) n d ≡ value) size (get_or-append_seam front value values d) in
    let all : (front ++ value ∷ []) ++ values ≡ front ++ value ∷ values = append_assoc front (value ∷ []) values in
    let longer : length (front ++ value ∷ []) ≡ suc from = omega (arith, length_push front value) in
    let rest = values-from change d (front ++ value ∷ []) (suc from) xs values longer (omega arith) in
    let moved : map (λ (place : ℕ × X). change (get_or (front ++ value ∷ values) place.0 d)) (numbered_from (suc from) xs) ≡ map change values =
    subst (λ list. map (λ (place : ℕ × X). change (get_or list place.0 d)) (numbered_from (suc from) xs) ≡ map change values) all rest in
    rw (here, moved) refl

-- as many values as items, each taken at its place
pub values-are : {X A B : Type 0} (change : A → B) (d : A) (xs : List X) (values : List A) → length values ≡ length xs
    → map (λ (place : ℕ × X). change (get_or values place.0 d)) (numbered xs) ≡ map change values
values-are change d xs values same = values-from change d [] 0 xs values refl same

map-constant : {X A : Type 0} (value : A) (xs : List X) → map (λ (x : X). value) xs ≡ replicate (length xs) value
map-constant value [] = refl
map-constant value (x ∷ xs) = ap (λ list. value ∷ list) (map-constant value xs)

map-replicate : {A B : Type 0} (change : A → B) (value : A) (n : ℕ) → map change (replicate n value) ≡ replicate n (change value)
map-replicate change value zero = refl
map-replicate change value (suc n) = ap (λ list. change value ∷ list) (map-replicate change value n)

-- items that start with one value
constant-holds : {X A : Type 0} (name : X → List ℕ) (value : A) (xs : List X) → HasValues (map (λ x. (name x, value)) xs) (map name xs) (replicate (length xs) value)
constant-holds name value xs = record {
  named = map-map (λ x. (name x, value)) (λ entry. entry.0) xs;
  valued = map-map (λ x. (name x, value)) (λ entry. entry.1) xs ∙ map-constant value xs;
}

-- ---- what starts

registers-start : (registers : List Register) → flat_map register_start (map register_item registers) ≡ map (λ register. (register_name register, false)) registers
registers-start [] = refl
registers-start (register ∷ registers) = ap (λ list. (register_name register, false) ∷ list) (registers-start registers)

words-start : (rams : List RamCell) → flat_map word_start (map read_register rams) ≡ map (λ ram. (read_name ram, 0)) rams
words-start [] = refl
words-start (ram ∷ rams) = ap (λ list. (read_name ram, 0) ∷ list) (words-start rams)

memories-start : (rams : List RamCell) → flat_map memory_start (map ram_memory rams) ≡ map (λ ram. (memory_name ram, replicate 256 0)) rams
memories-start [] = refl
memories-start (ram ∷ rams) = ap (λ list. (memory_name ram, replicate 256 0) ∷ list) (memories-start rams)

register-none : (item : Item) → is_in 2 item ≡ false → register_start item ≡ []
register-none (RegisterItem name start) away = absurd cc
register-none (Word name start) away = refl
register-none (Memory name) away = refl
register-none (Wire name right) away = refl
register-none (Assign name value) away = refl
register-none (FlipFlop falling clock enable reset set target lut) away = refl
register-none (AsyncFlipFlop falling clock reset set target enable lut) away = refl
register-none (AsyncReset reset set target) away = refl
register-none (Read falling clock clock_enable enable target memory address) away = refl
register-none (ReadNarrow falling clock clock_enable enable target memory address shift pattern) away = refl
register-none (Write falling clock clock_enable enable memory address mask bits) away = refl
register-none (WriteNarrow falling clock clock_enable enable memory address pattern shift bits) away = refl
register-none (Start memory k word) away = refl

word-none : (item : Item) → is_in 3 item ≡ false → word_start item ≡ []
word-none (RegisterItem name start) away = refl
word-none (Word name start) away = absurd cc
word-none (Memory name) away = refl
word-none (Wire name right) away = refl
word-none (Assign name value) away = refl
word-none (FlipFlop falling clock enable reset set target lut) away = refl
word-none (AsyncFlipFlop falling clock reset set target enable lut) away = refl
word-none (AsyncReset reset set target) away = refl
word-none (Read falling clock clock_enable enable target memory address) away = refl
word-none (ReadNarrow falling clock clock_enable enable target memory address shift pattern) away = refl
word-none (Write falling clock clock_enable enable memory address mask bits) away = refl
word-none (WriteNarrow falling clock clock_enable enable memory address pattern shift bits) away = refl
word-none (Start memory k word) away = refl

memory-none : (item : Item) → is_in 4 item ≡ false → memory_start item ≡ []
memory-none (RegisterItem name start) away = refl
memory-none (Word name start) away = refl
memory-none (Memory name) away = absurd cc
memory-none (Wire name right) away = refl
memory-none (Assign name value) away = refl
memory-none (FlipFlop falling clock enable reset set target lut) away = refl
memory-none (AsyncFlipFlop falling clock reset set target enable lut) away = refl
memory-none (AsyncReset reset set target) away = refl
memory-none (Read falling clock clock_enable enable target memory address) away = refl
memory-none (ReadNarrow falling clock clock_enable enable target memory address shift pattern) away = refl
memory-none (Write falling clock clock_enable enable memory address mask bits) away = refl
memory-none (WriteNarrow falling clock clock_enable enable memory address pattern shift bits) away = refl
memory-none (Start memory k word) away = refl

start-skips : Skips 10 start_step
start-skips (RegisterItem name start) away given = refl
start-skips (Word name start) away given = refl
start-skips (Memory name) away given = refl
start-skips (Wire name right) away given = refl
start-skips (Assign name value) away given = refl
start-skips (FlipFlop falling clock enable reset set target lut) away given = refl
start-skips (AsyncFlipFlop falling clock reset set target enable lut) away given = refl
start-skips (AsyncReset reset set target) away given = refl
start-skips (Read falling clock clock_enable enable target memory address) away given = refl
start-skips (ReadNarrow falling clock clock_enable enable target memory address shift pattern) away given = refl
start-skips (Write falling clock clock_enable enable memory address mask bits) away given = refl
start-skips (WriteNarrow falling clock clock_enable enable memory address pattern shift bits) away given = refl
start-skips (Start memory k word) away given = absurd cc

-- ---- start words

-- words, some of which are given their starts
started : ℕ → List (List Bool) → List ℕ → List ℕ
started zero words old = old
started (suc n) words old = set (started n words old) n (word_of (get_or words n []))

started-length : (n : ℕ) (words : List (List Bool)) (old : List ℕ) → length (started n words old) ≡ length old
unfolding started
started-length zero words old = refl
started-length (suc n) words old = length-set (started n words old) n (word_of (get_or words n [])) ∙ started-length n words old

started-at : (n k : ℕ) (words : List (List Bool)) (old : List ℕ) → k < n → n ≤ length old → get_or (started n words old) k 0 ≡ word_of (get_or words k [])
unfolding started
started-at zero k words old within few = absurd (omega arith)
started-at (suc n) k words old within few =
    elim (cases_eq k n) [
      | inl same ↦
          let inside : n < length (started n words old) = omega (arith, started-length n words old) in
          rw same (get_or-set_same (started n words old) n (word_of (get_or words n [])) 0 inside)
      | inr other ↦
          let ne : k ≢ n = other in rw get_or-set_other (started-at n k words old (omega arith) (omega arith))
    ]

-- all of them
started-all : (words : List (List Bool)) (old : List ℕ) → length words ≡ length old → started (length old) words old ≡ map word_of words
started-all words old same =
    ext_get_or 0 (started (length old) words old) (map word_of words) (omega (arith, started-length (length old) words old, length-map words word_of)) (λ k within.
    started-at (length old) k words old (omega (arith, started-length (length old) words old)) (omega arith) ∙ sym (word-pick words k))

start-own : (n : ℕ) (ram : RamCell) (words : List (List Bool)) (old : List ℕ) (rest : List (List ℕ × List ℕ))
    → fold start_step ((memory_name ram, old) ∷ rest) (each_below n (start_item ram words)) ≡ (memory_name ram, started n words old) ∷ rest
unfolding started gathered_below
start-own zero ram words old rest = refl
start-own (suc n) ram words old rest =
    fold-append start_step ((memory_name ram, old) ∷ rest) (each_below n (start_item ram words)) (start_item ram words n ∷ [])
    ∙ (ap (λ list. fold start_step list (start_item ram words n ∷ [])) (start-own n ram words old rest)
    ∙ (rw (bytes_eq-same (memory_name ram) (memory_name ram) refl) refl))

start-past : (n : ℕ) (ram : RamCell) (words : List (List Bool)) (entry : List ℕ × List ℕ) (rest : List (List ℕ × List ℕ)) → bytes_eq entry.0 (memory_name ram) ≡ false
    → fold start_step (entry ∷ rest) (each_below n (start_item ram words)) ≡ entry ∷ fold start_step rest (each_below n (start_item ram words))
unfolding gathered_below
start-past zero ram words entry rest away = refl
start-past (suc n) ram words entry rest away =
    fold-append start_step (entry ∷ rest) (each_below n (start_item ram words)) (start_item ram words n ∷ [])
    ∙ (ap (λ list. fold start_step list (start_item ram words n ∷ [])) (start-past n ram words entry rest away)
    ∙ (rw away (ap (λ list. entry ∷ list) (sym (fold-append start_step rest (each_below n (start_item ram words)) (start_item ram words n ∷ []))))))

-- a RAM with 11 bits of address, 16 bits of data and mask, and modes up to 3
pub record IsPorted (ram : RamCell) : Type 0 where
  pub read_mode : ram.read ≤ 3
  pub write_mode : ram.write ≤ 3
  pub read_address : length ram.raddr ≡ 11
  pub write_address : length ram.waddr ≡ 11
  pub mask : length ram.mask ≡ 16
  pub written : length ram.wdata ≡ 16
  pub read : length ram.rdata ≡ 16

-- the fabric has such RAMs, and 256 words for each
pub record IsStarted (fabric : Fabric) : Type 0 where
  pub each_ram : length fabric.start ≡ length fabric.rams
  pub each_word : All (λ words. length words ≡ 256) fabric.start
  pub each_port : All IsPorted fabric.rams

ram_name : ℕ × RamCell → List ℕ
ram_name place = memory_name place.1

starts-fill : (fabric : Fabric) → FillsOwn (λ (place : ℕ × RamCell). memory_name place.1) start_step (start_items fabric)
    (λ place old. started 256 (get_or fabric.start place.0 []) old)
starts-fill fabric = record {
  own = λ place old rest. start-own 256 place.1 (get_or fabric.start place.0 []) old rest;
  past = λ place entry rest away. start-past 256 place.1 (get_or fabric.start place.0 []) entry rest away;
}

each-started : (starts : List (List (List Bool))) → All (λ words. length words ≡ 256) starts
    → map (λ words. started 256 words (replicate 256 0)) starts ≡ map (map word_of) starts
each-started [] all = refl
each-started (words ∷ starts) all =
    let size : length words ≡ length {A = ℕ} (replicate 256 0) = All-head (λ w. length w ≡ 256) words starts all ∙ sym (length-replicate {A = ℕ} 256 0) in
    let first : started 256 words (replicate 256 0) ≡ map word_of words =
    subst (λ n. started n words (replicate 256 0) ≡ map word_of words) (length-replicate {A = ℕ} 256 0) (started-all words (replicate 256 0) size) in
    rw (first, each-started starts (All-tail (λ w. length w ≡ 256) words starts all)) refl

module _ (fabric : Fabric) (within : IsWithin fabric) (writable : IsWritable fabric) (sized : IsStarted fabric)
    (order : List ℕ) (ordered : IsWriteOrder (clocked_wiring fabric) order) (name : List ℕ) where
  pub start-registers : flat_map register_start (items_of fabric order) ≡ map (λ register. (register_name register, false)) fabric.registers
  start-registers =
      flat_map-section 2 register_start register-none (items_of fabric order)
      ∙ (ap (flat_map register_start) (registers-section fabric order) ∙ registers-start fabric.registers)

  start-words : flat_map word_start (items_of fabric order) ≡ map (λ ram. (read_name ram, 0)) fabric.rams
  start-words =
      flat_map-section 3 word_start word-none (items_of fabric order)
      ∙ (ap (flat_map word_start) (words-section fabric order) ∙ words-start fabric.rams)

  blank-memories : flat_map memory_start (items_of fabric order) ≡ map (λ (place : ℕ × RamCell). (memory_name place.1, replicate 256 0)) (numbered fabric.rams)
  blank-memories =
      flat_map-section 4 memory_start memory-none (items_of fabric order)
      ∙ (ap (flat_map memory_start) (memories-section fabric order)
      ∙ (memories-start fabric.rams ∙ sym (map-numbered (λ ram. (memory_name ram, replicate 256 0)) 0 fabric.rams)))

  start-memories : fold start_step (flat_map memory_start (items_of fabric order)) (items_of fabric order)
      ≡ map (λ (place : ℕ × RamCell). (memory_name place.1, started 256 (get_or fabric.start place.0 []) (replicate 256 0))) (numbered fabric.rams)
  start-memories =
      fold-section 10 start_step start-skips (flat_map memory_start (items_of fabric order)) (items_of fabric order)
      ∙ (ap (fold start_step (flat_map memory_start (items_of fabric order))) (starts-section fabric order)
      ∙ (ap (λ given. fold start_step given (flat_map (start_items fabric) (numbered fabric.rams))) blank-memories
      ∙ filled (λ (place : ℕ × RamCell). memory_name place.1) start_step (start_items fabric) (λ place old. started 256 (get_or fabric.start place.0 []) old)
      (starts-fill fabric) (λ place. replicate 256 0) (numbered fabric.rams) (apart-numbered (NamesDiffer memory_name) 0 fabric.rams writable.memories)))

  memories-hold : HasValues (map (λ (place : ℕ × RamCell). (memory_name place.1, started 256 (get_or fabric.start place.0 []) (replicate 256 0))) (numbered fabric.rams))
      (map memory_name fabric.rams) (map (map word_of) fabric.start)
  memories-hold = record {
    named = made-names memory_name (λ place. started 256 (get_or fabric.start place.0 []) (replicate 256 0)) fabric.rams;
    valued = made-values memory_name (λ place. started 256 (get_or fabric.start place.0 []) (replicate 256 0)) fabric.rams
        ∙ (values-are (λ words. started 256 words (replicate 256 0)) [] fabric.rams fabric.start sized.each_ram
        ∙ each-started fabric.start sized.each_word);
  }

  blank-word : word_of (replicate 16 false) ≡ 0
  unfolding word_of
  blank-word = refl

  words-hold : HasValues (map (λ ram. (read_name ram, 0)) fabric.rams) (map read_name fabric.rams) (map word_of (replicate (length fabric.rams) (replicate 16 false)))
  words-hold =
      let holds = constant-holds read_name 0 fabric.rams in
      record {
        named = holds.named;
        valued = holds.valued ∙ sym (map-replicate word_of (replicate 16 false) (length fabric.rams) ∙ ap (λ n. replicate (length fabric.rams) n) blank-word);
      }

  begin-holding : Holding fabric (start_state fabric) (replicate (length (inputs_of fabric)) false)
      (flat_map input_start (ports_of fabric)) (flat_map register_start (items_of fabric order)) (flat_map word_start (items_of fabric order))
  begin-holding = record {
    input = subst (λ list. HasValues list (map input_port_name (inputs_of fabric)) (replicate (length (inputs_of fabric)) false)) (sym (inputs-start fabric))
        (constant-holds input_port_name false (inputs_of fabric));
    register = subst (λ list. HasValues list (map register_name fabric.registers) (replicate (length fabric.registers) false)) (sym start-registers)
        (constant-holds register_name false fabric.registers);
    word = subst (λ list. HasValues list (map read_name fabric.rams) (map word_of (replicate (length fabric.rams) (replicate 16 false)))) (sym start-words) words-hold;
  }

  begin-memories : HasValues (fold start_step (flat_map memory_start (items_of fabric order)) (items_of fabric order)) (map memory_name fabric.rams) (map (map word_of) fabric.start)
  begin-memories = subst (λ list. HasValues list (map memory_name fabric.rams) (map (map word_of) fabric.start)) (sym start-memories) memories-hold

  -- the first entries match
  pub start-matches : (entry : Entry) → IsFirst fabric entry → Matches fabric entry (start (module_of fabric order name))
  unfolding start module_of
  start-matches entry is =
      settled-matches fabric within writable order ordered name entry is.entry_is (start_state fabric) is.state
      (flat_map input_start (ports_of fabric)) (flat_map register_start (items_of fabric order)) (flat_map word_start (items_of fabric order))
      (subst (λ pins. Holding fabric (start_state fabric) pins (flat_map input_start (ports_of fabric)) (flat_map register_start (items_of fabric order)) (flat_map word_start (items_of fabric order)))
      (sym is.pins) begin-holding)
      (fold start_step (flat_map memory_start (items_of fabric order)) (items_of fabric order)) begin-memories
