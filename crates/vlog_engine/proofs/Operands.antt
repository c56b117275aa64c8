-- Items over cells do what they do over bits and words, if the cells show these.
use Rattle.std.proofs.Common.{◌≡◌, ℕ, ◌+◌, ◌*◌, ◌<◌, Bool, true, false, cond, List, [], ◌∷◌, ◌++◌, Option, Some, None, ◌-◌, ap, ap₂, arith, flat_map, inl, inr, fold, length, ltb, refl, set, sym, ◌∙◌}
use Rattle.std.specs.Prelude.{◌&&◌, map}
use Rattle.std.proofs.lemmas.Bool.{cases_Bool, ltb-true}
use Rattle.std.proofs.lemmas.List.{get_or-map}
use Rattle.vlog_semantics.specs.Cells.{cell_at, cells_of, operand_cell, zero_cell}
use Rattle.vlog_semantics.specs.Steps.{flip_slot, is_acting, is_at, kept_mask, operand_value, operands_value, put_written, read_slot, table_value, taken_word, word_in, written_by}
use Rattle.vlog_semantics.specs.Values.{bit_of, number_of}
use Rattle.vlog_semantics.specs.Run.{masked, moved_down, moved_up}
use Rattle.vlog_semantics.specs.declared.plan.Operand.{Operand}
use Rattle.vlog_semantics.specs.declared.plan.Operand.TheVariants.{Constant, Slot, Part}
use Rattle.vlog_semantics.specs.declared.plan.Table.{Table}
use Rattle.vlog_semantics.specs.declared.plan.FlipFlop.{FlipFlop}
use Rattle.vlog_semantics.specs.declared.plan.MemoryPort.{MemoryPort}
use Rattle.vlog_semantics.specs.declared.plan.Taken.{Taken}
use Rattle.vlog_semantics.specs.declared.plan.Taken.TheVariants.{Word, Narrow}
use Rattle.vlog_semantics.specs.declared.plan.Read.{Read}
use Rattle.vlog_semantics.specs.declared.plan.Kept.{Kept}
use Rattle.vlog_semantics.specs.declared.plan.Kept.TheVariants.{Masked, Outside}
use Rattle.vlog_semantics.specs.declared.plan.Write.{Write}
use Rattle.vlog_semantics.specs.declared.plan.Written.{Written}
use Rattle.vlog_semantics.proofs.Cells.{AreWords, operand-in}
use Rattle.vlog_engine.specs.StepKinds.{Step, picks, slots_of}
use Rattle.vlog_engine.proofs.StepKinds.{picks-idle}
use Rattle.vlog_engine.specs.Circuits.{shown_by}
use Rattle.vlog_engine.specs.Groups.{read_at, write_at}
use Rattle.vlog_engine.specs.Resolved.{resolved, resolved_flip, resolved_kept, resolved_port, resolved_read, resolved_table, resolved_taken, resolved_write}
use Rattle.vlog_engine.specs.Roots.{root}

-- ---- the cells of operands

slot-inside : (bits words slot : ℕ) (b : Bool) → ltb slot bits ≡ b → cond b slot (zero_cell bits words) < bits + 16 * words + 2
slot-inside bits words slot true below = omega (arith, ltb-true slot bits below)
slot-inside bits words slot false above = omega arith

part-inside : (bits words word k : ℕ) (b c : Bool) → ltb word words ≡ b → ltb k 16 ≡ c → cond (b && c) (bits + 16 * word + k) (zero_cell bits words) < bits + 16 * words + 2
part-inside bits words word k true true below low = omega (arith, ltb-true word words below, ltb-true k 16 low)
part-inside bits words word k true false below high = omega arith
part-inside bits words word k false c above other = omega arith

pub operand-inside : (bits words : ℕ) (operand : Operand) → operand_cell bits words operand < bits + 16 * words + 2
operand-inside bits words (Constant true) = omega arith
operand-inside bits words (Constant false) = omega arith
operand-inside bits words (Slot slot) = slot-inside bits words slot (ltb slot bits) refl
operand-inside bits words (Part word k) = part-inside bits words word k (ltb word words) (ltb k 16) refl refl

-- ---- cells that show bits and words

pub record Show (count word_count : ℕ) (roots : List ℕ) (bits : List Bool) (words : List ℕ) (cells : List Bool) : Type 0 where
  pub bits_count : length bits ≡ count
  pub words_count : length words ≡ word_count
  pub size : length roots ≡ count + 16 * word_count + 2
  pub small : AreWords words
  pub are : shown_by roots cells ≡ cells_of bits words

pub shown-at : (count word_count : ℕ) (roots : List ℕ) (bits : List Bool) (words : List ℕ) (cells : List Bool) (cell : ℕ) → Show count word_count roots bits words cells
    → cell < count + 16 * word_count + 2 → cell_at cells (root roots cell) ≡ cell_at (cells_of bits words) cell
shown-at count word_count roots bits words cells cell show inside =
    sym (get_or-map (cell_at cells) roots cell 0 false (omega (arith, inside, show.size))) ∙ ap (λ list. cell_at list cell) show.are

module _ (count word_count : ℕ) (roots : List ℕ) (bits : List Bool) (words : List ℕ) (cells : List Bool) (show : Show count word_count roots bits words cells) where
  pub operand-shown : (operand : Operand) → operand_value cells [] (resolved count word_count roots operand) ≡ operand_value bits words operand
  operand-shown operand =
      shown-at count word_count roots bits words cells (operand_cell count word_count operand) show (operand-inside count word_count operand)
      ∙ ap₂ (λ b w. cell_at (cells_of bits words) (operand_cell b w operand)) (sym show.bits_count) (sym show.words_count)
      ∙ operand-in bits words operand show.small

  operands-shown : (operands : List Operand) → map (operand_value cells []) (map (resolved count word_count roots) operands) ≡ map (operand_value bits words) operands
  operands-shown [] = refl
  operands-shown (operand ∷ operands) = ap₂ (λ b rest. b ∷ rest) (operand-shown operand) (operands-shown operands)

  number-shown : (operands : List Operand) → operands_value cells [] (map (resolved count word_count roots) operands) ≡ operands_value bits words operands
  number-shown operands = ap number_of (operands-shown operands)

  pub outputs-shown : (operands : List Operand) → map (operand_value cells []) (map (resolved count word_count roots) operands) ≡ map (operand_value bits words) operands
  outputs-shown operands = operands-shown operands

  table-shown : (table : Table) → table_value cells [] (resolved_table count word_count roots table) ≡ table_value bits words table
  table-shown table = ap (bit_of table.word) (number-shown table.ins)

  pub flip-shown : (step : Step) (next : List Bool) (flip : FlipFlop) → flip_slot (slots_of step) cells [] next (resolved_flip count word_count roots flip) ≡ flip_slot (slots_of step) bits words next flip
  flip-shown step next flip =
      let value : Bool → Bool → Bool = λ reset table. cond reset flip.set table in
      ap₂ (λ enable bit. cond (is_at (slots_of step) flip.edge && enable) (set next flip.target bit) next) (operand-shown flip.enable)
      (ap₂ value (operand-shown flip.reset) (table-shown flip.table))

  acting-shown : (step : Step) (port : MemoryPort) → is_acting (slots_of step) cells [] (resolved_port count word_count roots port) ≡ is_acting (slots_of step) bits words port
  acting-shown step port = ap₂ (λ a b. is_at (slots_of step) port.edge && a && b) (operand-shown port.clock_enable) (operand-shown port.enable)

  taken-shown : (taken : Taken) (word : ℕ) → taken_word cells [] (resolved_taken count word_count roots taken) word ≡ taken_word bits words taken word
  taken-shown Word word = refl
  taken-shown (Narrow field) word = ap (λ shift. moved_down word shift field.pattern) (number-shown field.shift)

  read-shown : (step : Step) (memories : List (List ℕ)) (next : List ℕ) (read : Read)
      → read_slot (slots_of step) cells [] memories next (resolved_read count word_count roots read) ≡ read_slot (slots_of step) bits words memories next read
  read-shown step memories next read =
      ap₂ (λ acts word. cond acts (set next read.target word) next) (acting-shown step read.port)
      (ap (λ address. taken_word cells [] (resolved_taken count word_count roots read.taken) (word_in memories read.port.memory address)) (number-shown read.port.address)
      ∙ taken-shown read.taken (word_in memories read.port.memory (operands_value bits words read.port.address)))

  kept-shown : (kept : Kept) → kept_mask cells [] (resolved_kept count word_count roots kept) ≡ kept_mask bits words kept
  kept-shown (Masked mask) = number-shown mask
  kept-shown (Outside field) = ap (λ shift. 65535 - moved_up field.pattern shift) (number-shown field.shift)

  write-shown : (step : Step) (memories : List (List ℕ)) (write : Write)
      → written_by (slots_of step) cells [] memories (resolved_write count word_count roots write) ≡ written_by (slots_of step) bits words memories write
  write-shown step memories write =
      let made : ℕ → ℕ → ℕ → Option Written = λ address mask word. Some (record {
        memory = write.port.memory;
        address = address;
        word = masked (word_in memories write.port.memory address) mask word;
      }) in
      let none : Option Written = None in
      let address = operands_value cells [] (map (resolved count word_count roots) write.port.address) in
      let mask = kept_mask cells [] (resolved_kept count word_count roots write.kept) in
      let word = operands_value cells [] (map (resolved count word_count roots) write.bits) in
      ap (λ acts. cond acts (made address mask word) none) (acting-shown step write.port)
      ∙ ap₂ (λ a m. cond (is_acting (slots_of step) bits words write.port) (made a m word) none) (number-shown write.port.address) (kept-shown write.kept)
      ∙ ap (λ w. cond (is_acting (slots_of step) bits words write.port) (made (operands_value bits words write.port.address) (kept_mask bits words write.kept) w) none) (number-shown write.bits)

  -- ---- what a step runs

  pub reads-shown : (step : Step) (memories : List (List ℕ)) (next : List ℕ) (reads : List Read)
      → fold (read_slot (slots_of step) cells [] memories) next (flat_map (read_at step count word_count roots) reads) ≡ fold (read_slot (slots_of step) bits words memories) next reads
  reads-shown step memories next [] = refl
  reads-shown step memories next (read ∷ reads) =
      elim (cases_Bool (picks step read.port.edge)) [
        | inl on ↦
            ap (λ b. fold (read_slot (slots_of step) cells [] memories) next (cond b (resolved_read count word_count roots read ∷ []) [] ++ flat_map (read_at step count word_count roots) reads)) on
            ∙ ap (λ after. fold (read_slot (slots_of step) cells [] memories) after (flat_map (read_at step count word_count roots) reads)) (read-shown step memories next read)
            ∙ reads-shown step memories (read_slot (slots_of step) bits words memories next read) reads
        | inr off ↦
            ap (λ b. fold (read_slot (slots_of step) cells [] memories) next (cond b (resolved_read count word_count roots read ∷ []) [] ++ flat_map (read_at step count word_count roots) reads)) off
            ∙ reads-shown step memories next reads
            ∙ ap (λ after. fold (read_slot (slots_of step) bits words memories) after reads)
            (sym (ap (λ b. cond (b && operand_value bits words read.port.clock_enable && operand_value bits words read.port.enable)
            (set next read.target (taken_word bits words read.taken (word_in memories read.port.memory (operands_value bits words read.port.address)))) next) (picks-idle step read.port.edge off)))
      ]

  pub writes-shown : (step : Step) (memories next : List (List ℕ)) (writes : List Write)
      → fold put_written next (map (written_by (slots_of step) cells [] memories) (flat_map (write_at step count word_count roots) writes))
      ≡ fold put_written next (map (written_by (slots_of step) bits words memories) writes)
  writes-shown step memories next [] = refl
  writes-shown step memories next (write ∷ writes) =
      let rest : List Write = flat_map (write_at step count word_count roots) writes in
      elim (cases_Bool (picks step write.port.edge)) [
        | inl on ↦
            ap (λ b. fold put_written next (map (written_by (slots_of step) cells [] memories) (cond b (resolved_write count word_count roots write ∷ []) [] ++ rest))) on
            ∙ ap (λ found. fold put_written (put_written next found) (map (written_by (slots_of step) cells [] memories) rest)) (write-shown step memories write)
            ∙ writes-shown step memories (put_written next (written_by (slots_of step) bits words memories write)) writes
        | inr off ↦
            let idle : written_by (slots_of step) bits words memories write ≡ None =
            ap (λ b. cond (b && operand_value bits words write.port.clock_enable && operand_value bits words write.port.enable)
            (Some (record {
              memory = write.port.memory;
              address = operands_value bits words write.port.address;
              word = masked (word_in memories write.port.memory (operands_value bits words write.port.address)) (kept_mask bits words write.kept) (operands_value bits words write.bits);
            })) None) (picks-idle step write.port.edge off) in
            ap (λ b. fold put_written next (map (written_by (slots_of step) cells [] memories) (cond b (resolved_write count word_count roots write ∷ []) [] ++ rest))) off
            ∙ writes-shown step memories next writes
            ∙ ap (λ found. fold put_written (put_written next found) (map (written_by (slots_of step) bits words memories) writes)) (sym idle)
      ]
