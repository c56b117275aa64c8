-- What cells show after an event, and at the start.
use Rattle.std.proofs.Common.{◌≡◌, ℕ, ◌+◌, ◌≤◌, Bool, true, false, List, [], ap, ap₂, arith, fold, get_or, length, refl, ◌∙◌}
use Rattle.std.specs.Prelude.{map}
use Rattle.vlog_module.specs.Parts.{Parts}
use Rattle.vlog_semantics.specs.declared.layout.SlotLayout.{SlotLayout}
use Rattle.vlog_semantics.specs.declared.layout.Start.{Start}
use Rattle.vlog_semantics.specs.declared.plan.Plan.{Plan}
use Rattle.std.proofs.lemmas.List.{get_or_append_left}
use Rattle.vlog_semantics.specs.Cells.{cells_of, tail_of}
use Rattle.vlog_semantics.specs.Entries.{Entry}
use Rattle.vlog_semantics.specs.Laying.{Begins, IsLaidOut, ShowsEntry, bit_count, word_count}
use Rattle.vlog_semantics.specs.ModuleSlots.{module_wires}
use Rattle.vlog_semantics.specs.Named.{values_of}
use Rattle.vlog_semantics.specs.Run.{readable, start}
use Rattle.vlog_semantics.specs.Steps.{flips_after, memories_after, operand_value, put_written, read_slot, settled_slots, words_after, written_by}
use Rattle.vlog_semantics.proofs.Cells.{AreWords}
use Rattle.vlog_semantics.proofs.Showing.{ShowsStep, bits-count, shown-start, start-bits, start-words, words-count}
use Rattle.vlog_engine.specs.declared.circuit.Circuit.{Circuit}
use Rattle.vlog_engine.specs.declared.groups.Group.{Group}
use Rattle.vlog_engine.specs.Circuits.{AreSources, IsCircuit, shown_by, watched}
use Rattle.vlog_engine.specs.Groups.{IsGroup}
use Rattle.vlog_engine.specs.StepKinds.{IsPinnedBelow, Step, pinned, slots_of}
use Rattle.vlog_engine.specs.Passing.{IsClocked, IsSettled}
use Rattle.vlog_engine.proofs.StepKinds.{length-pinned}
use Rattle.vlog_engine.proofs.Operands.{Show, outputs-shown, reads-shown, writes-shown}
use Rattle.vlog_engine.proofs.Passed.{clocked-sources, first-within, settled-shown, size}
use Rattle.vlog_engine.proofs.Sources.{rest-cells, length-flips}

-- the cells and lists show the entry
pub record ShowsCells (m : Parts) (circuit : Circuit) (entry : Entry) (cells : List Bool) (words : List ℕ) (memories : List (List ℕ)) (outputs : List Bool) : Type 0 where
  pub cells_are : shown_by circuit.roots.items cells ≡ cells_of (values_of (readable entry).bits) words
  pub shown : ShowsEntry m entry (values_of (readable entry).bits) words memories outputs

module _ (m : Parts) (layout : SlotLayout) (circuit : Circuit) (laid : IsLaidOut m layout) (made : IsCircuit layout.first_wire (bit_count m) (word_count m) layout.plan circuit) where
  pub shown-show : (entry : Entry) (cells : List Bool) (words : List ℕ) (memories : List (List ℕ)) (outputs : List Bool) → ShowsCells m circuit entry cells words memories outputs → AreWords words
      → Show (bit_count m) (word_count m) circuit.roots.items (values_of (readable entry).bits) words cells
  shown-show entry cells words memories outputs shows small = record {
    bits_count = bits-count m entry shows.shown.named;
    words_count = ap length shows.shown.words_are ∙ words-count m entry shows.shown.named;
    size = size m layout circuit laid made;
    small = small;
    are = shows.cells_are;
  }

  -- a step whose items give what the items of the module give
  pub stepped-shown : (entry next : Entry) (step : Step) (group : Group) (words words_now : List ℕ) (memories memories_now : List (List ℕ)) (outputs outputs_now before between after : List Bool) (marks : List ℕ)
      → ShowsCells m circuit entry before words memories outputs → IsPinnedBelow layout.first_wire step
      → AreWords words → AreWords words_now → length words_now ≡ length words → bit_count m ≤ length before → bit_count m ≤ length between
      → IsGroup step layout.first_wire (bit_count m) (word_count m) circuit.roots.items layout.plan group
      → IsClocked true (bit_count m) step group words words_now memories memories_now before between
      → IsSettled true layout.first_wire (bit_count m) circuit.gates.items (watched circuit) circuit.settles.items between after marks
      → outputs_now ≡ map (operand_value after []) circuit.outputs.items
      → ShowsStep m layout.plan next (pinned step (flips_after layout.plan (slots_of step) (values_of (readable entry).bits) words))
      (words_after layout.plan (slots_of step) (values_of (readable entry).bits) words memories) (memories_after layout.plan (slots_of step) (values_of (readable entry).bits) words memories)
      → ShowsCells m circuit next after words_now memories_now outputs_now
  stepped-shown entry next step group words words_now memories memories_now outputs outputs_now before between after marks shows below small small_now same_words room room_between grouped clocked settled outputs_is next_shows =
      let plan : Plan = layout.plan in
      let roots : List ℕ = circuit.roots.items in
      let bits : List Bool = values_of (readable entry).bits in
      let show = shown-show entry before words memories outputs shows small in
      let words_are : words_now ≡ words_after plan (slots_of step) bits words memories =
      clocked.known.words_are ∙ ap (fold (read_slot (slots_of step) before [] memories) words) grouped.reads
      ∙ reads-shown (bit_count m) (word_count m) roots bits words before show step memories words plan.reads.items in
      let memories_are : memories_now ≡ memories_after plan (slots_of step) bits words memories =
      clocked.known.memories_are ∙ ap (λ list. fold put_written memories (map (written_by (slots_of step) before [] memories) list)) grouped.writes
      ∙ writes-shown (bit_count m) (word_count m) roots bits words before show step memories memories plan.writes.items in
      let count_now : length words_now ≡ word_count m = same_words ∙ show.words_count in
      let flipped : List Bool = flips_after plan (slots_of step) bits words in
      let changed : List Bool = pinned step flipped in
      let changed_size : length changed ≡ bit_count m =
      length-pinned step flipped ∙ length-flips step layout.first_wire (bit_count m) (word_count m) roots bits words before show bits plan.flips.items ∙ show.bits_count in
      let sources : AreSources layout.first_wire changed words_now between =
      clocked-sources m layout circuit laid made step group bits words words_now memories memories_now before between below grouped show room count_now clocked in
      let last : Show (bit_count m) (word_count m) roots (settled_slots plan (module_wires m) words_now changed) words_now after =
      settled-shown m layout circuit laid made changed words_now between after marks changed_size count_now small_now room_between sources settled in
      let bits_are : settled_slots plan (module_wires m) words_now changed ≡ settled_slots plan (module_wires m) (words_after plan (slots_of step) bits words memories) changed =
      ap (λ w. settled_slots plan (module_wires m) w changed) words_are in
      record {
        cells_are = last.are ∙ ap (λ b. cells_of b words_now) (bits_are ∙ next_shows.bits_are);
        shown = record {
          named = next_shows.named;
          bits_are = refl;
          words_are = words_are ∙ next_shows.words_are;
          memories_are = memories_are ∙ next_shows.memories_are;
          outputs_are = outputs_is ∙ ap (map (operand_value after [])) made.outputs
              ∙ outputs-shown (bit_count m) (word_count m) roots (settled_slots plan (module_wires m) words_now changed) words_now after last plan.outputs.items
              ∙ ap₂ (λ b w. map (operand_value b w) plan.outputs.items) bits_are words_are
              ∙ next_shows.outputs_are;
        };
      }

-- at the start
pub started-shown : (m : Parts) (first : Start) (circuit : Circuit) (begins : Begins m first) (made : IsCircuit first.layout.first_wire (bit_count m) (word_count m) first.layout.plan circuit)
    (outputs before after : List Bool) (marks : List ℕ)
    → AreWords first.words.items → before ≡ cells_of first.bits.items first.words.items → bit_count m ≤ length before
    → IsSettled true first.layout.first_wire (bit_count m) circuit.gates.items (watched circuit) circuit.settles.items before after marks
    → outputs ≡ map (operand_value after []) circuit.outputs.items
    → ShowsCells m circuit (start m) after first.words.items first.memories.items outputs
started-shown m first circuit begins made outputs before after marks small before_is room settled outputs_is =
    let layout : SlotLayout = first.layout in
    let plan : Plan = layout.plan in
    let bits : List Bool = first.bits.items in
    let words : List ℕ = first.words.items in
    let bits_size : length bits ≡ bit_count m = start-bits m bits begins.bits in
    let words_size : length words ≡ word_count m = start-words m words begins.words in
    let sources : AreSources layout.first_wire bits words before = record {
      below = λ cell inside.
          ap (λ list. get_or list cell false) before_is
          ∙ get_or_append_left bits (tail_of words) false cell (omega (arith, inside, bits_size, first-within m layout circuit begins.laid_out made));
      rest = λ place inside. ap (λ list. get_or list (length bits + place) false) before_is ∙ rest-cells bits words place;
    } in
    let last : Show (bit_count m) (word_count m) circuit.roots.items (settled_slots plan (module_wires m) words bits) words after =
    settled-shown m layout circuit begins.laid_out made bits words before after marks bits_size words_size small room sources settled in
    let next = shown-start m first begins in
    record {
      cells_are = last.are ∙ ap (λ b. cells_of b words) next.bits_are;
      shown = record {
        named = next.named;
        bits_are = refl;
        words_are = next.words_are;
        memories_are = next.memories_are;
        outputs_are = outputs_is ∙ ap (map (operand_value after [])) made.outputs
            ∙ outputs-shown (bit_count m) (word_count m) circuit.roots.items (settled_slots plan (module_wires m) words bits) words after last plan.outputs.items
            ∙ next.outputs_are;
      };
    }
