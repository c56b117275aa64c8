-- What the cells of a lane have, and what a lane shows after a call.
use Rattle.std.proofs.Common.{◌≡◌, ℕ, ◌<◌, ◌≤◌, Bool, true, false, List, ◌++◌, Some, ap, ap₂, arith, cond, get_or, inl, inr, length, refl, subst, sym, take, ◌∙◌}
use Rattle.std.specs.Prelude.{◌&&◌, not}
use Rattle.std.proofs.lemmas.Bool.{cases_Bool}
use Rattle.std.proofs.lemmas.List.{ext_get_or, get_or-take, get_or_append_left, length-take-le, take_at}
use Rattle.vlog_module.specs.Parts.{Parts}
use Rattle.vlog_semantics.specs.declared.event.Event.{Event}
use Rattle.vlog_semantics.specs.declared.layout.SlotLayout.{SlotLayout}
use Rattle.vlog_semantics.specs.Cells.{cells_of, tail_of}
use Rattle.vlog_semantics.specs.Entries.{Entry}
use Rattle.vlog_semantics.specs.Found.{places_in}
use Rattle.vlog_semantics.specs.Laying.{IsLaidOut, bit_count, word_count}
use Rattle.vlog_semantics.specs.ModuleSlots.{IsNamed, register_names, wave_slots}
use Rattle.vlog_semantics.specs.Named.{values_of}
use Rattle.vlog_semantics.specs.Plans.{Places}
use Rattle.vlog_semantics.specs.Run.{acted, changed, edges_between, edges_by, followed, has_edge, input_names, is_same_bit, readable, with_input}
use Rattle.vlog_semantics.specs.Steps.{flips_after, is_between, memories_after, slots_between, words_after}
use Rattle.vlog_semantics.proofs.Entering.{followed-changed, input-slot}
use Rattle.vlog_semantics.proofs.Reading.{registers-read}
use Rattle.vlog_semantics.proofs.Showing.{ShowsStep, bits-count, shown-same, shown-stepped, shown-waved, words-count}
use Rattle.vlog_engine.specs.declared.board.Board.{Board}
use Rattle.vlog_engine.specs.declared.circuit.Circuit.{Circuit}
use Rattle.vlog_engine.specs.declared.value.Value.{Ghosts}
use Rattle.vlog_engine.specs.Boards.{IsChangedIn, IsIdleIn, Shows, StaysLaidOut, cells_in, memories_in, outputs_in, words_in}
use Rattle.vlog_engine.specs.Circuits.{IsCircuit, shown_by, watched}
use Rattle.vlog_engine.specs.Groups.{IsGroup}
use Rattle.vlog_engine.specs.StepKinds.{IsPinnedBelow, Step, pinned, slots_of}
use Rattle.vlog_engine.specs.StepKinds.Step.{at_event, at_wave}
use Rattle.vlog_engine.specs.Marks.{IsTracked}
use Rattle.vlog_engine.specs.Passing.{IsClocked}
use Rattle.vlog_engine.specs.Waves.{HasEarlier}
use Rattle.vlog_engine.proofs.Apart.{module-apart}
use Rattle.vlog_engine.proofs.Following.{ShowsCells, stepped-shown}
use Rattle.vlog_engine.proofs.Lanes.{lane-length}
use Rattle.vlog_engine.proofs.Modules.{IsUnder, module-under}
use Rattle.vlog_engine.proofs.Passed.{first-within, gates-rise, own, size}
use Rattle.vlog_engine.proofs.Wired.{shown-cell}

-- the slot of a register comes before the first wire's
pub register-slot : (m : Parts) (layout : SlotLayout) (name : List ℕ) (slot : ℕ) → IsLaidOut m layout → Some slot ≡ (places_in layout.places).registers name → slot < layout.first_wire
register-slot m layout name slot laid is =
    subst (λ end. slot < end) (sym laid.first_wire)
    (subst (IsUnder (length (input_names m.ports ++ register_names m.items))) (sym (is ∙ ap (λ (at : Places). at.registers name) laid.places)) (module-under m name))

module _ {V : Type 0} {g : Ghosts V} (m : Parts) (entry : Entry) (r : Board V g) (lane : ℕ) (shows : Shows r lane m entry) where
  abbrev bits : List Bool
  bits = values_of (readable entry).bits

  abbrev cells : List Bool
  cells = cells_in r lane

  pub words-are : length (words_in r lane) ≡ word_count m
  words-are = ap (λ (list : List ℕ). length list) shows.shown.words_are ∙ words-count m entry shows.shown.named

  pub room-is : r.next_words.len ≡ word_count m
  room-is = sym (r.lanes.each lane shows.within) ∙ words-are

  pub made : IsCircuit r.layout.first_wire (bit_count m) (word_count m) r.layout.plan r.circuit
  made =
      subst (λ n. IsCircuit r.layout.first_wire n (word_count m) r.layout.plan r.circuit) shows.bit_count
      (subst (λ n. IsCircuit r.layout.first_wire r.circuit.bits n r.layout.plan r.circuit) room-is r.circuit_is)

  pub shows-cells : ShowsCells m r.circuit entry cells (words_in r lane) (memories_in r lane) (outputs_in r lane)
  shows-cells = record { cells_are = shows.cells; shown = shows.shown }

  pub cells-room : bit_count m ≤ length cells
  cells-room = omega (arith, r.cells_room, r.cells.ok.0, lane-length g.at lane r.cells.items, shows.bit_count)

  pub source-cell : (cell : ℕ) → cell < r.layout.first_wire → get_or cells cell false ≡ get_or bits cell false
  source-cell cell inside =
      let name : cell < bit_count m = omega (arith, inside, first-within m r.layout r.circuit shows.laid_out made) in
      sym (ap (λ at. get_or cells at false) (own m r.layout r.circuit shows.laid_out made cell (λ less. inside) (omega (arith, name))))
      ∙ sym (shown-cell r.circuit.roots.items cells cell (omega (arith, name, size m r.layout r.circuit shows.laid_out made)))
      ∙ ap (λ list. get_or list cell false) shows.cells
      ∙ get_or_append_left bits (tail_of (words_in r lane)) false cell (omega (arith, name, bits-count m entry shows.shown.named))

  pub first-cells : (end : ℕ) → end ≤ r.layout.first_wire → take end cells ≡ take end bits
  first-cells end few =
      let inside = first-within m r.layout r.circuit shows.laid_out made in
      let some_size : length (take end cells) ≡ end = length-take-le end cells (omega (arith, few, inside, cells-room)) in
      let other_size : length (take end bits) ≡ end = length-take-le end bits (omega (arith, few, inside, bits-count m entry shows.shown.named)) in
      ext_get_or false (take end cells) (take end bits) (some_size ∙ sym other_size)
      (λ cell early.
      let below : cell < end = omega (arith, early, some_size) in
      get_or-take end cells cell false below ∙ source-cell cell (omega (arith, below, few)) ∙ sym (get_or-take end bits cell false below))

  -- what the cells of all names show
  pub shown-bits : take r.circuit.bits (shown_by r.circuit.roots.items cells) ≡ bits
  shown-bits =
      ap (take r.circuit.bits) shows.cells
      ∙ take_at bits (tail_of (words_in r lane)) r.circuit.bits (bits-count m entry shows.shown.named ∙ sym shows.bit_count)

  pub roots-room : r.circuit.bits ≤ length r.circuit.roots.items
  roots-room = omega (arith, size m r.layout r.circuit shows.laid_out made, shows.bit_count)

  -- ---- after a call

  pub idle-shows : (after : Board V g) → StaysLaidOut r after → IsIdleIn lane r after → Shows after lane m entry
  idle-shows after same idle =
      record {
        within = shows.within;
        whole = shows.whole;
        laid_out = subst (IsLaidOut m) (sym same.layout) shows.laid_out;
        bit_count = ap (λ (c : Circuit). c.bits) same.circuit ∙ shows.bit_count;
        cells = ap₂ (λ (c : Circuit) (list : List Bool). shown_by c.roots.items list) same.circuit idle.cells ∙ shows.cells ∙ ap (cells_of bits) (sym idle.words);
        shown = record {
          named = shows.shown.named;
          bits_are = refl;
          words_are = idle.words ∙ shows.shown.words_are;
          memories_are = idle.memories ∙ shows.shown.memories_are;
          outputs_are = idle.outputs ∙ shows.shown.outputs_are;
        };
        tracked = idle.tracked r.layout.first_wire (bit_count m) (gates-rise m r.layout r.circuit shows.laid_out made) cells-room shows.tracked;
      }

  -- an event that gives its input the bit that it has
  pub same-shows : (after : Board V g) (event : Event) → event.pin < length (input_names m.ports) → is_same_bit event.bit (get_or bits event.pin false) ≡ true
      → Shows after lane m entry → Shows after lane m (followed m entry event)
  same-shows after event early same after_shows =
      let next = shown-same m entry event bits (words_in after lane) (memories_in after lane) (outputs_in after lane) after_shows.shown early same in
      record {
        within = after_shows.within;
        whole = after_shows.whole;
        laid_out = after_shows.laid_out;
        bit_count = after_shows.bit_count;
        cells = after_shows.cells ∙ ap (λ list. cells_of list (words_in after lane)) next.bits_are;
        shown = record { named = next.named; bits_are = refl; words_are = next.words_are; memories_are = next.memories_are; outputs_are = next.outputs_are };
        tracked = after_shows.tracked;
      }

  -- a step whose items give what the items of the module give
  pub step-shows : (after : Board V g) (next : Entry) (step : Step) → StaysLaidOut r after → IsChangedIn step lane r after → IsPinnedBelow r.layout.first_wire step
      → ShowsStep m r.layout.plan next (pinned step (flips_after r.layout.plan (slots_of step) bits (words_in r lane)))
      (words_after r.layout.plan (slots_of step) bits (words_in r lane) (memories_in r lane)) (memories_after r.layout.plan (slots_of step) bits (words_in r lane) (memories_in r lane))
      → Shows after lane m next
  step-shows after next step same by below next_shows =
      let laid = shows.laid_out in
      let circuit = r.circuit in
      let grouped = subst (λ n. IsGroup step r.layout.first_wire n (word_count m) circuit.roots.items r.layout.plan by.group) shows.bit_count
      (subst (λ n. IsGroup step r.layout.first_wire circuit.bits n circuit.roots.items r.layout.plan by.group) room-is by.grouped) in
      let clocked = subst (λ n. IsClocked true n step by.group (words_in r lane) (words_in after lane) (memories_in r lane) (memories_in after lane) cells by.between) shows.bit_count (by.clocked shows.tracked) in
      let words_size : length (words_in after lane) ≡ length (words_in r lane) = after.lanes.each lane shows.within ∙ same.words_room ∙ room-is ∙ sym words-are in
      let between_room : bit_count m ≤ length by.between = omega (arith, cells-room, by.size) in
      let settled = by.settled r.layout.first_wire (bit_count m) (gates-rise m r.layout circuit laid made) cells-room shows.tracked in
      let shown = stepped-shown m r.layout circuit laid made entry next step by.group (words_in r lane) (words_in after lane) (memories_in r lane) (memories_in after lane) (outputs_in r lane) (outputs_in after lane)
      cells by.between (cells_in after lane) after.marks.items shows-cells below
      (r.lanes.fit lane) (after.lanes.fit lane) words_size cells-room between_room grouped clocked settled by.outputs next_shows in
      record {
        within = shows.within;
        whole = shows.whole;
        laid_out = subst (IsLaidOut m) (sym same.layout) laid;
        bit_count = ap (λ (c : Circuit). c.bits) same.circuit ∙ shows.bit_count;
        cells = ap (λ (c : Circuit). shown_by c.roots.items (cells_in after lane)) same.circuit ∙ shown.cells_are;
        shown = shown.shown;
        tracked = subst (λ (c : Circuit). IsTracked (watched c) (cells_in after lane) after.marks.items) (sym same.circuit) settled.tracked;
      }

  -- the first step of an event that gives its input the other bit
  pub first-shows : (after : Board V g) (event : Event) → StaysLaidOut r after → IsChangedIn (at_event event) lane r after → event.pin < length (input_names m.ports)
      → Shows after lane m (acted m (edges_by m event) (with_input entry.inputs event.pin event.bit) entry)
  unfolding slots_of pinned
  first-shows after event same by early =
      let at = registers-read m entry r.layout bits shows.laid_out shows.shown.named refl in
      step-shows after (acted m (edges_by m event) (with_input entry.inputs event.pin event.bit) entry) (at_event event) same by (omega (arith, early, shows.laid_out.input_count, at.ordered))
      (shown-stepped m r.layout.plan entry event bits (words_in r lane) (memories_in r lane) (outputs_in r lane) shows.laid_out.plan shows.shown early)

  -- the edges of a wave, by cells and by bits
  pub wave-edges : (before : Entry) (earlier : List Bool) → HasEarlier r.layout.first_wire before earlier
      → slots_of (at_wave r.layout.input_count r.layout.first_wire earlier cells) ≡ wave_slots m (values_of (readable before).bits) bits
  unfolding slots_of
  wave-edges before earlier has =
      let laid = shows.laid_out in
      let old = values_of (readable before).bits in
      ap₂ (λ one other falling slot. is_between r.layout.input_count r.layout.first_wire slot && has_edge falling (get_or one slot false) (get_or other slot false))
      has.are (first-cells r.layout.first_wire (omega arith))
      ∙ ap₂ (λ first end. slots_between first end old bits) laid.input_count laid.first_wire

  -- a wave
  pub wave-shows : (after : Board V g) (before : Entry) (earlier : List Bool) → IsNamed m before → HasEarlier r.layout.first_wire before earlier → StaysLaidOut r after
      → IsChangedIn (at_wave r.layout.input_count r.layout.first_wire earlier cells) lane r after
      → Shows after lane m (acted m (edges_between before entry) entry.inputs entry)
  unfolding pinned
  wave-shows after before earlier named has same by =
      let next = acted m (edges_between before entry) entry.inputs entry in
      let words = words_in r lane in
      let memories = memories_in r lane in
      let old = values_of (readable before).bits in
      let step = at_wave r.layout.input_count r.layout.first_wire earlier cells in
      step-shows after next step same by tt
      (subst (λ slots. ShowsStep m r.layout.plan next (flips_after r.layout.plan slots bits words) (words_after r.layout.plan slots bits words memories) (memories_after r.layout.plan slots bits words memories))
      (sym (wave-edges before earlier has))
      (shown-waved m r.layout.plan before entry old bits words memories (outputs_in r lane) (module-apart m shows.whole) shows.laid_out.plan named refl shows.shown))

  -- an event in a lane that may be active
  pub event-shows : (after : Board V g) (event : Event) (active turns old : Bool) → StaysLaidOut r after → event.pin < r.layout.input_count → old ≡ get_or cells event.pin false
      → turns ≡ cond active (not (is_same_bit event.bit old)) false → (turns ≡ true → Shows after lane m (changed m entry event)) → (turns ≡ false → IsIdleIn lane r after)
      → Shows after lane m (cond active (followed m entry event) entry)
  event-shows after event active turns old same inside old_is turns_is some none =
      let early : event.pin < length (input_names m.ports) = omega (arith, inside, shows.laid_out.input_count) in
      let at = registers-read m entry r.layout bits shows.laid_out shows.shown.named refl in
      let bit : old ≡ get_or bits event.pin false = old_is ∙ source-cell event.pin (omega (arith, inside, at.ordered)) in
      elim (cases_Bool active) [
        | inr idle ↦ subst (λ next. Shows after lane m next) (sym (ap (λ b. cond b (followed m entry event) entry) idle))
            (idle-shows after same (none (turns_is ∙ ap (λ b. cond b (not (is_same_bit event.bit old)) false) idle)))
        | inl given ↦ subst (λ next. Shows after lane m next) (sym (ap (λ b. cond b (followed m entry event) entry) given))
            (elim (cases_Bool (is_same_bit event.bit old)) [
              | inl is ↦ same-shows after event early (ap (is_same_bit event.bit) (sym bit) ∙ is) (idle-shows after same (none (turns_is ∙ ap₂ (λ b s. cond b (not s) false) given is)))
              | inr differs ↦ subst (λ next. Shows after lane m next)
                  (followed-changed m entry event (ap (is_same_bit event.bit) (sym (input-slot m entry event.pin shows.shown.named early) ∙ sym bit) ∙ differs))
                  (some (turns_is ∙ ap₂ (λ b s. cond b (not s) false) given differs))
            ])
      ]
