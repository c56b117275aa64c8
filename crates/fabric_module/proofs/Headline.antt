-- The run of the written module and the run of the fabric match after the start and after each event of each list.
use Rattle.std.proofs.Common.{◌≡◌, ℕ, Bool, true, false, List, [], ◌∷◌, length, map, get_or, set, refl, sym, ap, ◌∙◌, subst, arith, inl, inr, map-id}
use Rattle.std.specs.Prelude.{Contains, Option, None}
use Rattle.std.specs.List.{AllZip, list_any}
use Rattle.std.proofs.lemmas.Bool.{cases_Bool}
use Rattle.std.proofs.lemmas.List.{length-map, set-get_or}
use Rattle.std.proofs.lemmas.List.Elements.{All-weaker, All-contains_itself}
use Rattle.plane_map.specs.declared.device.DeviceName.{DeviceName}
use Rattle.bit_plane.specs.BitList.{word_of}
use Rattle.vlog_semantics.specs.Entries.{Entry as ModuleEntry}
use Rattle.vlog_semantics.specs.Run.{with_input, edges_by, edges_between, has_its_edge, acted, waved, changed, is_same_bit, input_bit, followed, run_from, start, module_run}
use Rattle.vlog_semantics.proofs.Entering.{names-input, values-input}
use Rattle.fabric_model.specs.Fabric.{Fabric, inputs_of}
use Rattle.fabric_model.specs.Values.{State, bit_in}
use Rattle.fabric_model.specs.Steps.{Edges, event_edges, wave_edges, has_wave, state_after, settled_state, Event, Entry, IsFirstStep, IsWave, EndsAt, Follows, FollowEach, IsRun}
use Rattle.fabric_model.specs.Steps.EndsAt.{bound, rests, goes_on}
use Rattle.graph_order.specs.Wiring.{IsWriteOrder}
use Rattle.fabric_model.specs.Wiring.{clocked_wiring}
use Rattle.fabric_model.specs.Faults.{fabric_fault}
use Rattle.fabric_model.proofs.OneValue.{IsWithin}
use Rattle.fabric_model.proofs.Edges.{EdgesAgree, state-same}
use Rattle.fabric_model.proofs.Events.{first-settled, step-settled, wave-settled, ends-still, wave-same}
use Rattle.fabric_model.proofs.Runs.{IsPlaced, IsClocked, register-good, read-good, write-good, entry-one}
use Rattle.fabric_module.specs.Names.{input_port_name, register_name, read_name, memory_name}
use Rattle.fabric_module.specs.Written.{module_of}
use Rattle.fabric_module.specs.Matching.{HasValues, Matches, module_event}
use Rattle.fabric_module.proofs.Settled.{IsWritable}
use Rattle.fabric_module.proofs.Beginning.{IsStarted, values-are, start-matches}
use Rattle.fabric_module.proofs.Ticks.{Agree, Shows, no-event, event-agrees, wave-agrees}
use Rattle.fabric_module.proofs.Acted.{AreClocked, acted-shows}
use Rattle.fabric_module.proofs.Waves.{edges-any, bounds-same}

-- ---- lists

-- as many values as names
values-count : {X A : Type 0} (name : X → List ℕ) (xs : List X) (entries : List (List ℕ × A)) (values : List A) → HasValues entries (map name xs) values → length values ≡ length xs
values-count name xs entries values has =
    omega (arith, ap length has.valued, ap length has.named, length-map entries (λ entry. entry.1), length-map entries (λ entry. entry.0), length-map xs name)

same-bits : (bit old : Bool) → is_same_bit bit old ≡ true → old ≡ bit
same-bits true true same = refl
same-bits true false same = absurd cc
same-bits false true same = absurd cc
same-bits false false same = refl

-- ---- a state that stays

-- no user has an edge
abbrev no_edges : Edges
no_edges inverted clock = false

quiet : (fabric : Fabric) → AreClocked fabric → (edges : Edges) → ((inverted : Bool) (clock : Option ℕ) → IsClocked fabric clock → edges inverted clock ≡ false)
    → EdgesAgree fabric edges no_edges
quiet fabric clocks edges none = record {
  registers = All-weaker (λ register. IsClocked fabric register.clk) (λ register. edges register.neg register.clk ≡ false) (λ register. none register.neg register.clk)
      fabric.registers clocks.registers;
  reads = All-weaker (λ ram. IsClocked fabric ram.rclk) (λ ram. edges ram.rneg ram.rclk ≡ false) (λ ram. none ram.rneg ram.rclk) fabric.rams clocks.reads;
  writes = All-weaker (λ ram. IsClocked fabric ram.wclk) (λ ram. edges ram.wneg ram.wclk ≡ false) (λ ram. none ram.wneg ram.wclk) fabric.rams clocks.writes;
}

-- if none has, the state stays
state-stays : (fabric : Fabric) (pins : List Bool) (state : State) (bit : ℕ → Bool) → length state.bits ≡ length fabric.registers
    → length state.reads ≡ length fabric.rams → length state.words ≡ length fabric.rams → state_after fabric pins state bit no_edges ≡ state
unfolding state_after
state-stays fabric pins state bit bits reads words =
    let b = values-are (λ bit. bit) false fabric.registers state.bits bits ∙ map-id state.bits in
    let r = values-are (λ word. word) [] fabric.rams state.reads reads ∙ map-id state.reads in
    let w = values-are (λ list. list) [] fabric.rams state.words words ∙ map-id state.words in
    λ i. record { bits = b i; reads = r i; words = w i }

-- ---- one event

module _ (device : DeviceName) (fabric : Fabric) (taken : fabric_fault device fabric ≡ None) (placed : IsPlaced device fabric) (within : IsWithin fabric)
    (writable : IsWritable fabric) (sized : IsStarted fabric) (order : List ℕ) (ordered : IsWriteOrder (clocked_wiring fabric) order) (name : List ℕ) where
  clocks : AreClocked fabric
  clocks = record {
    registers = All-weaker (Contains fabric.registers) (λ register. IsClocked fabric register.clk) (register-good device fabric taken placed) fabric.registers (All-contains_itself fabric.registers);
    reads = All-weaker (Contains fabric.rams) (λ ram. IsClocked fabric ram.rclk) (read-good device fabric taken placed) fabric.rams (All-contains_itself fabric.rams);
    writes = All-weaker (Contains fabric.rams) (λ ram. IsClocked fabric ram.wclk) (write-good device fabric taken placed) fabric.rams (All-contains_itself fabric.rams);
  }

  -- ---- the first step

  module _ (before : Entry) (held : ModuleEntry) (shown : Shows fabric before held) (event : Event) (first : Entry) (step : IsFirstStep fabric before event first) where
    bits-count : length before.state.bits ≡ length fabric.registers
    bits-count = values-count register_name fabric.registers held.registers before.state.bits shown.matches.registers

    reads-count : length before.state.reads ≡ length fabric.rams
    reads-count =
        sym (length-map before.state.reads word_of) ∙ values-count read_name fabric.rams held.words (map word_of before.state.reads) shown.matches.words

    words-count : length before.state.words ≡ length fabric.rams
    words-count =
        sym (length-map before.state.words (map word_of)) ∙ values-count memory_name fabric.rams held.memories (map (map word_of) before.state.words) shown.matches.memories

    pins-count : length before.pins ≡ length (inputs_of fabric)
    pins-count = values-count input_port_name (inputs_of fabric) held.inputs before.pins shown.matches.inputs

    -- the edges of the users
    abbrev user_edges : Edges
    user_edges = event_edges fabric (bit_in before.v) (bit_in first.v)

    -- if the bit is the old one, nothing changes
    module _ (same : is_same_bit event.bit (get_or before.pins event.pin false) ≡ true) where
      pins-stay : set before.pins event.pin event.bit ≡ before.pins
      pins-stay =
          ap (λ bit. set before.pins event.pin bit) (sym (same-bits event.bit (get_or before.pins event.pin false) same)) ∙ set-get_or before.pins event.pin false

      next-stays : state_after fabric before.pins before.state (bit_in before.v) user_edges ≡ before.state
      next-stays =
          state-same user_edges no_edges fabric before.pins before.state (bit_in before.v)
          (quiet fabric clocks user_edges (no-event device fabric taken within writable before event first shown.is step pins-stay))
          ∙ state-stays fabric before.pins before.state (bit_in before.v) bits-count reads-count words-count

      pub first-stays : first ≡ before
      first-stays =
          entry-one device fabric taken placed within before.state first before step.entry shown.is (step.pins ∙ pins-stay)
          (step.state ∙ ap (settled_state fabric (bit_in first.v)) next-stays) shown.settles

    -- if it is another one, the items on the input take effect
    module _ (changes : is_same_bit event.bit (get_or before.pins event.pin false) ≡ false) where
      ticks : Agree fabric (edges_by (module_of fabric order name) (module_event event)) user_edges
      unfolding module_of
      ticks = event-agrees device fabric taken within writable before event first shown.is step pins-count changes

      inputs-after : HasValues (with_input held.inputs event.pin event.bit) (map input_port_name (inputs_of fabric)) first.pins
      inputs-after = record {
        named = names-input held.inputs event.pin event.bit ∙ shown.matches.inputs.named;
        valued = values-input held.inputs event.pin event.bit ∙ (ap (λ values. set values event.pin event.bit) shown.matches.inputs.valued ∙ sym step.pins);
      }

      pub first-shows : Shows fabric first (acted (module_of fabric order name) (edges_by (module_of fabric order name) (module_event event)) (with_input held.inputs event.pin event.bit) held)
      first-shows =
          acted-shows fabric within writable sized clocks order ordered name before held shown (edges_by (module_of fabric order name) (module_event event)) user_edges ticks
          (with_input held.inputs event.pin event.bit) first step.entry (step-settled fabric before event first step) step.state inputs-after

  -- ---- waves

  module _ (earlier : Entry) (old : ModuleEntry) (first : Shows fabric earlier old) (before : Entry) (held : ModuleEntry) (second : Shows fabric before held) where
    moves : Agree fabric (edges_between old held) (wave_edges fabric (bit_in earlier.v) (bit_in before.v))
    moves = wave-agrees device fabric taken within writable earlier old first before held second

    -- one comes in the module exactly if one comes in the fabric
    comes-same : list_any (has_its_edge (edges_between old held)) (module_of fabric order name).items ≡ has_wave fabric earlier before
    unfolding module_of
    comes-same = edges-any fabric clocks order (edges_between old held) (wave_edges fabric (bit_in earlier.v) (bit_in before.v)) moves

    wave-shows : (next : Entry) → IsWave fabric earlier before next → Shows fabric next (acted (module_of fabric order name) (edges_between old held) held.inputs held)
    wave-shows next wave =
        acted-shows fabric within writable sized clocks order ordered name before held second (edges_between old held) (wave_edges fabric (bit_in earlier.v) (bit_in before.v)) moves
        held.inputs next wave.entry (wave-settled fabric earlier before next wave) wave.state (subst (HasValues held.inputs (map input_port_name (inputs_of fabric))) (sym wave.pins) second.matches.inputs)

  waves-show : {more : ℕ} {earlier before prior last : Entry} → EndsAt fabric more earlier before prior last
      → (old : ModuleEntry) → Shows fabric earlier old → (held : ModuleEntry) → Shows fabric before held → Shows fabric last (waved (module_of fabric order name) more old held)
  unfolding waved
  waves-show bound old first held second = second
  waves-show {earlier = earlier} {before = before} (rests none) old first held second = rw (comes-same earlier old first before held second ∙ none) second
  waves-show {earlier = earlier} {before = before} (goes_on next comes wave more) old first held second =
      rw (comes-same earlier old first before held second ∙ comes)
      (waves-show more held second (acted (module_of fabric order name) (edges_between old held) held.inputs held) (wave-shows earlier old first before held second next wave))

  -- ---- an event as a whole

  module _ (before : Entry) (held : ModuleEntry) (shown : Shows fabric before held) (event : Event) (after : Entry) (follows : Follows fabric before event after) where
    all-stays : is_same_bit event.bit (get_or before.pins event.pin false) ≡ true → after ≡ before
    all-stays same =
        let first : follows.first ≡ before = first-stays before held shown event follows.first follows.first_step same in
        ends-still fabric follows.waves (ap (has_wave fabric before) first ∙ wave-same fabric before) ∙ first

    changed-shows : is_same_bit event.bit (get_or before.pins event.pin false) ≡ false → Shows fabric after (changed (module_of fabric order name) held (module_event event))
    unfolding changed
    changed-shows changes =
        rw (bounds-same device fabric taken within writable sized clocks order ordered name)
        (waves-show follows.waves held shown
        (acted (module_of fabric order name) (edges_by (module_of fabric order name) (module_event event)) (with_input held.inputs event.pin event.bit) held)
        (first-shows before held shown event follows.first follows.first_step changes))

    bit-held : input_bit held event.pin ≡ get_or before.pins event.pin false
    bit-held = ap (λ values. get_or values event.pin false) shown.matches.inputs.valued

    -- the next entries
    pub step-shows : Shows fabric after (followed (module_of fabric order name) held (module_event event))
    unfolding followed
    step-shows =
        elim (cases_Bool (is_same_bit event.bit (get_or before.pins event.pin false))) [
          | inl same ↦ rw (bit-held, same) (subst (λ entry. Shows fabric entry held) (sym (all-stays same)) shown)
          | inr changes ↦ rw (bit-held, changes) (changed-shows changes)
        ]

  -- ---- all events

  runs-match : (entry : Entry) (held : ModuleEntry) → Shows fabric entry held → (events : List Event) (entries : List Entry) → FollowEach fabric entry events entries
      → AllZip (Matches fabric) (entry ∷ entries) (run_from (module_of fabric order name) held (map module_event events))
  unfolding run_from
  runs-match entry held shown [] [] follow = (shown.matches, tt)
  runs-match entry held shown [] (later ∷ entries) follow = absurd follow
  runs-match entry held shown (event ∷ events) [] follow = absurd follow
  runs-match entry held shown (event ∷ events) (later ∷ entries) follow = (
    shown.matches,
    runs-match later (followed (module_of fabric order name) held (module_event event)) (step-shows entry held shown event later follow.0) events entries follow.1,
  )

  -- For each list of events, the entries of the fabric's run and those of the module's run match, one by one.
  pub module-is-fabric : (events : List Event) (entries : List Entry) → IsRun fabric events entries
      → AllZip (Matches fabric) entries (module_run (module_of fabric order name) (map module_event events))
  unfolding module_run
  module-is-fabric events [] run = absurd run
  module-is-fabric events (first ∷ entries) run =
      let shown : Shows fabric first (start (module_of fabric order name)) = record {
        is = run.0.entry_is;
        settles = first-settled fabric first run.0;
        matches = start-matches fabric within writable sized order ordered name first run.0;
      } in
      runs-match first (start (module_of fabric order name)) shown events entries run.1
