-- Where items have their edges exactly if users have theirs, an entry of the module after the items have taken effect holds the values of the
-- fabric's entry after the users have taken theirs.
use Rattle.std.proofs.Common.{◌≡◌, ℕ, Bool, false, List, [], map, get_or, fold, sym, ap, ◌∙◌, subst}
use Rattle.std.specs.Prelude.{All, Contains, Some}
use Rattle.std.proofs.lemmas.List.Elements.{All-weaker, All-contains_itself}
use Rattle.std.proofs.Math.ListN.{get_or-map}
use Rattle.shared_lemmas.proofs.Lists.{All-both}
use Rattle.bit_plane.specs.BitList.{word_of}
use Rattle.vlog_module.specs.Maps.{value_in}
use Rattle.vlog_semantics.specs.Entries.{Entry as ModuleEntry}
use Rattle.vlog_semantics.specs.Run.{Edges as ItemEdges}
use Rattle.vlog_semantics.specs.Run.{readable, next_bit, next_word, next_put, put_given, put_given_word, register_step, word_step, memory_step, acted}
use Rattle.fabric_model.specs.declared.register.Register.{Register}
use Rattle.fabric_model.specs.declared.ram.RamCell.{RamCell}
use Rattle.fabric_model.specs.Fabric.{Fabric, numbered, inputs_of}
use Rattle.fabric_model.specs.Drivers.{is_driven}
use Rattle.fabric_model.specs.Values.{State, bit_in, is_connected}
use Rattle.fabric_model.specs.Steps.{Edges, bit_after, words_after, read_after, state_after, settled_state, Entry, IsEntry}
use Rattle.graph_order.specs.Wiring.{IsWriteOrder}
use Rattle.fabric_model.specs.Wiring.{clocked_wiring}
use Rattle.fabric_model.proofs.OneValue.{IsWithin}
use Rattle.fabric_model.proofs.Within.{All-numbered}
use Rattle.fabric_model.proofs.Events.{HasSettled}
use Rattle.fabric_model.proofs.Signals.{HasSignals}
use Rattle.fabric_model.proofs.Runs.{IsClocked}
use Rattle.fabric_module.specs.Names.{input_port_name, register_name, read_name, memory_name}
use Rattle.fabric_module.specs.Rights.{setting_wire}
use Rattle.fabric_module.specs.Written.{clock_name, register_items, read_item, read_items, write_item, write_items, items_of, module_of}
use Rattle.fabric_module.specs.Matching.{HasValues}
use Rattle.fabric_module.proofs.Lists.{place-there, name-there, map-map, value_in-at}
use Rattle.fabric_module.proofs.Sections.{flips-section, reads-section, writes-section}
use Rattle.fabric_module.proofs.Computed.{assigned_in, done, part-holds}
use Rattle.fabric_module.proofs.Rights.{Gives}
use Rattle.fabric_module.proofs.Settled.{IsWritable, Holding, gives-read, settled-matches, word-pick}
use Rattle.fabric_module.proofs.Beginning.{IsStarted, IsPorted}
use Rattle.fabric_module.proofs.Ticks.{Agree, Shows}
use Rattle.fabric_module.proofs.Clocked.{bit-none, word-none, put-none, given_name, given_value, puts-given, put_memory, put_value, puts-word, few-register, few-clocked, own-register, own-read, own-write, register-same, read-same, write-same}

-- no clock of a register or of a port of a RAM ends at logic
pub record AreClocked (fabric : Fabric) : Type 0 where
  pub registers : All (λ register. IsClocked fabric register.clk) fabric.registers
  pub reads : All (λ ram. IsClocked fabric ram.rclk) fabric.rams
  pub writes : All (λ ram. IsClocked fabric ram.wclk) fabric.rams

module _ (fabric : Fabric) (within : IsWithin fabric) (writable : IsWritable fabric) (sized : IsStarted fabric) (clocked : AreClocked fabric)
    (order : List ℕ) (ordered : IsWriteOrder (clocked_wiring fabric) order) (name : List ℕ)
    (before : Entry) (held : ModuleEntry) (shown : Shows fabric before held) (edges : ItemEdges) (user_edges : Edges) (agree : Agree fabric edges user_edges) where
  holding : Holding fabric before.state before.pins held.inputs held.registers held.words
  holding = record { input = shown.matches.inputs; register = shown.matches.registers; word = shown.matches.words }

  gives : Gives fabric before.state before.pins before.v (is_driven fabric) (readable held)
  gives = gives-read fabric within writable before.state before.pins before.v shown.is.consistent held.inputs held.registers held.words holding held.wires shown.matches.wires

  -- what users of clocks make of the state, before it settles
  abbrev next : State
  next = state_after fabric before.pins before.state (bit_in before.v) user_edges

  -- the memory of a RAM has its words
  abbrev HasMemory : ℕ × RamCell → Type 0
  HasMemory place = value_in held.memories (memory_name place.1) ≡ Some (map word_of (get_or before.state.words place.0 []))

  memory-at : (place : ℕ × RamCell) → Contains (numbered fabric.rams) place → HasMemory place
  memory-at place there =
      subst (λ n. value_in held.memories n ≡ Some (map word_of (get_or before.state.words place.0 []))) (name-there memory_name fabric.rams place there)
      (value_in-at memory_name [] fabric.rams held.memories place.0 writable.memories shown.matches.memories.named (place-there fabric.rams place there)
      ∙ (ap (λ values. Some (get_or values place.0 [])) shown.matches.memories.valued
      ∙ ap (λ list. Some list) (get_or-map (map word_of) before.state.words place.0 [])))

  memory-there : All HasMemory (numbered fabric.rams)
  memory-there = All-weaker (Contains (numbered fabric.rams)) HasMemory memory-at (numbered fabric.rams) (All-contains_itself (numbered fabric.rams))

  -- ---- registers, read registers and memories, each by their own items

  abbrev IsGood : Register → Type 0
  IsGood register = IsClocked fabric register.clk × HasSignals fabric register

  register-goods : All (λ (place : ℕ × Register). IsGood place.1) (numbered fabric.registers)
  register-goods =
      All-numbered IsGood 0 fabric.registers
      (All-both (λ register. IsClocked fabric register.clk) (HasSignals fabric) IsGood (λ register good sources. (good, sources)) fabric.registers clocked.registers writable.tables)

  registers-hold : HasValues (fold (register_step edges held) held.registers (items_of fabric order)) (map register_name fabric.registers) next.bits
  unfolding state_after
  registers-hold =
      let becomes = bit_after (is_connected fabric) before.pins (bit_in before.v) user_edges before.state in
      part-holds put_given given_name given_value puts-given (next_bit edges held) register_name (register_items fabric)
      (λ register. few-register fabric register (setting_wire fabric register) (clock_name fabric register.clk))
      (λ register. own-register fabric held edges register (setting_wire fabric register) (clock_name fabric register.clk))
      7 (bit-none edges held) (items_of fabric order) fabric.registers (flips-section fabric order) writable.registers
      false held.registers before.state.bits shown.matches.registers becomes
      (All-weaker (λ (place : ℕ × Register). IsGood place.1)
      (λ (place : ℕ × Register). done given_value (assigned_in (next_bit edges held) (register_items fabric place.1)) (get_or before.state.bits place.0 false) ≡ becomes place)
      (λ place good. register-same fabric within before.state before.pins before.v shown.is.consistent held edges gives user_edges place
      good.1 (agree place.1.neg place.1.clk good.0)) (numbered fabric.registers) register-goods)

  -- the ports of a RAM have all that they need
  abbrev IsPort : (RamCell → Type 0) → ℕ × RamCell → Type 0
  IsPort IsGoodPort place = (IsGoodPort place.1 × IsPorted place.1) × HasMemory place

  port-goods : (IsGoodPort : RamCell → Type 0) → All IsGoodPort fabric.rams → All (IsPort IsGoodPort) (numbered fabric.rams)
  port-goods IsGoodPort all =
      All-both (λ (place : ℕ × RamCell). IsGoodPort place.1 × IsPorted place.1) HasMemory (IsPort IsGoodPort) (λ place good there. (good, there)) (numbered fabric.rams)
      (All-numbered (λ ram. IsGoodPort ram × IsPorted ram) 0 fabric.rams
      (All-both IsGoodPort IsPorted (λ ram. IsGoodPort ram × IsPorted ram) (λ ram good ported. (good, ported)) fabric.rams all sized.each_port))
      memory-there

  words-hold : HasValues (fold (word_step edges held) held.words (items_of fabric order)) (map read_name fabric.rams) (map word_of next.reads)
  unfolding state_after
  words-hold =
      let becomes = read_after (is_connected fabric) (bit_in before.v) user_edges before.state in
      let gets = λ (place : ℕ × RamCell). done given_value (assigned_in (next_word edges held) (read_items fabric place.1)) in
      subst (HasValues (fold (word_step edges held) held.words (items_of fabric order)) (map read_name fabric.rams))
      (sym (map-map becomes word_of (numbered fabric.rams)))
      (part-holds put_given given_name given_value puts-given (next_word edges held) read_name (read_items fabric)
      (λ ram. few-clocked (clock_name fabric ram.rclk) (read_item fabric ram))
      (λ ram. own-read fabric held edges ram (clock_name fabric ram.rclk))
      8 (word-none edges held) (items_of fabric order) fabric.rams (reads-section fabric order) writable.reads
      0 held.words (map word_of before.state.reads) shown.matches.words (λ (place : ℕ × RamCell). word_of (becomes place))
      (All-weaker (IsPort (λ ram. IsClocked fabric ram.rclk))
      (λ (place : ℕ × RamCell). gets place (get_or (map word_of before.state.reads) place.0 0) ≡ word_of (becomes place))
      (λ place good. ap (gets place) (word-pick before.state.reads place.0)
      ∙ read-same fabric within before.state before.pins before.v shown.is.consistent held edges gives user_edges before.state place
      good.0.1 (agree place.1.rneg place.1.rclk good.0.0) good.1) (numbered fabric.rams) (port-goods (λ ram. IsClocked fabric ram.rclk) clocked.reads)))

  memories-hold : HasValues (fold (memory_step edges held) held.memories (items_of fabric order)) (map memory_name fabric.rams) (map (map word_of) next.words)
  unfolding state_after
  memories-hold =
      let becomes = words_after (is_connected fabric) (bit_in before.v) user_edges before.state in
      let gets = λ (place : ℕ × RamCell). done put_value (assigned_in (next_put edges held) (write_items fabric place.1)) in
      subst (HasValues (fold (memory_step edges held) held.memories (items_of fabric order)) (map memory_name fabric.rams))
      (sym (map-map becomes (map word_of) (numbered fabric.rams)))
      (part-holds put_given_word put_memory put_value puts-word (next_put edges held) memory_name (write_items fabric)
      (λ ram. few-clocked (clock_name fabric ram.wclk) (write_item fabric ram))
      (λ ram. own-write fabric held edges ram (clock_name fabric ram.wclk))
      9 (put-none edges held) (items_of fabric order) fabric.rams (writes-section fabric order) writable.memories
      [] held.memories (map (map word_of) before.state.words) shown.matches.memories (λ (place : ℕ × RamCell). map word_of (becomes place))
      (All-weaker (IsPort (λ ram. IsClocked fabric ram.wclk))
      (λ (place : ℕ × RamCell). gets place (get_or (map (map word_of) before.state.words) place.0 []) ≡ map word_of (becomes place))
      (λ place good. ap (gets place) (get_or-map (map word_of) before.state.words place.0 [])
      ∙ write-same fabric within before.state before.pins before.v shown.is.consistent held edges gives user_edges before.state place
      good.0.1 (agree place.1.wneg place.1.wclk good.0.0) good.1) (numbered fabric.rams) (port-goods (λ ram. IsClocked fabric ram.wclk) clocked.writes)))

  holding-next : (inputs : List (List ℕ × Bool)) (pins : List Bool) → HasValues inputs (map input_port_name (inputs_of fabric)) pins
      → Holding fabric next pins inputs (fold (register_step edges held) held.registers (items_of fabric order)) (fold (word_step edges held) held.words (items_of fabric order))
  holding-next inputs pins has = record { input = has; register = registers-hold; word = words-hold }

  -- the entries in which all have taken effect
  pub acted-shows : (inputs : List (List ℕ × Bool)) (after : Entry) → IsEntry fabric after → HasSettled fabric after → after.state ≡ settled_state fabric (bit_in after.v) next
      → HasValues inputs (map input_port_name (inputs_of fabric)) after.pins → Shows fabric after (acted (module_of fabric order name) edges inputs held)
  unfolding acted module_of
  acted-shows inputs after of_after settles state has = record {
    is = of_after;
    settles = settles;
    matches =
        settled-matches fabric within writable order ordered name after of_after next state inputs
        (fold (register_step edges held) held.registers (items_of fabric order)) (fold (word_step edges held) held.words (items_of fabric order)) (holding-next inputs after.pins has)
        (fold (memory_step edges held) held.memories (items_of fabric order)) memories-hold;
  }
