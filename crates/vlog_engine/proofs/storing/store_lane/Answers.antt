use Rattle.std.proofs.Common.{◌<◌, ℕ, List, Vec, Global, ap, arith, get_or, length, refl, subst, sym, ◌∙◌}
use Rattle.std.proofs.lemmas.List.{with_items_is}
use Rattle.std.specs.Vec.{with_items}
use Rattle.vlog_engine.specs.Lanes.{lane_bits, list_of}
use Rattle.vlog_engine.specs.Passing.{IsStored}
use Rattle.vlog_engine.proofs.Lists.{lanes-set, list-at, list-here, list-other}
use Rattle.vlog_engine.proofs.Stored.{stored-idle, stored-like}
use Rattle.vlog_engine.specs.Triggers.{step_by}
use Rattle.vlog_engine.proofs.storing.store_lane.Goals as goal

pub store-requires-clause-room : goal.store-requires-clause-room
store-requires-clause-room g c =
    let within : c.args.lane < length c.args.words.now = omega (arith, c.requires.within, c.requires.words.size) in
    omega (
      arith,
      c.requires.room,
      ap (λ (words : List ℕ). length words) (c.deref_mut.ensures.value ∙ list-at c.args.words.now c.args.lane c.index-words-place.result within),
      c.requires.words.each c.args.lane c.requires.within,
    )

pub store-requires-clause-words : goal.store-requires-clause-words
store-requires-clause-words g c =
    let within : c.args.lane < length c.args.words.now = omega (arith, c.requires.within, c.requires.words.size) in
    sym (ap (λ (words : List ℕ). length words) (c.deref_mut.ensures.value ∙ list-at c.args.words.now c.args.lane c.index-words-place.result within) ∙ c.requires.words.each c.args.lane c.requires.within)

pub returns-then-bit-clause-stored : goal.returns-then-bit-clause-stored
returns-then-bit-clause-stored g c =
    let at = g.V.Value.at in
    let lane = c.args.lane in
    let words = c.args.words.now in
    let memories = c.args.memories.now in
    let within : lane < length words = omega (arith, c.requires.within, c.requires.words.size) in
    let held : lane < length memories = omega (arith, c.requires.within, c.requires.memories) in
    let word_list : Vec ℕ Global = get_or words lane c.index-words-place.result in
    let memory_list : Vec (List ℕ) Global = get_or memories lane c.index-memories-place.result in
    let many_words = ap (λ (items : List ℕ). length items) c.deref_mut.ensures.value in
    let many_memories = ap (λ (items : List (List ℕ)). length items) c.deref_mut-then-bit.ensures.value in
    let on = sym c.bit.ensures ∙ c.if-bit.true in
    let before = lane_bits at lane c.args.cells.now in
    let after = lane_bits at lane c.store.new.cells in
    let words_at = c.deref_mut.ensures.value ∙ list-at words lane c.index-words-place.result within in
    let memories_at = c.deref_mut-then-bit.ensures.value ∙ list-at memories lane c.index-memories-place.result held in
    let words_now = list-here words lane (with_items word_list c.store.new.words) within ∙ with_items_is word_list c.store.new.words (omega (arith, c.store.auto.words, many_words, word_list.ok.0)) in
    let memories_now = list-here memories lane (with_items memory_list c.store.new.memories) held ∙ with_items_is memory_list c.store.new.memories (omega (arith, c.store.auto.memories, many_memories, memory_list.ok.0)) in
    stored-like (at c.args.trigger.now.active lane) c.args.trigger.now.bits (step_by c.args.trigger.now.cause (lane_bits at lane c.args.trigger.now.earlier.now) (lane_bits at lane c.args.cells.now)) c.args.trigger.now.group.now (list_of lane words) c.deref_mut.result.now c.store.new.words _ (list_of lane memories) c.deref_mut-then-bit.result.now c.store.new.memories _ before before after after
    (subst (λ a. IsStored a c.args.trigger.now.bits (step_by c.args.trigger.now.cause (lane_bits at lane c.args.trigger.now.earlier.now) (lane_bits at lane c.args.cells.now)) c.args.trigger.now.group.now c.deref_mut.result.now c.store.new.words c.deref_mut-then-bit.result.now c.store.new.memories before after) (sym on) c.store.ensures.stored)
    words_at (sym words_now) memories_at (sym memories_now) refl refl

pub returns-then-bit-clause-other_words : goal.returns-then-bit-clause-other_words
returns-then-bit-clause-other_words g c other apart = list-other c.args.words.now c.args.lane _ other apart

pub returns-then-bit-clause-other_memories : goal.returns-then-bit-clause-other_memories
returns-then-bit-clause-other_memories g c other apart = list-other c.args.memories.now c.args.lane _ other apart

pub returns-then-bit-clause-lanes : goal.returns-then-bit-clause-lanes
returns-then-bit-clause-lanes g c =
    let lane = c.args.lane in
    let words = c.args.words.now in
    let within : lane < length words = omega (arith, c.requires.within, c.requires.words.size) in
    let list : Vec ℕ Global = get_or words lane c.index-words-place.result in
    let many = ap (λ (items : List ℕ). length items) c.deref_mut.ensures.value in
    let now = with_items_is list c.store.new.words (omega (arith, c.store.auto.words, many, list.ok.0)) in
    let count = ap (λ (items : List ℕ). length items) (list-at words lane c.index-words-place.result within) ∙ c.requires.words.each lane c.requires.within in
    lanes-set g.V.Value.LANES (length c.args.next_words.now) words lane _ c.requires.words c.requires.within
    (ap (λ (items : List ℕ). length items) now ∙ c.store.auto.words ∙ many ∙ count)
    (λ word. omega (arith, c.store.ensures.sixteen_bits word, ap (λ (items : List ℕ). get_or items word 0) now))

pub returns-else-bit-clause-stored : goal.returns-else-bit-clause-stored
returns-else-bit-clause-stored g c =
    let at = g.V.Value.at in
    let lane = c.args.lane in
    let words = list_of lane c.args.words.now in
    let memories = list_of lane c.args.memories.now in
    let cells = lane_bits at lane c.args.cells.now in
    subst (λ a. IsStored a c.args.trigger.now.bits (step_by c.args.trigger.now.cause (lane_bits at lane c.args.trigger.now.earlier.now) (lane_bits at lane c.args.cells.now)) c.args.trigger.now.group.now words words memories memories cells cells) (sym (sym c.bit.ensures ∙ c.if-bit.false))
    (stored-idle c.args.trigger.now.bits (step_by c.args.trigger.now.cause (lane_bits at lane c.args.trigger.now.earlier.now) (lane_bits at lane c.args.cells.now)) c.args.trigger.now.group.now words memories cells)
