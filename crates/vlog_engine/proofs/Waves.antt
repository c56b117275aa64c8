-- What a lane shows after waves.
use Rattle.std.proofs.Common.{◌≡◌, ℕ, zero, suc, ◌<◌, ◌≤◌, Bool, true, false, cond, List, [], ◌∷◌, Option, Some, None, ap, ap₂, arith, inl, inr, refl, subst, sym, take, ◌∙◌}
use Rattle.std.specs.Prelude.{◌==◌, ◌||◌}
use Rattle.std.specs.List.{list_any}
use Rattle.std.proofs.lemmas.Bool.{cases_Bool, ne_eqb}
use Rattle.vlog_module.specs.declared.item.Item.{Item}
use Rattle.vlog_module.specs.Parts.{Parts}
use Rattle.vlog_semantics.specs.declared.event.Event.{Event}
use Rattle.vlog_semantics.specs.declared.layout.SlotLayout.{SlotLayout}
use Rattle.vlog_semantics.specs.Entries.{Entry}
use Rattle.vlog_semantics.specs.Named.{values_of}
use Rattle.vlog_semantics.specs.ModuleSlots.{wave_slots}
use Rattle.vlog_semantics.specs.Run.{acted, changed, clock_of, edges_between, edges_by, has_edge, has_its_edge, is_at_edge, readable, register_bit, wave_bound, waved, with_input}
use Rattle.vlog_semantics.specs.Steps.{SlotEdges, is_at, slots_between}
use Rattle.vlog_semantics.proofs.Waves.{wave-comes, waves-count}
use Rattle.vlog_engine.specs.declared.board.Board.{Board}
use Rattle.vlog_engine.specs.declared.value.Value.{Ghosts}
use Rattle.vlog_engine.specs.Boards.{IsChangedIn, IsIdleIn, Shows, StaysLaidOut, cells_in}
use Rattle.vlog_engine.specs.Lanes.{lane_bits}
use Rattle.vlog_engine.specs.Moments.{moments_size}
use Rattle.vlog_engine.specs.StepKinds.{slots_of}
use Rattle.vlog_engine.specs.StepKinds.Step.{at_event, at_wave}
use Rattle.vlog_engine.specs.Waves.{AwaitsWaves, HasEarlier, earlier_in, next_in}
use Rattle.vlog_engine.proofs.Apart.{module-apart}
use Rattle.vlog_engine.proofs.Boards.{first-cells, first-shows, idle-shows, wave-edges, wave-shows}

-- ---- what is kept

size-few : (b : Bool) (first : ℕ) → cond b 0 first ≤ first
size-few true first = omega arith
size-few false first = omega arith

pub moments-few : (layout : SlotLayout) → moments_size layout ≤ layout.first_wire
moments-few layout = size-few (layout.plan.clocks.len == 0) layout.first_wire

size-all : (count first : ℕ) → 0 < count → cond (count == 0) 0 first ≡ first
size-all count first some = ap (λ b. cond b 0 first) (ne_eqb count 0 (λ same. omega (arith, some, same)))

pub lane-take : {V : Type 0} (at : V → ℕ → Bool) (lane : ℕ) (values : List V) (count : ℕ) → lane_bits at lane (take count values) ≡ take count (lane_bits at lane values)
lane-take at lane values zero = refl
lane-take at lane [] (suc count) = refl
lane-take at lane (value ∷ values) (suc count) = ap (λ rest. at value lane ∷ rest) (lane-take at lane values count)

take-again : (count : ℕ) (bits : List Bool) → take count (take count bits) ≡ take count bits
take-again zero bits = refl
take-again (suc count) [] = refl
take-again (suc count) (bit ∷ bits) = ap (λ rest. bit ∷ rest) (take-again count bits)

-- ---- waves of a module

edge-itself : (falling bit : Bool) → has_edge falling bit bit ≡ false
edge-itself true true = refl
edge-itself true false = refl
edge-itself false true = refl
edge-itself false false = refl

-- no item has its edge between an entry and itself
clock-rests : (entry : Entry) (clock : Option (Bool × List ℕ)) → is_at_edge (edges_between entry entry) clock ≡ false
clock-rests entry (Some clock) = edge-itself clock.0 (register_bit entry clock.1)
clock-rests entry None = refl

items-rest : (entry : Entry) (items : List Item) → list_any (has_its_edge (edges_between entry entry)) items ≡ false
items-rest entry [] = refl
items-rest entry (item ∷ items) = ap₂ (λ one rest. one || rest) (clock-rests entry (clock_of item)) (items-rest entry items)

waved-rests : (m : Parts) (left : ℕ) (before after : Entry) → list_any (has_its_edge (edges_between before after)) m.items ≡ false → waved m left before after ≡ after
unfolding waved
waved-rests m zero before after none = refl
waved-rests m (suc left) before after none = ap (λ b. cond b (waved m left after (acted m (edges_between before after) after.inputs after)) after) none

waved-next : (m : Parts) (left : ℕ) (before after : Entry) → list_any (has_its_edge (edges_between before after)) m.items ≡ true
    → waved m (suc left) before after ≡ waved m left after (acted m (edges_between before after) after.inputs after)
unfolding waved
waved-next m left before after some = ap (λ b. cond b (waved m left after (acted m (edges_between before after) after.inputs after)) after) some

-- ---- waves of a lane

-- the inputs and registers that are kept before a step
has-kept : {V : Type 0} {g : Ghosts V} (m : Parts) (lane : ℕ) (a : Board V g) (entry : Entry) → Shows a lane m entry → (bits : List Bool) → bits ≡ take (moments_size a.layout) (cells_in a lane)
    → 0 < a.layout.plan.clocks.len → HasEarlier a.layout.first_wire entry bits
has-kept m lane a entry shows bits is some =
    let first : ℕ = a.layout.first_wire in
    record {
      are = ap (take first) (is ∙ ap (λ n. take n (cells_in a lane)) (size-all a.layout.plan.clocks.len first some))
          ∙ take-again first (cells_in a lane)
          ∙ first-cells m entry a lane shows first (omega arith);
    }

module _ {V : Type 0} {g : Ghosts V} (m : Parts) (last : Entry) (lane : ℕ) (a : Board V g) where
  abbrev first : ℕ
  first = a.layout.first_wire

  -- whether a wave comes, by the edges of the plan
  abbrev comes : Bool
  comes = list_any (is_at (slots_between a.layout.input_count first (earlier_in a lane) (cells_in a lane))) a.layout.plan.clocks.items

  comes-is : (left : ℕ) (awaits : AwaitsWaves a lane m (suc left) last) → comes ≡ list_any (has_its_edge (edges_between awaits.prior awaits.now)) m.items
  unfolding slots_of
  comes-is left awaits =
      let shows = awaits.shows in
      let edges : slots_between a.layout.input_count first (earlier_in a lane) (cells_in a lane) ≡ wave_slots m (values_of (readable awaits.prior).bits) (values_of (readable awaits.now).bits) =
      wave-edges m awaits.now a lane shows awaits.prior (earlier_in a lane) (awaits.earlier (omega arith)) in
      ap (λ (slots : SlotEdges). list_any (is_at slots) a.layout.plan.clocks.items) edges
      ∙ sym (wave-comes m awaits.prior awaits.now (module-apart m shows.whole) awaits.named shows.shown.named a.layout.plan shows.laid_out.plan)

  -- a lane in which no wave comes shows the last entry
  pub awaits-rests : (left : ℕ) → AwaitsWaves a lane m left last → comes ≡ false → Shows a lane m last
  unfolding waved
  awaits-rests zero awaits none = subst (Shows a lane m) awaits.last_is awaits.shows
  awaits-rests (suc left) awaits none =
      subst (Shows a lane m) (sym (waved-rests m (suc left) awaits.prior awaits.now (sym (comes-is left awaits) ∙ none)) ∙ awaits.last_is) awaits.shows

  pub awaits-none : AwaitsWaves a lane m 0 last → Shows a lane m last
  unfolding waved
  awaits-none awaits = subst (Shows a lane m) awaits.last_is awaits.shows

  -- a wave
  pub awaits-next : (left : ℕ) (b c d : Board V g) (on : Bool) → AwaitsWaves a lane m (suc left) last → 0 < a.layout.plan.clocks.len
      → StaysLaidOut a b → IsIdleIn lane a b → b.moments.earlier ≡ a.moments.earlier → next_in b lane ≡ take (moments_size a.layout) (cells_in a lane)
      → StaysLaidOut b c → c.moments ≡ b.moments
      → (on ≡ true → IsChangedIn (at_wave b.layout.input_count b.layout.first_wire (earlier_in b lane) (cells_in b lane)) lane b c) → (on ≡ false → IsIdleIn lane b c)
      → StaysLaidOut c d → IsIdleIn lane c d → d.moments.earlier ≡ c.moments.next → on ≡ comes → AwaitsWaves d lane m left last
  awaits-next left b c d on awaits some same_b idle_b earlier_b next_b same_c moments_c changed_c idle_c same_d idle_d earlier_d on_is =
      let shows_b : Shows b lane m awaits.now = idle-shows m awaits.now a lane awaits.shows b same_b idle_b in
      let kept : earlier_in d lane ≡ take (moments_size a.layout) (cells_in a lane) =
      ap (λ values. lane_bits g.at lane values.items) (earlier_d ∙ ap (λ moments. moments.next) moments_c) ∙ next_b in
      let layouts : d.layout ≡ a.layout = same_d.layout ∙ same_c.layout ∙ same_b.layout in
      let has_d : HasEarlier d.layout.first_wire awaits.now (earlier_in d lane) =
      subst (λ (layout : SlotLayout). HasEarlier layout.first_wire awaits.now (earlier_in d lane)) (sym layouts) (has-kept m lane a awaits.now awaits.shows (earlier_in d lane) kept some) in
      elim (cases_Bool on) [
        | inl comes_on ↦
            let next : Entry = acted m (edges_between awaits.prior awaits.now) awaits.now.inputs awaits.now in
            let has_b : HasEarlier b.layout.first_wire awaits.prior (earlier_in b lane) =
            subst (λ (layout : SlotLayout). HasEarlier layout.first_wire awaits.prior (earlier_in b lane)) (sym same_b.layout)
            (subst (λ values. HasEarlier first awaits.prior (lane_bits g.at lane values.items)) (sym earlier_b) (awaits.earlier (omega arith))) in
            let shows_c : Shows c lane m next = wave-shows m awaits.now b lane shows_b c awaits.prior (earlier_in b lane) awaits.named has_b same_c (changed_c comes_on) in
            record {
              prior = awaits.now;
              now = next;
              named = awaits.shows.shown.named;
              shows = idle-shows m next c lane shows_c d same_d idle_d;
              earlier = λ more. has_d;
              last_is = sym (waved-next m left awaits.prior awaits.now (sym (comes-is left awaits) ∙ sym on_is ∙ comes_on)) ∙ awaits.last_is;
            }
        | inr none ↦
            let shows_c : Shows c lane m awaits.now = idle-shows m awaits.now b lane shows_b c same_c (idle_c none) in
            record {
              prior = awaits.now;
              now = awaits.now;
              named = awaits.shows.shown.named;
              shows = idle-shows m awaits.now c lane shows_c d same_d idle_d;
              earlier = λ more. has_d;
              last_is = waved-rests m left awaits.now awaits.now (items-rest awaits.now m.items)
                  ∙ sym (waved-rests m (suc left) awaits.prior awaits.now (sym (comes-is left awaits) ∙ sym on_is ∙ none)) ∙ awaits.last_is;
            }
      ]

-- ---- the first step

-- after the first step of an event a lane awaits the waves that lead to the entry after the event
pub change-awaits : {V : Type 0} {g : Ghosts V} (m : Parts) (entry : Entry) (lane : ℕ) (a b c d : Board V g) (event : Event) → Shows a lane m entry → event.pin < a.layout.input_count
    → StaysLaidOut a b → IsIdleIn lane a b → next_in b lane ≡ take (moments_size a.layout) (cells_in a lane)
    → StaysLaidOut b c → c.moments ≡ b.moments → IsChangedIn (at_event event) lane b c
    → StaysLaidOut c d → IsIdleIn lane c d → d.moments.earlier ≡ c.moments.next → AwaitsWaves d lane m d.layout.plan.clocks.len (changed m entry event)
unfolding changed
change-awaits {g = g} m entry lane a b c d event shows early same_b idle_b next_b same_c moments_c changed_c same_d idle_d earlier_d =
    let next : Entry = acted m (edges_by m event) (with_input entry.inputs event.pin event.bit) entry in
    let shows_b : Shows b lane m entry = idle-shows m entry a lane shows b same_b idle_b in
    let shows_c : Shows c lane m next = first-shows m entry b lane shows_b c event same_c changed_c (omega (arith, early, shows.laid_out.input_count)) in
    let shows_d : Shows d lane m next = idle-shows m next c lane shows_c d same_d idle_d in
    let kept : earlier_in d lane ≡ take (moments_size a.layout) (cells_in a lane) =
    ap (λ values. lane_bits g.at lane values.items) (earlier_d ∙ ap (λ moments. moments.next) moments_c) ∙ next_b in
    let layouts : d.layout ≡ a.layout = same_d.layout ∙ same_c.layout ∙ same_b.layout in
    let count : d.layout.plan.clocks.len ≡ wave_bound m = d.layout.plan.clocks.ok.0 ∙ waves-count m d.layout.plan shows_d.laid_out.plan in
    record {
      prior = entry;
      now = next;
      named = shows.shown.named;
      shows = shows_d;
      earlier = λ more.
          subst (λ (layout : SlotLayout). HasEarlier layout.first_wire entry (earlier_in d lane)) (sym layouts)
          (has-kept m lane a entry shows (earlier_in d lane) kept (omega (arith, more, ap (λ (layout : SlotLayout). layout.plan.clocks.len) layouts)));
      last_is = ap (λ left. waved m left entry next) count;
    }
