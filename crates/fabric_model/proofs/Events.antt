-- What holds after an event: through its first step and its waves.
use Rattle.std.proofs.Common.{◌≡◌, ℕ, Bool, true, false, set, refl, sym, ap, ◌∙◌}
use Rattle.std.specs.Prelude.{Option, Some, None, ◌&&◌, is_some}
use Rattle.std.proofs.lemmas.List.Folds.{list_any_none}
use Rattle.fabric_model.specs.Fabric.{Fabric}
use Rattle.fabric_model.specs.Values.{State, bit_in}
use Rattle.fabric_model.specs.Clocks.{clock_class}
use Rattle.fabric_model.specs.Steps.{is_on_register, wave_edges, state_after, event_edges, settled_state, Event, Entry, IsEntry, IsFirstStep, IsWave, clocked_users, has_wave, EndsAt, Follows, start_state, IsFirst}
use Rattle.fabric_model.specs.Steps.EndsAt.{bound, rests, goes_on}
use Rattle.fabric_model.proofs.Settling.{settled-twice}
use Rattle.fabric_model.proofs.Edges.{edge-still}
use Rattle.fabric_model.proofs.Apart.{All-every}
use Rattle.fabric_model.proofs.Chains.{clock_end-alone}

pub and-false : (one : Bool) → (one && false) ≡ false
and-false true = refl
and-false false = refl

module _ (fabric : Fabric) where
  -- ---- from the first step to the last wave

  -- what a wave keeps holds of the last entry
  pub ends-keep : (P : Entry → Type 0) → ((earlier before after : Entry) → IsWave fabric earlier before after → P before → P after)
      → {more : ℕ} {earlier before prior last : Entry} → EndsAt fabric more earlier before prior last → P before → P last
  ends-keep P keeps bound holds = holds
  ends-keep P keeps (rests still) holds = holds
  ends-keep P keeps {earlier} {before} (goes_on next comes wave more) holds = ends-keep P keeps more (keeps earlier before next wave holds)

  -- and of the last but one
  pub ends-keep_prior : (P : Entry → Type 0) → ((earlier before after : Entry) → IsWave fabric earlier before after → P before → P after)
      → {more : ℕ} {earlier before prior last : Entry} → EndsAt fabric more earlier before prior last → P earlier → P before → P prior
  ends-keep_prior P keeps bound old holds = old
  ends-keep_prior P keeps (rests still) old holds = old
  ends-keep_prior P keeps {earlier} {before} (goes_on next comes wave more) old holds = ends-keep_prior P keeps more holds (keeps earlier before next wave holds)

  -- what holds after the first step and after each wave holds after an event
  pub follows-keep : (P : Entry → Type 0) → (before : Entry) (event : Event) (after : Entry)
      → ((first : Entry) → IsFirstStep fabric before event first → P first)
      → ((earlier middle later : Entry) → IsWave fabric earlier middle later → P middle → P later)
      → Follows fabric before event after → P after
  follows-keep P before event after begins keeps follows = ends-keep P keeps follows.waves (begins follows.first follows.first_step)

  -- an event ends at an entry
  pub follows-entry : (before : Entry) (event : Event) (after : Entry) → Follows fabric before event after → IsEntry fabric after
  follows-entry before event after =
      follows-keep (IsEntry fabric) before event after (λ first step. step.entry) (λ earlier middle later wave is. wave.entry)

  -- with the pins of its first step
  pub follows-pins : (before : Entry) (event : Event) (after : Entry) → Follows fabric before event after → after.pins ≡ set before.pins event.pin event.bit
  follows-pins before event after =
      follows-keep (λ (e : Entry). e.pins ≡ set before.pins event.pin event.bit) before event after
      (λ first step. step.pins) (λ earlier middle later wave same. wave.pins ∙ same)

  -- ---- entries settle

  -- a state that another settles to settles to itself
  settled-itself : (bit : ℕ → Bool) (state raw : State) → state ≡ settled_state fabric bit raw → state ≡ settled_state fabric bit state
  settled-itself bit state raw settled = settled ∙ (sym (settled-twice fabric bit raw) ∙ ap (settled_state fabric bit) (sym settled))

  -- each register whose asynchronous set or reset is 1 has its set bit
  abbrev pub HasSettled : Entry → Type 0
  HasSettled entry = entry.state ≡ settled_state fabric (bit_in entry.v) entry.state

  -- it is so in the first entry
  pub first-settled : (entry : Entry) → IsFirst fabric entry → HasSettled entry
  first-settled entry first = settled-itself (bit_in entry.v) entry.state (start_state fabric) first.state

  -- after the first step of an event
  pub step-settled : (before : Entry) (event : Event) (after : Entry) → IsFirstStep fabric before event after → HasSettled after
  step-settled before event after step =
      settled-itself (bit_in after.v) after.state
      (state_after fabric before.pins before.state (bit_in before.v) (event_edges fabric (bit_in before.v) (bit_in after.v))) step.state

  -- after each wave
  pub wave-settled : (earlier before after : Entry) → IsWave fabric earlier before after → HasSettled after
  wave-settled earlier before after wave =
      settled-itself (bit_in after.v) after.state
      (state_after fabric before.pins before.state (bit_in before.v) (wave_edges fabric (bit_in earlier.v) (bit_in before.v))) wave.state

  -- and so in each entry that follows
  pub follows-settled : (before : Entry) (event : Event) (after : Entry) → Follows fabric before event after → HasSettled after
  follows-settled before event after =
      follows-keep HasSettled before event after (step-settled before event) (λ earlier middle later wave old. wave-settled earlier middle later wave)

  -- ---- without waves

  -- where no wave comes, the waves end at once
  pub ends-still : {more : ℕ} {earlier before prior last : Entry} → EndsAt fabric more earlier before prior last → has_wave fabric earlier before ≡ false → last ≡ before
  ends-still bound still = refl
  ends-still (rests already) still = refl
  ends-still (goes_on next comes wave more) still = absurd cc

  -- between an entry and itself no wave comes
  pub wave-same : (entry : Entry) → has_wave fabric entry entry ≡ false
  wave-same entry =
      list_any_none (λ user. wave_edges fabric (bit_in entry.v) (bit_in entry.v) user.0 user.1) (clocked_users fabric)
      (All-every (λ (user : Bool × Option ℕ). wave_edges fabric (bit_in entry.v) (bit_in entry.v) user.0 user.1 ≡ false)
      (λ user. rw (edge-still user.0 user.1 (bit_in entry.v) (bit_in entry.v) (λ net is. refl)) (and-false (is_on_register fabric user.1))) (clocked_users fabric))

  -- ---- no register is a clock

  module _ (alone : fabric.register_clocks ≡ false) where
    -- no net has a register as its clock
    pub none-on_register : (net : Option ℕ) → is_on_register fabric net ≡ false
    unfolding clock_class
    none-on_register None = refl
    none-on_register (Some net) = ap is_some (clock_end-alone fabric alone net)
