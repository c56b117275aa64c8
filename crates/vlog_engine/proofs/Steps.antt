-- What writes of values, and sweeps over wires, do in a lane.
use Rattle.std.proofs.Common.{◌≡◌, ◌≢◌, ℕ, zero, suc, ◌+◌, ◌*◌, ◌<◌, ◌≤◌, Bool, true, false, cond, List, [], ◌∷◌, Vec, Global, ap, ap₂, arith, fold, get_or, length, refl, set, subst, sym, take, ◌∙◌}
use Rattle.std.specs.Prelude.{◌&&◌, ◌||◌}
use Rattle.std.proofs.lemmas.List.{get_or-set_other, set-get_or}
use Rattle.vlog_semantics.specs.declared.gates.Gate.{Gate}
use Rattle.vlog_semantics.specs.Cells.{cell_at, gate_value}
use Rattle.vlog_engine.specs.Lanes.{lane_bits}
use Rattle.vlog_engine.specs.Marks.{AreFirst, AreRising, IsRead, IsSwept, IsTracked, StaySources, gate_at, has, is_marked, lists_of}
use Rattle.vlog_engine.proofs.Lanes.{lane-change, lane-set}
use Rattle.vlog_engine.proofs.Marked.{gate-swept, write-tracked}
use Rattle.vlog_engine.proofs.Order.{slot-within}

-- ---- a write

-- a cell that has the value already
pub same-cells : {V : Type 0} (cells : List V) (cell : ℕ) (old value : V) → old ≡ get_or cells cell old → old ≡ value → cells ≡ set cells cell value
same-cells cells cell old value is same = sym (ap (set cells cell) (sym same ∙ is) ∙ set-get_or cells cell old)

-- a cell that gets another value, and its fan-out marked
pub lane-tracked : {V : Type 0} (at : V → ℕ → Bool) (lane : ℕ) (gates : List Gate) (readers : List (Vec ℕ Global)) (cell : ℕ) (value : V) (cells cells_now : List V) (marks marks_now places : List ℕ)
    → cells_now ≡ set cells cell value → places ≡ get_or (lists_of readers) cell [] → length marks_now ≡ length marks
    → ((place : ℕ) → place < 64 * length marks → is_marked marks_now place ≡ (has places place || is_marked marks place))
    → IsRead gates readers → IsTracked gates (lane_bits at lane cells) marks → IsTracked gates (lane_bits at lane cells_now) marks_now
lane-tracked at lane gates readers cell value cells cells_now marks marks_now places cells_are places_are size known read tracked =
    subst (λ c. IsTracked gates c marks_now) (sym (ap (lane_bits at lane) cells_are ∙ lane-set at lane cells cell value))
    (write-tracked gates readers cell (at value lane) (lane_bits at lane cells) marks marks_now places places_are size known read tracked)

-- ---- a wire

pub gate-step : {V : Type 0} (at : V → ℕ → Bool) (lane : ℕ) (active left : Bool) (value kept old : V) (first count : ℕ) (gates watched : List Gate) (place : ℕ) (cells cells_now : List V) (marks marks_now marks_last : List ℕ)
    → AreRising first count gates → AreFirst gates watched → count ≤ length (lane_bits at lane cells) → place < length gates
    → at value lane ≡ gate_value (lane_bits at lane cells) (gate_at gates place)
    → at kept lane ≡ cond active (at value lane) (at old lane)
    → (left ≡ false → kept ≡ value)
    → cells_now ≡ set cells (gate_at gates place).slot kept
    → length marks_last ≡ length marks_now → (place < 64 * length marks_now → is_marked marks_last place ≡ left) → ((other : ℕ) → other ≢ place → is_marked marks_last other ≡ is_marked marks_now other)
    → IsSwept active gates watched place (lane_bits at lane cells) marks
    → IsTracked watched (lane_bits at lane cells_now) marks_now
    → IsSwept active gates watched (place + 1) (lane_bits at lane cells_now) marks_last
gate-step at lane active left value kept old first count gates watched place cells cells_now marks marks_now marks_last rising among room within value_is kept_is stays cells_are size own others swept tracked =
    let slot : ℕ = (gate_at gates place).slot in
    let now : lane_bits at lane cells_now ≡ set (lane_bits at lane cells) slot (at kept lane) = ap (lane_bits at lane) cells_are ∙ lane-set at lane cells slot kept in
    subst (λ c. IsSwept active gates watched (place + 1) c marks_last) (sym now)
    (gate-swept active left (at kept lane) first count gates watched place (lane_bits at lane cells) marks marks_now marks_last rising among room within
    (λ on. kept_is ∙ ap (λ a. cond a (at value lane) (at old lane)) on ∙ value_is)
    (λ off. ap (λ v. at v lane) (stays off) ∙ value_is)
    size own others
    swept (subst (λ c. IsTracked watched c marks_now) now tracked))

pub gate-idle : {V : Type 0} (at : V → ℕ → Bool) (lane : ℕ) (active : Bool) (value kept old : V) (slot : ℕ) (cells cells_now : List V)
    → at kept lane ≡ cond active (at value lane) (at old lane) → at old lane ≡ cell_at (lane_bits at lane cells) slot → cells_now ≡ set cells slot kept → active ≡ false
    → lane_bits at lane cells_now ≡ lane_bits at lane cells
gate-idle at lane active value kept old slot cells cells_now kept_is old_is cells_are off =
    ap (lane_bits at lane) cells_are
    ∙ lane-change at lane cells slot kept active (at value lane) (kept_is ∙ ap (cond active (at value lane)) old_is)
    ∙ ap (λ a. cond a (set (lane_bits at lane cells) slot (at value lane)) (lane_bits at lane cells)) off

pub gate-same : {V : Type 0} (at : V → ℕ → Bool) (lane first count : ℕ) (gates : List Gate) (place : ℕ) (kept : V) (cells cells_now : List V) → AreRising first count gates → place < length gates
    → cells_now ≡ set cells (gate_at gates place).slot kept → StaySources first count (lane_bits at lane cells) (lane_bits at lane cells_now)
gate-same at lane first count gates place kept cells cells_now rising within cells_are cell source =
    let slot : ℕ = (gate_at gates place).slot in
    let spot = slot-within first count gates place rising within in
    ap (λ list. cell_at list cell) (ap (lane_bits at lane) cells_are ∙ lane-set at lane cells slot kept)
    ∙ get_or-set_other (lane_bits at lane cells) slot cell (at kept lane) false (λ same. let less : cell < first = source (omega (arith, same, spot.1)) in omega (arith, less, same, spot.0))

-- ---- changes that are noted

-- what a flip-flop does in a lane
pub flip-acts : (active edge enable lanes : Bool) (next : List Bool) (target : ℕ) (value bit : Bool) → lanes ≡ cond (cond active edge false) enable false → value ≡ bit
    → cond lanes (set next target value) next ≡ cond active (cond (edge && enable) (set next target bit) next) next
flip-acts active edge enable lanes next target value bit lanes_is value_is =
    ap₂ (λ l v. cond l (set next target v) next) lanes_is value_is
    ∙ (elim active as (λ a. cond (cond (cond a edge false) enable false) (set next target bit) next ≡ cond a (cond (edge && enable) (set next target bit) next) next) [
      | true ↦ elim edge as (λ e. cond (cond e enable false) (set next target bit) next ≡ cond (e && enable) (set next target bit) next) [ true ↦ refl | false ↦ refl ]
      | false ↦ refl
    ])

-- what acts in each active lane
pub in-each : (active enable : Bool) → cond active enable false ≡ cond (cond active true false) enable false
in-each true enable = refl
in-each false enable = refl

-- if it acts in no lane
pub flip-rests : (active edge enable lanes : Bool) (next : List Bool) (target : ℕ) (bit : Bool) → lanes ≡ cond (cond active edge false) enable false → lanes ≡ false
    → next ≡ cond active (cond (edge && enable) (set next target bit) next) next
flip-rests active edge enable lanes next target bit lanes_is none =
    sym (ap (λ l. cond l (set next target bit) next) none) ∙ flip-acts active edge enable lanes next target bit bit lanes_is refl

fold-set : {A B : Type 0} (step : A → B → A) (state : A) (xs : List B) (i : ℕ) (x : B) → i < length xs → fold step state (take (suc i) (set xs i x)) ≡ step (fold step state (take i xs)) x
fold-set step state [] i x within = absurd (omega (arith, within))
fold-set step state (y ∷ ys) zero x within = refl
fold-set step state (y ∷ ys) (suc i) x within = fold-set step (step state y) ys i x (omega (arith, within))

-- one more, after the first ones
pub fold-noted : {A B : Type 0} (step : A → B → A) (state : A) (xs : List B) (i : ℕ) (x : B) → i < length xs → fold step state (take (i + 1) (set xs i x)) ≡ step (fold step state (take i xs)) x
fold-noted step state xs i x within =
    let next : i + 1 ≡ suc i = omega arith in
    ap (λ n. fold step state (take n (set xs i x))) next ∙ fold-set step state xs i x within
