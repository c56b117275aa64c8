-- The bits of a lane.
use Rattle.std.proofs.Common.{◌≡◌, ℕ, zero, suc, ◌<◌, ◌≤◌, Bool, true, false, cond, List, [], ◌∷◌, ap, arith, fold, get_or, length, refl, set, ◌∙◌}
use Rattle.std.specs.Prelude.{map}
use Rattle.std.proofs.lemmas.List.{get_or_past, length-map, map-set, set-get_or}
use Rattle.vlog_semantics.specs.Cells.{cell_at}
use Rattle.vlog_semantics.specs.Values.{number_of}
use Rattle.vlog_engine.specs.Changes.{step_in}
use Rattle.vlog_engine.specs.Lanes.{lane_bits}

pub lane-length : {V : Type 0} (at : V → ℕ → Bool) (lane : ℕ) (values : List V) → length (lane_bits at lane values) ≡ length values
lane-length at lane values = length-map values (λ value. at value lane)

pub lane-get : {V : Type 0} (at : V → ℕ → Bool) (lane : ℕ) (values : List V) (place : ℕ) (d : V) → place < length values → cell_at (lane_bits at lane values) place ≡ at (get_or values place d) lane
lane-get at lane [] place d within = absurd (omega arith)
lane-get at lane (value ∷ values) zero d within = refl
lane-get at lane (value ∷ values) (suc place) d within = lane-get at lane values place d (omega (arith, within))

pub lane-past : {V : Type 0} (at : V → ℕ → Bool) (lane : ℕ) (values : List V) (place : ℕ) → length values ≤ place → cell_at (lane_bits at lane values) place ≡ false
lane-past at lane values place past = get_or_past (lane_bits at lane values) place false (omega (arith, past, lane-length at lane values))

pub lane-set : {V : Type 0} (at : V → ℕ → Bool) (lane : ℕ) (values : List V) (place : ℕ) (value : V) → lane_bits at lane (set values place value) ≡ set (lane_bits at lane values) place (at value lane)
lane-set at lane values place value = map-set (λ each. at each lane) values place value

set-case : (acts bit : Bool) (bits : List Bool) (place : ℕ) → set bits place (cond acts bit (get_or bits place false)) ≡ cond acts (set bits place bit) bits
set-case true bit bits place = refl
set-case false bit bits place = set-get_or bits place false

-- a value that differs only in the lanes in which it acts
pub lane-change : {V : Type 0} (at : V → ℕ → Bool) (lane : ℕ) (values : List V) (place : ℕ) (value : V) (acts bit : Bool) → at value lane ≡ cond acts bit (cell_at (lane_bits at lane values) place)
    → lane_bits at lane (set values place value) ≡ cond acts (set (lane_bits at lane values) place bit) (lane_bits at lane values)
lane-change at lane values place value acts bit is =
    lane-set at lane values place value ∙ ap (set (lane_bits at lane values) place) is ∙ set-case acts bit (lane_bits at lane values) place

-- ---- four bits that are read

pub four-read : {A : Type 0} (value : A → Bool) (d : A) (ins : List A) → length ins ≡ 4
    → number_of (value (get_or ins 0 d) ∷ value (get_or ins 1 d) ∷ value (get_or ins 2 d) ∷ value (get_or ins 3 d) ∷ []) ≡ number_of (map value ins)
four-read value d (a ∷ b ∷ c ∷ e ∷ []) size = refl
four-read value d [] size = absurd (omega (arith, size))
four-read value d (a ∷ []) size = absurd (omega (arith, size))
four-read value d (a ∷ b ∷ []) size = absurd (omega (arith, size))
four-read value d (a ∷ b ∷ c ∷ []) size = absurd (omega (arith, size))
four-read value d (a ∷ b ∷ c ∷ e ∷ f ∷ more) size = absurd (omega (arith, size))

-- ---- steps that are taken in active lanes alone

pub steps-on : {A B : Type 0} (step : A → B → A) (state : A) (items : List B) → fold (step_in true step) state items ≡ fold step state items
steps-on step state [] = refl
steps-on step state (item ∷ items) = steps-on step (step state item) items

pub steps-off : {A B : Type 0} (step : A → B → A) (state : A) (items : List B) → fold (step_in false step) state items ≡ state
steps-off step state [] = refl
steps-off step state (item ∷ items) = steps-off step state items

pub steps-in : {A B : Type 0} (active : Bool) (step : A → B → A) (state : A) (items : List B) → fold (step_in active step) state items ≡ cond active (fold step state items) state
steps-in true step state items = steps-on step state items
steps-in false step state items = steps-off step state items
