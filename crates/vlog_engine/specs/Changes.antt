-- Changes of cells.
use Rattle.std.specs.Prelude.{ℕ, zero, suc, ◌+◌, Bool, List, Option, Some, None, slice_set, if◌then◌else◌}
use Rattle.vlog_semantics.specs.Values.{bit_of}
use Rattle.vlog_engine.specs.declared.changes.Change.{Change}

-- a change of a cell, in a lane
abbrev pub change_slot : {V : Type 0} → (V → ℕ → Bool) → ℕ → List Bool → Change V → List Bool
change_slot at lane cells change = if at change.lanes lane then slice_set cells change.cell (at change.value lane) else cells

abbrev pub changed_by : {V : Type 0} → (V → ℕ → Bool) → ℕ → List Bool → Option (Change V) → List Bool
changed_by at lane cells (Some change) = change_slot at lane cells change
changed_by at lane cells None = cells

-- a step that is taken only in an active lane
abbrev pub step_in : {A B : Type 0} → Bool → (A → B → A) → A → B → A
step_in active step state item = if active then step state item else state

-- the lowest `k` bits of a word are written to the cells from `from` on
abbrev pub with_word : List Bool → ℕ → ℕ → ℕ → List Bool
with_word cells from word zero = cells
with_word cells from word (suc k) = slice_set (with_word cells from word k) (from + k) (bit_of word k)
