-- The lines of `.buffer` statements, and the index from the values of the last statement's lines to their source nets.
use Rattle.std.specs.Prelude.{◌≡◌, ℕ, true, false, ◌≤◌, ◌%◌, List, [], ◌∷◌, ◌++◌, length, drop, get_or, map, nat_eq, ◌==◌, if◌then◌else◌, Option, Some, None}
use Rattle.std.specs.Ordering.{nat_cmp}
use Rattle.std.specs.BTreeMap.{get}
use Rattle.std.specs.Map.{lookup}
use Rattle.chipdb_lines.specs.declared.cause.DbCause.{DbCause}
use Rattle.chipdb_lines.specs.declared.cause.DbCause.TheVariants.{ValuesTwice}
use Rattle.chipdb_reader.specs.declared.items.LinkLine.{LinkLine}
use Rattle.chipdb_reader.specs.declared.buffers.Buffers.{Buffers}
use Rattle.chipdb_reader.specs.declared.buffers.TheConstants.{MARKS}

-- the values of lines, each with its source net
abbrev pub choices_of : List LinkLine → List (ℕ × ℕ)
choices_of lines = map (λ line. (line.values, line.src)) lines

-- the source net that values choose in the last statement so far
abbrev pub chosen_src : Buffers → ℕ → Option ℕ
chosen_src buffers values = lookup (nat_eq values) (choices_of (drop buffers.start buffers.lines.items))

-- the index has the nets of the last statement's lines, or nothing if they aren't in it; values without a mark belong to none of these
-- lines
pub record IsChosen (buffers : Buffers) : Type 0 where
  pub marked : (values : ℕ) → get_or buffers.marks (values % MARKS) true ≡ false → chosen_src buffers values ≡ None
  pub found : buffers.is_indexed ≡ true → (values : ℕ) → get nat_cmp buffers.chosen values ≡ chosen_src buffers values
  pub unused : buffers.is_indexed ≡ false → (values : ℕ) → get nat_cmp buffers.chosen values ≡ None
  pub within : buffers.start ≤ length buffers.lines.items

-- the last statement's lines are put into the index
pub record Indexes (old new : Buffers) : Type 0 where
  pub indexed : IsChosen new
  pub many : new.is_indexed ≡ true
  pub lines : new.lines ≡ old.lines
  pub start : new.start ≡ old.start

-- another statement begins
pub record BeginsBuffers (old new : Buffers) : Type 0 where
  pub indexed : IsChosen new
  pub lines : new.lines.items ≡ old.lines.items
  pub start : new.start ≡ length new.lines.items

-- a line is added if the statement hasn't its values yet
abbrev pub with_line : Option ℕ → List LinkLine → LinkLine → List LinkLine
with_line None lines line = lines ++ line ∷ []
with_line (Some src) lines line = lines

-- what is wrong with a line whose values choose another net already
abbrev pub choice_cause_of : Option ℕ → ℕ → Option DbCause
choice_cause_of None src = None
choice_cause_of (Some other) src = if other == src then None else Some ValuesTwice

abbrev pub buffer_cause : Buffers → LinkLine → Option DbCause
buffer_cause buffers line = choice_cause_of (chosen_src buffers line.values) line.src

pub record AddsBuffer (old new : Buffers) (line : LinkLine) : Type 0 where
  pub indexed : IsChosen new
  pub lines : new.lines.items ≡ with_line (chosen_src old line.values) old.lines.items line
  pub start : new.start ≡ old.start
