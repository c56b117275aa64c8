-- What is counted of the files, and of standard input.
use Rattle.std.specs.Prelude.{ℕ, ◌≤◌}

-- how many calls have failed, and how much was done: how many bytes were read, or how many stores were begun
pub record Counts : Type 0 where
  pub faults : ℕ
  pub done : ℕ

-- the two counts of one side
abbrev pub counts : {S : Type 0} → (S → ℕ) → (S → ℕ) → S → Counts
counts faults done side = record { faults = faults side; done = done side }

-- neither count fell
abbrev pub NeverFall : Counts → Counts → Type 0
NeverFall old new = (old.faults ≤ new.faults) × (old.done ≤ new.done)
