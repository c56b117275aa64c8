-- Counts of failed calls, and of bytes.
use Rattle.std.specs.Prelude.{ℕ, ◌+◌, ◌-◌, ◌^◌, ◌≤◌, min}

-- the greatest count, at which a counter stays
abbrev pub last_count : ℕ
last_count = 2 ^ 64 - 1

-- one more, up to the last count
abbrev pub counted : ℕ → ℕ
counted n = min (n + 1) last_count

-- so many more, up to the last count
abbrev pub counted_by : ℕ → ℕ → ℕ
counted_by count more = min (count + more) last_count

-- a count is greater after than before, or stands at the last count
abbrev pub Rose : ℕ → ℕ → Type 0
Rose old new = counted old ≤ new

-- at least so many more were counted, or fewer if the count came to the last one
abbrev pub RoseAtLeastBy : ℕ → ℕ → ℕ → Type 0
RoseAtLeastBy more old new = counted_by old more ≤ new

-- so many more were counted, or fewer if the count came to the last one
abbrev pub RoseBy : ℕ → ℕ → ℕ → Type 0
RoseBy more old new = RoseAtLeastBy more old new × (new ≤ old + more)
