-- How many moves there are, as far as the count fits 64 bits.
use Rattle.std.specs.Prelude.{◌≡◌, ◌≤◌, ◌<◌, ◌+◌, ◌-◌, ◌*◌, ◌^◌, ℕ, zero, suc, List, [], drop, get_or, length, min, slice_set}
use Rattle.long_events.specs.declared.counting.Tally.{Tally}
use Rattle.long_events.specs.declared.moves.Move.{Move}
use Rattle.long_events.specs.declared.step.Step.{Step}
use Rattle.long_events.specs.declared.step.Step.TheVariants.{Give, Toggle, Repeat, End}
use Rattle.long_events.specs.Moves.{parts_of}

-- a count that stays at the greatest number of 64 bits
abbrev pub capped : ℕ → ℕ
capped count = min count (2 ^ 64 - 1)

-- the counts are those of parts, the first of which has the count of the greatest depth
abbrev pub AreCounts : List ℕ → ℕ → List (List Move) → Type 0
AreCounts counts zero parts = get_or counts 0 0 ≡ capped (length (get_or parts 0 []))
AreCounts counts (suc depth) parts = (get_or counts (suc depth) 0 ≡ capped (length (get_or parts 0 []))) × AreCounts counts depth (drop 1 parts)

-- the tally has the counts of the parts of these steps
pub record Tallies (tally : Tally) (steps : List Step) : Type 0 where
  pub deep : tally.depth ≤ 8
  pub room : length tally.counts ≡ 9
  pub parts : length (parts_of steps) ≡ suc tally.depth
  pub counts : AreCounts tally.counts tally.depth (parts_of steps)

-- a step for which there are enough parts, and room for one more
abbrev pub HasRoom : ℕ → Step → Type 0
HasRoom depth (Give event) = Unit {0}
HasRoom depth (Toggle pin count) = Unit {0}
HasRoom depth (Repeat count) = (0 < depth) × (0 < count)
HasRoom depth End = depth < 8

-- ---- a step

-- moves are added to the first part
abbrev pub added : Tally → ℕ → Tally
added tally count = record {
  counts = slice_set tally.counts tally.depth (capped (get_or tally.counts tally.depth 0 + count));
  depth = tally.depth;
}

-- the first part comes so many times, before the second one
abbrev pub repeated : Tally → ℕ → Tally
repeated tally count = added (record { counts = tally.counts; depth = tally.depth - 1 }) (capped (get_or tally.counts tally.depth 0 * count))

-- an empty part begins
abbrev pub begun : Tally → Tally
begun tally = record { counts = slice_set tally.counts (tally.depth + 1) 0; depth = tally.depth + 1 }
