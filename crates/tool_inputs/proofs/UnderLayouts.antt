-- Tools that may read a layout file, and what they need.
use Rattle.std.proofs.Common.{◌+◌, ◌<◌, ◌^◌, [], ◌∷◌, zero, suc, arith, length, ℕ, List, refl, ap}
use Rattle.std.specs.Prelude.{Some, Result, slice_get, slice_index_or}
use Rattle.clap.specs.Words.{Text}
use Rattle.layout_file.specs.declared.layouts.Layouts.{Layouts}
use Rattle.tool_run.specs.Needs.{IsFile, IsSound, Need}
use Rattle.tool_run.specs.Stops.{StopsWith}
use Rattle.tool_run.specs.Tasks.{Answer}
use Rattle.tool_run.specs.declared.tool.Stop.{Stop}
use Rattle.tool_run.specs.declared.tool.Stop.TheVariants.{Refused, Quiet, UsageError, Memory}
use Rattle.tool_inputs.specs.Layouts.{StopsLayouts, answer_under}

-- ---- stops

-- a tool that stops for its layout file stops as it has to
pub stops_under : (read : Result Layouts (List ℕ)) (answer : Layouts → Answer) (stop : Stop) → StopsLayouts read stop → StopsWith (answer_under read answer) stop
stops_under read answer (Refused refusal) stops = ap (λ (r : Result Layouts (List ℕ)). answer_under r answer) stops
stops_under read answer Quiet stops = absurd stops
stops_under read answer (UsageError refusal) stops = absurd stops
stops_under read answer Memory stops = absurd stops

-- ---- needs

-- one need is sound
pub one-sound : (need : Need) → need.limit < 2 ^ 32 → IsSound (need ∷ [])
one-sound need small = record { last = λ k lt. absurd (omega (arith, lt)); limits = λ k d lt. below k d lt }
  where
    below : (k : ℕ) (d : Need) → k < length (need ∷ []) → (slice_index_or (need ∷ []) k d).limit < 2 ^ 32
    below zero d lt = small
    below (suc k) d lt = absurd (omega arith)

-- and so are needs after a file
pub file-sound : (file : Text) (limit : ℕ) (needs : List Need) → limit < 2 ^ 32 → IsSound needs → IsSound (record { name = Some file; limit = limit } ∷ needs)
file-sound file limit needs small sound = record { last = λ k lt. file_at k lt; limits = λ k d lt. below k d lt }
  where
    first : Need
    first = record { name = Some file; limit = limit }

    file_at : (k : ℕ) → k + 1 < length (first ∷ needs) → IsFile (slice_get (first ∷ needs) k)
    file_at zero lt = refl
    file_at (suc k) lt = sound.last k (omega (arith, lt))

    below : (k : ℕ) (d : Need) → k < length (first ∷ needs) → (slice_index_or (first ∷ needs) k d).limit < 2 ^ 32
    below zero d lt = small
    below (suc k) d lt = sound.limits k d (omega (arith, lt))
