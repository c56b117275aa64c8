-- The images of a boot file, as files that are loaded.
use Rattle.std.proofs.Common.{◌<◌, ◌^◌, [], ◌∷◌, zero, suc, arith, length, ℕ, List, refl}
use Rattle.std.specs.Prelude.{map, slice_get, slice_index_or}
use Rattle.clap.specs.Words.{Text}
use Rattle.tool_run.specs.Needs.{IsFile, IsSound, Need}
use Rattle.bitstream_tools.specs.Multi.{image_need}

-- images are files, each within its limit
pub images-sound : (names : List Text) → IsSound (map image_need names)
images-sound names = record { last = λ k lt. file names k (omega (arith, lt)); limits = λ k d lt. small names k d lt }
  where
    file : (names : List Text) (k : ℕ) → k < length (map image_need names) → IsFile (slice_get (map image_need names) k)
    file [] k lt = absurd (omega arith)
    file (name ∷ names) zero lt = refl
    file (name ∷ names) (suc k) lt = file names k (omega arith)

    small : (names : List Text) (k : ℕ) (d : Need) → k < length (map image_need names) → (slice_index_or (map image_need names) k d).limit < 2 ^ 32
    small [] k d lt = absurd (omega arith)
    small (name ∷ names) zero d lt = omega arith
    small (name ∷ names) (suc k) d lt = small names k d (omega arith)
