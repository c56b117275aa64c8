-- The needs of `vlogsweep`, as files that are loaded.
use Rattle.std.proofs.Common.{◌≡◌, ◌<◌, ◌^◌, [], ◌∷◌, zero, suc, arith, length, ℕ, List, refl, subst, sym}
use Rattle.std.specs.Prelude.{map, slice_get, slice_index_or}
use Rattle.clap.specs.Words.{Text}
use Rattle.tool_run.specs.Needs.{IsFile, IsSound, Need}
use Rattle.module_tools.specs.Vlogsweep.{list_need, sweep_needs}

-- the module and the lists are files, each within its limit
sweep-sound : (text : Text) (names : List Text) → IsSound (sweep_needs text names)
sweep-sound text names = record { last = λ k lt. file k (omega (arith, lt)); limits = λ k d lt. small k d lt }
  where
    list-file : (names : List Text) (k : ℕ) → k < length (map list_need names) → IsFile (slice_get (map list_need names) k)
    list-file [] k lt = absurd (omega arith)
    list-file (name ∷ names) zero lt = refl
    list-file (name ∷ names) (suc k) lt = list-file names k (omega arith)

    list-small : (names : List Text) (k : ℕ) (d : Need) → k < length (map list_need names) → (slice_index_or (map list_need names) k d).limit < 2 ^ 32
    list-small [] k d lt = absurd (omega arith)
    list-small (name ∷ names) zero d lt = omega arith
    list-small (name ∷ names) (suc k) d lt = list-small names k d (omega arith)

    file : (k : ℕ) → k < length (sweep_needs text names) → IsFile (slice_get (sweep_needs text names) k)
    file zero lt = refl
    file (suc k) lt = list-file names k (omega arith)

    small : (k : ℕ) (d : Need) → k < length (sweep_needs text names) → (slice_index_or (sweep_needs text names) k d).limit < 2 ^ 32
    small zero d lt = omega arith
    small (suc k) d lt = list-small names k d (omega arith)

pub needs_sound : (needs : List Need) (text : Text) (names : List Text) → needs ≡ sweep_needs text names → IsSound needs
needs_sound needs text names same = subst (λ (some : List Need). IsSound some) (sym same) (sweep-sound text names)
