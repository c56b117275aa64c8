-- Images stand one after the other, and after the headers.
use Rattle.std.proofs.Common.{◌≡◌, ℕ, zero, suc, ◌<◌, ◌≤◌, Bool, true, false, List, subst, inl, inr, arith}
use Rattle.std.specs.Prelude.{Option, Some, None, if◌then◌else◌}
use Rattle.std.proofs.lemmas.Bool.{cases_lt}
use Rattle.boot_file.specs.declared.options.Options.{Options}
use Rattle.boot_file.specs.BootFile.{aligned, place_of, end_of, start_of}

pub aligned-above : (align : Option ℕ) (offset : ℕ) → offset ≤ aligned align offset
aligned-above None offset = omega arith
aligned-above (Some n) offset = omega arith

first_place-above : (align_first : Bool) (align : Option ℕ) → 160 ≤ (if align_first then aligned align 160 else 160)
first_place-above true align = aligned-above align 160
first_place-above false align = omega arith

-- an image stands after the one before
pub place-start : (images : List (List ℕ)) (options : Options) (index : ℕ) → start_of images options index ≤ place_of images options index
unfolding place_of
place-start images options zero = first_place-above options.align_first options.align
place-start images options (suc index) = aligned-above options.align _

-- and after each earlier one
pub place-later : (images : List (List ℕ)) (options : Options) (earlier later : ℕ) → earlier < later → end_of images options earlier ≤ start_of images options later
place-later images options earlier zero below = absurd (omega arith)
place-later images options earlier (suc later) below = elim (cases_lt earlier later) [
  | inl less ↦ omega (arith, place-later images options earlier later less, place-start images options later)
  | inr more ↦ let e : earlier ≡ later = omega arith in subst (λ n. end_of images options earlier ≤ end_of images options n) e (omega arith)
]

-- places rise
pub place-rises : (images : List (List ℕ)) (options : Options) (earlier later : ℕ) → earlier ≤ later → place_of images options earlier ≤ place_of images options later
place-rises images options earlier later upto = elim (cases_lt earlier later) [
  | inl less ↦ omega (arith, place-later images options earlier later less, place-start images options later)
  | inr more ↦ let e : earlier ≡ later = omega arith in subst (λ n. place_of images options earlier ≤ place_of images options n) e (omega arith)
]

-- and after the headers
pub start-first : (images : List (List ℕ)) (options : Options) (index : ℕ) → 160 ≤ start_of images options index
start-first images options zero = omega arith
start-first images options (suc index) = omega (arith, start-first images options index, place-start images options index)
