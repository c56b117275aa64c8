-- Places found one after the other, and what a check of numbers leaves.
use Rattle.std.proofs.Common.{◌≡◌, ℕ, zero, suc, ◌+◌, ◌-◌, ◌^◌, ◌<◌, ◌≤◌, ◌==◌, Bool, true, false, List, [], ◌∷◌, ◌++◌, length, get_or, refl, sym, ap, ◌∙◌, subst, inl, inr, arith, add-one}
use Rattle.std.specs.Prelude.{Option, Some, None, nat_lt, nat_le, if◌then◌else◌}
use Rattle.std.specs.Option.{option_or, option_map}
use Rattle.std.proofs.lemmas.Bool.{cases_lt, lt-leb, le-leb, ltb-true}
use Rattle.std.proofs.lemmas.List.{get_or_append_left, get_or-append_right, get_or_past, length-append}
use Rattle.boot_file.specs.declared.options.Options.{Options}
use Rattle.boot_file.specs.declared.multi_fault.MultiFault.{MultiFault}
use Rattle.boot_file.specs.declared.multi_fault.MultiFault.TheVariants.{NoImage, TooMany, PowerOn, Address}
use Rattle.boot_file.specs.BootFile.{aligned, first_place, place_of, image_at}
use Rattle.boot_file.specs.Refusals.{address_fault, align_fault, check_fault}
use Rattle.boot_file.proofs.Found.{find-none, find-first}

-- ---- the place of an image

pub place-first : (images : List (List ℕ)) (options : Options) → place_of images options 0 ≡ first_place options
unfolding place_of
place-first images options = refl

pub place-more : (images : List (List ℕ)) (options : Options) (index : ℕ) → place_of images options (index + 1) ≡ aligned options.align (place_of images options index + length (image_at images index))
unfolding place_of
place-more images options index = rw add-one refl

-- ---- a list that grows

pub found-more : (xs : List ℕ) (x n : ℕ) (f : ℕ → ℕ) → length xs ≡ n → ((k : ℕ) → k < n → get_or xs k 0 ≡ f k) → x ≡ f n → (k : ℕ) → k < n + 1 → get_or (xs ++ x ∷ []) k 0 ≡ f k
found-more xs x n f size found last k below =
    elim (cases_lt k n) [
      | inl less ↦ get_or_append_left xs (x ∷ []) 0 k (omega arith) ∙ found k less
      | inr more ↦
          let same : k ≡ n = omega arith in
          let first : k - n ≡ 0 = omega arith in
          get_or-append_right xs (x ∷ []) n k 0 size more ∙ rw first (last ∙ ap f (sym same))
    ]

pub small-more : (xs : List ℕ) (x bound : ℕ) → ((k : ℕ) → get_or xs k 0 < bound) → x < bound → (k : ℕ) → get_or (xs ++ x ∷ []) k 0 < bound
small-more xs x bound small last k =
    elim (cases_lt k (length xs)) [
      | inl less ↦ subst (λ n. n < bound) (sym (get_or_append_left xs (x ∷ []) 0 k less)) (small k)
      | inr more ↦ elim (cases_lt (length xs) k) [
        | inl past ↦ subst (λ n. n < bound) (sym (get_or_past (xs ++ x ∷ []) k 0 (omega (arith, length-append xs (x ∷ []))))) (omega arith)
        | inr at ↦
            let first : k - length xs ≡ 0 = omega arith in
            let here : get_or (xs ++ x ∷ []) k 0 ≡ x = get_or-append_right xs (x ∷ []) (length xs) k 0 refl more ∙ rw first refl in
            subst (λ n. n < bound) (sym here) last
      ]
    ]

-- ---- addresses

-- the first image that no address reaches
pub address-at : (images : List (List ℕ)) (options : Options) (index : ℕ) → index < length images → 2 ^ 24 ≤ place_of images options index
    → ((k : ℕ) → k < index → place_of images options k < 2 ^ 24) → address_fault images options ≡ Some (Address index)
address-at images options index within far near =
    ap (option_map Address) (find-first (λ k. nat_le (2 ^ 24) (place_of images options k)) 0 (length images) index index within (omega arith)
    (le-leb (2 ^ 24) (place_of images options index) far)
    (λ k below. let here : 0 + k ≡ k = omega arith in rw here (lt-leb (2 ^ 24) (place_of images options k) (near k below))))

-- addresses reach all images
pub address-none : (images : List (List ℕ)) (options : Options) → ((k : ℕ) → k < length images → place_of images options k < 2 ^ 24) → address_fault images options ≡ None
address-none images options near =
    ap (option_map Address) (find-none (λ k. nat_le (2 ^ 24) (place_of images options k)) 0 (length images)
    (λ k below. let here : 0 + k ≡ k = omega arith in rw here (lt-leb (2 ^ 24) (place_of images options k) (near k below))))

-- ---- what the check of numbers leaves

pub record IsChecked (count : ℕ) (options : Options) : Type 0 where
  pub some : 0 < count
  pub aligns : align_fault options.align ≡ None
  pub boots : options.power_on < count

or-first : (first other : Option MultiFault) → option_or first other ≡ None → first ≡ None
or-first (Some fault) other none = none
or-first None other none = refl

or-other : (first other : Option MultiFault) → option_or first other ≡ None → other ≡ None
or-other (Some fault) other none = absurd cc
or-other None other none = none

if-clear : (test : Bool) (fault : MultiFault) (other : Option MultiFault) → (if test then Some fault else other) ≡ None → (test ≡ false) × (other ≡ None)
if-clear true fault other none = absurd cc
if-clear false fault other none = (refl, none)

if-true : (test : Bool) (fault : MultiFault) → (if test then None else Some fault) ≡ None → test ≡ true
if-true true fault none = refl
if-true false fault none = absurd cc

not_zero : (n : ℕ) → (n == 0) ≡ false → 0 < n
not_zero zero never = absurd cc
not_zero (suc n) never = omega arith

pub checked : (count : ℕ) (options : Options) → check_fault count options ≡ None → IsChecked count options
unfolding check_fault
checked count options none =
    let power = if nat_lt options.power_on count then None else Some (PowerOn options.power_on) in
    let rest = option_or (align_fault options.align) power in
    let many = if nat_lt 4 count then Some (TooMany count) else rest in
    let first = if-clear (count == 0) NoImage many none in
    let second = if-clear (nat_lt 4 count) (TooMany count) rest first.1 in
    record {
      some = not_zero count first.0;
      aligns = or-first (align_fault options.align) power second.1;
      boots = ltb-true options.power_on count (if-true (nat_lt options.power_on count) (PowerOn options.power_on) (or-other (align_fault options.align) power second.1));
    }
