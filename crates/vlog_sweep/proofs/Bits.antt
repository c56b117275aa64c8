-- Numbers with a bit for each lane.
use Rattle.std.proofs.Common.{◌≡◌, ℕ, ◌<◌, ◌≤◌, Bool, false, List, ap, arith, drop, get_or, length, length-drop, pow_mono, ◌∙◌}
use Rattle.std.specs.Prelude.{map}
use Rattle.std.proofs.lemmas.List.{get_or-map, length-map}
use Rattle.vlog_semantics.specs.Values.{bit_of, number_of}
use Rattle.vlog_semantics.proofs.Numbers.{number_of-lt}
use Rattle.vlog_engine.proofs.Bits.{bit-number}

-- ---- as it is computed

-- the lanes from one on have room in a word
pub number-room : {A : Type 0} (value : A → Bool) (xs : List A) (place : ℕ) → 0 < place → length xs ≤ 64 → number_of (map value (drop place xs)) < 9223372036854775808
number-room value xs place some few =
    let short : length (map value (drop place xs)) ≤ 63 = simp (length-map, length-drop) (omega (arith, few, some)) in
    omega (arith, number_of-lt (map value (drop place xs)), pow_mono {i = length (map value (drop place xs))} {j = 63} short)

-- ---- as it is read

-- the bit of a lane
pub lane-bit : {A : Type 0} (value : A → Bool) (xs : List A) (word k : ℕ) (d : A) → word ≡ number_of (map value xs) → k < length xs → bit_of word k ≡ value (get_or xs k d)
lane-bit value xs word k d is within = ap (λ w. bit_of w k) is ∙ bit-number (map value xs) k ∙ get_or-map value xs k d false within
