-- Bits of words with a bit for each of sixty-four lanes.
use Rattle.std.proofs.Common.{◌≡◌, ℕ, zero, suc, ◌+◌, ◌*◌, ◌-◌, ◌/◌, ◌%◌, ◌<◌, ◌≤◌, Bool, true, false, cond, eqb, List, [], ◌∷◌, bit_and, bit_xor, get_or, min, ap, ap₂, arith, inl, inr, pow_mono, refl, sym, w64, ◌^◌, ◌∙◌}
use Rattle.std.specs.Int.{bit_at, trailing_zeros}
use Rattle.std.proofs.Math.Nat.{div-eq_of_lt}
use Rattle.std.proofs.lemmas.Nat.{shr-shr}
use Rattle.std.proofs.lemmas.Nat.Bits.{bit_at-lt, bit_at-pow_other, bit_at-pow_same, bit_at-trailing_zeros, bit_at-suc, bit_at-zero, bit_at_and, bit_at_lowest, bit_at_ones, bit_at_xor}
use Rattle.std.proofs.lemmas.Bool.{cases_eq, cases_lt, eq-eqb, ne_eqb}
use Rattle.vlog_semantics.specs.Values.{bit_of, number_of}

-- no bit is both
pub no-both : {bit : Bool} → bit ≡ true → bit ≡ false → ⊥
no-both on off = cc

pub bit-zero : (lane : ℕ) → bit_of 0 lane ≡ false
bit-zero lane = ap (λ n. eqb n 1) (bit_at-zero lane)

pub bit-ones : (lane : ℕ) → lane < 64 → bit_of 18446744073709551615 lane ≡ true
bit-ones lane within = ap (λ n. eqb n 1) (bit_at_ones 64 lane within)

-- a word has no bit above 63
pub bit-high : (word k : ℕ) → word < 2 ^ 64 → 64 ≤ k → bit_of word k ≡ false
bit-high word k small high =
    let lt : word < 2 ^ k = omega (arith, small, pow_mono {i = 64} {j = k} high) in
    ap (λ n. eqb (n % 2) 1) (div-eq_of_lt lt)

-- a word that is moved down
pub bit-moved : (word from k : ℕ) → from ≤ k → bit_of (word / 2 ^ from) (k - from) ≡ bit_of word k
bit-moved word from k low =
    let sum : from + (k - from) ≡ k = omega arith in
    ap (λ n. eqb (n % 2) 1) (shr-shr word from (k - from)) ∙ ap (bit_of word) sum

-- the lowest 1 of a word that is moved down
pub first-moved : (word from left : ℕ) → word < 2 ^ 64 → left ≡ word / 2 ^ from → 0 < left → left < 2 ^ 64
    → (from + trailing_zeros w64 left < 64) × (bit_of word (from + trailing_zeros w64 left) ≡ true)
    × ((k : ℕ) → from ≤ k → k < from + trailing_zeros w64 left → bit_of word k ≡ false)
first-moved word from left small is some fits =
    let lowest = bit_at-trailing_zeros w64 left some fits in
    let end : ℕ = from + trailing_zeros w64 left in
    let offset : end - from ≡ trailing_zeros w64 left = omega arith in
    let on : bit_of word end ≡ true =
    sym (bit-moved word from end (omega arith)) ∙ ap₂ (λ w i. bit_of w i) (sym is) offset ∙ ap (λ n. eqb n 1) lowest.1 in (
      elim (cases_lt end 64) [
        | inl less ↦ less
        | inr past ↦ absurd (no-both on (bit-high word end small past))
      ],
      on,
      λ k low below.
          sym (bit-moved word from k low) ∙ ap (λ w. bit_of w (k - from)) (sym is)
          ∙ ap (λ n. eqb n 1) (lowest.2 (k - from) (omega (arith, low, below, offset))),
    )

-- a word with a 1 in one lane alone
pub bit-only : (word lane other : ℕ) → word ≡ 2 ^ lane → bit_of word other ≡ eqb other lane
bit-only word lane other is =
    elim (cases_eq other lane) [
      | inl same ↦ ap (λ w. bit_of w other) is ∙ ap (bit_of (2 ^ lane)) same ∙ ap (λ n. eqb n 1) (bit_at-pow_same lane) ∙ sym (eq-eqb other lane same)
      | inr apart ↦ ap (λ w. bit_of w other) is ∙ ap (λ n. eqb n 1) (bit_at-pow_other lane other apart) ∙ sym (ne_eqb other lane apart)
    ]

-- ---- one of two words

chosen : (choice one other : ℕ) → choice < 2 → one < 2 → other < 2
    → eqb ((other + min choice ((one + other) % 2)) % 2) 1 ≡ cond (eqb choice 1) (eqb one 1) (eqb other 1)
chosen zero zero zero c o z = refl
chosen zero zero (suc zero) c o z = refl
chosen zero (suc zero) zero c o z = refl
chosen zero (suc zero) (suc zero) c o z = refl
chosen (suc zero) zero zero c o z = refl
chosen (suc zero) zero (suc zero) c o z = refl
chosen (suc zero) (suc zero) zero c o z = refl
chosen (suc zero) (suc zero) (suc zero) c o z = refl
chosen (suc (suc choice)) one other c o z = absurd (omega arith)
chosen zero (suc (suc one)) other c o z = absurd (omega arith)
chosen (suc zero) (suc (suc one)) other c o z = absurd (omega arith)
chosen zero zero (suc (suc other)) c o z = absurd (omega arith)
chosen zero (suc zero) (suc (suc other)) c o z = absurd (omega arith)
chosen (suc zero) zero (suc (suc other)) c o z = absurd (omega arith)
chosen (suc zero) (suc zero) (suc (suc other)) c o z = absurd (omega arith)

pub bit-select : (choice one other lane : ℕ) → bit_of (bit_xor other (bit_and choice (bit_xor one other))) lane ≡ cond (bit_of choice lane) (bit_of one lane) (bit_of other lane)
bit-select choice one other lane =
    ap (λ n. eqb n 1)
    (bit_at_xor other (bit_and choice (bit_xor one other)) lane
    ∙ ap (λ n. (bit_at other lane + n) % 2) (bit_at_and choice (bit_xor one other) lane ∙ ap (min (bit_at choice lane)) (bit_at_xor one other lane)))
    ∙ chosen (bit_at choice lane) (bit_at one lane) (bit_at other lane) (bit_at-lt choice lane) (bit_at-lt one lane) (bit_at-lt other lane)

-- ---- two bits of a table

-- two bits that are moved down, without the higher ones
pub two-of : (table k : ℕ) (a : Bool) → bit_of (table / 2 ^ k % 4) (number_of (a ∷ [])) ≡ bit_of table (k + number_of (a ∷ []))
two-of table k a = low (table / 2 ^ k) a ∙ ap (λ n. eqb (n % 2) 1) (shr-shr table k (number_of (a ∷ [])))
  where
    low : (rest : ℕ) (a : Bool) → bit_of (rest % 4) (number_of (a ∷ [])) ≡ bit_of rest (number_of (a ∷ []))
    low rest true = ap (λ n. eqb n 1) (omega arith)
    low rest false = ap (λ n. eqb n 1) (omega arith)

-- what two bits that a bit chooses from make of it
pub choice-each : (a none turned all lane index : ℕ) → bit_of none lane ≡ false → bit_of turned lane ≡ cond (bit_of a lane) (bit_of 0 lane) (bit_of 18446744073709551615 lane) → bit_of all lane ≡ true → lane < 64 → index < 4
    → bit_of (get_or (none ∷ turned ∷ a ∷ all ∷ []) index 0) lane ≡ bit_of index (number_of (bit_of a lane ∷ []))
choice-each a none turned all lane zero none_is turned_is all_is within few = none_is ∙ sym (bit-zero (number_of (bit_of a lane ∷ [])))
choice-each a none turned all lane (suc zero) none_is turned_is all_is within few =
    turned_is ∙ ap₂ (λ x y. cond (bit_of a lane) x y) (bit-zero lane) (bit-ones lane within)
    ∙ (elim (bit_of a lane) as (λ b. cond b false true ≡ bit_of 1 (number_of (b ∷ []))) [ true ↦ refl | false ↦ refl ])
choice-each a none turned all lane (suc (suc zero)) none_is turned_is all_is within few =
    elim (bit_of a lane) as (λ b. b ≡ bit_of 2 (number_of (b ∷ []))) [ true ↦ refl | false ↦ refl ]
choice-each a none turned all lane (suc (suc (suc zero))) none_is turned_is all_is within few =
    all_is ∙ (elim (bit_of a lane) as (λ b. true ≡ bit_of 3 (number_of (b ∷ []))) [ true ↦ refl | false ↦ refl ])
choice-each a none turned all lane (suc (suc (suc (suc index)))) none_is turned_is all_is within few = absurd (omega (arith, few))

-- ---- a table, in halves

pub half-four : (table k : ℕ) (a b : Bool) → cond b (bit_of table (k + 2 + number_of (a ∷ []))) (bit_of table (k + number_of (a ∷ []))) ≡ bit_of table (k + number_of (a ∷ b ∷ []))
half-four table k true true = ap (bit_of table) (omega arith)
half-four table k true false = refl
half-four table k false true = ap (bit_of table) (omega arith)
half-four table k false false = refl

pub half-eight : (table k : ℕ) (a b c : Bool) → cond c (bit_of table (k + 4 + number_of (a ∷ b ∷ []))) (bit_of table (k + number_of (a ∷ b ∷ []))) ≡ bit_of table (k + number_of (a ∷ b ∷ c ∷ []))
half-eight table k true true true = ap (bit_of table) (omega arith)
half-eight table k true false true = ap (bit_of table) (omega arith)
half-eight table k false true true = ap (bit_of table) (omega arith)
half-eight table k false false true = ap (bit_of table) (omega arith)
half-eight table k true true false = refl
half-eight table k true false false = refl
half-eight table k false true false = refl
half-eight table k false false false = refl

pub half-sixteen : (table : ℕ) (a b c d : Bool) → cond d (bit_of table (8 + number_of (a ∷ b ∷ c ∷ []))) (bit_of table (0 + number_of (a ∷ b ∷ c ∷ []))) ≡ bit_of table (number_of (a ∷ b ∷ c ∷ d ∷ []))
half-sixteen table a b c true = ap (bit_of table) (omega arith)
half-sixteen table a b c false = ap (bit_of table) (omega arith)

-- ---- a number, as it is read

low-bit : (b : Bool) (n : ℕ) → eqb ((cond b 1 0 + 2 * n) % 2) 1 ≡ b
low-bit true n =
    let odd : (1 + 2 * n) % 2 ≡ 1 = omega arith in
    ap (λ k. eqb k 1) odd
low-bit false n =
    let even : (0 + 2 * n) % 2 ≡ 0 = omega arith in
    ap (λ k. eqb k 1) even

halved : (b : Bool) (n : ℕ) → (cond b 1 0 + 2 * n) / 2 ≡ n
halved true n = omega arith
halved false n = omega arith

pub bit-number : (bits : List Bool) (k : ℕ) → bit_of (number_of bits) k ≡ get_or bits k false
bit-number [] k = ap (λ n. eqb n 1) (bit_at-zero k)
bit-number (bit ∷ bits) zero = ap (λ n. eqb n 1) (bit_at_lowest (number_of (bit ∷ bits))) ∙ low-bit bit (number_of bits)
bit-number (bit ∷ bits) (suc k) =
    ap (λ n. eqb n 1) (bit_at-suc (number_of (bit ∷ bits)) k ∙ ap (λ n. bit_at n k) (halved bit (number_of bits)))
    ∙ bit-number bits k
