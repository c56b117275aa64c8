-- Words whose bits are exchanged in pairs.
use Rattle.std.proofs.Common.{◌≡◌, ℕ, zero, suc, ◌+◌, ◌-◌, ◌*◌, ◌/◌, ◌%◌, ◌^◌, ◌<◌, ◌≤◌, ◌==◌, Bool, true, false, not, ◌&&◌, ◌||◌, bit_and, bit_or, max, min, refl, ap, ap₂, ◌∙◌, inl, inr, arith}
use Rattle.std.specs.Prelude.{nat_lt, nat_le}
use Rattle.std.proofs.lemmas.Bool.{cases_Bool, cases_eq, cases_lt, and_parts, ltb-true, eqb-true}
use Rattle.std.proofs.lemmas.Bool.Decides.{nat_tests}
use Rattle.std.proofs.lemmas.Nat.Bits.{bit_at_or, bit_at_and, bit_at-lt}
use Rattle.std.specs.Int.{bit_at}
use Rattle.bit_plane.specs.inside.Pairs.{partner, has_place, is_paired, ArePairs}
use Rattle.bit_plane.proofs.Parts.{bit_at-low, bit_at-high, moved_below, moved}

-- ---- numbers below 2

unset : (p : Bool) (m : ℕ) → m < 2 → (p || not (m == 1)) ≡ true → p ≡ false → m ≡ 0
unset false zero small is off = refl
unset false (suc zero) small is off = absurd cc
unset false (suc (suc m)) small is off = absurd (omega arith)
unset true m small is off = absurd cc

least-zero : (a b : ℕ) → b ≡ 0 → min a b ≡ 0
least-zero a b none = omega (arith, none)

least-one : (a : ℕ) → a < 2 → max (min a 1) 0 ≡ a
least-one a small = omega arith

most-one : (a : ℕ) → a < 2 → max 0 (min a 1) ≡ a
most-one a small = omega arith

-- ---- pairs exchanged

-- a bit of a word
module _ (word shift mask k : ℕ) (small : k < 64) where
  abbrev here : ℕ
  here = bit_at mask k

  abbrev below : ℕ
  below = bit_at mask (k - shift)

  right : bit_at (bit_and (word / 2 ^ shift) mask) k ≡ min (bit_at word (shift + k)) here
  right = bit_at_and (word / 2 ^ shift) mask k ∙ ap (λ b. min b here) (bit_at-high word shift k)

  left_low : k < shift → bit_at (bit_and word mask * 2 ^ shift % 2 ^ 64) k ≡ 0
  left_low low = bit_at-low (bit_and word mask * 2 ^ shift) 64 k small ∙ moved_below (bit_and word mask) shift k low

  left_high : shift ≤ k → bit_at (bit_and word mask * 2 ^ shift % 2 ^ 64) k ≡ min (bit_at word (k - shift)) below
  left_high high = bit_at-low (bit_and word mask * 2 ^ shift) 64 k small ∙ moved (bit_and word mask) shift k high ∙ bit_at_and word mask (k - shift)

  pub exchanged-bit : is_paired shift mask k ≡ true → bit_at (bit_or (bit_and (word / 2 ^ shift) mask) (bit_and word mask * 2 ^ shift % 2 ^ 64)) k ≡ bit_at word (partner shift k)
  exchanged-bit paired = bit_at_or (bit_and (word / 2 ^ shift) mask) (bit_and word mask * 2 ^ shift % 2 ^ 64) k ∙ both
    where
      not_below : shift ≤ k → nat_lt k shift ≡ false
      not_below high = grind (arith, nat_tests, high)

      from_le : nat_le shift k ≡ true → shift ≤ k
      from_le is = grind (arith, nat_tests, is)

      both : max (bit_at (bit_and (word / 2 ^ shift) mask) k) (bit_at (bit_and word mask * 2 ^ shift % 2 ^ 64) k) ≡ bit_at word (partner shift k)
      both = elim (cases_Bool (k / shift % 2 == 0)) [
        | inl even ↦
            let parts = and_parts (has_place mask k && nat_lt (k + shift) 64) (nat_lt k shift || not (has_place mask (k - shift))) (rw even at paired) in
            let set : here ≡ 1 = eqb-true here 1 (and_parts (has_place mask k) (nat_lt (k + shift) 64) parts.0).0 in
            let none : bit_at (bit_and word mask * 2 ^ shift % 2 ^ 64) k ≡ 0 = elim (cases_lt k shift) [
              | inl low ↦ left_low low
              | inr high ↦ left_high high ∙ least-zero (bit_at word (k - shift)) below (unset (nat_lt k shift) below (bit_at-lt mask (k - shift)) parts.1 (not_below high))
            ] in
            let there : shift + k ≡ k + shift = omega arith in
            rw even (ap₂ max (right ∙ ap (min (bit_at word (shift + k))) set) none ∙ least-one (bit_at word (shift + k)) (bit_at-lt word (shift + k)) ∙ ap (bit_at word) there)
        | inr odd ↦
            let parts = and_parts (not (has_place mask k) && nat_le shift k) (has_place mask (k - shift)) (rw odd at paired) in
            let front = and_parts (not (has_place mask k)) (nat_le shift k) parts.0 in
            let clear : here ≡ 0 = unset false here (bit_at-lt mask k) front.0 refl in
            let high : shift ≤ k = from_le front.1 in
            let set : below ≡ 1 = eqb-true below 1 parts.1 in
            rw odd (ap₂ max (right ∙ least-zero (bit_at word (shift + k)) here clear) (left_high high ∙ ap (min (bit_at word (k - shift))) set) ∙ most-one (bit_at word (k - shift)) (bit_at-lt word (k - shift)))
      ]

-- ---- all pairs

-- whether a test passes at all places below a bound
passes_below : ℕ → (ℕ → Bool) → Bool
passes_below zero test = true
passes_below (suc n) test = passes_below n test && test n

passes_below-at : (n k : ℕ) (test : ℕ → Bool) → passes_below n test ≡ true → k < n → test k ≡ true
unfolding passes_below
passes_below-at zero k test all within = absurd (omega arith)
passes_below-at (suc n) k test all within =
    let parts = and_parts (passes_below n test) (test n) all in
    elim (cases_eq k n) [
      | inl last ↦ ap test last ∙ parts.1
      | inr before ↦ passes_below-at n k test parts.0 (omega (arith, before))
    ]

-- a mask by its test at each place
pairs-from : (shift mask : ℕ) → passes_below 64 (is_paired shift mask) ≡ true → ArePairs shift mask
pairs-from shift mask all k within = passes_below-at 64 k (is_paired shift mask) all within

pub pairs_1 : ArePairs 1 0x5555555555555555
unfolding passes_below
pairs_1 = pairs-from 1 0x5555555555555555 refl

pub pairs_2 : ArePairs 2 0x3333333333333333
unfolding passes_below
pairs_2 = pairs-from 2 0x3333333333333333 refl

pub pairs_4 : ArePairs 4 0x0f0f0f0f0f0f0f0f
unfolding passes_below
pairs_4 = pairs-from 4 0x0f0f0f0f0f0f0f0f refl

pub pairs_8 : ArePairs 8 0x00ff00ff00ff00ff
unfolding passes_below
pairs_8 = pairs-from 8 0x00ff00ff00ff00ff refl

pub pairs_16 : ArePairs 16 0x0000ffff0000ffff
unfolding passes_below
pairs_16 = pairs-from 16 0x0000ffff0000ffff refl

pub pairs_32 : ArePairs 32 0x00000000ffffffff
unfolding passes_below
pairs_32 = pairs-from 32 0x00000000ffffffff refl

-- a place and the one that it is exchanged with are both in the word
pub partner-below : (shift mask k : ℕ) → ArePairs shift mask → k < 64 → partner shift k < 64
partner-below shift mask k pairs within =
    let paired = pairs k within in
    elim (cases_Bool (k / shift % 2 == 0)) [
      | inl even ↦
          let parts = and_parts (has_place mask k && nat_lt (k + shift) 64) (nat_lt k shift || not (has_place mask (k - shift))) (rw even at paired) in
          let inside : k + shift < 64 = ltb-true (k + shift) 64 (and_parts (has_place mask k) (nat_lt (k + shift) 64) parts.0).1 in
          rw even inside
      | inr odd ↦ let inside : k - shift < 64 = omega arith in rw odd inside
    ]

-- the place that a place has in the end
abbrev pub last_partner : ℕ → ℕ
last_partner k = partner 1 (partner 2 (partner 4 (partner 8 (partner 16 (partner 32 k)))))

partners-all : passes_below 64 (λ k. last_partner k == 63 - k) ≡ true
unfolding passes_below
partners-all = refl

pub partners-turn : (k : ℕ) → k < 64 → last_partner k ≡ 63 - k
partners-turn k within = eqb-true (last_partner k) (63 - k) (passes_below-at 64 k (λ k. last_partner k == 63 - k) partners-all within)
