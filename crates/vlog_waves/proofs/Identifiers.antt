-- Identifiers, digit by digit.
use Rattle.std.proofs.Common.{◌≡◌, ◌∙◌, ℕ, zero, suc, ◌+◌, ◌/◌, ◌%◌, ◌^◌, ◌<◌, ◌≤◌, Bool, true, false, cond, List, [], ◌∷◌, length, map, refl, ap, arith}
use Rattle.std.specs.Prelude.{nat_lt, if◌then◌else◌}
use Rattle.std.proofs.lemmas.Bool.{le-ltb, ltb-false}
use Rattle.std.proofs.lemmas.List.{length-map}
use Rattle.std.proofs.Math.Nat.{pow-suc}
use Rattle.vlog_waves.specs.Waves.{identifier, identifier_digits}

-- a digit fewer
smaller : (number : ℕ) → 94 ≤ number → number / 94 < number
smaller number most = omega arith

-- with bounds enough the digits are the same
same-digits : (f g number : ℕ) → number < f → number < g → identifier_digits f number ≡ identifier_digits g number
unfolding identifier_digits
same-digits zero g number below within = absurd (omega arith)
same-digits (suc f) zero number below within = absurd (omega arith)
same-digits (suc f) (suc g) number below within =
    (elim (nat_lt number 94) as (λ b. nat_lt number 94 ≡ b
    → (number % 94) ∷ cond b [] (identifier_digits f (number / 94)) ≡ (number % 94) ∷ cond b [] (identifier_digits g (number / 94))) [
      | true ↦ λ yes. refl
      | false ↦ λ no.
          let less : number / 94 < number = smaller number (ltb-false number 94 no) in
          let first : number / 94 < f = omega (arith, below, less) in
          let second : number / 94 < g = omega (arith, within, less) in
          ap (λ digits. (number % 94) ∷ digits) (same-digits f g (number / 94) first second)
    ]) refl

-- the lowest digit, and those of the rest
pub identifier_step : (number : ℕ) → identifier number ≡ (33 + number % 94) ∷ (if nat_lt number 94 then [] else identifier (number / 94))
unfolding identifier identifier_digits
identifier_step number =
    (elim (nat_lt number 94) as (λ b. nat_lt number 94 ≡ b
    → map (λ digit. 33 + digit) ((number % 94) ∷ cond b [] (identifier_digits number (number / 94)))
    ≡ (33 + number % 94) ∷ cond b [] (map (λ digit. 33 + digit) (identifier_digits (suc (number / 94)) (number / 94)))) [
      | true ↦ λ yes. refl
      | false ↦ λ no.
          let less : number / 94 < number = smaller number (ltb-false number 94 no) in
          let own : number / 94 < suc (number / 94) = omega arith in
          ap (λ digits. map (λ digit. 33 + digit) ((number % 94) ∷ digits)) (same-digits number (suc (number / 94)) (number / 94) less own)
    ]) refl

-- if there is more than one
pub identifier-more : (number : ℕ) → 94 ≤ number → identifier number ≡ (33 + number % 94) ∷ identifier (number / 94)
identifier-more number most =
    identifier_step number ∙ ap (λ last. (33 + number % 94) ∷ (if last then [] else identifier (number / 94))) (le-ltb number 94 most)

-- ---- how many digits there are

length-rest : (last : Bool) (digits : List ℕ) (k : ℕ) → (last ≡ false → length digits ≤ k) → length (if last then [] else digits) ≤ k
length-rest true digits k few = let none : 0 ≤ k = omega arith in none
length-rest false digits k few = few refl

few-digits : (k f number : ℕ) → number < 94 ^ suc k → length (identifier_digits f number) ≤ suc k
unfolding identifier_digits
few-digits k zero number below = let none : 0 ≤ suc k = omega arith in none
few-digits zero (suc f) number below =
    let small : number < 94 = below in
    let rest : length (if nat_lt number 94 then [] else identifier_digits f (number / 94)) ≤ 0 =
    length-rest (nat_lt number 94) (identifier_digits f (number / 94)) 0 (λ no. let most : 94 ≤ number = ltb-false number 94 no in absurd (omega (arith, most, small))) in
    let whole : suc (length (if nat_lt number 94 then [] else identifier_digits f (number / 94))) ≤ 1 = omega (arith, rest) in
    whole
few-digits (suc k) (suc f) number below =
    let less : number / 94 < 94 ^ suc k = omega (arith, below, pow-suc 94 (suc k)) in
    let rest : length (if nat_lt number 94 then [] else identifier_digits f (number / 94)) ≤ suc k =
    length-rest (nat_lt number 94) (identifier_digits f (number / 94)) (suc k) (λ no. few-digits k f (number / 94) less) in
    let whole : suc (length (if nat_lt number 94 then [] else identifier_digits f (number / 94))) ≤ suc (suc k) = omega (arith, rest) in
    whole

-- ten digits are enough for 64 bits
pub identifier-short : (number : ℕ) → number < 2 ^ 64 → length (identifier number) ≤ 10
unfolding identifier
identifier-short number below =
    let within : number < 94 ^ 10 = omega (arith, below) in
    omega (arith, length-map (identifier_digits (suc number) number) (λ digit. 33 + digit), few-digits 9 (suc number) number within)
