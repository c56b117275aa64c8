-- Numbers of at most nine digits.
use Rattle.std.proofs.Common.{◌≡◌, ℕ, suc, ◌+◌, ◌-◌, ◌*◌, ◌^◌, ◌<◌, ◌≤◌, true, List, [], ◌∷◌, length, subst, inl, inr, arith}
use Rattle.std.specs.Prelude.{fold, Option, Some, None}
use Rattle.std.specs.Char.{is_ascii_digit}
use Rattle.std.specs.List.{list_all}
use Rattle.std.proofs.Math.Nat.{pow-succ'}
use Rattle.std.proofs.lemmas.Bool.{cases_Bool, and_parts}
use Rattle.std.proofs.lemmas.Bool.Decides.{nat_tests}
use Rattle.text_lines.specs.Words.{digits_value, is_number, number_of}
use Rattle.text_lines.proofs.Numbers.{below_ten, length-number}

-- a number of at most nine digits, if there is one
abbrev pub FewIf : Option ℕ → Type 0
FewIf None = Unit {0}
FewIf (Some number) = number < 1000000000

digit-low : (byte : ℕ) → is_ascii_digit byte ≡ true → byte ≤ 57
digit-low byte is = grind (arith, nat_tests)

folded-few : (word : List ℕ) (n i : ℕ) → n < 10 ^ i → list_all is_ascii_digit word ≡ true → fold (λ n digit. 10 * n + (digit - 48)) n word < 10 ^ (i + length word)
folded-few [] n i few digits = let none : i + 0 ≡ i = omega arith in rw none few
folded-few (byte ∷ word) n i few digits =
    let parts = and_parts (is_ascii_digit byte) (list_all is_ascii_digit word) digits in
    let low : byte ≤ 57 = digit-low byte parts.0 in
    let more : 10 * n + (byte - 48) < 10 ^ suc i = rw (pow-succ' 10 i) (omega arith) in
    let places : suc i + length word ≡ i + suc (length word) = omega arith in
    subst (λ k. fold (λ n digit. 10 * n + (digit - 48)) (10 * n + (byte - 48)) word < 10 ^ k) places (folded-few word (10 * n + (byte - 48)) (suc i) more parts.1)

digits-few : (word : List ℕ) → is_number word ≡ true → digits_value word < 1000000000
digits-few word is =
    let digits = (and_parts _ (list_all is_ascii_digit word) is).1 in
    let none : 0 + length word ≡ length word = omega arith in
    below_ten (digits_value word) (length word) (subst (λ k. digits_value word < 10 ^ k) none (folded-few word 0 0 (omega arith) digits)) (length-number word is)

pub number-few : (word : List ℕ) → FewIf (number_of word)
unfolding number_of
number-few word =
    elim (cases_Bool (is_number word)) [
      | inl is ↦ rw is (digits-few word is)
      | inr other ↦ rw other tt
    ]
