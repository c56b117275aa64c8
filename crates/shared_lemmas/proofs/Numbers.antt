-- Numbers that are compared.
use Rattle.std.proofs.Common.{◌≡◌, ◌≢◌, ℕ, ◌+◌, ◌==◌, inl, inr, nat_lt, sym, ◌∙◌, arith}
use Rattle.std.proofs.lemmas.Bool.{cases_eq, cases_lt, eq-eqb, ne_eqb, lt-ltb, le-ltb}

-- two numbers are equal whichever comes first
pub eqb-turned : (a b : ℕ) → (a == b) ≡ (b == a)
eqb-turned a b =
    elim (cases_eq a b) [
      | inl same ↦ eq-eqb a b same ∙ sym (eq-eqb b a (sym same))
      | inr other ↦ ne_eqb a b other ∙ sym (ne_eqb b a (λ same. other (sym same)))
    ]

-- a number other than n is below n + 1 exactly if it is below n
pub ltb-next : (k n : ℕ) → k ≢ n → nat_lt k (n + 1) ≡ nat_lt k n
ltb-next k n other =
    elim (cases_lt k n) [
      | inl below ↦ lt-ltb k (n + 1) (omega arith) ∙ sym (lt-ltb k n below)
      | inr above ↦ le-ltb k (n + 1) (omega (arith, other)) ∙ sym (le-ltb k n above)
    ]
