-- Bytes at places, and the first place that passes.
use Rattle.std.proofs.Common.{◌≡◌, ℕ, ◌<◌, List, length, get_or, arith, inl, inr}
use Rattle.std.proofs.lemmas.Bool.{cases_lt}
use Rattle.std.proofs.lemmas.List.{get_or_past}

-- a byte that isn't 0 lies within the text
pub present : (bytes : List ℕ) (place : ℕ) → 0 < get_or bytes place 0 → place < length bytes
present bytes place more =
    elim (cases_lt place (length bytes)) [
      | inl lt ↦ lt
      | inr le ↦ let past : get_or bytes place 0 ≡ 0 = get_or_past bytes place 0 le in omega arith
    ]
