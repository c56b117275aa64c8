-- Bytes that are compared.
use Rattle.std.proofs.Common.{◌≡◌, ℕ, List, true, false, bytes_eq, sym, ◌∙◌}
use Rattle.std.proofs.lemmas.Bool.{false_from_ne_true}
use Rattle.std.proofs.lemmas.Slice.Eq.{bytes_eq-Decides}
use Rattle.shared_lemmas.proofs.Tests.{same_test}

-- bytes that are found equal are
pub same_bytes : (xs ys : List ℕ) → bytes_eq xs ys ≡ true → xs ≡ ys
same_bytes xs ys = (bytes_eq-Decides xs ys).0

-- equal bytes are found so
pub bytes_eq-same : (xs ys : List ℕ) → xs ≡ ys → bytes_eq xs ys ≡ true
bytes_eq-same xs ys = (bytes_eq-Decides xs ys).1

-- other bytes aren't
pub bytes_eq-apart : (xs ys : List ℕ) → (xs ≡ ys → ⊥) → bytes_eq xs ys ≡ false
bytes_eq-apart xs ys apart = false_from_ne_true (bytes_eq xs ys) (λ found. apart (same_bytes xs ys found))

-- bytes are equal whichever come first
pub bytes_eq-turned : (xs ys : List ℕ) → bytes_eq xs ys ≡ bytes_eq ys xs
bytes_eq-turned xs ys =
    same_test (bytes_eq xs ys) (bytes_eq ys xs) (λ found. bytes_eq-same ys xs (sym (same_bytes xs ys found))) (λ found. bytes_eq-same xs ys (sym (same_bytes ys xs found)))

-- and so they are apart
pub apart_turned : (xs ys : List ℕ) → bytes_eq xs ys ≡ false → bytes_eq ys xs ≡ false
apart_turned xs ys apart = bytes_eq-turned ys xs ∙ apart
