-- A text cut at its first byte that passes a test, as an end of a line or a separator of words.
use Rattle.std.proofs.Common.{◌≡◌, ℕ, ◌+◌, ◌<◌, ◌≤◌, Bool, true, false, not, List, ◌∷◌, ◌++◌, length, take, drop, get_or, refl, ap, sym, ◌∙◌, arith, le_refl, inl, inr}
use Rattle.std.proofs.lemmas.Bool.{cases_lt, cases_Bool, le-ltb, lt-ltb, ltb-true, not-true, and_parts, both_ways}
use Rattle.std.proofs.lemmas.List.Folds.{list_any_at}
use Rattle.std.proofs.lemmas.List.{length-take-le, take_all, get_or-take}
use Rattle.std.proofs.lemmas.List.Sums.{prefix_len-le-length, position_or_len_is, split_at_first, passes_at_first, fails_before_first}
use Rattle.std.specs.Prelude.{◌&&◌, Option, None, Some, All, cond, nat_lt, position}
use Rattle.std.specs.List.{list_any, position_or_len}
use Rattle.memchr.specs.Find.{IsFirstByte}

-- the end is within the text
pub end-within : (test : ℕ → Bool) (bytes : List ℕ) → position_or_len test bytes ≤ length bytes
end-within test bytes = prefix_len-le-length (λ byte. not (test byte)) bytes

-- no byte before the end passes
pub fail_before : (test : ℕ → Bool) (bytes : List ℕ) → All (λ byte. test byte ≡ false) (take (position_or_len test bytes) bytes)
fail_before test bytes = λ k d lt.
    let end = position_or_len test bytes in
    let count : length (take end bytes) ≡ end = length-take-le end bytes (end-within test bytes) in
    let below : k < end = omega arith in
    let here : get_or (take end bytes) k d ≡ get_or bytes k d = get_or-take end bytes k d below in
    ap test here ∙ fails_before_first test bytes k d below

-- if the end is the end of the text, no byte passes
pub fail_whole : (test : ℕ → Bool) (bytes : List ℕ) → length bytes ≤ position_or_len test bytes → All (λ byte. test byte ≡ false) bytes
fail_whole test bytes le =
    let all : take (position_or_len test bytes) bytes ≡ bytes = take_all (position_or_len test bytes) bytes le in
    rw all at (fail_before test bytes)

-- a text is what comes before its first byte that passes, that byte, and what comes after it
pub cut_at : (test : ℕ → Bool) (bytes : List ℕ) → position_or_len test bytes < length bytes
    → bytes ≡ take (position_or_len test bytes) bytes ++ (get_or bytes (position_or_len test bytes) 0 ∷ drop (position_or_len test bytes + 1) bytes)
cut_at test bytes lt = split_at_first test bytes 0 lt

-- the byte at the end passes
pub passes_at_end : (test : ℕ → Bool) (bytes : List ℕ) → position_or_len test bytes < length bytes → test (get_or bytes (position_or_len test bytes) 0) ≡ true
passes_at_end test bytes lt = passes_at_first test bytes 0 lt

-- if no element passes, the first place that passes is the end
pub position_or_len-none : (test : ℕ → Bool) (bytes : List ℕ) → position test bytes ≡ None → position_or_len test bytes ≡ length bytes
position_or_len-none test bytes none =
    let bound : position_or_len test bytes ≤ length bytes = prefix_len-le-length (λ byte. not (test byte)) bytes in
    elim (cases_lt (position_or_len test bytes) (length bytes)) [
      | inl lt ↦ let chosen : position test bytes ≡ Some (position_or_len test bytes) = rw (lt-ltb (position_or_len test bytes) (length bytes) lt) refl in absurd cc
      | inr le ↦ omega arith
    ]

-- a place that passes, with no element before it that does, is the first
pub position_or_len-here : (test : ℕ → Bool) (bytes : List ℕ) (i : ℕ) → (nat_lt i (length bytes) && test (get_or bytes i 0) && not (list_any test (take i bytes))) ≡ true → position_or_len test bytes ≡ i
position_or_len-here test bytes i here =
    let parts = and_parts (nat_lt i (length bytes) && test (get_or bytes i 0)) (not (list_any test (take i bytes))) here in
    let inside = and_parts (nat_lt i (length bytes)) (test (get_or bytes i 0)) parts.0 in
    let within : i < length bytes = ltb-true i (length bytes) inside.0 in
    let none : list_any test (take i bytes) ≡ false = not-true (list_any test (take i bytes)) parts.1 in
    position_or_len_is test bytes i 0 (omega arith) (λ k before. elim (cases_Bool (test (get_or bytes k 0))) [
      | inl passes ↦
          let count : length (take i bytes) ≡ i = length-take-le i bytes (omega arith) in
          absurd (both_ways (list_any test (take i bytes)) none (list_any_at test (take i bytes) k 0 (omega arith) (ap test (get_or-take i bytes k 0 before) ∙ passes)))
      | inr fails ↦ fails
    ]) (λ _. inside.1)

-- what can't be true
false-from : (b : Bool) → ¬ (b ≡ true) → b ≡ false
false-from b cannot = elim (cases_Bool b) [
  | inl is ↦ absurd (cannot is)
  | inr other ↦ other
]

-- the position by the place of the first byte that passes
position-at : (test : ℕ → Bool) (bytes : List ℕ) (place : ℕ) → position_or_len test bytes ≡ place → position test bytes ≡ cond (nat_lt place (length bytes)) (Some place) None
position-at test bytes place is = ap (λ end. cond (nat_lt end (length bytes)) (Some end) None) is

-- a search for the first byte that passes finds its position
pub position_of_first : (test : ℕ → Bool) (bytes : List ℕ) (found : Option ℕ) → IsFirstByte test bytes found → found ≡ position test bytes
position_of_first test bytes None nowhere =
    let end : position_or_len test bytes ≡ length bytes =
    position_or_len_is test bytes (length bytes) 0 (le_refl (length bytes)) (λ k before. false-from (test (get_or bytes k 0)) (nowhere k (omega arith) before)) (λ lt. absurd (omega arith)) in
    sym (position-at test bytes (length bytes) end ∙ rw (le-ltb (length bytes) (length bytes) (le_refl (length bytes))) refl)
position_of_first test bytes (Some place) found =
    let within : place < length bytes = found.0.high in
    let here : position_or_len test bytes ≡ place =
    position_or_len_is test bytes place 0 (omega arith) (λ k before. false-from (test (get_or bytes k 0)) (found.0.before k (omega arith) before)) (λ _. found.1) in
    sym (position-at test bytes place here ∙ rw (lt-ltb place (length bytes) within) refl)
