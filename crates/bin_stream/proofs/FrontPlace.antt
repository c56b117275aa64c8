-- The preamble stands first after the canonical front.
use Rattle.std.proofs.Common.{◌≡◌, ◌≢◌, ℕ, suc, ◌+◌, ◌<◌, true, false, ◌&&◌, List, [], ◌∷◌, ◌++◌, length, take, drop, get_or, ◌==◌, refl, sym, ap, ◌∙◌, arith, inl, inr, length-append, drop_at}
use Rattle.std.specs.Prelude.{bytes_eq}
use Rattle.std.proofs.lemmas.Bool.{cases_eq, eqb-true, and_parts, false_from_ne_true}
use Rattle.std.proofs.lemmas.List.{get_or-drop, get_or_append_left}
use Rattle.index_search.proofs.Places.{least_below-first}
use Rattle.bin_stream.specs.Front.{preamble, preamble_offset, is_preamble_at}
use Rattle.bin_stream.specs.Spelling.{IsFront}

-- the first two bytes of the preamble
preamble-bytes : (bytes : List ℕ) → bytes_eq (take 4 bytes) preamble ≡ true → (get_or bytes 0 0 ≡ 0x7E) × (get_or bytes 1 0 ≡ 0xAA)
preamble-bytes [] is = absurd cc
preamble-bytes (a ∷ []) is =
    let parts = and_parts (a == 0x7E) false is in
    absurd (let no : false ≡ true = parts.1 in cc)
preamble-bytes (a ∷ b ∷ bytes) is =
    let rest = bytes_eq (take 2 bytes) (0x99 ∷ 0x7E ∷ []) in
    let parts = and_parts (a == 0x7E) ((b == 0xAA) && rest) is in
    let more = and_parts (b == 0xAA) rest parts.1 in
    (eqb-true a 0x7E parts.0, eqb-true b 0xAA more.0)

-- what keeps the preamble out of a front: no byte AA, and another last byte than 7E
pub record IsClear (front : List ℕ) : Type 0 where
  pub no_second : (k : ℕ) → k < length front → get_or front k 0 ≢ 0xAA
  pub no_first : (k : ℕ) → suc k ≡ length front → get_or front k 0 ≢ 0x7E

pub front_place : (front rest : List ℕ) → IsClear front → IsFront front (front ++ (preamble ++ rest))
unfolding preamble_offset
front_place front rest clear =
    let bytes = front ++ (preamble ++ rest) in
    let long : length bytes ≡ length front + suc (suc (suc (suc (length rest)))) = length-append front (preamble ++ rest) in
    let here : is_preamble_at bytes (length front) ≡ true = ap (λ following. bytes_eq (take 4 following) preamble) (drop_at front (preamble ++ rest) (length front) refl) in
    least_below-first (length bytes) (length front) (is_preamble_at bytes) (omega arith) (λ j before.
    false_from_ne_true (is_preamble_at bytes j) (λ there.
    let two = preamble-bytes (drop j bytes) there in
    let first : get_or front j 0 ≡ 0x7E = sym (get_or_append_left front (preamble ++ rest) 0 j before) ∙ ap (λ k. get_or bytes k 0) (let e : j ≡ j + 0 = omega arith in e) ∙ sym (get_or-drop j bytes 0 0) ∙ two.0 in
    elim (cases_eq (suc j) (length front)) [
      | inl last ↦ clear.no_first j last first
      | inr within ↦
          let lt : j + 1 < length front = omega arith in
          clear.no_second (j + 1) lt (sym (get_or_append_left front (preamble ++ rest) 0 (j + 1) lt) ∙ sym (get_or-drop j bytes 1 0) ∙ two.1)
    ])) here
