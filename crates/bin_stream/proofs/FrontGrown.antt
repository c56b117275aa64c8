-- The first preamble of bytes that others follow.
use Rattle.std.proofs.Common.{◌≡◌, ℕ, zero, suc, ◌+◌, ◌-◌, ◌<◌, ◌≤◌, Bool, true, false, ◌&&◌, List, [], ◌∷◌, ◌++◌, length, take, drop, Option, Some, None, length-append, length-drop, drop-drop, append_assoc, take-append-drop, take_all, refl, sym, ap, subst, ◌∙◌, inl, inr, arith}
use Rattle.std.specs.Prelude.{bytes_eq, ◌==◌, IfSome}
use Rattle.std.proofs.lemmas.Bool.{cases_lt, cases_eq, and_right}
use Rattle.std.proofs.lemmas.List.{take-append-le, drop-append-le, length-take, length-take-le, drop_at}
use Rattle.std.proofs.lemmas.Slice.Eq.{bytes_eq-Decides}
use Rattle.index_search.proofs.Found.{least_below-place}
use Rattle.index_search.specs.Places.{least_below, or_here}
use Rattle.index_search.proofs.Places.{least_below-first, least_below-none}
use Rattle.bin_stream.specs.Front.{preamble, preamble_offset, is_preamble_at, comment_of}
use Rattle.bin_stream.specs.inside.Stages.{begins_comment, IsPlain, KeepsFront, KeepsPlain}

-- ---- places before the least one

-- up to where a test fails
bound_of : ℕ → Option ℕ → ℕ
bound_of n None = n
bound_of n (Some k) = k

fails-more : (n j : ℕ) (test : ℕ → Bool) (earlier : Option ℕ) (passes : Bool) → (j < bound_of n earlier → test j ≡ false) → test n ≡ passes → j < bound_of (suc n) (or_here earlier passes n) → test j ≡ false
unfolding bound_of
fails-more n j test (Some k) passes before is lt = before lt
fails-more n j test None true before is lt = before lt
fails-more n j test None false before is lt =
    elim (cases_eq j n) [
      | inl here ↦ ap test here ∙ is
      | inr other ↦ before (omega arith)
    ]

fails-below : (n j : ℕ) (test : ℕ → Bool) → j < bound_of n (least_below n test) → test j ≡ false
unfolding least_below bound_of
fails-below zero j test lt = absurd (omega arith)
fails-below (suc n) j test lt = fails-more n j test (least_below n test) (test n) (fails-below n j test) refl lt

-- no preamble stands before the first one
none-before : (bytes : List ℕ) (place j : ℕ) → preamble_offset bytes ≡ Some place → j < place → is_preamble_at bytes j ≡ false
unfolding preamble_offset bound_of
none-before bytes place j is lt =
    fails-below (length bytes) j (is_preamble_at bytes) (subst (λ (found : Option ℕ). j < bound_of (length bytes) found) (sym is) lt)

-- nor anywhere if there is none
none-within : (bytes : List ℕ) (j : ℕ) → preamble_offset bytes ≡ None → j < length bytes → is_preamble_at bytes j ≡ false
unfolding preamble_offset bound_of
none-within bytes j is lt =
    fails-below (length bytes) j (is_preamble_at bytes) (subst (λ (found : Option ℕ). j < bound_of (length bytes) found) (sym is) lt)

-- ---- bytes that others follow

-- the preamble takes four bytes
preamble-room : (bytes : List ℕ) (place : ℕ) → is_preamble_at bytes place ≡ true → place + 4 ≤ length bytes
preamble-room bytes place here =
    let is : take 4 (drop place bytes) ≡ preamble = (bytes_eq-Decides (take 4 (drop place bytes)) preamble).0 here in
    omega (arith, ap length is, length-take 4 (drop place bytes), length-drop place bytes)

-- if there are four bytes, others after them change nothing
at-grown : (bytes more : List ℕ) (place : ℕ) → place + 4 ≤ length bytes → is_preamble_at (bytes ++ more) place ≡ is_preamble_at bytes place
at-grown bytes more place within =
    ap (λ (rest : List ℕ). bytes_eq (take 4 rest) preamble) (drop-append-le place bytes more (omega arith))
    ∙ ap (λ (first : List ℕ). bytes_eq first preamble) (take-append-le 4 (drop place bytes) more (omega (arith, length-drop place bytes)))

-- a front stays the front
pub preamble_offset-grown : (bytes more : List ℕ) (place : ℕ) → preamble_offset bytes ≡ Some place → preamble_offset (bytes ++ more) ≡ Some place
unfolding preamble_offset
preamble_offset-grown bytes more place is =
    let facts = least_below-place (length bytes) (is_preamble_at bytes) place is in
    let room = preamble-room bytes place facts.passes in
    least_below-first (length (bytes ++ more)) place (is_preamble_at (bytes ++ more)) (omega (arith, length-append bytes more))
    (λ j lt. at-grown bytes more j (omega arith) ∙ none-before bytes place j is lt)
    (at-grown bytes more place room ∙ facts.passes)

-- ---- a search from a place on

at-after : (bytes : List ℕ) (start j : ℕ) → is_preamble_at (drop start bytes) j ≡ is_preamble_at bytes (start + j)
at-after bytes start j =
    ap (λ (rest : List ℕ). bytes_eq (take 4 rest) preamble) (drop-drop j start bytes)

-- what is found from a place on, before which there is none
found-after : (bytes : List ℕ) (start k : ℕ) → ((j : ℕ) → j < start → is_preamble_at bytes j ≡ false) → preamble_offset (drop start bytes) ≡ Some k → preamble_offset bytes ≡ Some (start + k)
unfolding preamble_offset
found-after bytes start k before is =
    let rest = drop start bytes in
    let facts = least_below-place (length rest) (is_preamble_at rest) k is in
    least_below-first (length bytes) (start + k) (is_preamble_at bytes) (omega (arith, length-drop start bytes))
    (λ j lt. elim (cases_lt j start) [
      | inl early ↦ before j early
      | inr late ↦
          let e : start + (j - start) ≡ j = omega arith in
          ap (is_preamble_at bytes) (sym e) ∙ sym (at-after bytes start (j - start)) ∙ none-before rest k (j - start) is (omega arith)
    ])
    (sym (at-after bytes start k) ∙ facts.passes)

none-after : (bytes : List ℕ) (start : ℕ) → ((j : ℕ) → j < start → is_preamble_at bytes j ≡ false) → preamble_offset (drop start bytes) ≡ None → preamble_offset bytes ≡ None
unfolding preamble_offset
none-after bytes start before is =
    let rest = drop start bytes in
    least_below-none (length bytes) (is_preamble_at bytes) (λ j lt. elim (cases_lt j start) [
      | inl early ↦ before j early
      | inr late ↦
          let e : start + (j - start) ≡ j = omega arith in
          ap (is_preamble_at bytes) (sym e) ∙ sym (at-after bytes start (j - start)) ∙ none-within rest (j - start) is (omega (arith, length-drop start bytes))
    ])

-- ---- the comment

-- a front has no comment if the bytes that it begins don't begin with one
pub plain-front : (bytes : List ℕ) (place : ℕ) → 2 ≤ length bytes → begins_comment bytes ≡ false → comment_of (take place bytes) ≡ None
unfolding comment_of
plain-front [] place long plain = absurd (omega arith)
plain-front (a ∷ []) place long plain = absurd (omega arith)
plain-front (a ∷ b ∷ bytes) zero long plain = refl
plain-front (a ∷ b ∷ bytes) (suc zero) long plain =
    let fails : ((a == 0xFF) && false) ≡ false = and_right (a == 0xFF) false refl in
    rw fails refl
plain-front (a ∷ b ∷ bytes) (suc (suc place)) long plain = rw plain refl

begins_comment-grown : (bytes more : List ℕ) → 2 ≤ length bytes → begins_comment (bytes ++ more) ≡ begins_comment bytes
begins_comment-grown bytes more long = ap (λ (first : List ℕ). bytes_eq first (0xFF ∷ 0 ∷ [])) (take-append-le 2 bytes more long)

-- ---- what is kept of a front

-- nothing of nothing
pub keeps-nothing : (kept : List ℕ) → kept ≡ [] → KeepsFront [] kept
unfolding preamble_offset least_below
keeps-nothing kept is = record { none = refl; kept_is = is }

plain-grown : (bytes more : List ℕ) → IsPlain bytes → IsPlain (bytes ++ more)
plain-grown bytes more plain = (omega (arith, plain.0, length-append bytes more), begins_comment-grown bytes more (omega (arith, plain.0)) ∙ plain.1)

-- of a plain front the last three bytes
pub keeps-last : (bytes last : List ℕ) → preamble_offset bytes ≡ None → IsPlain bytes → last ≡ drop (length bytes - 3) bytes → KeepsPlain bytes last
keeps-last bytes last none plain is = record { none = none; plain = plain; last_is = is }

module _ (bytes piece : List ℕ) (none : preamble_offset bytes ≡ None) where
  abbrev all : List ℕ
  all = bytes ++ piece

  -- before the last three bytes there is no preamble
  early : (j : ℕ) → j < length bytes - 3 → is_preamble_at all j ≡ false
  early j lt = at-grown bytes piece j (omega arith) ∙ none-within bytes j none (omega arith)

  -- the first one is found from there on
  pub found-grown : (searched found : ℕ) → searched ≡ length bytes - 3 → preamble_offset (drop searched all) ≡ Some found → preamble_offset all ≡ Some (searched + found)
  found-grown searched found is there = found-after all searched found (λ j lt. early j (omega arith)) there

  pub none-grown : (searched : ℕ) → searched ≡ length bytes - 3 → preamble_offset (drop searched all) ≡ None → preamble_offset all ≡ None
  none-grown searched is there = none-after all searched (λ j lt. early j (omega arith)) there

module _ (bytes last piece : List ℕ) (keeps : KeepsPlain bytes last) where
  abbrev whole : List ℕ
  whole = bytes ++ piece

  abbrev dropped : ℕ
  dropped = length bytes - 3

  joined-is : drop dropped whole ≡ last ++ piece
  joined-is = drop-append-le dropped bytes piece (omega arith) ∙ ap (λ last. last ++ piece) (sym keeps.last_is)

  -- a preamble is found over the boundary or after it
  pub found-plain : (found : ℕ) → preamble_offset (last ++ piece) ≡ Some found → preamble_offset whole ≡ Some (dropped + found)
  found-plain found is = found-grown bytes piece keeps.none dropped found refl (ap preamble_offset joined-is ∙ is)

  -- and there is no comment before it
  pub plain-found : (place : ℕ) → comment_of (take place whole) ≡ None
  plain-found place =
      let plain = plain-grown bytes piece keeps.plain in
      plain-front whole place (omega (arith, plain.0)) plain.1

  -- or there is none
  pub plain-goes_on : (after : List ℕ) → preamble_offset (last ++ piece) ≡ None → after ≡ drop (length piece) (last ++ piece) → KeepsPlain whole after
  plain-goes_on after is after_is =
      let three = keeps.plain.0 in
      let e : length piece + dropped ≡ length whole - 3 = omega (arith, length-append bytes piece) in
      record {
        none = none-grown bytes piece keeps.none dropped refl (ap preamble_offset joined-is ∙ is);
        plain = plain-grown bytes piece keeps.plain;
        last_is = after_is ∙ ap (drop (length piece)) (sym joined-is) ∙ drop-drop (length piece) dropped whole ∙ ap (λ n. drop n whole) (omega (arith, e));
      }

-- ---- the boundary

module _ (last piece edge : List ℕ) (three : length last ≡ 3) (edge_is : edge ≡ last ++ take 3 piece) where
  edge-joined : last ++ piece ≡ edge ++ drop 3 piece
  edge-joined = ap (λ piece. last ++ piece) (sym (take-append-drop 3 piece)) ∙ sym (append_assoc last (take 3 piece) (drop 3 piece)) ∙ ap (λ edge. edge ++ drop 3 piece) (sym edge_is)

  edge-length : length edge ≡ 3 + length (take 3 piece)
  edge-length = omega (arith, ap length edge_is, length-append last (take 3 piece))

  -- a preamble at the boundary is the first one
  pub found-edge : (found : ℕ) → preamble_offset edge ≡ Some found → preamble_offset (last ++ piece) ≡ Some found
  found-edge found is = ap preamble_offset edge-joined ∙ preamble_offset-grown edge (drop 3 piece) found is

  none-edge : preamble_offset edge ≡ None → (j : ℕ) → j < 3 → is_preamble_at (last ++ piece) j ≡ false
  none-edge none j lt =
      elim (cases_lt (length piece) 3) [
        | inl short ↦
            let same : edge ≡ last ++ piece = edge_is ∙ ap (λ piece. last ++ piece) (take_all 3 piece (omega arith)) in
            ap (λ bytes. is_preamble_at bytes j) (sym same) ∙ none-within edge j none (omega (arith, edge-length))
        | inr long ↦
            let room : j + 4 ≤ length edge = omega (arith, edge-length, length-take-le 3 piece long) in
            ap (λ bytes. is_preamble_at bytes j) edge-joined ∙ at-grown edge (drop 3 piece) j room ∙ none-within edge j none (omega arith)
      ]

  after-last : drop 3 (last ++ piece) ≡ piece
  after-last = drop_at last piece 3 three

  -- else the first one of the piece
  pub found-after_edge : (found : ℕ) → preamble_offset edge ≡ None → preamble_offset piece ≡ Some found → preamble_offset (last ++ piece) ≡ Some (3 + found)
  found-after_edge found none is = found-after (last ++ piece) 3 found (none-edge none) (ap preamble_offset after-last ∙ is)

  pub none-after_edge : preamble_offset edge ≡ None → preamble_offset piece ≡ None → preamble_offset (last ++ piece) ≡ None
  none-after_edge none is = none-after (last ++ piece) 3 (none-edge none) (ap preamble_offset after-last ∙ is)

  -- which follows from where it ends
  pub start-after_edge : (start : Option ℕ) → preamble_offset edge ≡ None → IfSome start (λ start. (4 ≤ start) × (start ≤ length piece)) → IfSome start (λ start. preamble_offset piece ≡ Some (start - 4)) → IfSome start (λ start. preamble_offset (last ++ piece) ≡ Some (start - 1))
  start-after_edge None none within found = tt
  start-after_edge (Some start) none within found = found-after_edge (start - 4) none found ∙ ap (λ n. Some n) (omega (arith, within.0))
