-- Bytes that are taken in parts.
use Rattle.std.proofs.Common.{arith, ◌≡◌, ◌∙◌, ℕ, ◌+◌, ◌-◌, ◌<◌, ◌≤◌, min, List, [], Option, ◌++◌, length, take, drop, subst, sym, ap, take-append-drop, length-take-le, length-drop, append_assoc}
use Rattle.std.proofs.lemmas.List.{drop-take, take-take, drop-drop, take_at, take_rest, drop_all}
use Rattle.std.specs.Io.KnownBytes.{Appends, Consumes}
use Rattle.std.proofs.KnownBytes.{Appends-trans, Consumes-trans}

-- a part and the next one
pub take_parts : (bytes : List ℕ) (i n : ℕ) → take i bytes ++ take n (drop i bytes) ≡ take (i + n) bytes
take_parts bytes i n =
    let rest : drop i (take (i + n) bytes) ≡ take n (drop i bytes) = drop-take i n bytes in
    let front : take i (take (i + n) bytes) ≡ take i bytes = take-take i (i + n) bytes (omega arith) in
    let whole : take i (take (i + n) bytes) ++ drop i (take (i + n) bytes) ≡ take (i + n) bytes = take-append-drop i (take (i + n) bytes) in
    cc

-- the first i bytes were appended, and then the next n, of the slice of what follows
pub Appends_parts : (a b c : Option (List ℕ)) (bytes : List ℕ) (i n : ℕ) → Appends a b (take i bytes)
    → Appends b c (take n (take (length bytes - i) (drop i bytes))) → Appends a c (take (i + n) bytes)
Appends_parts a b c bytes i n p q =
    let next : Appends b c (take n (drop i bytes)) = subst (λ rest. Appends b c (take n rest)) (take_rest bytes i) q in
    subst (Appends a c) (take_parts bytes i n) (Appends-trans a b c _ _ p next)

-- the first i bytes were taken, and then the next n
pub Consumes_parts : (a b c : Option (List ℕ)) (old new : List ℕ) (i n : ℕ) → take i new ≡ take i old → Consumes a b (take i old) → Consumes b c (take n (drop i new)) → Consumes a c (take (i + n) new)
Consumes_parts a b c old new i n kept p q =
    subst (Consumes a c) (ap (λ front. front ++ take n (drop i new)) (sym kept) ∙ take_parts new i n) (Consumes-trans a b c (take i old) (take n (drop i new)) p q)

-- what is left falls into the k bytes that were copied from its front, and the rest
pub front_given : (left bytes into old : List ℕ) (at k : ℕ) → left ≡ drop at bytes → k ≤ length left
    → into ≡ take k left ++ drop k old → left ≡ take k into ++ drop (at + k) bytes
front_given left bytes into old at k is_left fits is_into =
    let given : take k into ≡ take k (take k left ++ drop k old) = ap (take k) is_into in
    let front : take k (take k left ++ drop k old) ≡ take k left = take_at (take k left) (drop k old) k (length-take-le k left fits) in
    let rest : drop k (drop at bytes) ≡ drop (at + k) bytes = drop-drop k at bytes in
    let after : drop k left ≡ drop k (drop at bytes) = ap (drop k) is_left in
    let whole : take k left ++ drop k left ≡ left = take-append-drop k left in
    cc

-- a read from memory gives the front of what was left, and nothing only if nothing was
pub front_read : (left bytes into old : List ℕ) (at most k : ℕ) → left ≡ drop at bytes → 1 ≤ most → at ≤ length bytes
    → k ≡ min most (min (length (take (length bytes - at) (drop at bytes))) (length old))
    → into ≡ take k (take (length bytes - at) (drop at bytes)) ++ drop k old → length into ≡ length old
    → (left ≡ take k into ++ drop (at + k) bytes) × (k ≡ 0 → 0 < length into → drop (at + k) bytes ≡ [])
front_read left bytes into old at most k is_left some within is_k is_into same =
    let slice : take (length bytes - at) (drop at bytes) ≡ left = take_rest bytes at ∙ sym is_left in
    let size : k ≡ min most (min (length left) (length old)) = is_k ∙ ap (λ xs. min most (min (length xs) (length old))) slice in
    let copied : into ≡ take k left ++ drop k old = is_into ∙ ap (λ xs. take k xs ++ drop k old) slice in
    let long : length left ≡ length bytes - at = ap length is_left ∙ length-drop at bytes in (
      front_given left bytes into old at k is_left (omega arith) copied,
      λ none room. drop_all (at + k) bytes (omega arith),
    )

-- n bytes more are copied, over what follows the first bytes
pub copied_more : (from into rest after : List ℕ) (at n : ℕ) → take at into ≡ take at from → at + n ≤ length from → length into ≡ length from
    → take (at + n) (take at into ++ ((take n (take (length from - at) (drop at from)) ++ rest) ++ after)) ≡ take (at + n) from
copied_more from into rest after at n done fits same =
    let piece : List ℕ = take n (take (length from - at) (drop at from)) in
    let is_piece : take n (take (length from - at) (drop at from)) ≡ take n (drop at from) = ap (take n) (take_rest from at) in
    let joined : take at into ++ ((piece ++ rest) ++ after) ≡ (take at from ++ take n (drop at from)) ++ (rest ++ after) =
    rw (done, is_piece) (simp append_assoc) in
    let long : length (take at from ++ take n (drop at from)) ≡ at + n =
    ap length (take_parts from at n) ∙ length-take-le (at + n) from fits in
    ap (take (at + n)) joined ∙ take_at _ (rest ++ after) (at + n) long ∙ take_parts from at n
