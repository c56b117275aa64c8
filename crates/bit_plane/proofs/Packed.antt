-- The bits of several words.
use Rattle.std.proofs.Common.{◌≡◌, ℕ, zero, suc, ◌+◌, ◌-◌, ◌*◌, ◌/◌, ◌<◌, ◌≤◌, Bool, List, [], ◌∷◌, ◌++◌, length, get_or, set, take, drop, sym, ap, ap₂, ◌∙◌, arith, append_assoc, length-drop, length-take-le, length-set, drop-drop, ◌%◌, ◌^◌, bit_or}
use Rattle.std.proofs.Math.Seq.{drop-append-add, take-append-add, take-add}
use Rattle.std.proofs.lemmas.List.{take-append-le, drop-append-le}
use Rattle.bit_plane.specs.BitList.{word_bits, word_of, placed}
use Rattle.bit_plane.specs.inside.Packed.{packed}
use Rattle.bit_plane.proofs.Words.{length-word_bits}
use Rattle.bit_plane.proofs.Parts.{joined, word_bits-add}
use Rattle.bit_plane.proofs.Places.{placed-more}
pub use Rattle.bit_plane.specs.inside.Packed.{length-packed, IsGrid-rows_in}

-- a part that lies in the first of two lists
pub placed-append : {A : Type 0} (at : ℕ) (part front back : List A) → at + length part ≤ length front → placed at part (front ++ back) ≡ placed at part front ++ back
placed-append at part front back within =
    ap₂ (λ before after. before ++ part ++ after) (take-append-le at front back (omega arith)) (drop-append-le (at + length part) front back within) ∙ sym (append_assoc (take at front ++ part) (drop (at + length part) front) back)

-- a part that lies in the second of two lists
pub placed-after : {A : Type 0} (at n : ℕ) (part front back : List A) → n ≡ length front + at → placed n part (front ++ back) ≡ front ++ placed at part back
placed-after {A} at n part front back place =
    let past : n + length part ≡ length front + (at + length part) = omega arith in
    let head : take n (front ++ back) ≡ front ++ take at back = ap (λ k. take k (front ++ back)) place ∙ take-append-add front back at in
    let tail : drop (n + length part) (front ++ back) ≡ drop (at + length part) back = ap (λ k. drop k (front ++ back)) past ∙ drop-append-add front back (at + length part) in
    ap₂ (λ (before after : List A). before ++ part ++ after) head tail ∙ ap (λ before. before ++ drop (at + length part) back) (append_assoc front (take at back) part) ∙ append_assoc front (take at back ++ part) (drop (at + length part) back)

-- the bits from a place of a word on are those of that word and those of the words after it
pub drop-packed : (words : List ℕ) (place at : ℕ) → place < length words → at ≤ 64 → drop (64 * place + at) (packed words) ≡ drop at (word_bits 64 (get_or words place 0)) ++ packed (drop (suc place) words)
unfolding packed
drop-packed [] place at within small = absurd (omega arith)
drop-packed (word ∷ words) zero at within small =
    let e : 64 * 0 + at ≡ at = omega arith in
    ap (λ n. drop n (word_bits 64 word ++ packed words)) e ∙ drop-append-le at (word_bits 64 word) (packed words) (omega (arith, length-word_bits 64 word))
drop-packed (word ∷ words) (suc place) at within small =
    let e : 64 * suc place + at ≡ length (word_bits 64 word) + (64 * place + at) = omega (arith, length-word_bits 64 word) in
    ap (λ n. drop n (word_bits 64 word ++ packed words)) e ∙ drop-append-add (word_bits 64 word) (packed words) (64 * place + at) ∙ drop-packed words place at (omega arith) small

-- the first bits from a place of a word on, if they lie in it
bits_at : (words : List ℕ) (place at count : ℕ) → place < length words → at + count ≤ 64 → take count (drop (64 * place + at) (packed words)) ≡ take count (drop at (word_bits 64 (get_or words place 0)))
bits_at words place at count within small =
    let word : ℕ = get_or words place 0 in
    let long : count ≤ length (drop at (word_bits 64 word)) = omega (arith, length-word_bits 64 word, length-drop at (word_bits 64 word)) in
    ap (take count) (drop-packed words place at within (omega arith)) ∙ take-append-le count (drop at (word_bits 64 word)) (packed (drop (suc place) words)) long

-- bits that lie in one word
pub bits_in_word : (words : List ℕ) (position count : ℕ) → position / 64 < length words → position % 64 + count ≤ 64 → take count (drop position (packed words)) ≡ take count (drop (position % 64) (word_bits 64 (get_or words (position / 64) 0)))
bits_in_word words position count within small =
    let e : position ≡ 64 * (position / 64) + position % 64 = omega arith in
    ap (λ n. take count (drop n (packed words))) e ∙ bits_at words (position / 64) (position % 64) count within small

-- bits that lie in two words
pub bits_in_words : (words : List ℕ) (position count here : ℕ) → position / 64 + 1 < length words → here ≡ 64 - position % 64 → here ≤ count → count ≤ 64 → take count (drop position (packed words)) ≡ take here (drop (position % 64) (word_bits 64 (get_or words (position / 64) 0))) ++ take (count - here) (drop 0 (word_bits 64 (get_or words (position / 64 + 1) 0)))
bits_in_words words position count here within here_is some small =
    let e : count ≡ here + (count - here) = omega arith in
    let next : position + here ≡ 64 * (position / 64 + 1) + 0 = omega arith in
    ap (λ n. take n (drop position (packed words))) e ∙ take-add here (count - here) (drop position (packed words)) ∙ ap₂ (λ (front back : List Bool). front ++ back) (bits_in_word words position here (omega arith) (omega arith)) (ap (take (count - here)) (drop-drop here position (packed words) ∙ ap (λ n. drop n (packed words)) next) ∙ bits_at words (position / 64 + 1) 0 (count - here) within (omega arith))

-- the number of bits that lie in two words
pub word_in_words : (words : List ℕ) (position count here a b : ℕ) → position / 64 + 1 < length words → here ≡ 64 - position % 64 → here ≤ count → count ≤ 64 → a ≡ word_of (take here (drop (position % 64) (word_bits 64 (get_or words (position / 64) 0)))) → b ≡ word_of (take (count - here) (drop 0 (word_bits 64 (get_or words (position / 64 + 1) 0)))) → bit_or a (b * 2 ^ here % 2 ^ 64) ≡ word_of (take count (drop position (packed words)))
word_in_words words position count here a b within here_is some small a_is b_is =
    let at : ℕ = position % 64 in
    let first : List Bool = word_bits 64 (get_or words (position / 64) 0) in
    let second : List Bool = word_bits 64 (get_or words (position / 64 + 1) 0) in
    let first_long : length first ≡ 64 = length-word_bits 64 (get_or words (position / 64) 0) in
    let second_long : length second ≡ 64 = length-word_bits 64 (get_or words (position / 64 + 1) 0) in
    let front_long : length (take here (drop at first)) ≡ here = length-take-le here (drop at first) (omega (arith, length-drop at first)) in
    let back_long : length (take (count - here) (drop 0 second)) ≡ count - here = length-take-le (count - here) (drop 0 second) (omega (arith, length-drop 0 second)) in
    joined (take here (drop at first)) (take (count - here) (drop 0 second)) here (count - here) a b front_long back_long (omega arith) a_is b_is ∙ sym (ap word_of (bits_in_words words position count here within here_is some small))

-- another word in place of one
pub packed-set : (words : List ℕ) (place at word : ℕ) (part : List Bool) → place < length words → at + length part ≤ 64 → word_bits 64 word ≡ placed at part (word_bits 64 (get_or words place 0)) → packed (set words place word) ≡ placed (64 * place + at) part (packed words)
unfolding packed
packed-set [] place at word part within small is = absurd (omega arith)
packed-set (first ∷ words) zero at word part within small is =
    let e : 64 * 0 + at ≡ at = omega arith in
    ap (λ bits. bits ++ packed words) is ∙ sym (placed-append at part (word_bits 64 first) (packed words) (omega (arith, length-word_bits 64 first))) ∙ ap (λ n. placed n part (word_bits 64 first ++ packed words)) (sym e)
packed-set (first ∷ words) (suc place) at word part within small is =
    ap (λ bits. word_bits 64 first ++ bits) (packed-set words place at word part (omega arith) small is) ∙ sym (placed-after (64 * place + at) (64 * suc place + at) part (word_bits 64 first) (packed words) (omega (arith, length-word_bits 64 first)))

-- another word in place of the one that has a position
pub packed-set_at : (words : List ℕ) (position word : ℕ) (part : List Bool) → position / 64 < length words → position % 64 + length part ≤ 64 → word_bits 64 word ≡ placed (position % 64) part (word_bits 64 (get_or words (position / 64) 0)) → packed (set words (position / 64) word) ≡ placed position part (packed words)
packed-set_at words position word part within small is =
    let e : 64 * (position / 64) + position % 64 ≡ position = omega arith in
    packed-set words (position / 64) (position % 64) word part within small is ∙ ap (λ n. placed n part (packed words)) e

-- other words in place of the two that have the bits from a position on
pub packed-set_parts : (words : List ℕ) (position a b : ℕ) (front back : List Bool) → position / 64 + 1 < length words → length front ≡ 64 - position % 64 → length back ≤ 64 → word_bits 64 a ≡ placed (position % 64) front (word_bits 64 (get_or words (position / 64) 0)) → word_bits 64 b ≡ placed 0 back (word_bits 64 (get_or (set words (position / 64) a) (position / 64 + 1) 0)) → packed (set (set words (position / 64) a) (position / 64 + 1) b) ≡ placed position (front ++ back) (packed words)
packed-set_parts words position a b front back within front_long small a_is b_is =
    let place : ℕ = position / 64 in
    let once : List ℕ = set words place a in
    let first : packed once ≡ placed position front (packed words) = packed-set_at words position a front (omega arith) (omega (arith, front_long)) a_is in
    let second : packed (set once (place + 1) b) ≡ placed (64 * (place + 1) + 0) back (packed once) = packed-set once (place + 1) 0 b back (omega (arith, length-set words place a)) (omega (arith, small)) b_is in
    let next : 64 * (place + 1) + 0 ≡ position + length front = omega (arith, front_long) in
    let room : 64 * (place + 1) + 0 + length back ≤ length (packed words) = omega (arith, small, length-packed words) in
    second ∙ ap (placed (64 * (place + 1) + 0) back) first ∙ placed-more position (64 * (place + 1) + 0) front back (packed words) next room

-- the same with the low bits of a number
pub packed-set_two : (words : List ℕ) (position count here bits a b : ℕ) → position / 64 + 1 < length words → here ≡ 64 - position % 64 → here ≤ count → count ≤ 64 → word_bits 64 a ≡ placed (position % 64) (word_bits here bits) (word_bits 64 (get_or words (position / 64) 0)) → word_bits 64 b ≡ placed 0 (word_bits (count - here) (bits / 2 ^ here)) (word_bits 64 (get_or (set words (position / 64) a) (position / 64 + 1) 0)) → packed (set (set words (position / 64) a) (position / 64 + 1) b) ≡ placed position (word_bits count bits) (packed words)
packed-set_two words position count here bits a b within here_is some small a_is b_is =
    let more : ℕ = count - here in
    let front : List Bool = word_bits here bits in
    let back : List Bool = word_bits more (bits / 2 ^ here) in
    let e : count ≡ here + more = omega arith in
    packed-set_parts words position a b front back within (length-word_bits here bits ∙ here_is) (omega (arith, length-word_bits more (bits / 2 ^ here))) a_is b_is ∙ ap (λ part. placed position part (packed words)) (sym (ap (λ n. word_bits n bits) e ∙ word_bits-add here more bits))
