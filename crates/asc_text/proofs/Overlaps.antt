-- A line whose first eight bytes are read apart from the eights at its end, so that some bytes are read twice.
use Rattle.std.proofs.Common.{◌≡◌, ℕ, zero, suc, ◌+◌, ◌-◌, ◌*◌, ◌%◌, ◌^◌, ◌<◌, ◌≤◌, Bool, true, false, ◌&&◌, List, [], ◌∷◌, ◌++◌, length, take, drop, map, length-drop, bit_or, refl, sym, ap, subst, ◌∙◌, arith}
use Rattle.std.specs.List.{list_all}
use Rattle.std.proofs.lemmas.List.{length-map, length-take-le, take-append-drop, take-map}
use Rattle.std.proofs.lemmas.List.Folds.{list_all-append}
use Rattle.std.proofs.lemmas.Nat.{mod-mul-add}
use Rattle.bit_plane.specs.BitList.{word_of}
use Rattle.bit_plane.proofs.Words.{word_of-lt}
use Rattle.bit_plane.proofs.Parts.{word_of-append, joined, shifted_fits}
use Rattle.asc_text.specs.inside.RowNumbers.{is_bit, is_odd}

take-nothing : {X : Type 0} (n : ℕ) → take {A = X} n [] ≡ []
take-nothing zero = refl
take-nothing (suc n) = refl

-- the first elements, as fewer of them and those after
take-more : {X : Type 0} (n m : ℕ) (xs : List X) → take (n + m) xs ≡ take n xs ++ take m (drop n xs)
take-more zero m xs =
    let same : 0 + m ≡ m = omega arith in
    ap (λ k. take k xs) same
take-more (suc n) m [] = take-nothing (suc n + m) ∙ sym (take-nothing m)
take-more (suc n) m (x ∷ xs) =
    let next : suc n + m ≡ suc (n + m) = omega arith in
    ap (λ k. take k (x ∷ xs)) next ∙ ap (λ ys. x ∷ ys) (take-more n m xs)

-- a number of more bits has their first ones as its low bits
low_bits : (bits : List Bool) (start more head : ℕ) → start ≤ length bits → head ≡ word_of (take (start + more) bits) → head % 2 ^ start ≡ word_of (take start bits)
low_bits bits start more head within head_is =
    let front : List Bool = take start bits in
    let over : List Bool = take more (drop start bits) in
    let long : length front ≡ start = length-take-le start bits within in
    let small : word_of front < 2 ^ start = subst (λ (n : ℕ). word_of front < 2 ^ n) long (word_of-lt front) in
    let split : head ≡ word_of front + 2 ^ length front * word_of over = head_is ∙ ap word_of (take-more start more bits) ∙ word_of-append front over in
    let turned : head ≡ word_of over * 2 ^ start + word_of front = split ∙ ap (λ n. word_of front + 2 ^ n * word_of over) long ∙ omega arith in
    ap (λ n. n % 2 ^ start) turned ∙ mod-mul-add (word_of over) (2 ^ start) (word_of front) small

one-times : (n : ℕ) → 1 * n ≡ n
one-times n = omega arith

-- the number of a line, from that of its first bytes and that of the others
pub odds-overlap : (line : List ℕ) (start head tail : ℕ) → start ≤ 8 → start ≤ length line → length line ≤ 64
    → head ≡ word_of (map is_odd (take 8 (drop 0 line))) → tail ≡ word_of (drop start (map is_odd line))
    → bit_or (head % (1 * 2 ^ start % 2 ^ 64)) (tail * 2 ^ start % 2 ^ 64) ≡ word_of (map is_odd line)
odds-overlap line start head tail few within short head_is tail_is =
    let bits : List Bool = map is_odd line in
    let wide : length bits ≡ length line = length-map line is_odd in
    let inside : start ≤ length bits = omega arith in
    let eight : start + (8 - start) ≡ 8 = omega arith in
    let first : head ≡ word_of (take (start + (8 - start)) bits) = head_is ∙ ap word_of (sym (take-map is_odd 8 line)) ∙ ap (λ n. word_of (take n bits)) (sym eight) in
    let low = low_bits bits start (8 - start) head inside first in
    let long : length (take start bits) ≡ start = length-take-le start bits inside in
    let power : 1 * 2 ^ start % 2 ^ 64 ≡ 2 ^ start = shifted_fits 1 start 1 (omega arith) (omega arith) ∙ one-times (2 ^ start) in
    ap (λ n. bit_or (head % n) (tail * 2 ^ start % 2 ^ 64)) power
    ∙ joined (take start bits) (drop start bits) start (length (drop start bits)) (head % 2 ^ start) tail long refl (omega (arith, length-drop start bits)) low tail_is
    ∙ ap word_of (take-append-drop start bits)

-- a test that two others share is asked once
twice : (a b c : Bool) → ((a && b) && (b && c)) ≡ (a && (b && c))
twice true true c = refl
twice true false c = refl
twice false b c = refl

-- whether each byte of a line is a character 0 or 1, from its first bytes and the others
pub bits-overlap : (line : List ℕ) (start : ℕ) (head tail : Bool) → start ≤ 8 → head ≡ list_all is_bit (take 8 (drop 0 line)) → tail ≡ list_all is_bit (drop start line) → (head && tail) ≡ list_all is_bit line
bits-overlap line start head tail few head_is tail_is =
    let front : List ℕ = take start line in
    let over : List ℕ = take (8 - start) (drop start line) in
    let rest : List ℕ = drop (8 - start) (drop start line) in
    let eight : start + (8 - start) ≡ 8 = omega arith in
    let first : head ≡ (list_all is_bit front && list_all is_bit over) = head_is ∙ ap (λ n. list_all is_bit (take n line)) (sym eight) ∙ ap (list_all is_bit) (take-more start (8 - start) line) ∙ list_all-append is_bit front over in
    let others : tail ≡ (list_all is_bit over && list_all is_bit rest) = tail_is ∙ ap (list_all is_bit) (sym (take-append-drop (8 - start) (drop start line))) ∙ list_all-append is_bit over rest in
    (λ i. first i && others i) ∙ twice (list_all is_bit front) (list_all is_bit over) (list_all is_bit rest)
    ∙ ap (λ b. list_all is_bit front && b) (sym others ∙ tail_is)
    ∙ sym (list_all-append is_bit front (drop start line)) ∙ ap (list_all is_bit) (take-append-drop start line)
