-- Eight bytes as a number, and what it says of them.
use Rattle.std.proofs.Common.{◌≡◌, ℕ, zero, suc, ◌+◌, ◌-◌, ◌*◌, ◌/◌, ◌%◌, ◌^◌, ◌<◌, ◌≤◌, Bool, true, ◌&&◌, ◌||◌, ◌==◌, List, [], ◌∷◌, length, get_or, take, drop, map, length-drop, ◌++◌, bit_and, refl, sym, ap, ◌∙◌, arith}
use Rattle.std.specs.List.{list_all, All}
use Rattle.std.proofs.lemmas.List.Elements.{All-head, All-tail, All-take, All-drop}
use Rattle.std.proofs.lemmas.List.{get_or_default, length-map, length-take-le, take-append-drop, drop-drop, take-map, drop-map, at_drop_all}
use Rattle.std.proofs.lemmas.List.Folds.{list_all-append}
use Rattle.std.proofs.Math.Bool.{and_comm}
use Rattle.std.proofs.lemmas.Nat.{and_mod, and_shr}
use Rattle.std.proofs.lemmas.Nat.Bits.{and_high_mask, shr_and_one, bit_at_lowest}
use Rattle.std.proofs.lemmas.Bool.Decides.{nat_tests}
use Rattle.bit_plane.specs.BitList.{bit_value, word_of}
use Rattle.bit_plane.proofs.Words.{bit_value-test, word_of-fits, word_of-drop_all}
use Rattle.asc_text.specs.inside.RowNumbers.{is_bit, is_odd, bytes_number, AreEight}

-- a byte repeated
abbrev pub repeated : ℕ → ℕ → ℕ
repeated byte zero = 0
repeated byte (suc count) = byte + 256 * repeated byte count

-- the bits that two numbers share, byte by byte
and-byte : (a b m n : ℕ) → a < 256 → m < 256 → bit_and (a + 256 * b) (m + 256 * n) ≡ bit_and a m + 256 * bit_and b n
and-byte a b m n small mask =
    let whole : ℕ = bit_and (a + 256 * b) (m + 256 * n) in
    let low_a : (a + 256 * b) % 256 ≡ a = omega arith in
    let low_m : (m + 256 * n) % 256 ≡ m = omega arith in
    let high_b : (a + 256 * b) / 256 ≡ b = omega arith in
    let high_n : (m + 256 * n) / 256 ≡ n = omega arith in
    let low : whole % 256 ≡ bit_and a m = and_mod (a + 256 * b) (m + 256 * n) 8 ∙ (λ i. bit_and (low_a i) (low_m i)) in
    let high : whole / 256 ≡ bit_and b n = and_shr (a + 256 * b) (m + 256 * n) 8 ∙ (λ i. bit_and (high_b i) (high_n i)) in
    omega (arith, low, high)

-- ---- whether each is 0 or 1

byte-test : (byte low x y : ℕ) → byte < 256 → low ≡ byte / 2 * 2 → (low + 256 * x == 48 + 256 * y) ≡ (((byte == 48) || (byte == 49)) && (x == y))
byte-test byte low x y small low_is = grind (arith, nat_tests)

bits-test : (bytes : List ℕ) → All (λ byte. byte < 256) bytes → (bit_and (bytes_number bytes) (repeated 254 (length bytes)) == repeated 48 (length bytes)) ≡ list_all is_bit bytes
bits-test [] small = refl
bits-test (byte ∷ bytes) small =
    let here : byte < 256 = All-head (λ byte. byte < 256) byte bytes small in
    ap (λ n. n == repeated 48 (suc (length bytes))) (and-byte byte (bytes_number bytes) 254 (repeated 254 (length bytes)) here (omega arith))
    ∙ byte-test byte (bit_and byte 254) (bit_and (bytes_number bytes) (repeated 254 (length bytes))) (repeated 48 (length bytes)) here (and_high_mask 8 1 (omega arith) byte here)
    ∙ ap (λ b. is_bit byte && b) (bits-test bytes (All-tail (λ byte. byte < 256) byte bytes small))

pub eight_bits : (word : ℕ) (bytes : List ℕ) → AreEight bytes → word ≡ bytes_number bytes → (bit_and word 0xFEFEFEFEFEFEFEFE == 0x3030303030303030) ≡ list_all is_bit bytes
eight_bits word bytes eight word_is =
    ap (λ n. bit_and n 0xFEFEFEFEFEFEFEFE == 0x3030303030303030) word_is
    ∙ ap (λ n. bit_and (bytes_number bytes) (repeated 254 n) == repeated 48 n) (sym eight.count)
    ∙ bits-test bytes eight.small

-- ---- the lowest bits

pub and-one : (n : ℕ) → bit_and n 1 ≡ n % 2
and-one n =
    let whole : n ≡ n / 2 ^ 0 = omega arith in
    ap (λ n. bit_and n 1) whole ∙ shr_and_one n 0 ∙ bit_at_lowest n

-- the lowest bits of bytes, each as a byte
lowest : List ℕ → ℕ
lowest [] = 0
lowest (byte ∷ bytes) = byte % 2 + 256 * lowest bytes

lowest-is : (bytes : List ℕ) → All (λ byte. byte < 256) bytes → bit_and (bytes_number bytes) (repeated 1 (length bytes)) ≡ lowest bytes
unfolding lowest
lowest-is [] small = refl
lowest-is (byte ∷ bytes) small =
    and-byte byte (bytes_number bytes) 1 (repeated 1 (length bytes)) (All-head (λ byte. byte < 256) byte bytes small) (omega arith)
    ∙ (λ i. and-one byte i + 256 * lowest-is bytes (All-tail (λ byte. byte < 256) byte bytes small) i)

-- the highest byte of a product that has these parts
highest : (low high over : ℕ) → low < 2 ^ 56 → high < 256 → (low + 2 ^ 56 * high + 2 ^ 64 * over) % 2 ^ 64 / 2 ^ 56 ≡ high
highest low high over low_in high_in = omega arith

-- the product that packs eight bits
product : (a b c d e f g h : ℕ) → a < 2 → b < 2 → c < 2 → d < 2 → e < 2 → f < 2 → g < 2 → h < 2
    → ((a + 256 * (b + 256 * (c + 256 * (d + 256 * (e + 256 * (f + 256 * (g + 256 * h))))))) * 0x0102040810204080) % 2 ^ 64 / 2 ^ 56 ≡ a + 2 * (b + 2 * (c + 2 * (d + 2 * (e + 2 * (f + 2 * (g + 2 * h))))))
product a b c d e f g h a2 b2 c2 d2 e2 f2 g2 h2 =
    let low : ℕ = 567382630219904 * a + 1134765260439552 * b + 2269530520813568 * c + 4539061024849920 * d + 9078117754732544 * e + 18155135997837312 * f + 36028797018963968 * g in
    let over : ℕ = 1 * b + 258 * c + 66052 * d + 16909320 * e + 4328785936 * f + 1108169199648 * g + 283691315109952 * h in
    let high : ℕ = a + 2 * (b + 2 * (c + 2 * (d + 2 * (e + 2 * (f + 2 * (g + 2 * h)))))) in
    let parts : (a + 256 * (b + 256 * (c + 256 * (d + 256 * (e + 256 * (f + 256 * (g + 256 * h))))))) * 0x0102040810204080 ≡ low + 2 ^ 56 * high + 2 ^ 64 * over = omega arith in
    ap (λ n. n % 2 ^ 64 / 2 ^ 56) parts ∙ highest low high over (omega arith) (omega arith)

-- ---- eight of them

-- a list of eight has eight elements
eight_of : {X : Type 0} (P : List X → Type 0) → ((a b c d e f g h : X) → P (a ∷ b ∷ c ∷ d ∷ e ∷ f ∷ g ∷ h ∷ [])) → (xs : List X) → length xs ≡ 8 → P xs
eight_of P each [] count = absurd (omega arith)
eight_of P each (a ∷ []) count = absurd (omega arith)
eight_of P each (a ∷ b ∷ []) count = absurd (omega arith)
eight_of P each (a ∷ b ∷ c ∷ []) count = absurd (omega arith)
eight_of P each (a ∷ b ∷ c ∷ d ∷ []) count = absurd (omega arith)
eight_of P each (a ∷ b ∷ c ∷ d ∷ e ∷ []) count = absurd (omega arith)
eight_of P each (a ∷ b ∷ c ∷ d ∷ e ∷ f ∷ []) count = absurd (omega arith)
eight_of P each (a ∷ b ∷ c ∷ d ∷ e ∷ f ∷ g ∷ []) count = absurd (omega arith)
eight_of P each (a ∷ b ∷ c ∷ d ∷ e ∷ f ∷ g ∷ h ∷ []) count = each a b c d e f g h
eight_of P each (a ∷ b ∷ c ∷ d ∷ e ∷ f ∷ g ∷ h ∷ i ∷ xs) count = absurd (omega arith)

-- whether a byte's lowest bit is 1, as a number
pub odd_value : (byte : ℕ) → bit_value (is_odd byte) ≡ byte % 2
odd_value byte = bit_value-test (byte % 2) (omega arith)

packed-eight : (bytes : List ℕ) → length bytes ≡ 8 → lowest bytes * 0x0102040810204080 % 2 ^ 64 / 2 ^ 56 ≡ word_of (map is_odd bytes)
unfolding lowest word_of
packed-eight = eight_of (λ bytes. lowest bytes * 0x0102040810204080 % 2 ^ 64 / 2 ^ 56 ≡ word_of (map is_odd bytes)) (λ a b c d e f g h.
    let sum : lowest (a ∷ b ∷ c ∷ d ∷ e ∷ f ∷ g ∷ h ∷ []) ≡ a % 2 + 256 * (b % 2 + 256 * (c % 2 + 256 * (d % 2 + 256 * (e % 2 + 256 * (f % 2 + 256 * (g % 2 + 256 * (h % 2))))))) = omega arith in
    let word : word_of (map is_odd (a ∷ b ∷ c ∷ d ∷ e ∷ f ∷ g ∷ h ∷ [])) ≡ a % 2 + 2 * (b % 2 + 2 * (c % 2 + 2 * (d % 2 + 2 * (e % 2 + 2 * (f % 2 + 2 * (g % 2 + 2 * (h % 2))))))) =
    omega (arith, odd_value a, odd_value b, odd_value c, odd_value d, odd_value e, odd_value f, odd_value g, odd_value h) in
    ap (λ n. n * 0x0102040810204080 % 2 ^ 64 / 2 ^ 56) sum
    ∙ product (a % 2) (b % 2) (c % 2) (d % 2) (e % 2) (f % 2) (g % 2) (h % 2) (omega arith) (omega arith) (omega arith) (omega arith) (omega arith) (omega arith) (omega arith) (omega arith)
    ∙ sym word)

pub eight_odds : (word : ℕ) (bytes : List ℕ) → AreEight bytes → word ≡ bytes_number bytes → bit_and word 0x0101010101010101 * 0x0102040810204080 % 2 ^ 64 / 2 ^ 56 ≡ word_of (map is_odd bytes)
eight_odds word bytes eight word_is =
    ap (λ n. n * 0x0102040810204080 % 2 ^ 64 / 2 ^ 56)
    (ap (λ n. bit_and n 0x0101010101010101) word_is ∙ ap (λ n. bit_and (bytes_number bytes) (repeated 1 n)) (sym eight.count) ∙ lowest-is bytes eight.small)
    ∙ packed-eight bytes eight.count

-- eight bytes of a line
pub eight-taken : (line : List ℕ) (start : ℕ) → start + 8 ≤ length line → ((i : ℕ) → get_or line i 0 < 256) → AreEight (take 8 (drop start line))
eight-taken line start within bytes =
    let small : All (λ byte. byte < 256) line = λ i d inside. rw (get_or_default line i d 0 inside) (bytes i) in record {
      count = length-take-le 8 (drop start line) (omega (arith, length-drop start line));
      small = All-take (λ byte. byte < 256) 8 (drop start line) (All-drop (λ byte. byte < 256) start line small);
    }

-- ---- a line that is read from its end on, eight bytes at a time

pub odds-none : (line : List ℕ) → 0 ≡ word_of (drop (length line) (map is_odd line))
odds-none line = sym (word_of-drop_all (map is_odd line)) ∙ ap (λ n. word_of (drop n (map is_odd line))) (length-map line is_odd)

pub bits-none : (line : List ℕ) → true ≡ list_all is_bit (drop (length line) line)
bits-none line = sym (at_drop_all (list_all is_bit) line (length line) (omega arith))

-- a line from a place on is eight elements, and the line from after them on
eight-split : {X : Type 0} (xs : List X) (i : ℕ) → 8 ≤ i → i ≤ length xs → drop (i - 8) xs ≡ take 8 (drop (i - 8) xs) ++ drop i xs
eight-split xs i some within =
    let e : i - 8 + 8 ≡ i = omega arith in
    sym (take-append-drop 8 (drop (i - 8) xs)) ∙ ap (λ ys. take 8 (drop (i - 8) xs) ++ ys) (drop-drop 8 (i - 8) xs ∙ ap (λ n. drop n xs) e)

-- the number of eight bits before others
word-eight : (bits more : List Bool) → length bits ≡ 8 → word_of (bits ++ more) ≡ word_of bits + 256 * word_of more
unfolding word_of
word-eight bits more = eight_of (λ bits. word_of (bits ++ more) ≡ word_of bits + 256 * word_of more) (λ a b c d e f g h. omega arith) bits

pub odds-eight : (line : List ℕ) (i ones here : ℕ) → 8 ≤ i → i ≤ length line → ones ≡ word_of (drop i (map is_odd line)) → here ≡ word_of (map is_odd (take 8 (drop (i - 8) line))) → 256 * ones + here ≡ word_of (drop (i - 8) (map is_odd line))
odds-eight line i ones here some within ones_is here_is =
    let bits : List Bool = map is_odd line in
    let inside : i ≤ length bits = omega (arith, length-map line is_odd) in
    let count : length (take 8 (drop (i - 8) bits)) ≡ 8 = length-take-le 8 (drop (i - 8) bits) (omega (arith, length-drop (i - 8) bits)) in
    let taken : here ≡ word_of (take 8 (drop (i - 8) bits)) = here_is ∙ ap word_of (sym (take-map is_odd 8 (drop (i - 8) line)) ∙ ap (take 8) (sym (drop-map is_odd (i - 8) line))) in
    let whole = ap word_of (eight-split bits i some inside) ∙ word-eight (take 8 (drop (i - 8) bits)) (drop i bits) count in
    omega (arith, whole, taken, ones_is)

pub odds-fits : (line : List ℕ) (i : ℕ) → length line ≤ 64 → word_of (drop i (map is_odd line)) < 2 ^ 64
odds-fits line i short = word_of-fits (drop i (map is_odd line)) (omega (arith, length-drop i (map is_odd line), length-map line is_odd))

pub odds-eight_fits : (line : List ℕ) (i ones : ℕ) → 8 ≤ i → i ≤ length line → length line ≤ 64 → ones ≡ word_of (drop i (map is_odd line)) → 256 * ones < 2 ^ 64
odds-eight_fits line i ones some within short ones_is =
    omega (arith, odds-eight line i ones (word_of (map is_odd (take 8 (drop (i - 8) line)))) some within ones_is refl, odds-fits line (i - 8) short)

pub bits-eight : (line : List ℕ) (i : ℕ) (so_far here : Bool) → 8 ≤ i → i ≤ length line → so_far ≡ list_all is_bit (drop i line) → here ≡ list_all is_bit (take 8 (drop (i - 8) line)) → (so_far && here) ≡ list_all is_bit (drop (i - 8) line)
bits-eight line i so_far here some within so_far_is here_is =
    and_comm so_far here ∙ (λ j. here_is j && so_far_is j)
    ∙ sym (list_all-append is_bit (take 8 (drop (i - 8) line)) (drop i line)) ∙ ap (list_all is_bit) (sym (eight-split line i some within))
