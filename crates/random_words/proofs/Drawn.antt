-- The digits and the lines of a draw.
use Rattle.std.proofs.Common.{◌≡◌, ℕ, zero, suc, ◌+◌, ◌*◌, ◌/◌, ◌%◌, ◌^◌, ◌<◌, ◌≤◌, true, false, ◌&&◌, ◌==◌, List, [], ◌∷◌, ◌++◌, length, map, refl, sym, ap, ◌∙◌, append-nil, mul-le-mul, arith}
use Rattle.std.proofs.lemmas.Bool.{and_parts, eqb-true, leb-true, ne_eqb, eq-eqb}
use Rattle.std.proofs.lemmas.List.Elements.{All-map}
use Rattle.std.proofs.lemmas.List.FromFn.{length-map-range_with_len, map-range_with_len_more}
use Rattle.std.proofs.lemmas.List.Sums.{AllPass-from_list_all}
use Rattle.std.proofs.lemmas.Grind.{flat_map-append}
use Rattle.std.specs.Prelude.{None, flat_map, nat_le}
use Rattle.std.specs.List.{range_with_len}
use Rattle.hex.specs.Hex.{lower_digits}
use Rattle.rand_xoshiro.specs.Xoshiro256.{next_state}
use Rattle.text_lines.specs.Written.{text_of}
use Rattle.bram_replace.specs.HexText.{contents_of, hex_fault_of}
use Rattle.random_words.specs.Draws.{digit_at, digits_from, drawn_from, drawn_line, is_depth, is_width, state_after, word_at}
use Rattle.random_words.specs.Taken.{HasSize}
use Rattle.random_words.proofs.HexLines.{AreLines, IsLine, is_digit, depth-is, digits-are, length-lines, no_fault}

-- ---- the generator

pub state_after-sum : (first second : ℕ) (state : List ℕ) → state_after (first + second) state ≡ state_after second (state_after first state)
unfolding state_after
state_after-sum first zero state =
    let same : first + 0 ≡ first = omega arith in
    rw same refl
state_after-sum first (suc second) state =
    let next : first + suc second ≡ suc (first + second) = omega arith in
    rw next (ap next_state (state_after-sum first second state))

pub digit_at-later : (count : ℕ) (state : List ℕ) → digit_at (state_after count state) 0 ≡ digit_at state count
unfolding digit_at state_after
digit_at-later count state = refl

-- ---- the lines

is_digit-drawn : (state : List ℕ) (place : ℕ) → is_digit (digit_at state place) ≡ true
unfolding digit_at
is_digit-drawn state place =
    let small : word_at state place < 2 ^ 64 = omega arith in
    let few : word_at state place / 2 ^ 60 < 16 = omega arith in
    AllPass-from_list_all is_digit lower_digits refl (word_at state place / 2 ^ 60) 0 few

IsLine-drawn : (state : List ℕ) (digits n : ℕ) → IsLine digits (drawn_line state digits n)
IsLine-drawn state digits n =
    let start = state_after (digits * n) state in
    record {
      count = length-map-range_with_len (digit_at start) 0 digits;
      all = All-map (λ byte. is_digit byte ≡ true) (digit_at start) (range_with_len 0 digits) (λ k d lt. is_digit-drawn start _);
    }

AreLines-drawn : (state : List ℕ) (digits depth : ℕ) → AreLines digits (map (drawn_line state digits) (range_with_len 0 depth))
AreLines-drawn state digits depth = All-map (IsLine digits) (drawn_line state digits) (range_with_len 0 depth) (λ k d lt. IsLine-drawn state digits _)

-- ---- the text

-- what the sizes say
record IsSize (width depth : ℕ) : Type 0 where
  some : 0 < width / 4
  few : width / 4 ≤ 64
  whole : 4 * (width / 4) ≡ width
  any : 0 < depth
  blocks : depth % 256 ≡ 0
  short : depth * (width / 4 + 1) ≤ 65536 * 65

size-is : (width depth : ℕ) → is_width width ≡ true → is_depth depth ≡ true → IsSize width depth
size-is width depth wide deep =
    let w = and_parts (nat_le 4 width && nat_le width 256) (width % 4 == 0) wide in
    let ws = and_parts (nat_le 4 width) (nat_le width 256) w.0 in
    let d = and_parts (nat_le 256 depth && nat_le depth 65536) (depth % 256 == 0) deep in
    let ds = and_parts (nat_le 256 depth) (nat_le depth 65536) d.0 in
    let least : 4 ≤ width = leb-true 4 width ws.0 in
    let most : width ≤ 256 = leb-true width 256 ws.1 in
    let digits : width % 4 ≡ 0 = eqb-true (width % 4) 0 w.1 in
    let shallowest : 256 ≤ depth = leb-true 256 depth ds.0 in
    let deepest : depth ≤ 65536 = leb-true depth 65536 ds.1 in
    let parts : depth % 256 ≡ 0 = eqb-true (depth % 256) 0 d.1 in
    let digits_few : width / 4 + 1 ≤ 65 = omega arith in
    record { some = omega arith; few = omega arith; whole = omega arith; any = omega arith; blocks = parts; short = mul-le-mul deepest digits_few }

-- no draw has a faulty line, or another number of words than complete blocks
pub drawn-faultless : (width depth : ℕ) (state : List ℕ) → is_width width ≡ true → is_depth depth ≡ true → hex_fault_of (drawn_from width depth state) ≡ None
unfolding drawn_from
drawn-faultless width depth state wide deep =
    let size = size-is width depth wide deep in
    let lines = map (drawn_line state (width / 4)) (range_with_len 0 depth) in
    let count : length lines ≡ depth = length-map-range_with_len (drawn_line state (width / 4)) 0 depth in
    let any : (length lines == 0) ≡ false = ne_eqb (length lines) 0 (λ same. omega (arith, size.any)) in
    let blocks : (length lines % 256 == 0) ≡ true = eq-eqb (length lines % 256) 0 (ap (λ n. n % 256) count ∙ size.blocks) in
    no_fault (width / 4) lines size.some size.few (AreLines-drawn state (width / 4) depth) (rw (any, blocks) refl)

-- each has its size
pub drawn-size : (width depth : ℕ) (state : List ℕ) → is_width width ≡ true → is_depth depth ≡ true → HasSize width depth (contents_of (drawn_from width depth state))
unfolding drawn_from
drawn-size width depth state wide deep =
    let size = size-is width depth wide deep in
    let lines = map (drawn_line state (width / 4)) (range_with_len 0 depth) in
    let count : length lines ≡ depth = length-map-range_with_len (drawn_line state (width / 4)) 0 depth in
    record {
      width_is = ap (λ n. 4 * n) (digits-are (width / 4) lines size.some (AreLines-drawn state (width / 4) depth) (omega (arith, size.any))) ∙ size.whole;
      depth_is = depth-is (width / 4) lines size.some (AreLines-drawn state (width / 4) depth) ∙ count;
    }

-- how long it may be
pub drawn-length : (width depth : ℕ) (state : List ℕ) → is_width width ≡ true → is_depth depth ≡ true → length (drawn_from width depth state) ≤ 16777216
unfolding drawn_from
drawn-length width depth state wide deep =
    let size = size-is width depth wide deep in
    let is : length (text_of (map (drawn_line state (width / 4)) (range_with_len 0 depth))) ≡ depth * (width / 4 + 1) =
    length-lines (width / 4) (map (drawn_line state (width / 4)) (range_with_len 0 depth)) (AreLines-drawn state (width / 4) depth)
    ∙ ap (λ n. n * (width / 4 + 1)) (length-map-range_with_len (drawn_line state (width / 4)) 0 depth) in
    omega (arith, size.short)

-- ---- one more

-- a digit more
pub digits_from-more : (state : List ℕ) (count digit : ℕ) → digit ≡ digit_at (state_after count state) 0 → digits_from state count ++ digit ∷ [] ≡ digits_from state (count + 1)
digits_from-more state count digit is =
    ap (λ last. digits_from state count ++ last ∷ []) (is ∙ digit_at-later count state) ∙ sym (map-range_with_len_more (digit_at state) 0 count count (omega arith))

-- a line more
pub lines-more : (state : List ℕ) (digits count : ℕ) → text_of (map (drawn_line state digits) (range_with_len 0 count)) ++ (drawn_line state digits count ++ 10 ∷ [])
    ≡ text_of (map (drawn_line state digits) (range_with_len 0 (count + 1)))
unfolding text_of
lines-more state digits count =
    let ended = λ (line : List ℕ). line ++ 10 ∷ [] in
    let lines = map (drawn_line state digits) (range_with_len 0 count) in
    let line = drawn_line state digits count in
    sym (ap (flat_map ended) (map-range_with_len_more (drawn_line state digits) 0 count count (omega arith))
    ∙ flat_map-append ended lines (line ∷ []) ∙ ap (λ xs. flat_map ended lines ++ xs) (append-nil (line ++ 10 ∷ [])))
