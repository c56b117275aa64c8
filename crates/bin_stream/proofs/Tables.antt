-- Bytes enter the register by tables.
use Rattle.std.proofs.Common.{◌≡◌, ℕ, zero, suc, ◌+◌, ◌*◌, ◌/◌, ◌%◌, ◌^◌, ◌<◌, List, [], ◌∷◌, ◌++◌, length, map, get_or, Bool, refl, sym, ap, ap₂, ◌∙◌, arith}
use Rattle.std.proofs.lemmas.Nat.{xor_block, xor_lt, xor_comm}
use Rattle.std.proofs.lemmas.List.FromFn.{get_or-map-range_with_len}
use Rattle.std.specs.Int.Bits.{xor_assoc, xor_self, xor_zero_r}
use Rattle.std.specs.List.{range_with_len}
use Rattle.std.specs.Prelude.{bit_xor}
use Rattle.bit_plane.specs.BitList.{byte_bits, bits_of}
use Rattle.bin_stream.specs.CheckValue.{doubled}
use Rattle.bin_stream.specs.declared.check_value.tables.TheConstants.{REMAINDERS}
use Rattle.bin_stream.specs.inside.Register.{entered, entered_all}
use Rattle.bin_stream.proofs.Powers.{doubled_low, doubled-xor, doubled-below, last_power, last_power-below, entered-is, entered_all-append}
use Rattle.bin_stream.proofs.CheckLaw.{entered_byte}

-- a remainder that many times doubled
unfoldable pub doubled_by : ℕ → ℕ → ℕ
doubled_by zero n = n
doubled_by (suc count) n = doubled_by count (doubled n)

doubled_by-xor : (count a b : ℕ) → a < 65536 → b < 65536 → doubled_by count (bit_xor a b) ≡ bit_xor (doubled_by count a) (doubled_by count b)
unfolding doubled_by
doubled_by-xor zero a b a_in b_in = refl
doubled_by-xor (suc count) a b a_in b_in =
    ap (doubled_by count) (doubled-xor a b a_in b_in)
    ∙ doubled_by-xor count (doubled a) (doubled b) (doubled-below a a_in) (doubled-below b b_in)

-- the low byte moves to the place of the high one
doubled_by-low : (n : ℕ) → n < 256 → doubled_by 8 n ≡ 256 * n
unfolding doubled_by
doubled_by-low n low =
    let s0 : doubled n ≡ 2 * n = doubled_low n (omega arith) in
    let s1 : doubled (2 * n) ≡ 4 * n = doubled_low (2 * n) (omega arith) ∙ omega arith in
    let s2 : doubled (4 * n) ≡ 8 * n = doubled_low (4 * n) (omega arith) ∙ omega arith in
    let s3 : doubled (8 * n) ≡ 16 * n = doubled_low (8 * n) (omega arith) ∙ omega arith in
    let s4 : doubled (16 * n) ≡ 32 * n = doubled_low (16 * n) (omega arith) ∙ omega arith in
    let s5 : doubled (32 * n) ≡ 64 * n = doubled_low (32 * n) (omega arith) ∙ omega arith in
    let s6 : doubled (64 * n) ≡ 128 * n = doubled_low (64 * n) (omega arith) ∙ omega arith in
    let s7 : doubled (128 * n) ≡ 256 * n = doubled_low (128 * n) (omega arith) ∙ omega arith in
    rw (s0, s1, s2, s3, s4, s5, s6, s7) refl

-- two bytes that are sixteen times doubled are the sum of each alone
pub summed : (high low : ℕ) → high < 256 → low < 256 → doubled_by 16 (256 * high + low) ≡ bit_xor (doubled_by 24 high) (doubled_by 16 low)
unfolding doubled_by
summed high low high_in low_in =
    let left : 256 * high ≡ high * 2 ^ 8 + 0 = omega arith in
    let right : low ≡ 0 * 2 ^ 8 + low = omega arith in
    let joined : 256 * high + low ≡ bit_xor (256 * high) low =
    sym (ap₂ bit_xor left right ∙ xor_block 8 high 0 0 low (omega arith) low_in ∙ ap (λ n. n * 2 ^ 8 + low) (xor_zero_r high) ∙ omega arith) in
    let moved : doubled_by 16 (256 * high) ≡ doubled_by 24 high = ap (doubled_by 16) (sym (doubled_by-low high high_in)) in
    ap (doubled_by 16) joined
    ∙ doubled_by-xor 16 (256 * high) low (omega arith) (omega arith)
    ∙ ap (λ n. bit_xor n (doubled_by 16 low)) moved

doubled_by-below : (count n : ℕ) → n < 65536 → doubled_by count n < 65536
unfolding doubled_by
doubled_by-below zero n in_range = in_range
doubled_by-below (suc count) n in_range = doubled_by-below count (doubled n) (doubled-below n in_range)

-- ---- the tables

-- what each byte adds if `n` bytes follow
abbrev remainders : ℕ → List ℕ
remainders following = map (doubled_by (16 + 8 * following)) (range_with_len 0 256)

remainders_all : REMAINDERS ≡ map remainders (range_with_len 0 8)
unfolding doubled_by doubled
remainders_all = refl

-- what a table has at a byte
pub remainder_at : (following byte : ℕ) → following < 8 → byte < 256 → get_or (get_or REMAINDERS following []) byte 0 ≡ doubled_by (16 + 8 * following) byte
remainder_at following byte table_in byte_in =
    ap (λ tables. get_or (get_or tables following []) byte 0) remainders_all
    ∙ ap (λ table. get_or table byte 0) (get_or-map-range_with_len remainders 0 8 following following [] table_in (omega arith))
    ∙ get_or-map-range_with_len (doubled_by (16 + 8 * following)) 0 256 byte byte 0 byte_in (omega arith)

-- ---- bits that enter

entered-below : (value : ℕ) (bit : Bool) → value < 65536 → entered value bit < 65536
entered-below value bit in_range = rw (entered-is value bit in_range) (xor_lt 16 (doubled value) (last_power bit) (doubled-below value in_range) (last_power-below bit))

-- a sum that a bit enters is the sum of what the bit leaves of the one, and the other doubled
entered-xor : (a b : ℕ) (bit : Bool) → a < 65536 → b < 65536 → entered (bit_xor a b) bit ≡ bit_xor (entered a bit) (doubled b)
entered-xor a b bit a_in b_in =
    entered-is (bit_xor a b) bit (xor_lt 16 a b a_in b_in)
    ∙ ap (λ n. bit_xor n (last_power bit)) (doubled-xor a b a_in b_in)
    ∙ xor_assoc (doubled a) (doubled b) (last_power bit)
    ∙ ap (bit_xor (doubled a)) (xor_comm (doubled b) (last_power bit))
    ∙ sym (xor_assoc (doubled a) (last_power bit) (doubled b))
    ∙ ap (λ n. bit_xor n (doubled b)) (sym (entered-is a bit a_in))

entered_all-xor : (a b : ℕ) (bits : List Bool) → a < 65536 → b < 65536 → entered_all (bit_xor a b) bits ≡ bit_xor (entered_all a bits) (doubled_by (length bits) b)
unfolding doubled_by
entered_all-xor a b [] a_in b_in = refl
entered_all-xor a b (bit ∷ bits) a_in b_in =
    ap (λ n. entered_all n bits) (entered-xor a b bit a_in b_in)
    ∙ entered_all-xor (entered a bit) (doubled b) bits (entered-below a bit a_in) (doubled-below b b_in)

-- ---- bytes that enter

-- a sum with a value gives the other part
xor_back : (a b : ℕ) → bit_xor a (bit_xor a b) ≡ b
xor_back a b = sym (xor_assoc a a b) ∙ ap (λ n. bit_xor n b) (xor_self a)

-- two bytes that enter are added to the register, and it is sixteen times doubled
pub entered_pair : (value first second : ℕ) → value < 65536 → first < 256 → second < 256 → entered_all (entered_all value (byte_bits first)) (byte_bits second) ≡ doubled_by 16 (256 * bit_xor (value / 256) first + bit_xor (value % 256) second)
entered_pair value first second in_range first_in second_in =
    let word : ℕ = 256 * first + second in
    let bits : List Bool = byte_bits first ++ byte_bits second in
    let sum : ℕ = 256 * bit_xor (value / 256) first + bit_xor (value % 256) second in
    let word_is : word ≡ first * 2 ^ 8 + second = omega arith in
    let value_is : value ≡ value / 256 * 2 ^ 8 + value % 256 = omega arith in
    let sum_is : bit_xor word value ≡ sum =
    ap₂ bit_xor word_is value_is
    ∙ xor_block 8 first (value / 256) second (value % 256) second_in (omega arith)
    ∙ ap₂ (λ a b. a * 2 ^ 8 + b) (xor_comm first (value / 256)) (xor_comm second (value % 256))
    ∙ omega arith in
    let gone : entered_all word bits ≡ 0 =
    entered_all-append word (byte_bits first) (byte_bits second)
    ∙ ap (λ n. entered_all n (byte_bits second)) (entered_byte word first (omega arith) (omega arith))
    ∙ entered_byte (256 * word % 65536) second (omega arith) (omega arith)
    ∙ omega arith in
    sym (entered_all-append value (byte_bits first) (byte_bits second))
    ∙ ap (λ n. entered_all n bits) (sym (xor_back word value))
    ∙ entered_all-xor word (bit_xor word value) bits (omega arith) (xor_lt 16 word value (omega arith) in_range)
    ∙ ap₂ (λ a b. bit_xor a (doubled_by 16 b)) gone sum_is

-- one byte that enters is added to the register's high one, and the low one moves up
pub entered_one : (value byte : ℕ) → value < 65536 → byte < 256 → entered_all value (byte_bits byte) ≡ bit_xor (256 * value % 65536) (doubled_by 16 (bit_xor (value / 256) byte))
unfolding doubled_by
entered_one value byte in_range byte_in =
    let sum : ℕ = bit_xor (value / 256) byte in
    let low : ℕ = value % 256 in
    let sum_in : sum < 256 = xor_lt 8 (value / 256) byte (omega arith) byte_in in
    let byte_is : 256 * byte ≡ byte * 2 ^ 8 + 0 = omega arith in
    let value_is : value ≡ value / 256 * 2 ^ 8 + value % 256 = omega arith in
    let left : 256 * sum ≡ sum * 2 ^ 8 + 0 = omega arith in
    let right : low ≡ 0 * 2 ^ 8 + low = omega arith in
    let sum_is : bit_xor (256 * byte) value ≡ bit_xor (256 * sum) low =
    ap₂ bit_xor byte_is value_is
    ∙ xor_block 8 byte (value / 256) 0 low (omega arith) (omega arith)
    ∙ ap (λ n. n * 2 ^ 8 + bit_xor 0 low) (xor_comm byte (value / 256) ∙ sym (xor_zero_r sum))
    ∙ sym (ap₂ bit_xor left right ∙ xor_block 8 sum 0 0 low (omega arith) (omega arith)) in
    let gone : entered_all (256 * byte) (byte_bits byte) ≡ 0 = entered_byte (256 * byte) byte (omega arith) (omega arith) ∙ omega arith in
    let shifted : 256 * low ≡ 256 * value % 65536 = omega arith in
    ap (λ n. entered_all n (byte_bits byte)) (sym (xor_back (256 * byte) value))
    ∙ entered_all-xor (256 * byte) (bit_xor (256 * byte) value) (byte_bits byte) (omega arith) (xor_lt 16 (256 * byte) value (omega arith) in_range)
    ∙ ap₂ (λ a b. bit_xor a (doubled_by 8 b)) gone sum_is
    ∙ doubled_by-xor 8 (256 * sum) low (omega arith) (omega arith)
    ∙ xor_comm (doubled_by 8 (256 * sum)) (doubled_by 8 low)
    ∙ ap₂ bit_xor (doubled_by-low low (omega arith) ∙ shifted) (ap (doubled_by 8) (sym (doubled_by-low sum sum_in)))

-- bits that enter the remainder of two bytes give it doubled once for each bit, plus what they give alone
after_pair : (high low : ℕ) (bits : List Bool) → high < 256 → low < 256 → length bits ≡ 48 → entered_all (doubled_by 16 (256 * high + low)) bits ≡ bit_xor (bit_xor (entered_all 0 bits) (doubled_by 64 low)) (doubled_by 72 high)
unfolding doubled_by
after_pair high low bits high_in low_in long =
    let a : ℕ = doubled_by 24 high in
    let b : ℕ = doubled_by 16 low in
    let a_in : a < 65536 = doubled_by-below 24 high (omega arith) in
    let b_in : b < 65536 = doubled_by-below 16 low (omega arith) in
    ap (λ n. entered_all n bits) (summed high low high_in low_in)
    ∙ entered_all-xor 0 (bit_xor a b) bits (omega arith) (xor_lt 16 a b a_in b_in)
    ∙ ap (λ count. bit_xor (entered_all 0 bits) (doubled_by count (bit_xor a b))) long
    ∙ ap (bit_xor (entered_all 0 bits)) (doubled_by-xor 48 a b a_in b_in ∙ xor_comm (doubled_by 48 a) (doubled_by 48 b))
    ∙ sym (xor_assoc (entered_all 0 bits) (doubled_by 48 b) (doubled_by 48 a))

-- a byte that enters nothing, and those after it
entered_first : (byte : ℕ) (bits : List Bool) → byte < 256 → entered_all 0 (byte_bits byte ++ bits) ≡ bit_xor (entered_all 0 bits) (doubled_by (length bits) (doubled_by 16 byte))
entered_first byte bits byte_in =
    let alone : entered_all 0 (byte_bits byte) ≡ doubled_by 16 byte = entered_one 0 byte (omega arith) byte_in in
    entered_all-append 0 (byte_bits byte) bits
    ∙ ap (λ n. entered_all n bits) alone
    ∙ entered_all-xor 0 (doubled_by 16 byte) bits (omega arith) (doubled_by-below 16 byte (omega arith))

-- six bytes that enter nothing
entered_six : (c d e f g h : ℕ) → c < 256 → d < 256 → e < 256 → f < 256 → g < 256 → h < 256 → entered_all 0 (bits_of (c ∷ d ∷ e ∷ f ∷ g ∷ h ∷ [])) ≡ bit_xor (bit_xor (bit_xor (bit_xor (bit_xor (doubled_by 16 h) (doubled_by 24 g)) (doubled_by 32 f)) (doubled_by 40 e)) (doubled_by 48 d)) (doubled_by 56 c)
unfolding doubled_by
entered_six c d e f g h c_in d_in e_in f_in g_in h_in =
    entered_first c (bits_of (d ∷ e ∷ f ∷ g ∷ h ∷ [])) c_in
    ∙ ap (λ n. bit_xor n (doubled_by 56 c)) (entered_first d (bits_of (e ∷ f ∷ g ∷ h ∷ [])) d_in
    ∙ ap (λ n. bit_xor n (doubled_by 48 d)) (entered_first e (bits_of (f ∷ g ∷ h ∷ [])) e_in
    ∙ ap (λ n. bit_xor n (doubled_by 40 e)) (entered_first f (bits_of (g ∷ h ∷ [])) f_in
    ∙ ap (λ n. bit_xor n (doubled_by 32 f)) (entered_first g (bits_of (h ∷ [])) g_in
    ∙ ap (λ n. bit_xor n (doubled_by 24 g)) (entered_first h [] h_in)))))

-- eight bytes that enter
pub entered_eight : (value : ℕ) (bytes : List ℕ) → length bytes ≡ 8 → value < 65536 → ((i : ℕ) → get_or bytes i 0 < 256) → bit_xor (bit_xor (bit_xor (bit_xor (bit_xor (bit_xor (bit_xor (doubled_by 16 (get_or bytes 7 0)) (doubled_by 24 (get_or bytes 6 0))) (doubled_by 32 (get_or bytes 5 0))) (doubled_by 40 (get_or bytes 4 0))) (doubled_by 48 (get_or bytes 3 0))) (doubled_by 56 (get_or bytes 2 0))) (doubled_by 64 (bit_xor (value % 256) (get_or bytes 1 0)))) (doubled_by 72 (bit_xor (value / 256) (get_or bytes 0 0))) ≡ entered_all value (bits_of bytes)
entered_eight value (a ∷ b ∷ c ∷ d ∷ e ∷ f ∷ g ∷ h ∷ []) eight in_range small =
    let high : ℕ = bit_xor (value / 256) a in
    let low : ℕ = bit_xor (value % 256) b in
    let rest : List Bool = bits_of (c ∷ d ∷ e ∷ f ∷ g ∷ h ∷ []) in
    sym (entered_all-append value (byte_bits a) (byte_bits b ++ rest)
    ∙ entered_all-append (entered_all value (byte_bits a)) (byte_bits b) rest
    ∙ ap (λ n. entered_all n rest) (entered_pair value a b in_range (small 0) (small 1))
    ∙ after_pair high low rest (xor_lt 8 (value / 256) a (omega arith) (small 0)) (xor_lt 8 (value % 256) b (omega arith) (small 1)) refl
    ∙ ap (λ n. bit_xor (bit_xor n (doubled_by 64 low)) (doubled_by 72 high)) (entered_six c d e f g h (small 2) (small 3) (small 4) (small 5) (small 6) (small 7)))
entered_eight value _ eight in_range small = absurd (omega (arith, eight))
