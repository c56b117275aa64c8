-- Texts of random words. Draws, lines, digits and words of the generator count from 0. That a text is made from xoshiro256++ (Blackman and
-- Vigna, "Scrambled linear pseudorandom number generators") in this way is this project's choice.
use Rattle.std.specs.Prelude.{ℕ, zero, suc, ◌+◌, ◌*◌, ◌/◌, ◌%◌, ◌^◌, Bool, ◌==◌, ◌&&◌, List, map, nat_le, slice_index}
use Rattle.std.specs.List.{range_with_len}
use Rattle.hex.specs.Hex.{lower_digits}
use Rattle.rand_xoshiro.specs.SplitMix64.{splitmix_seed}
use Rattle.rand_xoshiro.specs.Xoshiro256.{next_state, of_seed, plus_plus}
use Rattle.text_lines.specs.Written.{text_of}

-- ---- the sizes of a memory

-- how many bits a word may have: whole digits, up to 64 of them
abbrev pub is_width : ℕ → Bool
is_width width = nat_le 4 width && nat_le width 256 && (width % 4 == 0)

-- how many words there may be: whole blocks of 256 words, up to 256 of them
abbrev pub is_depth : ℕ → Bool
is_depth depth = nat_le 256 depth && nat_le depth 65536 && (depth % 256 == 0)

-- ---- the generator

-- the number from which the generator of a draw is seeded; no two draws of seeds below 2 ^ 60 have the same
abbrev pub generator_seed : ℕ → ℕ → ℕ
generator_seed seed draw = (seed + 2 ^ 60 * draw) % 2 ^ 64

-- the generator's state at the beginning of a draw, as `seed_from_u64` gives it
unfoldable pub state_of : ℕ → ℕ → List ℕ
state_of seed draw = of_seed (splitmix_seed 32 (generator_seed seed draw))

-- the state after so many words
unfoldable pub state_after : ℕ → List ℕ → List ℕ
state_after zero state = state
state_after (suc count) state = next_state (state_after count state)

-- the word at a place, of 64 bits, from a state on
abbrev pub word_at : List ℕ → ℕ → ℕ
word_at state place = (plus_plus (state_after place state)).0

-- ---- a text

-- the digit at a place: the highest four bits of the word there, as a lower-case hexadecimal digit
unfoldable pub digit_at : List ℕ → ℕ → ℕ
digit_at state place = slice_index lower_digits (word_at state place / 2 ^ 60)

-- so many digits from a state on
abbrev pub digits_from : List ℕ → ℕ → List ℕ
digits_from state count = map (digit_at state) (range_with_len 0 count)

-- line number n, if lines have so many digits: the digits of all lines stand one after the other
abbrev pub drawn_line : List ℕ → ℕ → ℕ → List ℕ
drawn_line state digits n = digits_from (state_after (digits * n) state) digits

-- `depth` lines, each a word of `width` bits
unfoldable pub drawn_from : ℕ → ℕ → List ℕ → List ℕ
drawn_from width depth state = text_of (map (drawn_line state (width / 4)) (range_with_len 0 depth))

-- the text of a draw
abbrev pub drawn : ℕ → ℕ → ℕ → ℕ → List ℕ
drawn width depth seed draw = drawn_from width depth (state_of seed draw)
