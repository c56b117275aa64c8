-- Narrow words of a block RAM (`SB_RAM40_4K`; READ_MODE and WRITE_MODE 0 to 3): a word has 16 bits, and holds narrow words of 16, 8, 4 or 2
-- bits in modes 0 to 3.
use Rattle.std.specs.Prelude.{ℕ, ◌+◌, ◌*◌, ◌/◌, ◌%◌, ◌^◌, Bool, false, ◌==◌, if◌then◌else◌}

-- how many narrow words share a word
abbrev pub share : ℕ → ℕ
share mode = 2 ^ mode

-- The narrow words of a word have one bit each in turn: bit d of a narrow word is bit `share * d + high` of the word. `high` is its high
-- part, a number below the share.

-- bit b of a word after the narrow word `high` is put into it
abbrev pub put_bit : ℕ → (ℕ → Bool) → ℕ → (ℕ → Bool) → ℕ → Bool
put_bit mode word high value b = if b % share mode == high then value (b / share mode) else word b

-- bit b of the narrow word `high`, got from a word: its bit d is at `share * d`, and all other bits are 0
abbrev pub got_bit : ℕ → (ℕ → Bool) → ℕ → ℕ → Bool
got_bit mode word high b = if b % share mode == 0 then word (b + high) else false

-- bit d of the narrow word at an address among 256 words: the low eight bits of the address choose the word, the bits above them are the
-- high part
abbrev pub narrow_bit : ℕ → (ℕ → ℕ → Bool) → ℕ → ℕ → Bool
narrow_bit mode words address d = words (address % 256) (share mode * d + address / 256)

-- a bit of a number
abbrev pub bit_at : ℕ → ℕ → Bool
bit_at number b = number / 2 ^ b % 2 == 1
