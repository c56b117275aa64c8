-- Random numbers: a linear congruential generator with a state of 64 bits (the constants are those of Knuth's MMIX). The state begins as
-- the seed.
use Rattle.std.specs.Prelude.{ℕ, zero, suc, ◌+◌, ◌*◌, ◌/◌, ◌%◌, ◌^◌, ◌==◌, Bool}

-- the state after a draw
abbrev pub next_state : ℕ → ℕ
next_state state = (6364136223846793005 * state + 1442695040888963407) % 2 ^ 64

-- the state after `k` draws
unfoldable pub state_after : ℕ → ℕ → ℕ
state_after seed zero = seed
state_after seed (suc k) = next_state (state_after seed k)

-- draw number k of a seed, counted from 0: the high 16 bits of the state after it
abbrev pub draw : ℕ → ℕ → ℕ
draw seed k = state_after seed (k + 1) / 2 ^ 48

-- bit k of a number, that is the bit with the value 2^k
abbrev pub has_bit : ℕ → ℕ → Bool
has_bit number k = number / 2 ^ k % 2 == 1
