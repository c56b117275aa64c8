-- Numbers of payloads.
use Rattle.std.proofs.Common.{ℕ, zero, suc, ◌+◌, ◌*◌, ◌<◌, ◌^◌, arith}

-- a number of three bytes at most has room for one byte more
pub room : (n i : ℕ) → n < 256 ^ i → i < 4 → 256 * n + 255 < 2 ^ 32
room n zero small few = omega arith
room n (suc zero) small few = omega arith
room n (suc (suc zero)) small few = omega arith
room n (suc (suc (suc zero))) small few = omega arith
room n (suc (suc (suc (suc i)))) small few = absurd (omega arith)

-- with one byte more
pub larger : (n i byte : ℕ) → n < 256 ^ i → byte < 256 → i < 4 → 256 * n + byte < 256 ^ (i + 1)
larger n zero byte small fits few = omega arith
larger n (suc zero) byte small fits few = omega arith
larger n (suc (suc zero)) byte small fits few = omega arith
larger n (suc (suc (suc zero))) byte small fits few = omega arith
larger n (suc (suc (suc (suc i)))) byte small fits few = absurd (omega arith)
