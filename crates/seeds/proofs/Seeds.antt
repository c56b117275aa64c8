-- Numbers of at most twenty digits.
use Rattle.std.proofs.Common.{ℕ, ◌^◌, ◌<◌, ◌≤◌, arith}
use Rattle.std.proofs.Math.Nat.{pow-le-pow_right}

-- a number before its last digit of twenty
pub below_twenty : (n i : ℕ) → n < 10 ^ i → i < 20 → n < 10000000000000000000
below_twenty n i lt few =
    let positive : 0 < 10 = omega arith in
    let most : 10 ^ i ≤ 10 ^ 19 = pow-le-pow_right positive {i = i} {j = 19} (omega arith) in
    omega arith
