-- The number of bits, and the bits of a number.
use Rattle.std.proofs.Common.{◌≡◌, ℕ, zero, suc, ◌+◌, ◌-◌, ◌*◌, ◌%◌, ◌^◌, ◌<◌, ◌≤◌, Bool, true, false, cond, List, [], ◌∷◌, length, drop, get_or, refl, ap, ◌∙◌, subst, arith, eqb, pow-suc, pow_mono, length-drop}
use Rattle.std.specs.Prelude.{map}
use Rattle.std.proofs.lemmas.List.{drop_more, length-map, drop_all}
use Rattle.std.proofs.Math.Nat.{div-eq_of_lt}
use Rattle.vlog_semantics.specs.Values.{bit_of, number_of}
use mir.Val.{bool_byte}

pub bool_byte-is : (bit : Bool) → bool_byte bit ≡ cond bit 1 0
bool_byte-is true = refl
bool_byte-is false = refl

pub bit_lt : (bit : Bool) → cond bit 1 0 < 2
bit_lt true = omega arith
bit_lt false = omega arith

pub byte_lt : (bit : Bool) → bool_byte bit < 2
byte_lt true = omega arith
byte_lt false = omega arith

pub number_of-lt : (bits : List Bool) → number_of bits < 2 ^ length bits
number_of-lt [] = omega arith
number_of-lt (bit ∷ bits) = omega (arith, pow-suc 2 (length bits), number_of-lt bits, bit_lt bit)

-- a word has no bit above 15
pub bit_of-high : (word k : ℕ) → word < 65536 → 16 ≤ k → bit_of word k ≡ false
bit_of-high word k small high =
    let most : 65536 ≤ 2 ^ k = pow_mono {i = 16} {j = k} high in
    let lt : word < 2 ^ k = omega arith in
    ap (λ n. eqb (n % 2) 1) (div-eq_of_lt lt)

-- no bits yet
pub number-none : {A : Type 0} (value : A → Bool) (xs : List A) → number_of (map value (drop (length xs) xs)) ≡ 0
number-none value xs = ap (λ rest. number_of (map value rest)) (drop_all (length xs) xs (omega arith))

-- one bit more, as it is computed
pub number-next : {A : Type 0} (value : A → Bool) (xs : List A) (place : ℕ) (d : A) (number byte : ℕ) (bit : Bool) → 0 < place → place ≤ length xs
    → bit ≡ value (get_or xs (place - 1) d) → number ≡ number_of (map value (drop place xs)) → byte ≡ bool_byte bit
    → 2 * number + byte ≡ number_of (map value (drop (place - 1) xs))
number-next value xs zero d number byte bit some within at is here = absurd (omega arith)
number-next value xs (suc place) d number byte bit some within at is here =
    let one : suc place - 1 ≡ place = omega arith in
    let next : suc place ≡ place + 1 = omega arith in
    let lt : place < length xs = omega arith in
    let more : number_of (map value (drop place xs)) ≡ cond (value (get_or xs place d)) 1 0 + 2 * number_of (map value (drop (place + 1) xs)) =
    ap (λ ys. number_of (map value ys)) (drop_more xs place d lt) in
    let rest : number ≡ number_of (map value (drop (place + 1) xs)) = is ∙ ap (λ i. number_of (map value (drop i xs))) next in
    let byte_is : byte ≡ cond (value (get_or xs place d)) 1 0 =
    here ∙ bool_byte-is bit ∙ ap (λ b. cond b 1 0) (at ∙ ap (λ i. value (get_or xs i d)) one) in
    rw one (omega (arith, rest, byte_is, more))

-- sixteen bits at most
pub number-fits : {A : Type 0} (value : A → Bool) (xs : List A) (place : ℕ) → length xs ≤ 16 → number_of (map value (drop place xs)) < 65536
number-fits value xs place few =
    let size : length (map value (drop place xs)) ≤ 16 = simp (length-map, length-drop) (omega arith) in
    omega (arith, number_of-lt (map value (drop place xs)), pow_mono {i = length (map value (drop place xs))} {j = 16} size)

pub number-small : {A : Type 0} (value : A → Bool) (xs : List A) → number_of (map value xs) < 2 ^ length xs
number-small value xs = subst (λ n. number_of (map value xs) < 2 ^ n) (length-map xs value) (number_of-lt (map value xs))
