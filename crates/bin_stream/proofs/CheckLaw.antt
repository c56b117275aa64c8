-- The check value of bits followed by their own check value is 0.
use Rattle.std.proofs.Common.{◌≡◌, ℕ, ◌*◌, ◌/◌, ◌%◌, ◌<◌, Bool, List, [], ◌++◌, ◌==◌, refl, ap, ◌∙◌, arith, inl, inr, append-nil}
use Rattle.std.proofs.lemmas.Bool.{cases_lt, lt-ltb, le-ltb}
use Rattle.bit_plane.specs.BitList.{byte_bits, bits_of}
use Rattle.std.specs.Int.{byte_at}
use Rattle.bin_stream.specs.CheckValue.{check_value}
use Rattle.bin_stream.specs.inside.Register.{entered, entered_all}
use Rattle.bin_stream.specs.CanonicalBytes.{two_bytes}
use Rattle.bin_stream.proofs.Powers.{check_value-append, check_value-below, entered_all-append}

-- a bit that is the register's highest leaves it doubled
entered-own : (value n : ℕ) → value < 65536 → n ≡ value / 32768 → entered value (n == 1) ≡ 2 * value % 65536
entered-own value n small own =
    elim (cases_lt value 32768) [
      | inl low ↦
          let none : n ≡ 0 = omega arith in
          rw (none, lt-ltb value 32768 low) refl
      | inr high ↦
          let one : n ≡ 1 = omega arith in
          rw (one, le-ltb value 32768 high) refl
    ]

-- eight bits of the register's high byte
pub entered_byte : (value byte : ℕ) → value < 65536 → byte ≡ value / 256 → entered_all value (byte_bits byte) ≡ 256 * value % 65536
entered_byte value byte small own =
    let a : ℕ = 2 * value % 65536 in
    let b : ℕ = 4 * value % 65536 in
    let c : ℕ = 8 * value % 65536 in
    let d : ℕ = 16 * value % 65536 in
    let e : ℕ = 32 * value % 65536 in
    let f : ℕ = 64 * value % 65536 in
    let g : ℕ = 128 * value % 65536 in
    let s0 : entered value (byte / 128 % 2 == 1) ≡ a = entered-own value (byte / 128 % 2) small (omega arith) in
    let s1 : entered a (byte / 64 % 2 == 1) ≡ b = entered-own a (byte / 64 % 2) (omega arith) (omega arith) ∙ omega arith in
    let s2 : entered b (byte / 32 % 2 == 1) ≡ c = entered-own b (byte / 32 % 2) (omega arith) (omega arith) ∙ omega arith in
    let s3 : entered c (byte / 16 % 2 == 1) ≡ d = entered-own c (byte / 16 % 2) (omega arith) (omega arith) ∙ omega arith in
    let s4 : entered d (byte / 8 % 2 == 1) ≡ e = entered-own d (byte / 8 % 2) (omega arith) (omega arith) ∙ omega arith in
    let s5 : entered e (byte / 4 % 2 == 1) ≡ f = entered-own e (byte / 4 % 2) (omega arith) (omega arith) ∙ omega arith in
    let s6 : entered f (byte / 2 % 2 == 1) ≡ g = entered-own f (byte / 2 % 2) (omega arith) (omega arith) ∙ omega arith in
    let s7 : entered g (byte % 2 == 1) ≡ 256 * value % 65536 = entered-own g (byte % 2) (omega arith) (omega arith) ∙ omega arith in
    rw (s0, s1, s2, s3, s4, s5, s6, s7) refl

-- the bits of a check value after the bits that it is of
pub check_value-own : (bits : List Bool) → check_value (bits ++ bits_of (two_bytes (check_value bits))) ≡ 0
check_value-own bits =
    let value : ℕ = check_value bits in
    let small : value < 65536 = check_value-below bits in
    let high : ℕ = byte_at 1 value in
    let low : ℕ = byte_at 0 value in
    let high_is : high ≡ value / 256 = omega arith in
    let low_is : low ≡ 256 * value % 65536 / 256 = omega arith in
    check_value-append bits (bits_of (two_bytes value))
    ∙ entered_all-append value (byte_bits high) (byte_bits low ++ [])
    ∙ ap (λ n. entered_all n (byte_bits low ++ [])) (entered_byte value high small high_is)
    ∙ ap (entered_all (256 * value % 65536)) (append-nil (byte_bits low))
    ∙ entered_byte (256 * value % 65536) low (omega arith) low_is
    ∙ omega arith
