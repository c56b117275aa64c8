-- Bits that are 1: of a byte, and of a plane.
use lib.Count.{ones_step}
use Rattle.std.proofs.Common.{◌≡◌, ℕ, zero, suc, ◌*◌, ◌/◌, ◌%◌, ◌<◌, ◌==◌, cond, List, length, take, drop, refl, sym, ap, ◌∙◌, arith, count_ones, take_all}
use Rattle.std.proofs.lemmas.Nat.{ones_le_self}
use Rattle.std.proofs.Math.Nat.{mul_comm}
use Rattle.bit_plane.specs.BitList.{byte_bits, bits_of, bytes_of}
use Rattle.bit_plane.specs.Rows.{Rows, IsGrid, flat}
use Rattle.bit_plane.proofs.Bytes.{bits_of-bytes_of}
use Rattle.bit_plane.proofs.Grids.{length-flat}
use Rattle.plane_map.specs.Layout.{cram_height, cram_width}
use Rattle.ice_image.specs.Configuration.{Configuration, bank_rows, IsWhole}
use Rattle.image_stat.specs.Counts.{ones_in}

-- ---- a byte

-- a digit is worth what its test counts
test-digit : (m : ℕ) → m < 2 → cond (m == 1) 1 0 ≡ m
test-digit zero small = refl
test-digit (suc zero) small = refl
test-digit (suc (suc m)) small = absurd (omega arith)

no-ones : count_ones 0 ≡ 0
no-ones = omega (arith, ones_le_self 0)

pub ones-byte : (b : ℕ) → b < 256 → count_ones b ≡ ones_in (byte_bits b)
ones-byte b small =
    let rest : b / 2 / 2 / 2 / 2 / 2 / 2 / 2 / 2 ≡ 0 = omega arith in
    let last : count_ones (b / 2 / 2 / 2 / 2 / 2 / 2 / 2 / 2) ≡ 0 = ap count_ones rest ∙ no-ones in
    rw (test-digit (b / 128 % 2) (omega arith), test-digit (b / 64 % 2) (omega arith), test-digit (b / 32 % 2) (omega arith), test-digit (b / 16 % 2) (omega arith), test-digit (b / 8 % 2) (omega arith), test-digit (b / 4 % 2) (omega arith), test-digit (b / 2 % 2) (omega arith), test-digit (b % 2) (omega arith))
    (omega (arith, last, ones_step b, ones_step (b / 2), ones_step (b / 2 / 2), ones_step (b / 2 / 2 / 2), ones_step (b / 2 / 2 / 2 / 2), ones_step (b / 2 / 2 / 2 / 2 / 2), ones_step (b / 2 / 2 / 2 / 2 / 2 / 2), ones_step (b / 2 / 2 / 2 / 2 / 2 / 2 / 2)))

-- ---- a plane

-- the bytes of a bank's plane have its bits
pub ones-plane : (image : Configuration) (bank n : ℕ) (bytes : List ℕ) → IsWhole image → bank < 4 → 8 * n ≡ cram_height image.layout.device * cram_width image.layout.device
    → bytes ≡ bytes_of n (flat (take (cram_height image.layout.device) (drop 0 (bank_rows image.cram bank)))) → ones_in (bits_of bytes) ≡ ones_in (flat (bank_rows image.cram bank))
ones-plane image bank n bytes whole below room filled =
    let rows : Rows = bank_rows image.cram bank in
    let width : ℕ = cram_width image.layout.device in
    let height : ℕ = cram_height image.layout.device in
    let grid : IsGrid width height rows = whole.cram.grids bank below in
    let all : take height rows ≡ rows = take_all height rows (omega (arith, grid.height_is)) in
    let long : length (flat rows) ≡ 8 * n = length-flat width height rows grid ∙ mul_comm width height ∙ sym room in
    ap (λ some. ones_in (bits_of some)) (filled ∙ ap (λ some. bytes_of n (flat some)) all)
    ∙ ap ones_in (bits_of-bytes_of n (flat rows) long)
