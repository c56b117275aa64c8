-- The planes that the canonical commands give are those that were written.
use Rattle.std.proofs.Common.{◌≡◌, ℕ, zero, suc, ◌+◌, ◌-◌, ◌*◌, ◌/◌, ◌%◌, ◌<◌, ◌≤◌, Bool, true, false, List, [], ◌∷◌, length, take, drop, get_or, refl, sym, ap, ◌∙◌, subst, arith, inl, inr}
use Rattle.std.proofs.lemmas.List.{get_or-take, get_or-drop}
use Rattle.std.proofs.lemmas.Bool.{cases_lt, lt-ltb, le-leb, lt-leb}
use Rattle.index_search.specs.Places.{last_below}
use Rattle.bit_plane.specs.BitList.{bits_of}
use Rattle.bit_plane.specs.Rows.{Rows, IsGrid, flat, bit_at, rows_from}
use Rattle.bit_plane.proofs.Bytes.{bits_of-bytes_of, length-bytes_of}
use Rattle.bit_plane.proofs.Grids.{length-flat, get_or-flat}
use Rattle.bit_plane.proofs.Made.{IsGrid-rows_from, bit_at-rows_from}
use Rattle.plane_map.specs.Layout.{cram_width, cram_height, bram_width, bram_height}
use Rattle.plane_map.specs.declared.device.DeviceName.{DeviceName}
use Rattle.plane_map.specs.declared.device.DeviceName.TheVariants.{Lp384, Hx1k, Hx8k}
use Rattle.ice_image.specs.Configuration.{Configuration, bank_rows, AreBanks, IsWhole}
use Rattle.ice_image.proofs.BankBits.{same_banks}
use Rattle.ice_image.specs.declared.planes.PlaneKind.{PlaneKind}
use Rattle.ice_image.specs.declared.planes.PlaneKind.TheVariants.{Cram, Bram}
use Rattle.bin_stream.specs.Commands.{Command}
use Rattle.ice_image.specs.Planes.{plane_width, plane_height}
use Rattle.bin_stream.specs.State.{has_rows, last_of, width_after}
use Rattle.bin_stream.specs.Meaning.{plane_bit, planes_of}
use Rattle.bin_stream.specs.CanonicalBytes.{row_bytes}
use Rattle.bin_stream.proofs.CanonicalCommands.{all_commands, mode_bits, cram_bodies, bram_bodies}
use Rattle.bin_stream.proofs.Runs.{IsGrid-run}

-- the bits of a grid's bytes are its bits
pub row_bytes-bits : (width height : ℕ) (rows : Rows) → IsGrid width height rows → width * height % 8 ≡ 0 → bits_of (row_bytes rows) ≡ flat rows
row_bytes-bits width height rows grid even =
    bits_of-bytes_of (length (flat rows) / 8) (flat rows) (omega (arith, length-flat width height rows grid))

-- a grid has one byte for each eight bits
pub length-row_bytes : (width height : ℕ) (rows : Rows) → IsGrid width height rows → length (row_bytes rows) ≡ width * height / 8
length-row_bytes width height rows grid =
    length-bytes_of (length (flat rows) / 8) (flat rows) ∙ ap (λ n. n / 8) (length-flat width height rows grid)

-- the bit that a grid's bytes have for a column and row
pub row_bytes-at : (width height : ℕ) (rows : Rows) (x y : ℕ) → IsGrid width height rows → width * height % 8 ≡ 0 → x < width → y < height → get_or (bits_of (row_bytes rows)) (y * width + x) false ≡ bit_at rows x y
row_bytes-at width height rows x y grid even column row =
    ap (λ bits. get_or bits (y * width + x) false) (row_bytes-bits width height rows grid even) ∙ get_or-flat width height rows x y grid column row

-- a bit of a configuration plane is that of its bytes
pub cram_bit : (device : DeviceName) (range_value mode_value : ℕ) (cram : ℕ → List ℕ) (bram : ℕ → ℕ → List ℕ) (check_payload : List ℕ) (bank x y : ℕ) → bank < 4 → y < cram_height device → plane_bit Cram (all_commands device range_value mode_value cram bram check_payload) (record { bank = bank; px = x; py = y }) ≡ get_or (bits_of (cram bank)) (y * cram_width device + x) false
unfolding last_below last_of width_after plane_bit
cram_bit Lp384 range_value mode_value cram bram check_payload zero x y in_bank in_row = let e : y - 0 ≡ y = omega arith in rw (le-leb 0 y (omega arith), lt-ltb y 80 in_row, e) refl
cram_bit Lp384 range_value mode_value cram bram check_payload (suc zero) x y in_bank in_row = let e : y - 0 ≡ y = omega arith in rw (le-leb 0 y (omega arith), lt-ltb y 80 in_row, e) refl
cram_bit Lp384 range_value mode_value cram bram check_payload (suc (suc zero)) x y in_bank in_row = let e : y - 0 ≡ y = omega arith in rw (le-leb 0 y (omega arith), lt-ltb y 80 in_row, e) refl
cram_bit Lp384 range_value mode_value cram bram check_payload (suc (suc (suc zero))) x y in_bank in_row = let e : y - 0 ≡ y = omega arith in rw (le-leb 0 y (omega arith), lt-ltb y 80 in_row, e) refl
cram_bit Hx1k range_value mode_value cram bram check_payload zero x y in_bank in_row = let e : y - 0 ≡ y = omega arith in rw (le-leb 0 y (omega arith), lt-ltb y 144 in_row, e) refl
cram_bit Hx1k range_value mode_value cram bram check_payload (suc zero) x y in_bank in_row = let e : y - 0 ≡ y = omega arith in rw (le-leb 0 y (omega arith), lt-ltb y 144 in_row, e) refl
cram_bit Hx1k range_value mode_value cram bram check_payload (suc (suc zero)) x y in_bank in_row = let e : y - 0 ≡ y = omega arith in rw (le-leb 0 y (omega arith), lt-ltb y 144 in_row, e) refl
cram_bit Hx1k range_value mode_value cram bram check_payload (suc (suc (suc zero))) x y in_bank in_row = let e : y - 0 ≡ y = omega arith in rw (le-leb 0 y (omega arith), lt-ltb y 144 in_row, e) refl
cram_bit Hx8k range_value mode_value cram bram check_payload zero x y in_bank in_row = let e : y - 0 ≡ y = omega arith in rw (le-leb 0 y (omega arith), lt-ltb y 272 in_row, e) refl
cram_bit Hx8k range_value mode_value cram bram check_payload (suc zero) x y in_bank in_row = let e : y - 0 ≡ y = omega arith in rw (le-leb 0 y (omega arith), lt-ltb y 272 in_row, e) refl
cram_bit Hx8k range_value mode_value cram bram check_payload (suc (suc zero)) x y in_bank in_row = let e : y - 0 ≡ y = omega arith in rw (le-leb 0 y (omega arith), lt-ltb y 272 in_row, e) refl
cram_bit Hx8k range_value mode_value cram bram check_payload (suc (suc (suc zero))) x y in_bank in_row = let e : y - 0 ≡ y = omega arith in rw (le-leb 0 y (omega arith), lt-ltb y 272 in_row, e) refl
cram_bit device range_value mode_value cram bram check_payload (suc (suc (suc (suc bank)))) x y in_bank in_row = absurd (omega arith)

-- a bit of the lower half of a RAM plane
pub bram_bit_low : (device : DeviceName) (range_value mode_value : ℕ) (cram : ℕ → List ℕ) (bram : ℕ → ℕ → List ℕ) (check_payload : List ℕ) (bank x y : ℕ) → has_rows Bram device ≡ true → bank < 4 → y < 128 → plane_bit Bram (all_commands device range_value mode_value cram bram check_payload) (record { bank = bank; px = x; py = y }) ≡ get_or (bits_of (bram bank 0)) (y * bram_width device + x) false
unfolding last_below last_of width_after plane_bit
bram_bit_low Lp384 range_value mode_value cram bram check_payload bank x y has in_bank in_row = absurd cc
bram_bit_low Hx1k range_value mode_value cram bram check_payload zero x y has in_bank in_row = let e : y - 0 ≡ y = omega arith in rw (lt-leb 128 y in_row, le-leb 0 y (omega arith), lt-ltb y 128 in_row, e) refl
bram_bit_low Hx1k range_value mode_value cram bram check_payload (suc zero) x y has in_bank in_row = let e : y - 0 ≡ y = omega arith in rw (lt-leb 128 y in_row, le-leb 0 y (omega arith), lt-ltb y 128 in_row, e) refl
bram_bit_low Hx1k range_value mode_value cram bram check_payload (suc (suc zero)) x y has in_bank in_row = let e : y - 0 ≡ y = omega arith in rw (lt-leb 128 y in_row, le-leb 0 y (omega arith), lt-ltb y 128 in_row, e) refl
bram_bit_low Hx1k range_value mode_value cram bram check_payload (suc (suc (suc zero))) x y has in_bank in_row = let e : y - 0 ≡ y = omega arith in rw (lt-leb 128 y in_row, le-leb 0 y (omega arith), lt-ltb y 128 in_row, e) refl
bram_bit_low Hx8k range_value mode_value cram bram check_payload zero x y has in_bank in_row = let e : y - 0 ≡ y = omega arith in rw (lt-leb 128 y in_row, le-leb 0 y (omega arith), lt-ltb y 128 in_row, e) refl
bram_bit_low Hx8k range_value mode_value cram bram check_payload (suc zero) x y has in_bank in_row = let e : y - 0 ≡ y = omega arith in rw (lt-leb 128 y in_row, le-leb 0 y (omega arith), lt-ltb y 128 in_row, e) refl
bram_bit_low Hx8k range_value mode_value cram bram check_payload (suc (suc zero)) x y has in_bank in_row = let e : y - 0 ≡ y = omega arith in rw (lt-leb 128 y in_row, le-leb 0 y (omega arith), lt-ltb y 128 in_row, e) refl
bram_bit_low Hx8k range_value mode_value cram bram check_payload (suc (suc (suc zero))) x y has in_bank in_row = let e : y - 0 ≡ y = omega arith in rw (lt-leb 128 y in_row, le-leb 0 y (omega arith), lt-ltb y 128 in_row, e) refl
bram_bit_low device range_value mode_value cram bram check_payload (suc (suc (suc (suc bank)))) x y has in_bank in_row = absurd (omega arith)

-- a bit of the upper half of a RAM plane
pub bram_bit_high : (device : DeviceName) (range_value mode_value : ℕ) (cram : ℕ → List ℕ) (bram : ℕ → ℕ → List ℕ) (check_payload : List ℕ) (bank x y : ℕ) → has_rows Bram device ≡ true → bank < 4 → 128 ≤ y → y < 256 → plane_bit Bram (all_commands device range_value mode_value cram bram check_payload) (record { bank = bank; px = x; py = y }) ≡ get_or (bits_of (bram bank 128)) ((y - 128) * bram_width device + x) false
unfolding last_below last_of width_after plane_bit
bram_bit_high Lp384 range_value mode_value cram bram check_payload bank x y has in_bank above in_row = absurd cc
bram_bit_high Hx1k range_value mode_value cram bram check_payload zero x y has in_bank above in_row = rw (le-leb 128 y above, lt-ltb y 256 in_row) refl
bram_bit_high Hx1k range_value mode_value cram bram check_payload (suc zero) x y has in_bank above in_row = rw (le-leb 128 y above, lt-ltb y 256 in_row) refl
bram_bit_high Hx1k range_value mode_value cram bram check_payload (suc (suc zero)) x y has in_bank above in_row = rw (le-leb 128 y above, lt-ltb y 256 in_row) refl
bram_bit_high Hx1k range_value mode_value cram bram check_payload (suc (suc (suc zero))) x y has in_bank above in_row = rw (le-leb 128 y above, lt-ltb y 256 in_row) refl
bram_bit_high Hx8k range_value mode_value cram bram check_payload zero x y has in_bank above in_row = rw (le-leb 128 y above, lt-ltb y 256 in_row) refl
bram_bit_high Hx8k range_value mode_value cram bram check_payload (suc zero) x y has in_bank above in_row = rw (le-leb 128 y above, lt-ltb y 256 in_row) refl
bram_bit_high Hx8k range_value mode_value cram bram check_payload (suc (suc zero)) x y has in_bank above in_row = rw (le-leb 128 y above, lt-ltb y 256 in_row) refl
bram_bit_high Hx8k range_value mode_value cram bram check_payload (suc (suc (suc zero))) x y has in_bank above in_row = rw (le-leb 128 y above, lt-ltb y 256 in_row) refl
bram_bit_high device range_value mode_value cram bram check_payload (suc (suc (suc (suc bank)))) x y has in_bank above in_row = absurd (omega arith)

-- ---- whole planes

-- a device's planes are whole bytes
pub cram-even : (device : DeviceName) → cram_width device * cram_height device % 8 ≡ 0
cram-even Lp384 = refl
cram-even Hx1k = refl
cram-even Hx8k = refl

pub bram-even : (device : DeviceName) → bram_width device * 128 % 8 ≡ 0
bram-even Lp384 = refl
bram-even Hx1k = refl
bram-even Hx8k = refl

-- RAM planes with rows have the rows of their two halves
pub bram-tall : (device : DeviceName) → has_rows Bram device ≡ true → bram_height device ≡ 256
bram-tall Lp384 has = absurd cc
bram-tall Hx1k has = refl
bram-tall Hx8k has = refl

-- if there is a row, they have rows
has_rows-in : (device : DeviceName) (y : ℕ) → y < bram_height device → has_rows Bram device ≡ true
has_rows-in Lp384 y row = absurd (omega arith)
has_rows-in Hx1k y row = refl
has_rows-in Hx8k y row = refl

-- one of four planes
bank_rows-of : (plane : ℕ → Rows) (bank : ℕ) → bank < 4 → bank_rows (plane 0 ∷ plane 1 ∷ plane 2 ∷ plane 3 ∷ []) bank ≡ plane bank
bank_rows-of plane zero lt = refl
bank_rows-of plane (suc zero) lt = refl
bank_rows-of plane (suc (suc zero)) lt = refl
bank_rows-of plane (suc (suc (suc zero))) lt = refl
bank_rows-of plane (suc (suc (suc (suc bank)))) lt = absurd (omega arith)

-- planes whose bits are those that commands give
planes-are : (device : DeviceName) (kind : PlaneKind) (commands : List Command) (planes : List Rows) → AreBanks (plane_width kind device) (plane_height kind device) planes → ((bank x y : ℕ) → bank < 4 → x < plane_width kind device → y < plane_height kind device → plane_bit kind commands (record { bank = bank; px = x; py = y }) ≡ bit_at (bank_rows planes bank) x y) → planes_of device kind commands ≡ planes
planes-are device kind commands planes banks same =
    let wide : ℕ = plane_width kind device in
    let high : ℕ = plane_height kind device in
    let bit : ℕ → ℕ → ℕ → Bool = λ bank x y. plane_bit kind commands (record { bank = bank; px = x; py = y }) in
    let plane : ℕ → Rows = λ bank. rows_from wide high (bit bank) in
    let given : AreBanks wide high (planes_of device kind commands) = record {
      four = refl;
      grids = λ bank within. subst (IsGrid wide high) (sym (bank_rows-of plane bank within)) (IsGrid-rows_from wide high (bit bank));
    } in
    same_banks wide high (planes_of device kind commands) planes given banks (λ at bank column row.
    ap (λ rows. bit_at rows at.px at.py) (bank_rows-of plane at.bank bank) ∙ bit_at-rows_from wide high (bit at.bank) at.px at.py column row ∙ same at.bank at.px at.py bank column row)

-- the configuration planes that were written are read
pub cram_back : (c : Configuration) (range_value : ℕ) (check_payload : List ℕ) → IsWhole c → planes_of c.layout.device Cram (all_commands c.layout.device range_value (mode_bits c) (cram_bodies c) (bram_bodies c) check_payload) ≡ c.cram
cram_back c range_value check_payload is =
    let commands = all_commands c.layout.device range_value (mode_bits c) (cram_bodies c) (bram_bodies c) check_payload in
    planes-are c.layout.device Cram commands c.cram is.cram (λ bank x y in_bank column row.
    cram_bit c.layout.device range_value (mode_bits c) (cram_bodies c) (bram_bodies c) check_payload bank x y in_bank row
    ∙ row_bytes-at (cram_width c.layout.device) (cram_height c.layout.device) (bank_rows c.cram bank) x y (is.cram.grids bank in_bank) (cram-even c.layout.device) column row)

-- a bit of a run of rows
run-at : (width height first : ℕ) (rows : Rows) (x y : ℕ) → IsGrid width height rows → first + 128 ≤ height → width * 128 % 8 ≡ 0 → x < width → y < 128 → get_or (bits_of (row_bytes (take 128 (drop first rows)))) (y * width + x) false ≡ bit_at rows x (first + y)
run-at width height first rows x y grid within even column row =
    row_bytes-at width 128 (take 128 (drop first rows)) x y (IsGrid-run width height first 128 rows grid within) even column row
    ∙ ap (λ bits. get_or bits x false) (get_or-take 128 (drop first rows) y [] row ∙ get_or-drop first rows y [])

-- the RAM planes that were written are read
pub bram_back : (c : Configuration) (range_value : ℕ) (check_payload : List ℕ) → IsWhole c → planes_of c.layout.device Bram (all_commands c.layout.device range_value (mode_bits c) (cram_bodies c) (bram_bodies c) check_payload) ≡ c.bram
bram_back c range_value check_payload is =
    let commands = all_commands c.layout.device range_value (mode_bits c) (cram_bodies c) (bram_bodies c) check_payload in
    planes-are c.layout.device Bram commands c.bram is.bram (λ bank x y in_bank column row.
    let rows : Rows = bank_rows c.bram bank in
    let has = has_rows-in c.layout.device y row in
    let tall = bram-tall c.layout.device has in
    let grid : IsGrid (bram_width c.layout.device) 256 rows = subst (λ height. IsGrid (bram_width c.layout.device) height rows) tall (is.bram.grids bank in_bank) in
    elim (cases_lt y 128) [
      | inl low ↦
          let e : 0 + y ≡ y = omega arith in
          bram_bit_low c.layout.device range_value (mode_bits c) (cram_bodies c) (bram_bodies c) check_payload bank x y has in_bank low
          ∙ run-at (bram_width c.layout.device) 256 0 rows x y grid (omega arith) (bram-even c.layout.device) column low
          ∙ ap (bit_at rows x) e
      | inr above ↦
          let e : 128 + (y - 128) ≡ y = omega arith in
          bram_bit_high c.layout.device range_value (mode_bits c) (cram_bodies c) (bram_bodies c) check_payload bank x y has in_bank above (omega (arith, row, tall))
          ∙ run-at (bram_width c.layout.device) 256 128 rows x (y - 128) grid (omega arith) (bram-even c.layout.device) column (omega arith)
          ∙ ap (bit_at rows x) e
    ])
