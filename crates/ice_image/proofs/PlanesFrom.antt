-- Planes that are made from the bits of their places.
use Rattle.std.proofs.Common.{◌≡◌, ℕ, zero, suc, ◌<◌, Bool, List, refl, ◌∙◌, arith}
use Rattle.bit_plane.specs.Rows.{Rows, IsGrid}
use Rattle.bit_plane.proofs.Made.{IsGrid-rows_from, bit_at-rows_from}
use Rattle.plane_map.specs.declared.tile.Place.{Place}
use Rattle.ice_image.specs.Configuration.{AreBanks, bank_rows, place_bit}
use Rattle.ice_image.proofs.BankBits.{same_banks}
use Rattle.ice_image.specs.Bits.{planes_from}

-- planes from the bits of places are planes of that size
pub AreBanks-planes_from : (width height : ℕ) (bits : Place → Bool) → AreBanks width height (planes_from width height bits)
AreBanks-planes_from width height bits = record { four = refl; grids = each }
  where
    each : (bank : ℕ) → bank < 4 → IsGrid width height (bank_rows (planes_from width height bits) bank)
    each zero within = IsGrid-rows_from width height (λ px py. bits (record { bank = 0; px = px; py = py }))
    each (suc zero) within = IsGrid-rows_from width height (λ px py. bits (record { bank = 1; px = px; py = py }))
    each (suc (suc zero)) within = IsGrid-rows_from width height (λ px py. bits (record { bank = 2; px = px; py = py }))
    each (suc (suc (suc zero))) within = IsGrid-rows_from width height (λ px py. bits (record { bank = 3; px = px; py = py }))
    each (suc (suc (suc (suc bank)))) within = absurd (omega arith)

-- with those bits
pub place_bit-planes_from : (width height : ℕ) (bits : Place → Bool) (bank px py : ℕ) → bank < 4 → px < width → py < height
    → place_bit (planes_from width height bits) (record { bank = bank; px = px; py = py }) ≡ bits (record { bank = bank; px = px; py = py })
place_bit-planes_from width height bits zero px py within column row = bit_at-rows_from width height (λ px py. bits (record { bank = 0; px = px; py = py })) px py column row
place_bit-planes_from width height bits (suc zero) px py within column row = bit_at-rows_from width height (λ px py. bits (record { bank = 1; px = px; py = py })) px py column row
place_bit-planes_from width height bits (suc (suc zero)) px py within column row = bit_at-rows_from width height (λ px py. bits (record { bank = 2; px = px; py = py })) px py column row
place_bit-planes_from width height bits (suc (suc (suc zero))) px py within column row = bit_at-rows_from width height (λ px py. bits (record { bank = 3; px = px; py = py })) px py column row
place_bit-planes_from width height bits (suc (suc (suc (suc bank)))) px py within column row = absurd (omega arith)

-- planes are those from their own bits
pub planes_from-is : (width height : ℕ) (bits : Place → Bool) (planes : List Rows) → AreBanks width height planes
    → ((at : Place) → at.bank < 4 → at.px < width → at.py < height → bits at ≡ place_bit planes at) → planes_from width height bits ≡ planes
planes_from-is width height bits planes banks same =
    same_banks width height (planes_from width height bits) planes (AreBanks-planes_from width height bits) banks (λ at bank column row.
    place_bit-planes_from width height bits at.bank at.px at.py bank column row ∙ same at bank column row)
